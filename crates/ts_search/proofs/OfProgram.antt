-- The spans of a model's terms are right, and a model that keeps its limits makes a problem that may be asked.
use Rattle.std.proofs.Common.{◌≡◌, ◌≤◌, length, sym, subst, arith}
use Rattle.ts_base.specs.Limits.{most_requirements, most_terms}
use Rattle.ts_domain.specs.BoxSeries.{IsBox}
use Rattle.ts_model.specs.declared.model.Model.{Model}
use Rattle.ts_model.specs.declared.model.Need.{Need}
use Rattle.ts_model.specs.declared.model.Need.TheVariants.{List as NeedsList, Best as NeedsBest}
use Rattle.ts_model.specs.Promise.{IsWhole, KeepsLimits}
use Rattle.ts_model.specs.ModelParts.{ModelParts}
use Rattle.ts_model.specs.Views.{model_parts}
use Rattle.ts_model.proofs.TermWindows.{terms_count}
use Rattle.ts_spans.specs.Machines.{spans_in}
use Rattle.ts_spans.proofs.OfTerms.{spans_hold_values, spans_tell_singles}
use Rattle.ts_search.specs.RightSpans.{AreRight}
use Rattle.ts_search.specs.Posed.{IsPosed}
use Rattle.ts_search.specs.declared.problem.Problem.{Problem}

-- the spans are all that is asked of them
pub are_right : (m : ModelParts) → IsWhole m → IsBox m.cells → AreRight m (spans_in m)
are_right m whole box = record { whole = whole; box = box; holds = spans_hold_values m whole; single = spans_tell_singles m whole box }

posed_with : (m : Model) → IsWhole (model_parts m) → (need : Need) → KeepsLimits need (model_parts m) → (q : Problem) → q.model.now ≡ m → IsPosed q
posed_with m whole need limits q is_model =
    let many = terms_count m.terms.entries m.windows.items in
    let terms = limits.terms in
    record {
      right = subst (λ z. AreRight (model_parts z) (spans_in (model_parts z))) (sym is_model) (are_right (model_parts m) whole limits.box);
      terms = subst (λ (z : Model). length z.terms.entries ≤ most_terms) (sym is_model) (omega (arith, many, terms));
      requirements = subst (λ (z : Model). length z.requirements.items ≤ most_requirements) (sym is_model) limits.requirements;
    }

pub posed_best : (m : Model) → IsWhole (model_parts m) → KeepsLimits NeedsBest (model_parts m) → (q : Problem) → q.model.now ≡ m → IsPosed q
posed_best m whole limits q is_model = posed_with m whole NeedsBest limits q is_model

pub posed_list : (m : Model) → IsWhole (model_parts m) → KeepsLimits NeedsList (model_parts m) → (q : Problem) → q.model.now ≡ m → IsPosed q
posed_list m whole limits q is_model = posed_with m whole NeedsList limits q is_model
