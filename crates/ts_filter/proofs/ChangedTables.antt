-- Tables of a machine after a change of its cells: the rows that stay known, or are known again, are those of the cells now.
use Rattle.std.proofs.Common.{◌≡◌, ℕ, ◌-◌, ℤ, List, [], length, reverse, get_or, Option, Some, None, sym, ap, ◌∙◌, subst, arith, refl}
use Rattle.std.proofs.lemmas.List.{get_or_default, take_all}
use Rattle.ts_base.specs.declared.range.Range.{Range}
use Rattle.ts_base.specs.Windows.{looked_at, LooksInside}
use Rattle.ts_bound.specs.TermSpans.{Automata, LooksIn}
use Rattle.ts_domain.proofs.Sets.{nothing_in}
use Rattle.ts_meet.specs.declared.joints.Joints.{Joints}
use Rattle.ts_model.specs.declared.model.Require.{Require}
use Rattle.ts_bound.specs.declared.gone.Change.{Change}
use Rattle.ts_bound.specs.declared.planned.Planned.{Planned}
use Rattle.ts_bound.specs.AnyRows.{form_sides}
use Rattle.ts_bound.specs.Gone.{AreLost}
use Rattle.ts_bound.specs.BoxRows.{AreBehind, AreKeptBehind, GoOnBehind, IsChange, IsPlannedBack}
use Rattle.ts_bound.specs.RowStacks.{IsLeft, IsPlanned, Stack}
use Rattle.ts_bound.proofs.ChangedRows.{behind_left, first_inside, last_inside, long_later}
use Rattle.ts_bound.proofs.LaidRows.{left_planned, left_stays}
use Rattle.ts_bound.proofs.OthersLaws.{all_same, is_change}
use Rattle.ts_bound.specs.Looks.{first_looked, last_looked}
use Rattle.ts_bound.specs.declared.gone.Other.{Other}
use Rattle.ts_bound.specs.Others.{AreOthers, Covers, IsCovered}
use Rattle.ts_filter.specs.Boxes.{Box}
use Rattle.ts_filter.specs.KnownRows.{AreKnown, AreRowsOf, AreTables, KnownRows}
use Rattle.ts_filter.proofs.TableRows.{tables}
use Rattle.std.specs.Prelude.{slice_range}

module _ (a : Automata) (c : Change) (b present : Box) (x y x' y' : Stack) (quiet : List Require) (plan : IsPlanned a.forward x.planned)
    (plan_back : IsPlannedBack a.pair y.planned) (form : y.planned.form ≡ x.planned.form) (before now before' now' : List ℤ)
    (f : IsLeft c.first c.last c.gone_first before now x x')
    (g : IsLeft (c.count - c.last) (c.count - c.first) c.gone_last before' now' y y') where
  abbrev Later : Box
  Later = looked_at a.window present

  tables_stay : IsChange c b Later → get_or b c.first [] ≡ before → get_or Later c.first [] ≡ now → get_or b (c.last - 1) [] ≡ before' →
      get_or (reverse Later) (c.count - c.last) [] ≡ now' → AreRowsOf b (tables a x y quiet) → AreKnown present (tables a x' y' [])
  tables_stay d e0 e1 e2 e3 h =
      let lost = subst (λ z. AreLost c.gone_first z now) e0 (subst (AreLost c.gone_first (get_or b c.first [])) e1 d.gone_first) in
      let rows = left_stays a.forward b Later c.first c.last x plan h.ahead h.laid_ahead h.kept_ahead (long_later c b Later d) d.differ.before
      d.differ.behind before now e0 e1 c.gone_first x' f lost in
      let ends = form_sides x.planned.form in
      let back = behind_left c b Later d a.pair ends y y' before' now' (ap form_sides form) plan_back h.behind h.laid_behind h.kept_behind e2 e3 g in
      let same : ends ≡ form_sides x'.planned.form =
      ap (λ (q : Planned). form_sides q.form) (sym (left_planned c.first c.last c.gone_first before now x x' f)) in
      record {
        ahead = rows.known;
        behind = subst (λ s. AreBehind a.pair s Later y'.known) same back.0;
        laid_ahead = rows.laid;
        laid_behind = subst (λ s. GoOnBehind a.pair s Later y'.laid) same back.1;
        kept_ahead = rows.kept;
        kept_behind = subst (λ s. AreKeptBehind a.pair s Later y'.kept) same back.2;
        quiet = λ r in_none. absurd (nothing_in r in_none);
      }

  -- the tables after a change, as the code makes them
  pub stay_known : (w : Option Range) (old new : KnownRows) (quiet' : List Require) → w ≡ a.window → quiet' ≡ [] → tables a x y quiet ≡ old →
      tables a x' y' quiet' ≡ new → IsChange c b (looked_at old.machine.window present) → before ≡ get_or b c.first before →
      now ≡ get_or (looked_at w present) c.first [] → before' ≡ get_or b (c.last - 1) before' →
      now' ≡ get_or (reverse (looked_at w present)) (c.count - c.last) [] → AreRowsOf b old → AreKnown present new
  stay_known w old new quiet' window none was is d e0 e1 e2 e3 h =
      let change = subst (λ (t : KnownRows). IsChange c b (looked_at t.machine.window present)) (sym was) d in
      subst (AreKnown present) (ap (tables a x' y') (sym none) ∙ is)
      (tables_stay change
      (sym (get_or_default b c.first before [] (first_inside c b Later change)) ∙ sym e0)
      (ap (λ v. get_or (looked_at v present) c.first []) (sym window) ∙ sym e1)
      (sym (get_or_default b (c.last - 1) before' [] (last_inside c b Later change)) ∙ sym e2)
      (ap (λ v. get_or (reverse (looked_at v present)) (c.count - c.last) []) (sym window) ∙ sym e3)
      (subst (AreRowsOf b) (sym was) h))

-- tables after a change are made by the same plans
pub tables_left : (a : Automata) (joints : Option Joints) (c : Change) (x y x' y' : Stack) (before now before' now' : List ℤ) →
    AreTables a x.planned y.planned joints → IsLeft c.first c.last c.gone_first before now x x' →
    IsLeft (c.count - c.last) (c.count - c.first) c.gone_last before' now' y y' → AreTables a x'.planned y'.planned joints
tables_left a joints c x y x' y' before now before' now' h f g =
    subst (λ (q : Planned). AreTables a x'.planned q joints)
    (sym (left_planned (c.count - c.last) (c.count - c.first) c.gone_last before' now' y y' g))
    (subst (λ (p : Planned). AreTables a p y.planned joints) (sym (left_planned c.first c.last c.gone_first before now x x' f)) h)

-- tables that follow a change

window_part : (w : Option Range) (xs : Box) → slice_range xs (first_looked w - 1) (last_looked w (length xs)) ≡ looked_at w xs
window_part None xs = take_all (length xs - 0) xs (omega arith)
window_part (Some r) xs = refl

module _ (others : List Other) (cells later : Box) (t : KnownRows) (h : AreOthers others cells later) (looks : LooksIn t.machine later) (from to : ℕ)
    (is_from : from ≡ first_looked t.machine.window - 1) (is_to : to ≡ last_looked t.machine.window (length later)) where
  abbrev Seen : Box
  Seen = looked_at t.machine.window cells

  looks_before : LooksInside (length cells) t.machine.window
  looks_before = subst (λ n. LooksInside n t.machine.window) h.count looks

  to_before : to ≡ last_looked t.machine.window (length cells)
  to_before = is_to ∙ ap (last_looked t.machine.window) h.count

  part_is : (part : Box) → part ≡ slice_range cells from to → part ≡ Seen
  part_is part is =
      is ∙ ap (λ f. slice_range cells f to) is_from ∙ ap (slice_range cells (first_looked t.machine.window - 1)) to_before
      ∙ window_part t.machine.window cells

  pub none_differs : IsCovered from to others None → AreKnown cells t → AreKnown later t
  none_differs out known =
      subst (λ z. AreRowsOf z t) (sym (all_same others cells later t.machine.window from to h looks_before is_from to_before out)) known

  pub change_there : (c : Change) → Covers from to others c → (part : Box) → part ≡ slice_range cells from to →
      IsChange c part (looked_at t.machine.window later)
  change_there c v part is =
      subst (λ z. IsChange c z (looked_at t.machine.window later)) (sym (part_is part is))
      (is_change others cells later t.machine.window from to h looks_before is_from to_before c v)

  pub seen_there : (part : Box) → part ≡ slice_range cells from to → AreKnown cells t → AreRowsOf part t
  seen_there part is known = subst (λ z. AreRowsOf z t) (sym (part_is part is)) known
