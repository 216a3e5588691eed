-- The text of `compile`: there is one, and it has a part for each term.
use Rattle.std.proofs.Common.{◌≡◌, ℕ, true, Ok, Err, List, [], ◌∷◌, ◌++◌, map, refl, sym, ◌∙◌, ap, subst, String}
use Rattle.std.specs.Prelude.{Result}
use Rattle.std.specs.Global.{Global}
use Rattle.std.proofs.Math.Bool.{Bool-set}
use Rattle.ts_pattern.specs.declared.name.Aggregator.{Aggregator}
use Rattle.ts_pattern.specs.declared.name.Feature.{Feature}
use Rattle.ts_pattern.specs.declared.name.PatternId.{PatternId}
use Rattle.ts_pattern.specs.declared.term.Term.{Term}
use Rattle.ts_pattern.specs.Names.{is_pair}
use Rattle.ts_model.specs.declared.error.ModelKind.{ModelKind}
use Rattle.ts_model.specs.declared.model.Need.TheVariants.{Values}
use Rattle.ts_model.specs.ModelReading.{model_reading}
use Rattle.ts_model.specs.ModelParts.{ModelParts}
use Rattle.ts_model.specs.declared.model.ModelTerm.{ModelTerm}
use Rattle.ts_model.specs.Views.{model_term, stated_of, term_of}
use Rattle.ts_compile.specs.Compiled.{machine_body, machine_pair}
use Rattle.ts_compile.specs.ProgramText.{part_text, program_text}
use Rattle.ts_run.specs.AnswerTexts.{OneCompileReply, ProgramReply}
use Rattle.ts_run.specs.Refusals.{OnReading}
use Rattle.ts_run.specs.CompiledValue.{HasParts, IsCompiled, IsProgramText}
use Rattle.ts_run.specs.Headline.{SaysProgram}
use Rattle.ts_run.specs.Reply.{Reply}
use Rattle.ts_run.proofs.PartLaws.{parts_in}

-- there is one program text

abbrev term_with : (g : Aggregator) (f : Feature) (id : PatternId) → is_pair g f ≡ true → Term
term_with g f id pair = record { aggregator = g; feature = f; pattern = id; pair = pair }

same_term : (g h : Aggregator) (f e : Feature) (id other : PatternId) (p : is_pair g f ≡ true) (q : is_pair h e ≡ true) → g ≡ h → f ≡ e → id ≡ other →
    term_with g f id p ≡ term_with h e other q
same_term g h f e id other p q same_g same_f same_id =
    subst (λ (z : PatternId). term_with g f id p ≡ term_with h e z q) same_id
    (subst (λ (z : Feature). (r : is_pair h z ≡ true) → term_with g f id p ≡ term_with h z id r) same_f
    (subst (λ (z : Aggregator). (r : is_pair z f ≡ true) → term_with g f id p ≡ term_with z f id r) same_g
    (λ r. ap (term_with g f id) (Bool-set (is_pair g f) true p r))) q)

-- a term is its three names, and its window
by_parts : (s t : ModelTerm) → stated_of s ≡ stated_of t → s ≡ t
by_parts s t e =
    let term =
    same_term s.term.aggregator t.term.aggregator s.term.feature t.term.feature s.term.pattern t.term.pattern s.term.pair t.term.pair
    (ap (λ p. p.aggregator) e) (ap (λ p. p.feature) e) (ap (λ p. p.pattern) e) in
    let window = ap (λ p. p.window) e in (λ i. model_term (term i) (window i))

same_text : (ss ts : List (String Global × ModelTerm)) → map term_of ss ≡ map term_of ts → program_text ss ≡ program_text ts
same_text [] [] h = refl
same_text [] (t ∷ ts) h = cc
same_text (s ∷ ss) [] h = cc
same_text (s ∷ ss) (t ∷ ts) h =
    let one : term_of s ≡ term_of t = cc in
    let more : map term_of ss ≡ map term_of ts = cc in
    let name = ap (λ p. p.0) one in
    let term = by_parts s.1 t.1 (ap (λ p. p.1) one) in
    let rest = same_text ss ts more in (λ i. part_text (name i) (term i) (machine_body (term i).term) (machine_pair (term i).term) ++ rest i)

one_text : (m : ModelParts) (x y : List ℕ) → IsProgramText m x → IsProgramText m y → x ≡ y
one_text m x y h k = h.text_is ∙ same_text h.terms k.terms (h.terms_are ∙ sym k.terms_are) ∙ sym k.text_is

one_program_reply : (reading : Result ModelParts (ℕ × ModelKind)) (r s : Reply) → OnReading reading ProgramReply r → OnReading reading ProgramReply s → r ≡ s
one_program_reply (Ok m) r s h k =
    let text = one_text m r.text s.text h.0 k.0 in
    let status = h.1 ∙ sym k.1 in (λ i. record { text = text i; status = status i })
one_program_reply (Err bad) r s h k = h ∙ sym k

pub one_compile_reply : OneCompileReply
one_compile_reply bytes r s h k = one_program_reply (model_reading Values bytes) r s h k

-- the text has the parts

compiled_of : (m : ModelParts) (text : List ℕ) → IsProgramText m text → IsCompiled m text
compiled_of m text p = record {
  program = p;
  parts = subst (λ (x : List ℕ). HasParts p.terms x) (sym p.text_is) (parts_in p.terms);
}

-- the reply to a model
pub says_program : (m : ModelParts) (r : Reply) → ProgramReply m r → SaysProgram m r
says_program m r h = record { compiled = compiled_of m r.text h.0; done = h.1 }
