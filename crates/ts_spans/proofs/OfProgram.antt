-- The machines of a model's program are those that the tables give its terms.
use Rattle.std.proofs.Common.{◌≡◌, List, [], ◌∷◌, map, refl, ◌∙◌, ap, String}
use Rattle.std.proofs.lemmas.Simd.{map-map}
use Rattle.std.specs.Global.{Global}
use Rattle.std.specs.Prelude.{Option}
use Rattle.ts_base.specs.declared.range.Range.{Range}
use Rattle.ts_automaton.specs.Body.{Body}
use Rattle.ts_pattern.specs.declared.term.Term.{Term}
use Rattle.ts_glue.specs.Machines.{forward_of, pair_of, window_of}
use Rattle.ts_glue.specs.Pairs.{Pair}
use Rattle.ts_bound.specs.TermSpans.{Automata}
use Rattle.ts_model.specs.declared.model.ModelTerm.{ModelTerm}
use Rattle.ts_model.specs.Views.{term_of, terms_in}
use Rattle.ts_compile.specs.Compiled.{machine_body, machine_pair}
use Rattle.ts_compile.specs.Programs.{machines_of}
use Rattle.ts_spans.specs.Laws.{MachinesAreIn}
use Rattle.ts_spans.specs.Machines.{automata_for}

-- two things said of each of two lists are said together
both_said : {X Y A B C : Type 0} (f : X → A) (g : Y → A) (h : X → B) (k : Y → B) (join : A → B → C) (xs : List X) (ys : List Y) →
    map f xs ≡ map g ys → map h xs ≡ map k ys → map (λ x. join (f x) (h x)) xs ≡ map (λ y. join (g y) (k y)) ys
both_said f g h k join [] [] p q = refl
both_said f g h k join [] (y ∷ ys) p q = cc
both_said f g h k join (x ∷ xs) [] p q = cc
both_said f g h k join (x ∷ xs) (y ∷ ys) p q =
    let first : f x ≡ g y = cc in
    let firsts : map f xs ≡ map g ys = cc in
    let second : h x ≡ k y = cc in
    let seconds : map h xs ≡ map k ys = cc in
    let rest = both_said f g h k join xs ys firsts seconds in (λ i. join (first i) (second i) ∷ rest i)

abbrev automata : Option Range → Body × Option Pair → Automata
automata w b = record { forward = b.0; pair = b.1; window = w }

abbrev bodies : Body → Option Pair → Body × Option Pair
bodies b p = (b, p)

abbrev term_bodies : Term → Body × Option Pair
term_bodies t = (machine_body t, machine_pair t)

of_terms : (entries : List (String Global × ModelTerm)) →
    map (λ e. automata e.1.window (term_bodies e.1.term)) entries ≡ map (λ t. automata_for t.1) (map term_of entries)
of_terms [] = refl
of_terms (e ∷ es) = ap (λ (rest : List Automata). automata e.1.window (term_bodies e.1.term) ∷ rest) (of_terms es)

pub machines_are : MachinesAreIn
machines_are p m e =
    both_said window_of (λ t. t.1.window) (λ x. bodies (forward_of x) (pair_of x)) (λ t. term_bodies t.1.term) automata (machines_of p) (terms_in m) e.windows
    (both_said forward_of machine_body pair_of machine_pair bodies (machines_of p) p.terms.items p.bodies p.pairs ∙ ap (map term_bodies) e.terms
    ∙ map-map (λ t. term_bodies t) (λ (t : String Global × ModelTerm). t.1.term) (terms_in m))
    ∙ of_terms (terms_in m)
