-- What excludes a box excludes each box inside it, by the marks of the machines.
use Rattle.std.proofs.Common.{◌≡◌, ◌↔◌, ℕ, zero, suc, ◌+◌, ◌-◌, ◌<◌, ◌≤◌, ℤ, pos, ◌≤ℤ◌, ◌+ℤ◌, Bool, true, false, List, [], ◌∷◌, get_or, length, map, Option, Some, None, slice_get, refl, sym, ◌∙◌, ap, subst, arith}
use Rattle.std.proofs.lemmas.Bool.{false≢true}
use Rattle.std.proofs.lemmas.Int.{ints}
use Rattle.std.proofs.lemmas.List.{length-map}
use Rattle.std.proofs.lemmas.Option.{same_Some, slice_get-get_or, slice_get-map, slice_get_within}
use Rattle.std.specs.Prelude.{IfSome, IsTrue, option_map}
use Rattle.ts_base.specs.declared.ext.Ext.{Ext}
use Rattle.ts_base.specs.declared.ext.Ext.TheVariants.{NegInf, Int, PosInf}
use Rattle.ts_base.specs.declared.span.Span.{Span}
use Rattle.ts_base.specs.Numbers.{ext_le}
use Rattle.ts_base.specs.SpanLayer.{IsWithin}
use Rattle.ts_base.specs.Spans.{Holds}
use Rattle.ts_automaton.specs.declared.state.Mark.{Mark}
use Rattle.ts_automaton.specs.declared.state.Mark.TheVariants.{Same, Zero as ZeroMark, Cells}
use Rattle.ts_automaton.specs.Body.{Body}
use Rattle.ts_bound.specs.Laws.{AreAutomata, Splits}
use Rattle.ts_bound.specs.TermSpans.{Automata, IsUsable, automata_of, term_span}
use Rattle.ts_bound.proofs.Growth.{smaller_within}
use Rattle.ts_glue.specs.declared.machine.Machine.{Machine}
use Rattle.ts_glue.specs.Pairs.{Pair}
use Rattle.ts_model.specs.declared.model.Op.{Op}
use Rattle.ts_model.specs.declared.model.Op.TheVariants.{AtMost}
use Rattle.ts_model.specs.declared.model.Require.{Require}
use Rattle.ts_model.specs.ModelParts.{ModelParts, StatedTerm}
use Rattle.ts_model.specs.Views.{model_parts}
use Rattle.ts_filter.specs.Boxes.{Box, IsInside}
use Rattle.ts_filter.specs.Excluded.{Refutes}
use Rattle.ts_filter.proofs.BoxParts.{inside_length}
use Rattle.ts_filter.proofs.SoundLaws.{each_at}
use Rattle.ts_filter.proofs.TestLaws.{tests_tell}
use Rattle.ts_spans.specs.Machines.{automata_for, automata_in}
use Rattle.ts_spans.proofs.OfTerms.{term_whole}
use Rattle.ts_search.specs.Inside.{AllShowInside}
use Rattle.ts_search.specs.Leaps.{CutsInside, RefutesInside, ShowsInside}
use Rattle.ts_search.specs.Posed.{HasObjective, IsPosed}
use Rattle.ts_search.specs.Views.{contest_of, search_of}
use Rattle.ts_search.specs.declared.contest.Contest.{Contest as GivenContest}
use Rattle.ts_search.specs.declared.problem.Problem.{Problem}
use Rattle.ts_search.proofs.CallLaws.{cut_from, cut_to, from_machine, to_machine}
use Rattle.ts_search.proofs.Growing.{above_inside, from_number}
use Rattle.ts_search.proofs.Posed.{tables_long}

automata_there : (ts : List (List ℕ × StatedTerm)) (k : ℕ) (a : Automata) → slice_get (map (λ t. automata_for t.1) ts) k ≡ Some a → AreAutomata a
automata_there [] k a e = absurd (let z : ◌≡◌ {A = Option Automata} None (Some a) = e in cc)
automata_there (t ∷ ts) zero a e = subst AreAutomata (same_Some (automata_for t.1) a e) (term_whole t.1)
automata_there (t ∷ ts) (suc k) a e = automata_there ts k a e

pair_of_it : (b : Body) (o : Option Pair) → IfSome o (Splits b) → IfSome o (λ p. p.forward ≡ b)
pair_of_it b None h = tt
pair_of_it b (Some p) h = h.forward

usable_inside : (a : Automata) (p : ℕ) (b inner : Box) → IsInside inner b → IsUsable a p b → IsUsable a p inner
usable_inside a p b inner i u =
    let same = inside_length inner b i in
    record { from = u.from; to = (let to = u.to in omega (arith, same, to)); last = λ n. u.last n ∙ sym same }

-- a span whose numbers are all above b

above : (b : ℤ) (s : Span) → Refutes AtMost (Int b) s → IsWithin s (from_number (b +ℤ pos 1))
above b s f e h = go e (f e h)
  where
    next : (b x : ℤ) → ext_le (Int x) (Int b) ≡ false → IsTrue (ext_le (Int (b +ℤ pos 1)) (Int x))
    next b x g = grind (arith, ints)

    go : (e : Ext) → ext_le e (Int b) ≡ false → Holds (from_number (b +ℤ pos 1)) e
    go NegInf g = absurd (let z : ◌≡◌ {A = Bool} true false = g in cc)
    go (Int x) g = (next b x g, refl)
    go PosInf g = (refl, refl)

not_at_most : (b : ℤ) (s : Span) → IsWithin s (from_number (b +ℤ pos 1)) → Refutes AtMost (Int b) s
not_at_most b s w v h = go v (w v h).0
  where
    next : (b x : ℤ) → IsTrue (ext_le (Int (b +ℤ pos 1)) (Int x)) → ext_le (Int x) (Int b) ≡ false
    next b x g = grind (arith, ints)

    go : (v : Ext) → IsTrue (ext_le (Int (b +ℤ pos 1)) v) → ext_le v (Int b) ≡ false
    go NegInf g = absurd (let z : ◌≡◌ {A = Bool} false true = g in cc)
    go (Int x) g = next b x g
    go PosInf g = refl

one_more : (b : ℤ) → pos 0 ≤ℤ b → pos 1 ≤ℤ (b +ℤ pos 1)
one_more b h = omega (arith, ints, h)

refuted_inside : (a : Automata) → AreAutomata a → (op : Op) (bound : Ext) → (mark : Mark) → a.forward.mark ≡ mark → ShowsInside mark op bound →
    (b inner : Box) → IsInside inner b → (p : ℕ) → Refutes op bound (term_span a p b) → Refutes op bound (term_span a p inner)
refuted_inside a are op bound Same is s b inner i p f = λ v h. f v (smaller_within a are is inner b i p v h)
refuted_inside a are op NegInf ZeroMark is s b inner i p f = absurd s
refuted_inside a are op (Int x) ZeroMark is s b inner i p f =
    subst (λ z. Refutes z (Int x) (term_span a p inner)) (sym s.0)
    (not_at_most x (term_span a p inner)
    (above_inside (x +ℤ pos 1) (one_more x s.1) a is (pair_of_it a.forward a.pair are.pair) inner b i p
    (above x (term_span a p b) (subst (λ z. Refutes z (Int x) (term_span a p b)) s.0 f))))
refuted_inside a are op PosInf ZeroMark is s b inner i p f = absurd s
refuted_inside a are op bound Cells is s b inner i p f = absurd s

-- the machine of a requirement's term shows it
abbrev pub Shows : List Automata → Require → Type 0
Shows machines r = (a : Automata) → slice_get machines r.term ≡ Some a → ShowsInside a.forward.mark r.op r.bound

-- the machines of the terms of the first n requirements show them
abbrev pub ShowUpTo : List Automata → List Require → ℕ → Type 0
ShowUpTo machines rs n = (i : ℕ) (r : Require) → i < n → slice_get rs i ≡ Some r → Shows machines r

-- where the first n requirements are all, the machine of each one's term shows it
pub all_show : (m : ModelParts) (n : ℕ) → length m.requirements ≤ n → ShowUpTo (automata_in m) m.requirements n → AllShowInside m
all_show m n all shows i r a is has = let within = slice_get_within m.requirements i r is in shows i r (omega (arith, within, all)) is a has

there : (machines : List Automata) (k : ℕ) → k < length machines → (a : Automata) × (slice_get machines k ≡ Some a)
there [] k l = absurd (omega (arith, l))
there (a ∷ machines) zero l = (a, refl)
there (a ∷ machines) (suc k) l = there machines k (omega (arith, l))

pub refutes_inside : (q : Problem) → ((r : Require) (i : ℕ) → slice_get q.model.now.requirements.items i ≡ Some r →
    r.term < length (automata_in (model_parts q.model.now))) → (n : ℕ) → length q.model.now.requirements.items ≤ n →
    ShowUpTo (automata_in (model_parts q.model.now)) q.model.now.requirements.items n → RefutesInside (search_of q)
refutes_inside q terms n all shows j p b inner i d =
    let m = model_parts q.model.now in
    let ms = automata_in m in
    let rs = q.model.now.requirements.items in
    let r = d.require in
    let a = there ms r.term (terms r (j - 1) d.is.1) in
    let within = slice_get_within rs (j - 1) r d.is.1 in
    let t = to_machine ms r.term a.0 a.1 rs j r d.is refl p b d in
    from_machine ms r.term a.0 a.1 rs j r d.is refl p inner (usable_inside a.0 p b inner i t.0)
    (refuted_inside a.0 (automata_there m.terms r.term a.0 a.1) r.op r.bound a.0.forward.mark refl (shows (j - 1) r (omega (arith, within, all)) d.is.1 a.0 a.1)
    b inner i p t.1)

pub cuts_inside : (q : GivenContest) → HasObjective q → (a : Automata) → slice_get (automata_in (model_parts q.problem.model.now)) q.objective ≡ Some a →
    a.forward.mark ≡ Same → CutsInside (contest_of q)
cuts_inside q objective a has mark p b inner bar i d =
    let m = model_parts q.problem.model.now in
    let ms = automata_in m in
    let tells = tests_tell (search_of q.problem).spans in
    let t = cut_to ms q.objective a has m objective q.goal bar p b ((tells.cut m q.goal p b bar).1 d) in
    (tells.cut m q.goal p inner bar).0
    (cut_from ms q.objective a has m objective q.goal bar p inner (usable_inside a p b inner i t.0)
    (λ v h. t.1 v (smaller_within a (automata_there m.terms q.objective a has) mark inner b i p v h)))

-- the machine at a place, as the code reads it
pub machine_at : (q : Problem) → IsPosed q → (machines : List Machine) → map automata_of machines ≡ automata_in (model_parts q.model.now) → (term : ℕ) →
    term < length (search_of q).model.terms → (m : Machine) → m ≡ get_or machines term m →
    slice_get (automata_in (model_parts q.model.now)) term ≡ Some (automata_of m)
machine_at q posed machines are term is m e =
    let long = tables_long q posed (map automata_of machines) term are is in
    let same = length-map machines automata_of in
    ap (λ l. slice_get l term) (sym are) ∙ slice_get-map automata_of machines term
    ∙ ap (option_map automata_of) (slice_get-get_or machines term m (omega (arith, long, same)) ∙ ap Some (sym e))

-- one requirement more is tried: it fails, or one more shows it

module _ (q : Problem) (posed : IsPosed q) (machines : List Machine) (are : map automata_of machines ≡ automata_in (model_parts q.model.now))
    (i : ℕ) (r : Require) (there : slice_get q.model.now.requirements.items i ≡ Some r) (m : Machine) (is : m ≡ get_or machines r.term m)
    (told : Bool) (tells : IsTrue told ↔ ShowsInside (automata_of m).forward.mark r.op r.bound)
  where
    its_machine : slice_get (automata_in (model_parts q.model.now)) r.term ≡ Some (automata_of m)
    its_machine =
        machine_at q posed machines are r.term
        (each_at (λ (z : Require). z.term < length (search_of q).model.terms) q.model.now.requirements.items i r posed.right.whole.requirements there) m is

    pub one_fails : told ≡ false → IsTrue false ↔ AllShowInside (model_parts q.model.now)
    one_fails e = (λ t. absurd (false≢true t), λ all. sym e ∙ tells.1 (all i r (automata_of m) there its_machine))

    pub one_more_shows : told ≡ true → ShowUpTo (automata_in (model_parts q.model.now)) q.model.now.requirements.items i →
        ShowUpTo (automata_in (model_parts q.model.now)) q.model.now.requirements.items (i + 1)
    one_more_shows shown before k u below e = go (i - k) refl
      where
        shows : Shows (automata_in (model_parts q.model.now)) r
        shows a there =
            subst (λ z. ShowsInside z.forward.mark r.op r.bound) (same_Some (automata_of m) a (sym its_machine ∙ there))
            (tells.0 shown)

        go : (d : ℕ) → i - k ≡ d → Shows (automata_in (model_parts q.model.now)) u
        go zero f =
            let same : k ≡ i = omega (arith, below, f) in
            subst (Shows (automata_in (model_parts q.model.now)))
            (same_Some r u (sym there ∙ ap (slice_get q.model.now.requirements.items) (sym same) ∙ e)) shows
        go (suc d) f = before k u (omega (arith, f)) e

-- the mark as the code reads it
pub as_read : (a : Automata) (b : Body) (mark : Mark) (r : Require) (told : Bool) → b ≡ a.forward → mark ≡ b.mark →
    IsTrue told ↔ ShowsInside mark r.op r.bound → IsTrue told ↔ ShowsInside a.forward.mark r.op r.bound
as_read a b mark r told is reads h = subst (λ z. IsTrue told ↔ ShowsInside z r.op r.bound) (reads ∙ ap (λ z. z.mark) is) h
