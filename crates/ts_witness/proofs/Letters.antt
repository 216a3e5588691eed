-- What automata do whose steps are by letters alone: they answer the same for series with the same letters.
use Rattle.std.proofs.Common.{◌≡◌, ◌<◌, ◌≤◌, ◌⊎◌, ⊎_elim, ◌+◌, ◌-◌, ℕ, zero, suc, ℤ, Bool, true, false, ◌&&◌, List, [], ◌∷◌, length, set, Some, slice_get, refl, sym, ◌∙◌, ap, subst, arith}
use Rattle.std.proofs.lemmas.List.{length-set}
use Rattle.std.proofs.lemmas.Option.{slice_get_within}
use Rattle.ts_base.specs.declared.ext.Ext.{Ext}
use Rattle.ts_base.specs.declared.letter.Letter.{Letter}
use Rattle.ts_base.specs.declared.letter.Letter.TheVariants.{Less, Equal, Greater}
use Rattle.ts_base.specs.Signature.{letter_of, signature_of}
use Rattle.ts_automaton.specs.declared.expr.Atom.TheVariants.{C, E, D, F, R, This, Next, Zero, Unit as UnitAtom, NegInf as LowAtom, PosInf as HighAtom}
use Rattle.ts_automaton.specs.Formula.{Formula, Leaf, Join}
use Rattle.ts_automaton.specs.Registers.{EachOf, each, numbers, value_in}
use Rattle.ts_automaton.specs.Differences.{number_op}
use Rattle.ts_automaton.specs.Typing.{reads_registers}
use Rattle.ts_automaton.specs.Body.{Body, Move, Node, move_on, node_at}
use Rattle.ts_automaton.specs.AutomatonRun.{Standing, after, after_from, answer, finish_of, registers_after, step_of}
use Rattle.ts_automaton.proofs.Five.{five_parts}
use Rattle.ts_witness.specs.Letters.{ReadsLetters, node_reads_letters, reads_letters}
use Rattle.ts_witness.proofs.Runs.{split}

both : (a b : Bool) → (a && b) ≡ true → (a ≡ true) × (b ≡ true)
both true b h = (refl, h)
both false b h = cc

-- an expression without cells
same_value : (s : EachOf Ext) (x y v w : ℤ) (f : Formula) → reads_registers f ≡ true → value_in numbers s x y f ≡ value_in numbers s v w f
same_value s x y v w (Leaf C) h = refl
same_value s x y v w (Leaf E) h = refl
same_value s x y v w (Leaf D) h = refl
same_value s x y v w (Leaf F) h = refl
same_value s x y v w (Leaf R) h = refl
same_value s x y v w (Leaf This) h = cc
same_value s x y v w (Leaf Next) h = cc
same_value s x y v w (Leaf Zero) h = refl
same_value s x y v w (Leaf UnitAtom) h = refl
same_value s x y v w (Leaf LowAtom) h = refl
same_value s x y v w (Leaf HighAtom) h = refl
same_value s x y v w (Join o f g) h =
    let p = both (reads_registers f) (reads_registers g) h in
    ap (λ z. number_op o z (value_in numbers s x y g)) (same_value s x y v w f p.0) ∙ ap (number_op o (value_in numbers s v w f)) (same_value s x y v w g p.1)

same_each : (a b : EachOf Ext) → a.c ≡ b.c → a.e ≡ b.e → a.d ≡ b.d → a.f ≡ b.f → a.r ≡ b.r → a ≡ b
same_each a b c e d f r =
    ap (λ z. each z a.e a.d a.f a.r) c ∙ ap (λ z. each b.c z a.d a.f a.r) e ∙ ap (λ z. each b.c b.e z a.f a.r) d
    ∙ ap (λ z. each b.c b.e b.d z a.r) f ∙ ap (λ z. each b.c b.e b.d b.f z) r

same_registers : (s : EachOf Ext) (x y v w : ℤ) (m : Move) → reads_letters m ≡ true → registers_after numbers s x y m ≡ registers_after numbers s v w m
same_registers s x y v w m h =
    let p = five_parts (reads_registers m.to.c) (reads_registers m.to.e) (reads_registers m.to.d) (reads_registers m.to.f) (reads_registers m.to.r) h in
    same_each (registers_after numbers s x y m) (registers_after numbers s v w m) (same_value s x y v w m.to.c p.0) (same_value s x y v w m.to.e p.1)
    (same_value s x y v w m.to.d p.2) (same_value s x y v w m.to.f p.3) (same_value s x y v w m.to.r p.4)

three : (a b c : Bool) → (a && b && c) ≡ true → (a ≡ true) × (b ≡ true) × (c ≡ true)
three true true c h = (refl, refl, h)
three true false c h = cc
three false b c h = cc

move_reads : (n : Node) (l : Letter) → node_reads_letters n ≡ true → reads_letters (move_on l n) ≡ true
move_reads n Less h = (three (reads_letters n.less) (reads_letters n.equal) (reads_letters n.greater) h).0
move_reads n Equal h = (three (reads_letters n.less) (reads_letters n.equal) (reads_letters n.greater) h).1
move_reads n Greater h = (three (reads_letters n.less) (reads_letters n.equal) (reads_letters n.greater) h).2

-- a state that doesn't exist reads no cell either
node_reads : (ns : List Node) (q : ℕ) → ((i : ℕ) → i < length ns → node_reads_letters (node_at ns i) ≡ true) → node_reads_letters (node_at ns q) ≡ true
node_reads [] q h = refl
node_reads (n ∷ ns) zero h = h zero (omega arith)
node_reads (n ∷ ns) (suc q) h = node_reads ns q (λ i l. h (suc i) (omega (arith, l)))

pub all_read : (b : Body) → ((i : ℕ) → i < length b.states → node_reads_letters (node_at b.states i) ≡ true) → ReadsLetters b
all_read b h s x y v w e =
    let n = node_at b.states s.state in
    let m = move_on (letter_of v w) n in
    ap (λ l. record { state = (move_on l n).next; regs = registers_after numbers s.regs x y (move_on l n) }) e
    ∙ ap (λ z. record { state = m.next; regs = z }) (same_registers s.regs x y v w m (move_reads n (letter_of v w) (node_reads b.states s.state h)))

pub read_next : (ns : List Node) (q : ℕ) → ((i : ℕ) → i < q → node_reads_letters (node_at ns i) ≡ true) → node_reads_letters (node_at ns q) ≡ true →
    (i : ℕ) → i < q + 1 → node_reads_letters (node_at ns i) ≡ true
read_next ns q h one i l =
    ⊎_elim (λ m. h i m) (λ e. subst (λ z. node_reads_letters (node_at ns z) ≡ true) (sym e) one) (split i q l)

-- series with the same letters
same_from : (b : Body) → ReadsLetters b → (s : Standing Ext) (x v : ℤ) (xs vs : List ℤ) → signature_of (x ∷ xs) ≡ signature_of (v ∷ vs) →
    after_from b s x xs ≡ after_from b s v vs
same_from b h s x v [] [] e = refl
same_from b h s x v [] (w ∷ ws) e = cc
same_from b h s x v (y ∷ ys) [] e = cc
same_from b h s x v (y ∷ ys) (w ∷ ws) e =
    let first : letter_of x y ≡ letter_of v w = cc in
    let rest : signature_of (y ∷ ys) ≡ signature_of (w ∷ ws) = cc in
    ap (λ t. after_from b t y ys) (h s x y v w first) ∙ same_from b h (step_of b s v w) y w ys ws rest

pub same_answer : (b : Body) → ReadsLetters b → (xs ys : List ℤ) → length xs ≡ length ys → signature_of xs ≡ signature_of ys → answer b xs ≡ answer b ys
same_answer b h [] [] n e = refl
same_answer b h [] (y ∷ ys) n e = absurd (omega (arith, n))
same_answer b h (x ∷ xs) [] n e = absurd (omega (arith, n))
same_answer b h (x ∷ xs) (y ∷ ys) n e =
    ap (λ t. finish_of b t (length (x ∷ xs))) (same_from b h (record { state = 0; regs = b.start }) x y xs ys e) ∙ ap (finish_of b (after b (y ∷ ys))) n

-- two values that compare in the same way with the cells beside a place
pub set_letters : (xs : List ℤ) (i : ℕ) (v w : ℤ) → ((j : ℕ) (x : ℤ) → suc j ≡ i → slice_get xs j ≡ Some x → letter_of x v ≡ letter_of x w) →
    ((x : ℤ) → slice_get xs (suc i) ≡ Some x → letter_of v x ≡ letter_of w x) → signature_of (set xs i v) ≡ signature_of (set xs i w)
set_letters [] i v w before behind = refl
set_letters (x ∷ []) zero v w before behind = refl
set_letters (x ∷ y ∷ ys) zero v w before behind = ap (λ z. z ∷ signature_of (y ∷ ys)) (behind y refl)
set_letters (x ∷ []) (suc i) v w before behind = refl
set_letters (x ∷ y ∷ ys) (suc zero) v w before behind =
    ap (λ z. z ∷ signature_of (v ∷ ys)) (before 0 x refl refl)
    ∙ ap (λ z. letter_of x w ∷ z) (set_letters (y ∷ ys) zero v w (λ j u e. absurd (omega (arith, e))) behind)
set_letters (x ∷ y ∷ ys) (suc (suc i)) v w before behind =
    ap (λ z. letter_of x y ∷ z)
    (set_letters (y ∷ ys) (suc i) v w (λ j u e there. before (suc j) u (ap suc e) there) behind)

pub set_answer : (b : Body) → ReadsLetters b → (xs : List ℤ) (i : ℕ) (v w : ℤ) → signature_of (set xs i v) ≡ signature_of (set xs i w) →
    answer b (set xs i v) ≡ answer b (set xs i w)
set_answer b h xs i v w e = same_answer b h (set xs i v) (set xs i w) (length-set xs i v ∙ sym (length-set xs i w)) e

-- values that compare in the same way, as the code compares them
pub like_at : (xs : List ℤ) (i : ℕ) (u v : ℤ) → (i ≡ 0) ⊎ ((x : ℤ) → slice_get xs (i - 1) ≡ Some x → letter_of x u ≡ letter_of x v) →
    (length xs ≤ i + 1) ⊎ ((x : ℤ) → slice_get xs (i + 1) ≡ Some x → letter_of u x ≡ letter_of v x) → signature_of (set xs i u) ≡ signature_of (set xs i v)
like_at xs i u v before behind =
    set_letters xs i u v
    (λ j x e there. ⊎_elim (λ first. absurd (omega (arith, first, e)))
    (λ h. h x (let k : i - 1 ≡ j = omega (arith, e) in ap (slice_get xs) k ∙ there)) before)
    (λ x there. ⊎_elim (λ last. let l = slice_get_within xs (suc i) x there in absurd (omega (arith, last, l)))
    (λ h. h x (let k : i + 1 ≡ suc i = omega arith in ap (slice_get xs) k ∙ there)) behind)
