-- The glued value is the forward answer at every cell, where the operators keep the laws.
use Rattle.std.specs.Prelude.{◌≡◌, ℕ, ◌<◌, Bool, true, false, ℤ, int_lt, if◌then◌else◌, List, [], ◌∷◌, ◌++◌, length, refl}
use Rattle.std.proofs.Common.{sym, ◌∙◌, ap, subst, arith}
use Rattle.std.proofs.lemmas.Int.{ints}
use Rattle.ts_base.specs.declared.letter.Letter.TheVariants.{Less, Equal, Greater}
use Rattle.ts_base.specs.Signature.{letter_of, flip_of}
use Rattle.ts_transducer.specs.declared.row.Row.{Row}
use Rattle.ts_transducer.specs.Typing.{is_typed}
use Rattle.ts_transducer.specs.Decode.{arrow_at}
use Rattle.ts_transducer.proofs.Moves.{move_fits}
use Rattle.ts_transducer.proofs.CallerLemmas.{move_stays, start_idle}
use Rattle.ts_automaton.specs.AutomatonRun.{Standing}
use Rattle.ts_decorate.specs.Operators.{Operators, at_start, total_of}
use Rattle.ts_decorate.proofs.Runs.{table_start, table_step, table_after}
use Rattle.ts_compile.proofs.Rules.{Move, move_of, fits}
use Rattle.ts_compile.proofs.Facts.{GlueLaws, Good, glued}
use Rattle.ts_compile.proofs.Halves.{parts_of, paired, parts_move}
use Rattle.ts_compile.proofs.Steps.{g_right, good_step, step}
use Rattle.ts_compile.proofs.Tests.{kind_at, AreFitting}

pub letter_back : (x y : ℤ) → letter_of y x ≡ flip_of (letter_of x y)
letter_back x y = by_cases (int_lt x y) (int_lt y x) refl refl
  where
    by_cases : (a b : Bool) → int_lt x y ≡ a → int_lt y x ≡ b →
        (if b then Less else if a then Greater else Equal) ≡ flip_of (if a then Less else if b then Greater else Equal)
    by_cases true true e h = absurd (grind (arith, ints))
    by_cases true false e h = refl
    by_cases false true e h = refl
    by_cases false false e h = refl

move_at : (rows : List Row) → is_typed rows ≡ true → (q : ℕ) (x y : ℤ) →
    let m = arrow_at rows q (letter_of x y) in Move (kind_at rows q) m.phase (kind_at rows m.next)
move_at rows t q x y =
    let m = arrow_at rows q (letter_of x y) in
    move_of (kind_at rows q) m.phase (kind_at rows m.next) (move_fits rows t q (letter_of x y))

-- the reverse run, from the last cell down to x
abbrev pub table_back : {V : Type 0} → Operators V → (ℤ → V) → ℕ → List Row → ℤ → List ℤ → Standing V
table_back o over a rows x [] = table_start o
table_back o over a rows x (y ∷ ys) = table_step o over a rows (table_back o over a rows y ys) y x

pub some_row : (rows : List Row) → is_typed rows ≡ true → 0 < length rows
some_row rows t = let n = move_stays rows t 0 Less in omega (arith, n)

-- `over` says what a cell is worth, `away` for what it counts in the half that is taken away
module _ {V : Type 0} (o : Operators V) (joined : V × V → V × V → V × V → V × V) (Part : V × V → Type 0) (Folded : V × V → V × V → Type 0)
    (laws : GlueLaws (paired o) joined Part Folded) (over away : ℤ → V) (same : (u : V) (x : ℤ) → o.less.phi u (over x) ≡ o.less.phi u (away x))
    (parts : (x : ℤ) → Part (over x, away x)) (a : ℕ) where
  abbrev pub worth : ℤ → V × V
  worth x = (over x, away x)

  -- what a run keeps at the cell x
  abbrev pub Stands : List Row → Standing V → ℤ → Type 0
  Stands rows st x = (st.state < length rows) × Good (paired o) Part Folded a (kind_at rows st.state) (parts_of st.regs) (worth x)

  pub stands_start : (rows : List Row) → is_typed rows ≡ true → (x : ℤ) → Stands rows (table_start o) x
  stands_start rows t x =
      (some_row rows t, subst (λ k. Good (paired o) Part Folded a k (parts_of (at_start o)) (worth x)) (sym (start_idle rows t)) (refl, refl))

  pub stands_step : (rows : List Row) → is_typed rows ≡ true → (st : Standing V) (x y : ℤ) → Stands rows st x →
      Stands rows (table_step o over a rows st x y) y
  stands_step rows t st x y h =
      let m = arrow_at rows st.state (letter_of x y) in (
        move_stays rows t st.state (letter_of x y),
        subst (λ z. Good (paired o) Part Folded a (kind_at rows m.next) z (worth y))
            (sym (parts_move o (over x) (over y) (away x) (away y) (λ u. same u x) (λ u. same u y) a m.phase st.regs))
            (good_step (paired o) joined Part Folded laws a (parts_of st.regs) (worth x) (worth y) (move_at rows t st.state x y) (parts x) (parts y) h.1),
      )

  pub stands_after : (rows : List Row) → is_typed rows ≡ true → (xs : List ℤ) (x z : ℤ) (st : Standing V) → Stands rows st z →
      Stands rows (table_after o over a rows st z (xs ++ x ∷ [])) x
  stands_after rows t [] x z st h = stands_step rows t st z x h
  stands_after rows t (w ∷ xs) x z st h = stands_after rows t xs x w (table_step o over a rows st z w) (stands_step rows t st z w h)

  pub stands_back : (rows : List Row) → is_typed rows ≡ true → (ys : List ℤ) (x : ℤ) → Stands rows (table_back o over a rows x ys) x
  stands_back rows t [] x = stands_start rows t x
  stands_back rows t (y ∷ ys) x = stands_step rows t (table_back o over a rows y ys) y x (stands_back rows t ys y)

  abbrev pub glued_at : (ℕ → ℕ → Bool) → List Row → List Row → Standing V → Standing V → V × V → V
  glued_at pairs fs bs f b p =
      glued (paired o) joined a (pairs f.state b.state) (kind_at fs f.state) (kind_at bs b.state) (parts_of f.regs) (parts_of b.regs) p

  pub glued_is : (pairs : ℕ → ℕ → Bool) (fs bs : List Row) → AreFitting a pairs fs bs →
      (ys : List ℤ) (x : ℤ) (st : Standing V) → Stands fs st x →
      glued_at pairs fs bs st (table_back o over a bs x ys) (worth x) ≡ total_of o (table_after o over a fs st x ys).regs
  glued_is pairs fs bs t [] x st h =
      ap (λ b. glued (paired o) joined a b (kind_at fs st.state) (kind_at bs 0) (parts_of st.regs) (parts_of (at_start o)) (worth x)) (t.apart st.state h.0)
      ∙ ap (o.g (total_of o st.regs)) (ap (o.g o.default) laws.idle_read ∙ laws.g_left o.default)
      ∙ g_right (paired o) joined Part Folded laws (total_of o st.regs)
  glued_is pairs fs bs t (y ∷ ys) x st h =
      let r = table_back o over a bs y ys in
      let k = stands_back bs t.reverse ys y in
      let l = letter_of x y in
      let f = arrow_at fs st.state l in
      let b = arrow_at bs r.state (letter_of y x) in
      let ahead = parts_move o (over x) (over y) (away x) (away y) (λ u. same u x) (λ u. same u y) a f.phase st.regs in
      let back = parts_move o (over y) (over x) (away y) (away x) (λ u. same u y) (λ u. same u x) a b.phase r.regs in
      let fit = subst (λ m. fits a (kind_at fs st.state) f.phase (kind_at bs r.state) (arrow_at bs r.state m).phase
      (pairs st.state (arrow_at bs r.state m).next) (pairs f.next r.state) ≡ true) (sym (letter_back x y))
      (t.triples st.state r.state l h.0 k.0) in
      ap
      (λ z. glued (paired o) joined a (pairs st.state b.next) (kind_at fs st.state) (kind_at bs b.next) (parts_of st.regs) z (worth x)) back
      ∙ step (paired o) joined Part Folded laws a (pairs st.state b.next) (pairs f.next r.state) (kind_at fs st.state) f.phase (kind_at fs f.next)
      (kind_at bs r.state) b.phase (kind_at bs b.next) (parts_of st.regs) (parts_of r.regs) (worth x) (worth y) (move_at fs t.forward st.state x y)
      (move_at bs t.reverse r.state y x) (parts x) (parts y) h.1 k.1 fit
      ∙ ap (λ z. glued (paired o) joined a (pairs f.next r.state) (kind_at fs f.next) (kind_at bs r.state) z (parts_of r.regs) (worth y)) (sym ahead)
      ∙ glued_is pairs fs bs t ys y (table_step o over a fs st x y) (stands_step fs t.forward st x y h)
