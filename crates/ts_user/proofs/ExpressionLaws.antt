-- An expression that is read from its end is the one of the grammar.
use Rattle.std.specs.Prelude.{◌≡◌, ◌↔◌, ℕ, take, drop, ◌+◌, ◌≤◌, ◌==◌, Bool, true, false, List, [], ◌∷◌, ◌++◌, nat_le, Option, Some, None, cond}
use Rattle.std.proofs.Common.{length, refl, sym, ap, subst, ◌∙◌, arith, append_assoc, append-nil}
use Rattle.std.proofs.lemmas.Option.{same_Some}
use Rattle.std.proofs.lemmas.List.{take-append-drop}
use Rattle.ts_base.specs.declared.letter.Letter.{Letter}
use Rattle.ts_base.specs.declared.letter.Letter.TheVariants.{Less, Equal, Greater}
use Rattle.ts_regex.specs.Shape.{Shape, One, Cat, Alt, Star}
use Rattle.ts_user.specs.declared.symbol.Symbol.{Symbol}
use Rattle.ts_user.specs.declared.symbol.Symbol.TheVariants.{Sign, Open, Close, Repeated, Or}
use Rattle.ts_user.specs.declared.symbol.Repeat.{Repeat}
use Rattle.ts_user.specs.declared.symbol.Repeat.TheVariants.{AnyTimes, OnceOrMore}
use Rattle.ts_user.specs.Grammar.{byte_of, Level, Whole, Sequence, Repetition, Atom, Means, SignMeans, InBrackets, OneTime, ManyTimes, SomeTimes, LastPart, MoreParts, LastChoice, MoreChoices, nodes}
use Rattle.ts_user.specs.FromTheEnd.{symbol_of, bounded, bounded_star, bounded_cat, bounded_alt, Within, Levels, blank_level, blank_levels, repeated, onto_sequence, with_atom, closed_as, closed, repeat_read, or_read, open_read, symbol_read, byte_read, read_onto, levels_of, ended_at, ended, read_within, most_nodes, expression_of, IsExpression}

-- a bound of the parts is a bound of the whole
star_bounded : (most : ℕ) (r : Shape) → bounded_star most (bounded most r) ≡ bounded most (Star r)
star_bounded most r = by (nat_le (nodes r) most) refl
  where
    by : (b : Bool) → nat_le (nodes r) most ≡ b → bounded_star most (cond b (Some r) None) ≡ bounded most (Star r)
    by true e = refl
    by false e = let more : nat_le (nodes r + 1) most ≡ false = grind arith in sym (ap (λ b. cond b (Some (Star r)) None) more)

cat_bounded : (most : ℕ) (r s : Shape) → bounded_cat most (bounded most r) (bounded most s) ≡ bounded most (Cat r s)
cat_bounded most r s = by (nat_le (nodes r) most) (nat_le (nodes s) most) refl refl
  where
    by : (b c : Bool) → nat_le (nodes r) most ≡ b → nat_le (nodes s) most ≡ c →
        bounded_cat most (cond b (Some r) None) (cond c (Some s) None) ≡ bounded most (Cat r s)
    by true true e f = refl
    by true false e f = let more : nat_le (nodes r + nodes s + 1) most ≡ false = grind arith in sym (ap (λ b. cond b (Some (Cat r s)) None) more)
    by false c e f = let more : nat_le (nodes r + nodes s + 1) most ≡ false = grind arith in sym (ap (λ b. cond b (Some (Cat r s)) None) more)

alt_bounded : (most : ℕ) (r s : Shape) → bounded_alt most (bounded most r) (bounded most s) ≡ bounded most (Alt r s)
alt_bounded most r s = by (nat_le (nodes r) most) (nat_le (nodes s) most) refl refl
  where
    by : (b c : Bool) → nat_le (nodes r) most ≡ b → nat_le (nodes s) most ≡ c →
        bounded_alt most (cond b (Some r) None) (cond c (Some s) None) ≡ bounded most (Alt r s)
    by true true e f = refl
    by true false e f = let more : nat_le (nodes r + nodes s + 1) most ≡ false = grind arith in sym (ap (λ b. cond b (Some (Alt r s)) None) more)
    by false c e f = let more : nat_le (nodes r + nodes s + 1) most ≡ false = grind arith in sym (ap (λ b. cond b (Some (Alt r s)) None) more)

plus_bounded : (most : ℕ) (r : Shape) → bounded_cat most (bounded most r) (bounded_star most (bounded most r)) ≡ bounded most (Cat r (Star r))
plus_bounded most r = ap (bounded_cat most (bounded most r)) (star_bounded most r) ∙ cat_bounded most r (Star r)

-- a byte that is a symbol is that symbol's byte
symbol_is : (b : ℕ) (s : Symbol) → symbol_of b ≡ Some s → byte_of s ≡ b
symbol_is b s h = by (b == 60) (b == 61) (b == 62) (b == 40) (b == 41) (b == 42) (b == 43) (b == 124) refl refl refl refl refl refl refl refl h
  where
    from : (c : ℕ) (t : Symbol) → (b == c) ≡ true → byte_of t ≡ c → ◌≡◌ {A = Option Symbol} (Some t) (Some s) → byte_of s ≡ b
    from c t e is same = let eq : b ≡ c = grind arith in ap byte_of (sym (same_Some t s same)) ∙ is ∙ sym eq

    by : (t1 t2 t3 t4 t5 t6 t7 t8 : Bool) → (b == 60) ≡ t1 → (b == 61) ≡ t2 → (b == 62) ≡ t3 → (b == 40) ≡ t4 → (b == 41) ≡ t5 → (b == 42) ≡ t6 →
        (b == 43) ≡ t7 → (b == 124) ≡ t8 →
        cond t1 (Some (Sign Less)) (cond t2 (Some (Sign Equal)) (cond t3 (Some (Sign Greater)) (cond t4 (Some Open) (cond t5 (Some Close)
        (cond t6 (Some (Repeated AnyTimes)) (cond t7 (Some (Repeated OnceOrMore)) (cond t8 (Some Or) None))))))) ≡ Some s → byte_of s ≡ b
    by true t2 t3 t4 t5 t6 t7 t8 e1 e2 e3 e4 e5 e6 e7 e8 h = from 60 (Sign Less) e1 refl h
    by false true t3 t4 t5 t6 t7 t8 e1 e2 e3 e4 e5 e6 e7 e8 h = from 61 (Sign Equal) e2 refl h
    by false false true t4 t5 t6 t7 t8 e1 e2 e3 e4 e5 e6 e7 e8 h = from 62 (Sign Greater) e3 refl h
    by false false false true t5 t6 t7 t8 e1 e2 e3 e4 e5 e6 e7 e8 h = from 40 Open e4 refl h
    by false false false false true t6 t7 t8 e1 e2 e3 e4 e5 e6 e7 e8 h = from 41 Close e5 refl h
    by false false false false false true t7 t8 e1 e2 e3 e4 e5 e6 e7 e8 h = from 42 (Repeated AnyTimes) e6 refl h
    by false false false false false false true t8 e1 e2 e3 e4 e5 e6 e7 e8 h = from 43 (Repeated OnceOrMore) e7 refl h
    by false false false false false false false true e1 e2 e3 e4 e5 e6 e7 e8 h = from 124 Or e8 refl h
    by false false false false false false false false e1 e2 e3 e4 e5 e6 e7 e8 h = cc

module _ (most : ℕ) where
  pub onto_append : (u v : List ℕ) (x : Option Levels) → read_onto most (u ++ v) x ≡ read_onto most u (read_onto most v x)
  onto_append [] v x = refl
  onto_append (b ∷ bs) v x = ap (byte_read most b) (onto_append bs v x)

  abbrev at : Within → List Within → Option Levels
  at x xs = Some (record { inner = x; outer = xs })

  abbrev within : Option Repeat → Option (Option Shape) → Option (Option Shape) → Within
  within repeat sequence choices = record { repeat = repeat; sequence = sequence; choices = choices }

  -- what the bytes of an expression of each level do to the levels before which they stand
  abbrev Does : Level → List ℕ → Shape → Type 0
  Does Atom w r = (x : Within) (xs : List Within) → read_onto most w (at x xs) ≡ at (with_atom most (bounded most r) x) xs
  Does Repetition w r = (s c : Option (Option Shape)) (xs : List Within) →
      read_onto most w (at (within None s c) xs) ≡ at (within None (Some (onto_sequence most (bounded most r) s)) c) xs
  Does Sequence w r = (c : Option (Option Shape)) (xs : List Within) →
      read_onto most w (at (within None None c) xs) ≡ at (within None (Some (bounded most r)) c) xs
  Does Whole w r = (xs : List Within) → (x : Within) × (read_onto most w (at blank_level xs) ≡ at x xs) × (closed most x ≡ Some (bounded most r))

  sign_read : (l : Letter) (x : Within) (xs : List Within) → byte_read most (byte_of (Sign l)) (at x xs) ≡ at (with_atom most (bounded most (One l)) x) xs
  sign_read Less x xs = refl
  sign_read Equal x xs = refl
  sign_read Greater x xs = refl

  does : (level : Level) (w : List ℕ) (r : Shape) → Means level w r → Does level w r
  does level w r (SignMeans l w' e) = λ x xs. ap (λ v. read_onto most v (at x xs)) e ∙ sign_read l x xs
  does level w r (InBrackets w' v r' m e) = λ x xs.
      let inside = does Whole v r m (x ∷ xs) in
      ap (λ u. read_onto most u (at x xs)) e
      ∙ ap (byte_read most (byte_of Open)) (onto_append v (byte_of Close ∷ []) (at x xs) ∙ inside.1)
      ∙ ap (λ p. open_read most p (x ∷ xs)) inside.2
  does level w r (OneTime w' r' m) = λ s c xs. does Atom w r m (within None s c) xs
  does level w r (ManyTimes w' v r' m e) = λ s c xs.
      ap (λ u. read_onto most u (at (within None s c) xs)) e
      ∙ onto_append v (byte_of (Repeated AnyTimes) ∷ []) (at (within None s c) xs)
      ∙ does Atom v r' m (within (Some AnyTimes) s c) xs
      ∙ ap (λ p. at (within None (Some (onto_sequence most p s)) c) xs) (star_bounded most r')
  does level w r (SomeTimes w' v r' m e) = λ s c xs.
      ap (λ u. read_onto most u (at (within None s c) xs)) e
      ∙ onto_append v (byte_of (Repeated OnceOrMore) ∷ []) (at (within None s c) xs)
      ∙ does Atom v r' m (within (Some OnceOrMore) s c) xs
      ∙ ap (λ p. at (within None (Some (onto_sequence most p s)) c) xs) (plus_bounded most r')
  does level w r (LastPart w' r' m) = λ c xs. does Repetition w r m None c xs
  does level w r (MoreParts w' u v r' s' m n e) = λ c xs.
      ap (λ y. read_onto most y (at (within None None c) xs)) e
      ∙ onto_append u v (at (within None None c) xs)
      ∙ ap (read_onto most u) (does Sequence v s' n c xs)
      ∙ does Repetition u r' m (Some (bounded most s')) c xs
      ∙ ap (λ p. at (within None (Some p) c) xs) (cat_bounded most r' s')
  does level w r (LastChoice w' r' m) = λ xs. (within None (Some (bounded most r)) None, does Sequence w r m None xs, refl)
  does level w r (MoreChoices w' u v r' s' m n e) = λ xs.
      let behind = does Whole v s' n xs in (
        within None (Some (bounded most r')) (Some (bounded most s')),
        ap (λ y. read_onto most y (at blank_level xs)) e
            ∙ onto_append u (byte_of Or ∷ v) (at blank_level xs)
            ∙ ap (λ y. read_onto most u (byte_read most (byte_of Or) y)) behind.1
            ∙ ap (λ p. read_onto most u (or_read p xs)) behind.2
            ∙ does Sequence u r' m (Some (bounded most s')) xs,
        ap Some (alt_bounded most r' s'),
      )

  -- an expression of the grammar is read as what it means
  pub reads_meaning : (w : List ℕ) (r : Shape) → Means Whole w r → read_within most w ≡ Some (bounded most r)
  reads_meaning w r m =
      let all = does Whole w r m [] in
      ap (ended most) all.1 ∙ all.2

  -- The reverse: what each level that is open after some bytes has read of them.

  abbrev repeat_bytes : Option Repeat → List ℕ
  repeat_bytes None = []
  repeat_bytes (Some sign) = byte_of (Repeated sign) ∷ []

  abbrev SequenceOf : List ℕ → Option (Option Shape) → Type 0
  SequenceOf w None = w ≡ []
  SequenceOf w (Some p) = (r : Shape) × Means Sequence w r × (p ≡ bounded most r)

  abbrev ChoicesOf : List ℕ → Option (Option Shape) → Type 0
  ChoicesOf w None = w ≡ []
  ChoicesOf w (Some p) = (u : List ℕ) × (r : Shape) × (w ≡ byte_of Or ∷ u) × Means Whole u r × (p ≡ bounded most r)

  record IsWithin (w : List ℕ) (x : Within) : Type 0 where
    sequence : List ℕ
    choices : List ℕ
    is : w ≡ repeat_bytes x.repeat ++ (sequence ++ choices)
    sequence_is : SequenceOf sequence x.sequence
    choices_are : ChoicesOf choices x.choices

  abbrev AreLevels : List ℕ → Within → List Within → Type 0
  AreLevels w x [] = IsWithin w x
  AreLevels w x (y ∷ ys) = (u : List ℕ) × (v : List ℕ) × (w ≡ u ++ byte_of Close ∷ v) × IsWithin u x × AreLevels v y ys

  repetition_of : (repeat : Option Repeat) (w : List ℕ) (r : Shape) → Means Atom w r →
      (s : Shape) × Means Repetition (w ++ repeat_bytes repeat) s × (repeated most repeat (bounded most r) ≡ bounded most s)
  repetition_of None w r m = (r, OneTime (w ++ []) r (subst (λ v. Means Atom v r) (sym (append-nil w)) m), refl)
  repetition_of (Some AnyTimes) w r m = (Star r, ManyTimes (w ++ byte_of (Repeated AnyTimes) ∷ []) w r m refl, star_bounded most r)
  repetition_of (Some OnceOrMore) w r m = (Cat r (Star r), SomeTimes (w ++ byte_of (Repeated OnceOrMore) ∷ []) w r m refl, plus_bounded most r)

  sequence_of : (s : Option (Option Shape)) (u w : List ℕ) (r : Shape) → Means Repetition u r → SequenceOf w s →
      (t : Shape) × Means Sequence (u ++ w) t × (onto_sequence most (bounded most r) s ≡ bounded most t)
  sequence_of None u w r m e =
      (r, LastPart (u ++ w) r (subst (λ v. Means Repetition v r) (sym (append-nil u) ∙ ap (λ v. u ++ v) (sym e)) m), refl)
  sequence_of (Some p) u w r m q =
      (Cat r q.0, MoreParts (u ++ w) u w r q.0 m q.1 refl, ap (bounded_cat most (bounded most r)) q.2 ∙ cat_bounded most r q.0)

  atom_within : (x : Within) (a w : List ℕ) (r : Shape) → Means Atom a r → IsWithin w x → IsWithin (a ++ w) (with_atom most (bounded most r) x)
  atom_within x a w r m h =
      let p = repetition_of x.repeat a r m in
      let q = sequence_of x.sequence (a ++ repeat_bytes x.repeat) h.sequence p.0 p.1 h.sequence_is in
      record {
        sequence = (a ++ repeat_bytes x.repeat) ++ h.sequence;
        choices = h.choices;
        is =
            ap (λ v. a ++ v) h.is
            ∙ sym (append_assoc a (repeat_bytes x.repeat) (h.sequence ++ h.choices))
            ∙ sym (append_assoc (a ++ repeat_bytes x.repeat) h.sequence h.choices);
        sequence_is = (q.0, q.1, ap (λ v. onto_sequence most v x.sequence) p.2 ∙ q.2);
        choices_are = h.choices_are;
      }

  atom_levels : (x : Within) (xs : List Within) (a w : List ℕ) (r : Shape) → Means Atom a r → AreLevels w x xs →
      AreLevels (a ++ w) (with_atom most (bounded most r) x) xs
  atom_levels x [] a w r m h = atom_within x a w r m h
  atom_levels x (y ∷ ys) a w r m h =
      (a ++ h.0, h.1, ap (λ v. a ++ v) h.2 ∙ sym (append_assoc a h.0 (byte_of Close ∷ h.1)), atom_within x a h.0 r m h.3, h.4)

  closed_by : (repeat : Option Repeat) (s c : Option (Option Shape)) (w u v : List ℕ) (p : Option Shape) → w ≡ repeat_bytes repeat ++ (u ++ v) →
      SequenceOf u s → ChoicesOf v c → closed_as most repeat s c ≡ Some p → (r : Shape) × Means Whole w r × (p ≡ bounded most r)
  closed_by (Some sign) s c w u v p e f g h = cc
  closed_by None None c w u v p e f g h = cc
  closed_by None (Some q) None w u v p e f g h =
      (f.0, LastChoice w f.0 (subst (λ y. Means Sequence y f.0) (sym (e ∙ ap (λ y. u ++ y) g ∙ append-nil u)) f.1), sym (same_Some q p h) ∙ f.2)
  closed_by None (Some q) (Some d) w u v p e f g h =
      let same : bounded_alt most q d ≡ bounded_alt most (bounded most f.0) (bounded most g.1) = λ i. bounded_alt most (f.2 i) (g.4 i) in (
        Alt f.0 g.1,
        MoreChoices w u g.0 f.0 g.1 f.1 g.3 (e ∙ ap (λ y. u ++ y) g.2),
        sym (same_Some (bounded_alt most q d) p h) ∙ same ∙ alt_bounded most f.0 g.1,
      )

  closed_means : (x : Within) (w : List ℕ) (p : Option Shape) → IsWithin w x → closed most x ≡ Some p → (r : Shape) × Means Whole w r × (p ≡ bounded most r)
  closed_means x w p h e = closed_by x.repeat x.sequence x.choices w h.sequence h.choices p h.is h.sequence_is h.choices_are e

  abbrev AreAll : List ℕ → Levels → Type 0
  AreAll w y = AreLevels w y.inner y.outer

  open_means : (p : Option (Option Shape)) (x : Within) (outer : List Within) (y : Levels) (w : List ℕ) → closed most x ≡ p → open_read most p outer ≡ Some y →
      AreLevels w x outer → AreAll (byte_of Open ∷ w) y
  open_means None x outer y w e h levels = cc
  open_means (Some r) x [] y w e h levels = cc
  open_means (Some r) x (z ∷ zs) y w e h levels =
      let m = closed_means x levels.0 r levels.3 e in
      let a = byte_of Open ∷ (levels.0 ++ byte_of Close ∷ []) in
      let text : byte_of Open ∷ w ≡ a ++ levels.1 =
      ap (λ v. byte_of Open ∷ v) (levels.2 ∙ sym (append_assoc levels.0 (byte_of Close ∷ []) levels.1)) in
      let read = atom_levels z zs a levels.1 m.0 (InBrackets a levels.0 m.0 m.1 refl) levels.4 in
      subst (AreAll (byte_of Open ∷ w)) (same_Some (record { inner = with_atom most r z; outer = zs }) y h)
      (subst (λ q. AreLevels (byte_of Open ∷ w) (with_atom most q z) zs) (sym m.2)
      (subst (λ v. AreLevels v (with_atom most (bounded most m.0) z) zs) (sym text) read))

  marked : (sign : Repeat) (x : Within) (w : List ℕ) → x.repeat ≡ None → IsWithin w x →
      IsWithin (byte_of (Repeated sign) ∷ w) (record { repeat = Some sign; sequence = x.sequence; choices = x.choices })
  marked sign x w e h = record {
    sequence = h.sequence;
    choices = h.choices;
    is = ap (λ v. byte_of (Repeated sign) ∷ v) (h.is ∙ ap (λ s. repeat_bytes s ++ (h.sequence ++ h.choices)) e);
    sequence_is = h.sequence_is;
    choices_are = h.choices_are;
  }

  marked_levels : (sign : Repeat) (x : Within) (xs : List Within) (w : List ℕ) → x.repeat ≡ None → AreLevels w x xs →
      AreLevels (byte_of (Repeated sign) ∷ w) (record { repeat = Some sign; sequence = x.sequence; choices = x.choices }) xs
  marked_levels sign x [] w e h = marked sign x w e h
  marked_levels sign x (y ∷ ys) w e h =
      (byte_of (Repeated sign) ∷ h.0, h.1, ap (λ v. byte_of (Repeated sign) ∷ v) h.2, marked sign x h.0 e h.3, h.4)

  repeat_means : (sign : Repeat) (repeat : Option Repeat) (x y : Levels) (w : List ℕ) → x.inner.repeat ≡ repeat → repeat_read sign repeat x ≡ Some y →
      AreAll w x → AreAll (byte_of (Repeated sign) ∷ w) y
  repeat_means sign (Some other) x y w e h levels = cc
  repeat_means sign None x y w e h levels =
      subst (AreAll (byte_of (Repeated sign) ∷ w))
      (same_Some (record { inner = record { repeat = Some sign; sequence = x.inner.sequence; choices = x.inner.choices }; outer = x.outer }) y h)
      (marked_levels sign x.inner x.outer w e levels)

  chosen : (x : Within) (w : List ℕ) (r : Option Shape) → IsWithin w x → closed most x ≡ Some r → IsWithin (byte_of Or ∷ w) (within None None (Some r))
  chosen x w r h e =
      let m = closed_means x w r h e in
      record { sequence = []; choices = byte_of Or ∷ w; is = refl; sequence_is = refl; choices_are = (w, m.0, refl, m.1, m.2) }

  chosen_levels : (x : Within) (xs : List Within) (w : List ℕ) (r : Option Shape) → closed most x ≡ Some r → AreLevels w x xs →
      AreLevels (byte_of Or ∷ w) (within None None (Some r)) xs
  chosen_levels x [] w r e h = chosen x w r h e
  chosen_levels x (y ∷ ys) w r e h = (byte_of Or ∷ h.0, h.1, ap (λ v. byte_of Or ∷ v) h.2, chosen x h.0 r h.3 e, h.4)

  or_means : (p : Option (Option Shape)) (x : Within) (xs : List Within) (y : Levels) (w : List ℕ) → closed most x ≡ p → or_read p xs ≡ Some y →
      AreLevels w x xs → AreAll (byte_of Or ∷ w) y
  or_means None x xs y w e h levels = cc
  or_means (Some r) x xs y w e h levels =
      subst (AreAll (byte_of Or ∷ w)) (same_Some (record { inner = within None None (Some r); outer = xs }) y h) (chosen_levels x xs w r e levels)

  symbol_means : (s : Option Symbol) (b : ℕ) (x y : Levels) (w : List ℕ) → symbol_of b ≡ s → symbol_read most s x ≡ Some y → AreAll w x → AreAll (b ∷ w) y
  symbol_means None b x y w e h levels = cc
  symbol_means (Some (Sign l)) b x y w e h levels =
      subst (AreAll (b ∷ w)) (same_Some (record { inner = with_atom most (bounded most (One l)) x.inner; outer = x.outer }) y h)
      (atom_levels x.inner x.outer (b ∷ []) w (One l) (SignMeans l (b ∷ []) (ap (λ c. c ∷ []) (sym (symbol_is b (Sign l) e)))) levels)
  symbol_means (Some Open) b x y w e h levels =
      subst (λ c. AreAll (c ∷ w) y) (symbol_is b Open e) (open_means (closed most x.inner) x.inner x.outer y w refl h levels)
  symbol_means (Some Close) b x y w e h levels =
      let blank : IsWithin [] blank_level = record { sequence = []; choices = []; is = refl; sequence_is = refl; choices_are = refl } in
      subst (AreAll (b ∷ w)) (same_Some (record { inner = blank_level; outer = x.inner ∷ x.outer }) y h)
      ([], w, ap (λ c. c ∷ w) (sym (symbol_is b Close e)), blank, levels)
  symbol_means (Some (Repeated sign)) b x y w e h levels =
      subst (λ c. AreAll (c ∷ w) y) (symbol_is b (Repeated sign) e) (repeat_means sign x.inner.repeat x y w refl h levels)
  symbol_means (Some Or) b x y w e h levels =
      subst (λ c. AreAll (c ∷ w) y) (symbol_is b Or e) (or_means (closed most x.inner) x.inner x.outer y w refl h levels)

  levels_mean : (w : List ℕ) (y : Levels) → levels_of most w ≡ Some y → AreAll w y
  levels_mean [] y h =
      subst (AreAll []) (same_Some blank_levels y h) (record { sequence = []; choices = []; is = refl; sequence_is = refl; choices_are = refl })
  levels_mean (b ∷ bs) y h = go (levels_of most bs) (levels_mean bs) h
    where
      go : (o : Option Levels) → ((x : Levels) → o ≡ Some x → AreAll bs x) → byte_read most b o ≡ Some y → AreAll (b ∷ bs) y
      go None f h = cc
      go (Some x) f h = symbol_means (symbol_of b) b x y bs refl h (f x refl)

  ended_means : (xs : List Within) (x : Within) (w : List ℕ) (p : Option Shape) → ended_at most x xs ≡ Some p → AreLevels w x xs →
      (r : Shape) × Means Whole w r × (p ≡ bounded most r)
  ended_means [] x w p h levels = closed_means x w p levels h
  ended_means (y ∷ ys) x w p h levels = cc

  -- what is read is an expression of the grammar
  pub meaning_read : (w : List ℕ) (p : Option Shape) → read_within most w ≡ Some p → (r : Shape) × Means Whole w r × (p ≡ bounded most r)
  meaning_read w p h = go (levels_of most w) (levels_mean w) h
    where
      go : (o : Option Levels) → ((x : Levels) → o ≡ Some x → AreAll w x) → ended most o ≡ Some p → (r : Shape) × Means Whole w r × (p ≡ bounded most r)
      go None f h = cc
      go (Some x) f h = ended_means x.outer x.inner w p h (f x refl)

-- the reading is the grammar
pub expression_is : (w : List ℕ) (p : Option Shape) → (expression_of w ≡ Some p) ↔ IsExpression w p
unfolding expression_of
expression_is w p = (λ h. meaning_read (most_nodes w) w p h, λ h. reads_meaning (most_nodes w) w h.0 h.1 ∙ ap Some (sym h.2))

enough : (most : ℕ) (r : Shape) → nodes r ≤ most → bounded most r ≡ Some r
enough most r h = let is : nat_le (nodes r) most ≡ true = grind arith in ap (λ b. cond b (Some r) None) is

-- an expression has one reading
pub one_expression : (w : List ℕ) (r s : Shape) → Means Whole w r → Means Whole w s → r ≡ s
one_expression w r s m n =
    let most = nodes r + nodes s in
    let both : ◌≡◌ {A = Option (Option Shape)} (Some (bounded most r)) (Some (bounded most s)) = sym (reads_meaning most w r m) ∙ reads_meaning most w s n in
    same_Some r s (sym (enough most r (omega arith)) ∙ same_Some (bounded most r) (bounded most s) both ∙ enough most s (omega arith))

-- a byte that can't stand where it does
pub not_read : (most : ℕ) (w : List ℕ) → read_onto most w None ≡ None
not_read most [] = refl
not_read most (b ∷ bs) = ap (byte_read most b) (not_read most bs)

pub none_at : (word : List ℕ) (most k : ℕ) → most ≡ most_nodes word → levels_of most (drop k word) ≡ None → None ≡ expression_of word
unfolding expression_of
none_at word most k e h =
    let all : levels_of most word ≡ None =
    ap (levels_of most) (sym (take-append-drop k word)) ∙ onto_append most (take k word) (drop k word) (Some blank_levels) ∙ ap (read_onto most (take k word)) h
    ∙ not_read most (take k word) in
    sym (ap (ended most) all) ∙ ap (λ m. read_within m word) e

-- all bytes were read
pub all_read : (word : List ℕ) (most n : ℕ) (x : Levels) → most ≡ most_nodes word → n ≤ 0 → levels_of most (drop n word) ≡ Some x →
    ended_at most x.inner x.outer ≡ expression_of word
unfolding expression_of
all_read word most n x e h k =
    let none : n ≡ 0 = omega arith in
    sym (ap (ended most) (sym (ap (λ j. levels_of most (drop j word)) none) ∙ k)) ∙ ap (λ m. read_within m word) e

-- the nodes of a word that isn't too long
pub short_nodes : (word : List ℕ) → length word ≤ 64 → 256 ≡ most_nodes word
short_nodes word few = let short : nat_le (length word) 64 ≡ true = grind arith in ap (λ b. cond b 256 0) (sym short)
