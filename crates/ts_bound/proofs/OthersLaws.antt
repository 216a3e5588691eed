-- Cells that differ from those that were seen: how they are found and taken over, and what they change in a window.
use Rattle.std.proofs.Common.{◌≡◌, ◌⊎◌, inl, inr, ⊎_elim, ℕ, min, ◌+◌, ◌-◌, ◌<◌, ◌≤◌, ℤ, List, [], ◌∷◌, ◌++◌, length, take, drop, set, get_or, Option, Some, None, refl, sym, ap, ◌∙◌, subst, arith}
use Rattle.std.specs.Prelude.{IfSome}
use Rattle.std.specs.List.{All}
use Rattle.std.proofs.lemmas.Bool.{cases_eq}
use Rattle.std.proofs.lemmas.List.{drop_all, drop_more, ext_get_or, get_or_default, get_or-drop, get_or-set_other, get_or-set_same, get_or-take, length-drop, length-set, length-take}
use Rattle.std.proofs.lemmas.List.Elements.{All-cons, All-contains, All-nil, All-pop, All-push, All-weaker, Contains-append_left, Contains-push}
use Rattle.ts_base.specs.declared.range.Range.{Range}
use Rattle.ts_base.specs.Windows.{LooksInside, looked_at}
use Rattle.ts_domain.specs.Boxes.{Box}
use Rattle.ts_bound.specs.Looks.{first_looked, last_looked}
use Rattle.ts_bound.proofs.Looking.{ends_inside, looked_length}
use Rattle.ts_bound.specs.declared.gone.Change.{Change}
use Rattle.ts_bound.specs.declared.gone.Gone.{Gone}
use Rattle.ts_bound.specs.declared.gone.Other.{Other}
use Rattle.ts_bound.specs.Gone.{AreLost}
use Rattle.ts_bound.specs.BoxRows.{IsChange}
use Rattle.ts_bound.specs.Others.{AreOthers, Covers, HasLost, IsCovered, IsElsewhere, IsWidened}
use Rattle.ts_bound.proofs.CellsRead.{forward_cell}

-- what this cell has lost
abbrev LostOf : Box → Box → Other → Type 0
LostOf cells later o = AreLost o.gone (get_or cells o.at []) (get_or later o.at [])

-- the others are found cell by cell

-- among the first `at` cells these are the others
pub record AreFound (others : List Other) (cells later : Box) (at : ℕ) : Type 0 where
  pub within : All (λ o. o.at < at) others
  pub same : (i : ℕ) → i < at → IsElsewhere others i → get_or later i [] ≡ get_or cells i []
  pub lost : All (λ o. AreLost o.gone (get_or cells o.at []) (get_or later o.at [])) others

below : (i at : ℕ) → i < at + 1 → (i ≡ at → ⊥) → i < at
below i at lt apart = ⊎_elim (λ e. absurd (apart e)) (λ ne. omega (arith, lt, ne)) (cases_eq i at)

module _ (others : List Other) (cells later : Box) (at : ℕ) (h : AreFound others cells later at) where
  still_within : All (λ o. o.at < at + 1) others
  still_within = All-weaker (λ o. o.at < at) (λ o. o.at < at + 1) (λ o lt. omega (arith, lt)) others h.within

  pub one_same : get_or later at [] ≡ get_or cells at [] → AreFound others cells later (at + 1)
  one_same is = record {
    within = still_within;
    same = λ i lt away. ⊎_elim (λ e. subst (λ j. get_or later j [] ≡ get_or cells j []) (sym e) is) (λ ne. h.same i (below i at lt ne) away) (cases_eq i at);
    lost = h.lost;
  }

  pub one_found : (o : Other) → o.at ≡ at → AreLost o.gone (get_or cells at []) (get_or later at []) → AreFound (others ++ o ∷ []) cells later (at + 1)
  one_found o is gone = record {
    within = All-push (λ o. o.at < at + 1) others o still_within (omega (arith, is));
    same = λ i lt away.
        let parts = All-pop (λ o. o.at ≡ i → ⊥) (others ++ o ∷ []) others (Some o) refl away in
        h.same i (below i at lt (λ e. parts.1 (is ∙ sym e))) parts.0;
    lost = All-push (LostOf cells later) others o h.lost (subst (λ j. AreLost o.gone (get_or cells j []) (get_or later j [])) (sym is) gone);
  }

-- what the comparison of one cell shows

pub cell_same : (others : List Other) (cells later : Box) (at : ℕ) (x y : List ℤ) → AreFound others cells later at → at < length cells →
    x ≡ get_or cells at x → y ≡ get_or later (at + 1 - 1) [] → x ≡ y → AreFound others cells later (at + 1)
cell_same others cells later at x y h lt is is' same =
    let place : at + 1 - 1 ≡ at = omega arith in
    one_same others cells later at h
    (ap (λ i. get_or later i []) (sym place) ∙ sym is' ∙ sym same ∙ is ∙ get_or_default cells at x [] lt)

pub cell_found : (others all : List Other) (cells later : Box) (at : ℕ) (x y : List ℤ) (g : Option Gone) → AreFound others cells later at →
    at < length cells → x ≡ get_or cells at x → y ≡ get_or later (at + 1 - 1) [] → AreLost g x y → all ≡ others ++ record { at = at; gone = g } ∷ [] →
    AreFound all cells later (at + 1)
cell_found others all cells later at x y g h lt is is' lost now =
    let place : at + 1 - 1 ≡ at = omega arith in
    subst (λ l. AreFound l cells later (at + 1)) (sym now)
    (one_found others cells later at h (record { at = at; gone = g }) refl
    (subst (λ z. AreLost g z (get_or later at [])) (is ∙ get_or_default cells at x [] lt)
    (subst (AreLost g x) (is' ∙ ap (λ i. get_or later i []) place) lost)))

-- the others are taken over one by one

-- the first `i` of the others are taken over, so what is seen may differ at the places of the rest alone
pub record AreTaken (others : List Other) (seen cells : Box) (i : ℕ) : Type 0 where
  pub count : length cells ≡ length seen
  pub within : All (λ o. o.at < length seen) others
  pub left : (p : ℕ) → IsElsewhere (drop i others) p → get_or cells p [] ≡ get_or seen p []

pub one_taken : (others : List Other) (seen cells seen' : Box) (i at : ℕ) (o : Other) (x : List ℤ) → AreTaken others seen cells i → i < length others →
    o ≡ get_or others i o → at ≡ o.at → x ≡ get_or cells at [] → seen' ≡ set seen at x → AreTaken others seen' cells (i + 1)
one_taken others seen cells seen' i at o x h lt is is_at value now =
    let long : length seen' ≡ length seen = ap length now ∙ length-set seen at x in
    let there : at < length seen = subst (λ n. n < length seen) (sym is_at) (subst (λ p. p.at < length seen) (sym is) (h.within i o lt)) in
    record {
      count = h.count ∙ sym long;
      within = subst (λ n. All (λ p. p.at < n) others) (sym long) h.within;
      left = λ p away.
          subst (λ s. get_or cells p [] ≡ get_or s p []) (sym now)
          (⊎_elim
          (λ e. subst (λ j. get_or cells j [] ≡ get_or (set seen at x) j []) (sym e) (sym value ∙ sym (get_or-set_same seen at x [] there)))
          (λ ne.
          h.left p
          (subst (λ l. IsElsewhere l p) (sym (drop_more others i o lt))
          (All-cons (λ q. q.at ≡ p → ⊥) (get_or others i o) (drop (i + 1) others) (λ e. ne (sym e ∙ ap (λ q. q.at) (sym is) ∙ sym is_at)) away))
          ∙ sym (get_or-set_other seen at p x [] ne))
          (cases_eq p at));
    }

pub all_taken : (others : List Other) (seen cells : Box) (i : ℕ) → length others ≤ i → AreTaken others seen cells i → seen ≡ cells
all_taken others seen cells i end h =
    ext_get_or [] seen cells (sym h.count)
    (λ p lt. sym (h.left p (subst (λ l. IsElsewhere l p) (sym (drop_all i others end)) (All-nil (λ o. o.at ≡ p → ⊥)))))

-- what the others change in a window

at_place : (others : List Other) (o : Other) (at : ℕ) (g : Option Gone) → o.at ≡ at → g ≡ o.gone → HasLost (others ++ o ∷ []) at g
at_place others o at g e is =
    subst (λ h. HasLost (others ++ o ∷ []) at h) (sym is) (subst (λ a. HasLost (others ++ o ∷ []) a o.gone) e (Contains-push others o))

abbrev Outside : (from to : ℕ) → Other → Type 0
Outside from to p = (p.at < from) ⊎ (to ≤ p.at)

abbrev Inside : (from to : ℕ) → Change → Other → Type 0
Inside from to c p = from ≤ p.at → p.at < to → (from + c.first ≤ p.at) × (p.at < from + c.last)

never_inside : (from to : ℕ) (c : Change) (p : Other) → Outside from to p → Inside from to c p
never_inside from to c p out low high = absurd (⊎_elim (λ lt. omega (arith, lt, low)) (λ le. omega (arith, le, high)) out)

module _ (from to : ℕ) (others : List Other) (o : Other) where
  pub counted : (change : Option Change) → IsCovered from to others change → IfSome change (λ c. c.count ≡ to - from)
  counted None h = tt
  counted (Some c) h = h.count

  pub first_inside : (c : Change) → from ≤ o.at → IsCovered from to others None → c.count ≡ to - from → c.first ≡ o.at - from →
      c.last ≡ o.at - from + 1 → c.gone_first ≡ o.gone → c.gone_last ≡ o.gone → Covers from to (others ++ o ∷ []) c
  first_inside c low h count first last gone gone' = record {
    count = count;
    each = All-push (Inside from to c) others o (All-weaker (Outside from to) (Inside from to c) (never_inside from to c) others h)
        (λ l u. (omega (arith, first, low), omega (arith, last, low)));
    first = at_place others o (from + c.first) c.gone_first (omega (arith, first, low)) gone;
    last = at_place others o (from + c.last - 1) c.gone_last (omega (arith, last, low)) gone';
  }

  pub one_inside : (c w : Change) (place : ℕ) (gone : Option Gone) → from ≤ o.at → place ≡ o.at - from → gone ≡ o.gone → IsWidened c place gone w →
      Covers from to others c → Covers from to (others ++ o ∷ []) w
  one_inside c w place g low is is_lost more h =
      let f0 = more.from.0 in let f1 = more.from.1 in let t0 = more.to.0 in let t1 = more.to.1 in record {
        count = more.count ∙ h.count;
        each = All-push (Inside from to w) others o
            (All-weaker (Inside from to c) (Inside from to w)
            (λ p in_c l u. let b = in_c l u in let b0 = b.0 in let b1 = b.1 in (omega (arith, b0, f0), omega (arith, b1, t0))) others h.each)
            (λ l u. (omega (arith, is, low, f1), omega (arith, is, low, t1)));
        first = ⊎_elim
            (λ s. as_before (from + c.first) (from + w.first) c.gone_first w.gone_first (ap (λ i. from + i) (sym s.0)) s.1 h.first)
            (λ s. let e = s.0 in at_place others o (from + w.first) w.gone_first (omega (arith, is, low, e)) (s.1 ∙ is_lost)) more.first;
        last = ⊎_elim
            (λ s. as_before (from + c.last - 1) (from + w.last - 1) c.gone_last w.gone_last (ap (λ i. from + i - 1) (sym s.0)) s.1 h.last)
            (λ s. let e = s.0 in at_place others o (from + w.last - 1) w.gone_last (omega (arith, is, low, e)) (s.1 ∙ is_lost)) more.last;
      }
    where
      as_before : (at at' : ℕ) (g g' : Option Gone) → at ≡ at' → g' ≡ g → HasLost others at g → HasLost (others ++ o ∷ []) at' g'
      as_before at at' g g' e e' h =
          subst (λ x. HasLost (others ++ o ∷ []) at' x) (sym e') (subst (λ a. HasLost (others ++ o ∷ []) a g) e (Contains-append_left others (o ∷ []) _ h))

-- a window of a box that becomes another one

window_at : (w : Option Range) (b : Box) (i : ℕ) → LooksInside (length b) w → i < length (looked_at w b) →
    get_or (looked_at w b) i [] ≡ get_or b (first_looked w - 1 + i) []
window_at w b i h lt =
    let k = first_looked w + i in let first = (ends_inside w (length b) h).0 in
    let at : k - 1 ≡ first_looked w - 1 + i = omega (arith, first) in
    sym (forward_cell w b i k h lt refl).2 ∙ ap (λ j. get_or b j []) at

part_same : (n : ℕ) (xs ys : Box) → length ys ≡ length xs → ((i : ℕ) → i < n → i < length xs → get_or ys i [] ≡ get_or xs i []) → take n ys ≡ take n xs
part_same n xs ys count each =
    let lx = length-take n xs in let ly = length-take n ys in
    ext_get_or [] (take n ys) (take n xs) (ly ∙ ap (min n) count ∙ sym lx)
    (λ i lt. get_or-take n ys i [] (omega (arith, lt, ly)) ∙ each i (omega (arith, lt, ly)) (omega (arith, lt, ly, count))
    ∙ sym (get_or-take n xs i [] (omega (arith, lt, ly))))

rest_same : (n : ℕ) (xs ys : Box) → length ys ≡ length xs → ((i : ℕ) → n ≤ i → i < length xs → get_or ys i [] ≡ get_or xs i []) → drop n ys ≡ drop n xs
rest_same n xs ys count each =
    let lx = length-drop n xs in let ly = length-drop n ys in
    ext_get_or [] (drop n ys) (drop n xs) (ly ∙ ap (λ m. m - n) count ∙ sym lx)
    (λ i lt. get_or-drop n ys i [] ∙ each (n + i) (omega arith) (omega (arith, lt, ly, count)) ∙ sym (get_or-drop n xs i []))

module _ (others : List Other) (cells later : Box) (w : Option Range) (from to : ℕ) (h : AreOthers others cells later) (looks : LooksInside (length cells) w)
    (is_from : from ≡ first_looked w - 1) (is_to : to ≡ last_looked w (length cells)) where
  looks_later : LooksInside (length later) w
  looks_later = subst (λ n. LooksInside n w) (sym h.count) looks

  long : length (looked_at w cells) ≡ to - from
  long = looked_length w cells looks ∙ ap (λ n. n - (first_looked w - 1)) (sym is_to) ∙ ap (λ f. to - f) (sym is_from)

  long_later : length (looked_at w later) ≡ length (looked_at w cells)
  long_later = looked_length w later looks_later ∙ ap (λ n. last_looked w n - (first_looked w - 1)) h.count ∙ sym (looked_length w cells looks)

  before_at : (i : ℕ) → i < length (looked_at w cells) → get_or (looked_at w cells) i [] ≡ get_or cells (from + i) []
  before_at i lt = window_at w cells i looks lt ∙ ap (λ f. get_or cells (f + i) []) (sym is_from)

  later_at : (i : ℕ) → i < length (looked_at w cells) → get_or (looked_at w later) i [] ≡ get_or later (from + i) []
  later_at i lt = window_at w later i looks_later (omega (arith, lt, long_later)) ∙ ap (λ f. get_or later (f + i) []) (sym is_from)

  same_at : (i : ℕ) → i < length (looked_at w cells) → IsElsewhere others (from + i) → get_or (looked_at w later) i [] ≡ get_or (looked_at w cells) i []
  same_at i lt away = later_at i lt ∙ h.same (from + i) away ∙ sym (before_at i lt)

  pub all_same : IsCovered from to others None → looked_at w later ≡ looked_at w cells
  all_same out =
      ext_get_or [] (looked_at w later) (looked_at w cells) long_later
      (λ i lt.
      let short : i < length (looked_at w cells) = omega (arith, lt, long_later) in
      same_at i short (All-weaker (Outside from to) (λ o. o.at ≡ from + i → ⊥)
      (λ o out e. ⊎_elim (λ b. omega (arith, b, e)) (λ b. omega (arith, b, e, short, long)) out) others out))

  lost_at : (i : ℕ) (gone : Option Gone) → i < length (looked_at w cells) → HasLost others (from + i) gone →
      AreLost gone (get_or (looked_at w cells) i []) (get_or (looked_at w later) i [])
  lost_at i gone lt has =
      subst (λ z. AreLost gone z (get_or (looked_at w later) i [])) (sym (before_at i lt))
      (subst (AreLost gone (get_or cells (from + i) [])) (sym (later_at i lt))
      (All-contains (LostOf cells later) others (record { at = from + i; gone = gone }) h.lost has))

  apart : (c : Change) → Covers from to others c → (i : ℕ) → (i < c.first) ⊎ (c.last ≤ i) → i < to - from → IsElsewhere others (from + i)
  apart c v i out lt =
      All-weaker (Inside from to c) (λ o. o.at ≡ from + i → ⊥)
      (λ o in_c e.
      let b = in_c (omega (arith, e)) (omega (arith, e, lt)) in let b0 = b.0 in let b1 = b.1 in
      ⊎_elim (λ l. omega (arith, b0, e, l)) (λ l. omega (arith, b1, e, l)) out) others v.each

  pub is_change : (c : Change) → Covers from to others c → IsChange c (looked_at w cells) (looked_at w later)
  is_change c v =
      let some = c.some in let within = c.within in let n = v.count in
      record {
        differ = record {
          count = long ∙ sym n;
          count_later = long_later ∙ long ∙ sym n;
          before = part_same c.first (looked_at w cells) (looked_at w later) long_later
              (λ i lt short. same_at i short (apart c v i (inl lt) (omega (arith, short, long))));
          behind = rest_same c.last (looked_at w cells) (looked_at w later) long_later
              (λ i le short. same_at i short (apart c v i (inr le) (omega (arith, short, long))));
        };
        gone_first = lost_at c.first c.gone_first (omega (arith, some, within, n, long)) v.first;
        gone_last = lost_at (c.last - 1) c.gone_last (omega (arith, some, within, n, long))
            (let at : from + c.last - 1 ≡ from + (c.last - 1) = omega (arith, some) in subst (λ i. HasLost others i c.gone_last) at v.last);
      }
