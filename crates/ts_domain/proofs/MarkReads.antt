-- What a tree's code reads of its topmost node, in machine numbers.
use Rattle.std.proofs.Common.{◌≡◌, ◌+◌, ◌<◌, length, length-append, ℤ, pos, negsuc, neg_ℤ, ◌+ℤ◌, ◌≤ℤ◌, ◌<ℤ◌, true, false, List, []}
use Rattle.std.proofs.Common.{◌∷◌, ◌++◌, sym, ap, ◌∙◌, subst, arith, append_assoc}
use Rattle.std.proofs.lemmas.Int.{ints, to_z-of_z}
use mir.Val.{SFits, to_z, of_z}
use mir.Syntax.{w64}
use Rattle.std.specs.Prelude.{int_lt}
use Rattle.std.specs.List.{AllByRecursion}
use Rattle.ts_domain.specs.declared.marks.Mark.{Mark}
use Rattle.ts_domain.specs.declared.marks.Node.{Node}
use Rattle.ts_domain.specs.Marks.{gain, gain_of, MarksFrom}
use Rattle.ts_domain.proofs.Places.{small_is}
use Rattle.ts_domain.proofs.Sets.{true_lt}
use Rattle.ts_domain.proofs.MarkLaws.{marks_front, marks_back, mark_map, all_before, all_behind, gain-append, Small, small_gain, small_gain_of}

abbrev bottom : ℤ
bottom = neg_ℤ (pos 1000000)

-- sums of what marks do are machine numbers
medium_fits : (z : ℤ) → neg_ℤ (pos 9000000) ≤ℤ z → z ≤ℤ pos 9000000 → SFits w64 z
medium_fits (pos n) from to = record { sfits = omega (arith, ints, from, to) }
medium_fits (negsuc n) from to = record { sfits = omega (arith, ints, from, to) }

pub medium_is : (z : ℤ) → neg_ℤ (pos 9000000) ≤ℤ z → z ≤ℤ pos 9000000 → to_z w64 (of_z w64 z) ≡ z
medium_is z from to = to_z-of_z w64 z (medium_fits z from to)

pub record Summed (a b c all : ℤ) : Type 0 where
  pub first : SFits w64 (to_z w64 (of_z w64 a) +ℤ to_z w64 (of_z w64 b))
  pub second : SFits w64 (to_z w64 (of_z w64 (to_z w64 (of_z w64 a) +ℤ to_z w64 (of_z w64 b))) +ℤ to_z w64 (of_z w64 c))
  pub same : to_z w64 (of_z w64 (to_z w64 (of_z w64 (to_z w64 (of_z w64 a) +ℤ to_z w64 (of_z w64 b))) +ℤ to_z w64 (of_z w64 c))) ≡ all

summed : (a b c all : ℤ) → Small bottom a → Small (pos 1000000) b → Small bottom c → (a +ℤ b) +ℤ c ≡ all → Summed a b c all
summed a b c all sa sb sc e =
    let ia = medium_is a (omega (arith, ints, sa.from)) (omega (arith, ints, sa.to)) in
    let ib = medium_is b (omega (arith, ints, sb.from)) (omega (arith, ints, sb.to)) in
    let ic = medium_is c (omega (arith, ints, sc.from)) (omega (arith, ints, sc.to)) in
    let ab : to_z w64 (of_z w64 a) +ℤ to_z w64 (of_z w64 b) ≡ a +ℤ b = ap (λ x. x +ℤ to_z w64 (of_z w64 b)) ia ∙ ap (λ x. a +ℤ x) ib in
    let iab : to_z w64 (of_z w64 (to_z w64 (of_z w64 a) +ℤ to_z w64 (of_z w64 b))) ≡ a +ℤ b = ap (λ x. to_z w64 (of_z w64 x)) ab ∙
    medium_is (a +ℤ b) (omega (arith, ints, sa.from, sb.from)) (omega (arith, ints, sa.to, sb.to)) in
    let abc : to_z w64 (of_z w64 (to_z w64 (of_z w64 a) +ℤ to_z w64 (of_z w64 b))) +ℤ to_z w64 (of_z w64 c) ≡ (a +ℤ b) +ℤ c =
    ap (λ x. x +ℤ to_z w64 (of_z w64 c)) iab ∙ ap (λ x. (a +ℤ b) +ℤ x) ic in
    record {
      first = subst (SFits w64) (sym ab) (medium_fits (a +ℤ b) (omega (arith, ints, sa.from, sb.from)) (omega (arith, ints, sa.to, sb.to)));
      second = subst (SFits w64) (sym abc) (medium_fits ((a +ℤ b) +ℤ c) (omega (arith, ints, sa.from, sb.from, sc.from))
          (omega (arith, ints, sa.to, sb.to, sc.to)));
      same = ap (λ x. to_z w64 (of_z w64 x)) abc ∙
          medium_is ((a +ℤ b) +ℤ c) (omega (arith, ints, sa.from, sb.from, sc.from)) (omega (arith, ints, sa.to, sb.to, sc.to)) ∙ e;
    }

gain-between : (xs : List Mark) (m : Mark) (ys : List Mark) → (gain xs +ℤ gain_of m) +ℤ gain ys ≡ gain (xs ++ m ∷ ys)
unfolding gain
gain-between xs m ys = let e = gain-append xs (m ∷ ys) in omega (arith, ints, e)

pub summed_marks : (xs : List Mark) (m read : Mark) (ys : List Mark) (a b c : ℤ) → MarksFrom bottom (xs ++ m ∷ ys) → read ≡ m →
    a ≡ gain xs → b ≡ gain_of read → c ≡ gain ys → Summed a b c (gain (xs ++ m ∷ ys))
unfolding MarksFrom
summed_marks xs m read ys a b c h same ea eb ec =
    let back = marks_back bottom xs (m ∷ ys) h in
    let last = marks_back bottom (xs ++ m ∷ []) ys (subst (MarksFrom bottom) (sym (append_assoc xs (m ∷ []) ys)) h) in
    let eb' = eb ∙ ap gain_of same in
    summed a b c (gain (xs ++ m ∷ ys)) (subst (Small bottom) (sym ea) (small_gain bottom xs (omega (arith, ints)) (marks_front bottom xs (m ∷ ys) h)))
    (subst (Small (pos 1000000)) (sym eb') (small_gain_of m)) (subst (Small bottom) (sym ec) (small_gain bottom ys (omega (arith, ints)) last))
    (ap (λ x. (x +ℤ b) +ℤ c) ea ∙ ap (λ x. (gain xs +ℤ x) +ℤ c) eb' ∙ ap (λ x. (gain xs +ℤ gain_of m) +ℤ x) ec ∙ gain-between xs m ys)

-- a node that was opened: its mark and what lies on its sides
pub record Opened (self xs : List Mark) (m : Mark) (ys : List Mark) : Type 0 where
  pub is : self ≡ xs ++ m ∷ ys
  pub rising : MarksFrom bottom (xs ++ m ∷ ys)
  pub from : bottom ≤ℤ m.value
  pub to : m.value ≤ℤ pos 1000000

pub opened_as : (self xs : List Mark) (m : Mark) (ys : List Mark) → xs ++ m ∷ ys ≡ self → MarksFrom bottom (xs ++ m ∷ ys) → Opened self xs m ys
unfolding MarksFrom
opened_as self xs m ys is h = let here = marks_back bottom xs (m ∷ ys) h in record { is = sym is; rising = h; from = here.0; to = here.1 }

pub opened : (n d : Node) (self xs : List Mark) (m : Mark) (ys : List Mark) → n.before ++ n.mark ∷ n.behind ≡ self →
    MarksFrom bottom (n.before ++ n.mark ∷ n.behind) → d ≡ n → xs ≡ d.before → ys ≡ d.behind → m ≡ d.mark → Opened self xs m ys
opened n d self xs m ys is h same ex ey em =
    let x = ex ∙ ap (λ n. n.before) same in let y = ey ∙ ap (λ n. n.behind) same in let z = em ∙ ap (λ n. n.mark) same in
    subst (λ a. Opened self a m ys) (sym x) (subst (λ a. Opened self n.before a ys) (sym z) (subst (λ a. Opened self n.before n.mark a) (sym y)
    (opened_as self n.before n.mark n.behind is h)))

-- comparisons with its number
pub told_less : (a b : ℤ) → SFits w64 a → bottom ≤ℤ b → b ≤ℤ pos 1000000 → int_lt (to_z w64 (of_z w64 a)) (to_z w64 (of_z w64 b)) ≡ true → a <ℤ b
told_less a b fits from to h =
    true_lt a b (subst (λ x. int_lt x b ≡ true) (to_z-of_z w64 a fits) (subst (λ x. int_lt (to_z w64 (of_z w64 a)) x ≡ true) (small_is b from to) h))

pub told_more : (a b : ℤ) → SFits w64 a → bottom ≤ℤ b → b ≤ℤ pos 1000000 → int_lt (to_z w64 (of_z w64 b)) (to_z w64 (of_z w64 a)) ≡ true → b <ℤ a
told_more a b fits from to h =
    true_lt b a (subst (λ x. int_lt b x ≡ true) (to_z-of_z w64 a fits) (subst (λ x. int_lt x (to_z w64 (of_z w64 a)) ≡ true) (small_is b from to) h))

not_less : (a b : ℤ) → int_lt a b ≡ false → b ≤ℤ a
not_less a b h = grind (arith, ints)

pub told_equal : (a b : ℤ) → SFits w64 a → bottom ≤ℤ b → b ≤ℤ pos 1000000 → int_lt (to_z w64 (of_z w64 a)) (to_z w64 (of_z w64 b)) ≡ false →
    int_lt (to_z w64 (of_z w64 b)) (to_z w64 (of_z w64 a)) ≡ false → a ≡ b
told_equal a b fits from to h k =
    let low = not_less a b (subst (λ x. int_lt x b ≡ false) (to_z-of_z w64 a fits)
    (subst (λ x. int_lt (to_z w64 (of_z w64 a)) x ≡ false) (small_is b from to) h)) in
    let high = not_less b a (subst (λ x. int_lt b x ≡ false) (to_z-of_z w64 a fits)
    (subst (λ x. int_lt x (to_z w64 (of_z w64 a)) ≡ false) (small_is b from to) k)) in
    omega (arith, ints, low, high)

-- a side that was cut, and the node with what is left of it
pub left_of_cut : (self xs : List Mark) (m : Mark) (ys a b c : List Mark) → Opened self xs m ys → xs ≡ (a ++ b) ++ c → MarksFrom bottom (c ++ m ∷ ys)
left_of_cut self xs m ys a b c o e =
    let all = subst (λ x. MarksFrom bottom (x ++ m ∷ ys)) e o.rising in
    marks_back bottom (a ++ b) (c ++ m ∷ ys) (subst (MarksFrom bottom) (append_assoc (a ++ b) c (m ∷ ys)) all)

pub right_of_cut : (self xs : List Mark) (m : Mark) (ys a b c : List Mark) → Opened self xs m ys → ys ≡ (a ++ b) ++ c → MarksFrom bottom (xs ++ m ∷ a)
right_of_cut self xs m ys a b c o e =
    let all = subst (λ y. MarksFrom bottom (xs ++ m ∷ y)) (e ∙ append_assoc a b c) o.rising in
    marks_front bottom (xs ++ m ∷ a) (b ++ c) (subst (MarksFrom bottom) (sym (append_assoc xs (m ∷ a) (b ++ c))) all)

pub one_mark : (self xs : List Mark) (m : Mark) (ys none none' : List Mark) → Opened self xs m ys → none ≡ [] → none' ≡ [] →
    MarksFrom bottom (none ++ m ∷ none')
unfolding MarksFrom
one_mark self xs m ys none none' o e e' =
    subst (λ x. MarksFrom bottom (x ++ m ∷ none')) (sym e) (subst (λ x. MarksFrom bottom (m ∷ x)) (sym e') (o.from, o.to, tt))

-- what a cut makes of a tree, by the side that was cut
pub record IsCutAt (v : ℤ) (self a b c : List Mark) : Type 0 where
  pub all : self ≡ (a ++ b) ++ c
  pub before : AllByRecursion (λ m. m.value <ℤ v) a
  pub at : AllByRecursion (λ m. m.value ≡ v) b
  pub behind : AllByRecursion (λ m. v <ℤ m.value) c

all_both : (P : Mark → Type 0) (xs ys : List Mark) → AllByRecursion P xs → AllByRecursion P ys → AllByRecursion P (xs ++ ys)
all_both P [] ys h k = k
all_both P (x ∷ xs) ys h k = (h.0, all_both P xs ys h.1 k)

-- the words of a recursive call's clauses, with the number in machine form
pub plain_cut : (v : ℤ) (self a b c : List Mark) → SFits w64 v → self ≡ (a ++ b) ++ c → AllByRecursion (λ m. m.value <ℤ to_z w64 (of_z w64 v)) a →
    AllByRecursion (λ m. m.value ≡ to_z w64 (of_z w64 v)) b → AllByRecursion (λ m. to_z w64 (of_z w64 v) <ℤ m.value) c → IsCutAt v self a b c
plain_cut v self a b c fits all before at behind =
    let e = to_z-of_z w64 v fits in record {
      all = all;
      before = subst (λ x. AllByRecursion (λ m. m.value <ℤ x) a) e before;
      at = subst (λ x. AllByRecursion (λ m. m.value ≡ x) b) e at;
      behind = subst (λ x. AllByRecursion (λ m. x <ℤ m.value) c) e behind;
    }

pub cut_left : (v : ℤ) (self xs : List Mark) (m : Mark) (ys a b c made : List Mark) → Opened self xs m ys → v <ℤ m.value → IsCutAt v xs a b c →
    made ≡ c ++ m ∷ ys → IsCutAt v self a b made
cut_left v self xs m ys a b c made o lt cut e = record {
  all = o.is ∙ ap (λ x. x ++ m ∷ ys) cut.all ∙ append_assoc (a ++ b) c (m ∷ ys) ∙ ap (λ x. (a ++ b) ++ x) (sym e);
  before = cut.before;
  at = cut.at;
  behind = subst (AllByRecursion (λ m. v <ℤ m.value)) (sym e) (all_both (λ m. v <ℤ m.value) c (m ∷ ys) cut.behind
      (lt, mark_map (λ y. m.value <ℤ y.value) (λ y. v <ℤ y.value) (λ y k. omega (arith, ints, k, lt)) ys (all_behind bottom xs m ys o.rising)));
}

pub cut_right : (v : ℤ) (self xs : List Mark) (m : Mark) (ys a b c made : List Mark) → Opened self xs m ys → m.value <ℤ v → IsCutAt v ys a b c →
    made ≡ xs ++ m ∷ a → IsCutAt v self made b c
cut_right v self xs m ys a b c made o lt cut e = record {
  all = o.is ∙ ap (λ y. xs ++ m ∷ y) (cut.all ∙ append_assoc a b c) ∙ sym (append_assoc xs (m ∷ a) (b ++ c)) ∙ ap (λ x. x ++ (b ++ c)) (sym e) ∙
      sym (append_assoc made b c);
  before = subst (AllByRecursion (λ m. m.value <ℤ v)) (sym e) (all_both (λ m. m.value <ℤ v) xs (m ∷ a)
      (mark_map (λ x. x.value <ℤ m.value) (λ x. x.value <ℤ v) (λ x k. omega (arith, ints, k, lt)) xs (all_before bottom xs m ys o.rising)) (lt, cut.before));
  at = cut.at;
  behind = cut.behind;
}

pub cut_here : (v : ℤ) (self xs : List Mark) (m : Mark) (ys none none' made : List Mark) → Opened self xs m ys → v ≡ m.value → none ≡ [] → none' ≡ [] →
    made ≡ none ++ m ∷ none' → IsCutAt v self xs made ys
cut_here v self xs m ys none none' made o e n n' k =
    let one : made ≡ m ∷ [] = k ∙ ap (λ x. x ++ m ∷ none') n ∙ ap (λ x. m ∷ x) n' in record {
      all = o.is ∙ sym (append_assoc xs (m ∷ []) ys) ∙ ap (λ x. (xs ++ x) ++ ys) (sym one);
      before = mark_map (λ x. x.value <ℤ m.value) (λ x. x.value <ℤ v) (λ x k. omega (arith, ints, k, e)) xs (all_before bottom xs m ys o.rising);
      at = subst (AllByRecursion (λ m. m.value ≡ v)) (sym one) (sym e, tt);
      behind = mark_map (λ y. m.value <ℤ y.value) (λ y. v <ℤ y.value) (λ y k. omega (arith, ints, k, e)) ys (all_behind bottom xs m ys o.rising);
    }

-- two trees in one: the first one's topmost node above the second, or the other way round
pub under_first : (before behind xs : List Mark) (m : Mark) (ys : List Mark) → MarksFrom bottom (before ++ behind) → before ≡ xs ++ m ∷ ys →
    MarksFrom bottom (ys ++ behind) × MarksFrom bottom (xs ++ m ∷ (ys ++ behind)) × (before ++ behind ≡ xs ++ m ∷ (ys ++ behind))
under_first before behind xs m ys h e =
    let is = ap (λ x. x ++ behind) e ∙ append_assoc xs (m ∷ ys) behind in
    let all = subst (MarksFrom bottom) is h in
    (marks_back bottom (xs ++ m ∷ []) (ys ++ behind) (subst (MarksFrom bottom) (sym (append_assoc xs (m ∷ []) (ys ++ behind))) all), all, is)

pub under_second : (before behind xs : List Mark) (m : Mark) (ys : List Mark) → MarksFrom bottom (before ++ behind) → behind ≡ xs ++ m ∷ ys →
    MarksFrom bottom (before ++ xs) × MarksFrom bottom ((before ++ xs) ++ m ∷ ys) × (before ++ behind ≡ (before ++ xs) ++ m ∷ ys)
under_second before behind xs m ys h e =
    let is = ap (λ x. before ++ x) e ∙ sym (append_assoc before xs (m ∷ ys)) in
    let all = subst (MarksFrom bottom) is h in (marks_front bottom (before ++ xs) (m ∷ ys) all, all, is)

pub shorter_first : (before behind xs : List Mark) (m : Mark) (ys : List Mark) → before ≡ xs ++ m ∷ ys →
    length ys + length behind < length before + length behind
shorter_first before behind xs m ys e = let size = ap length e in omega (arith, size, length-append xs (m ∷ ys))

pub shorter_second : (before behind xs : List Mark) (m : Mark) (ys : List Mark) → behind ≡ xs ++ m ∷ ys →
    length before + length xs < length before + length behind
shorter_second before behind xs m ys e = let size = ap length e in omega (arith, size, length-append xs (m ∷ ys))
