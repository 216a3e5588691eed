-- The exact operators of each term keep the laws.
use Rattle.std.specs.Prelude.{◌≡◌, refl, ℤ, pos, Option, None, Some}
use Rattle.std.proofs.Common.{sym, ◌∙◌, ap, arith}
use Rattle.std.proofs.lemmas.Int.{ints}
use Rattle.ts_base.specs.declared.constant.Constant.TheVariants.{Zero}
use Rattle.ts_base.specs.declared.ext.Ext.{Ext}
use Rattle.ts_base.specs.declared.ext.Ext.TheVariants.{NegInf, Int, PosInf}
use Rattle.ts_base.specs.Numbers.{ext_max, ext_min}
use Rattle.ts_base.proofs.Order.{le_refl, le_antisym, max_left, max_right, max_least, min_left, min_right, min_greatest}
use Rattle.ts_pattern.specs.declared.name.Aggregator.{Aggregator}
use Rattle.ts_pattern.specs.declared.name.Aggregator.TheVariants.{Sum, Max as MaxOf, Min as MinOf}
use Rattle.ts_pattern.specs.declared.name.Feature.{Feature}
use Rattle.ts_pattern.specs.declared.name.Feature.TheVariants.{One, Width, Surf, Max as MaxFeature, Min as MinFeature, Range}
use Rattle.ts_pattern.specs.declared.arithmetic.CellFold.{CellFold}
use Rattle.ts_pattern.specs.Arithmetic.{cell_op, less_fold, range_op, default_value, cell_value}
use Rattle.ts_base.specs.Operators.{constant_value}
use Rattle.ts_base.specs.declared.op.Op.{Op}
use Rattle.ts_base.specs.declared.op.Op.TheVariants.{Add, Max, Min}
use Rattle.ts_automaton.proofs.OperatorLaws.{negated}
use Rattle.ts_decorate.specs.Operators.{Half}
use Rattle.ts_decorate.specs.Rows.{phi_by, half_by}
use Rattle.ts_decorate.proofs.Exact.{exact_plus, exact_op, exact_operator, exact, max_assoc, min_assoc, plus_assoc, range_right, idle_read}
use Rattle.ts_compile.proofs.Facts.{Ops, half_of, HalfLaws, GlueLaws}
use Rattle.ts_compile.proofs.Halves.{pair_same, pair_is, paired}

-- u with v where the cell value d stands in both
abbrev pub exact_joined : Op → Ext → Ext → Ext → Ext
exact_joined Add u v d = exact_plus (exact_plus u v) (negated d)
exact_joined Max u v d = ext_max u v
exact_joined Min u v d = ext_min u v

abbrev pub IsNumber : Ext → Type 0
IsNumber NegInf = ⊥
IsNumber (Int x) = Unit {0}
IsNumber PosInf = ⊥

-- what a feature joins
abbrev pub PartOf : Feature → Ext → Type 0
PartOf One u = u ≡ Int (pos 1)
PartOf Width u = IsNumber u
PartOf Surf u = IsNumber u
PartOf MaxFeature u = Unit {0}
PartOf MinFeature u = Unit {0}
PartOf Range u = Unit {0}

-- d stands in u
abbrev pub FoldedOf : Op → Ext → Ext → Type 0
FoldedOf Add u d = Unit {0}
FoldedOf Max u d = ext_max u d ≡ u
FoldedOf Min u d = ext_min u d ≡ u

-- what is taken away, joined with one more; it stays at 0 where nothing is taken away
abbrev pub joined_by : Option CellFold → Ext → Ext → Ext → Ext
joined_by None u v d = u
joined_by (Some row) u v d = exact_joined row.op u v d

abbrev pub PartBy : Option CellFold → Ext → Type 0
PartBy None u = u ≡ Int (pos 0)
PartBy (Some row) u = Unit {0}

abbrev pub FoldedBy : Option CellFold → Ext → Ext → Type 0
FoldedBy None u d = Unit {0}
FoldedBy (Some row) u d = FoldedOf row.op u d

abbrev pub away_by : Option CellFold → Ext → Ext
away_by None v = Int (pos 0)
away_by (Some row) v = v

-- what a cell counts for there
abbrev pub away : Feature → ℤ → Ext
away f x = away_by (less_fold f) (cell_value f x)

same_by : (row : Option CellFold) (u v : Ext) → phi_by exact_operator row u v ≡ phi_by exact_operator row u (away_by row v)
same_by None u v = refl
same_by (Some row) u v = refl

pub same_away : (g : Aggregator) (f : Feature) (u : Ext) (x : ℤ) → (exact g f).less.phi u (cell_value f x) ≡ (exact g f).less.phi u (away f x)
same_away g f u x = same_by (less_fold f) u (cell_value f x)

-- of both halves
abbrev pub both_joined : Feature → Ext × Ext → Ext × Ext → Ext × Ext → Ext × Ext
both_joined f u v d = (exact_joined (cell_op f) u.0 v.0 d.0, joined_by (less_fold f) u.1 v.1 d.1)

abbrev pub BothParts : Feature → Ext × Ext → Type 0
BothParts f u = PartOf f u.0 × PartBy (less_fold f) u.1

abbrev pub BothFolded : Feature → Ext × Ext → Ext × Ext → Type 0
BothFolded f u d = FoldedOf (cell_op f) u.0 d.0 × FoldedBy (less_fold f) u.1 d.1

pub cell_part : (f : Feature) (x : ℤ) → PartOf f (cell_value f x)
cell_part One x = refl
cell_part Width x = tt
cell_part Surf x = tt
cell_part MaxFeature x = tt
cell_part MinFeature x = tt
cell_part Range x = tt

away_part : (row : Option CellFold) (v : Ext) → PartBy row (away_by row v)
away_part None v = refl
away_part (Some row) v = tt

pub cell_parts : (f : Feature) (x : ℤ) → BothParts f (cell_value f x, away f x)
cell_parts f x = (cell_part f x, away_part (less_fold f) (cell_value f x))

max_swap : (a b : Ext) → ext_max a b ≡ ext_max b a
max_swap a b =
    le_antisym (ext_max a b) (ext_max b a) (max_least a b (ext_max b a) (max_right b a) (max_left b a))
    (max_least b a (ext_max a b) (max_right a b) (max_left a b))

min_swap : (a b : Ext) → ext_min a b ≡ ext_min b a
min_swap a b =
    le_antisym (ext_min a b) (ext_min b a) (min_greatest b a (ext_min a b) (min_right a b) (min_left a b))
    (min_greatest a b (ext_min b a) (min_right b a) (min_left b a))

plus_swap : (a b : Ext) → exact_plus a b ≡ exact_plus b a
plus_swap NegInf NegInf = refl
plus_swap NegInf (Int y) = refl
plus_swap NegInf PosInf = refl
plus_swap (Int x) NegInf = refl
plus_swap (Int x) (Int y) = ap Int (omega (arith, ints))
plus_swap (Int x) PosInf = refl
plus_swap PosInf NegInf = refl
plus_swap PosInf (Int y) = refl
plus_swap PosInf PosInf = refl

max_twice : (a : Ext) → ext_max a a ≡ a
max_twice a = le_antisym (ext_max a a) a (max_least a a a (le_refl a) (le_refl a)) (max_left a a)

min_twice : (a : Ext) → ext_min a a ≡ a
min_twice a = le_antisym (ext_min a a) a (min_left a a) (min_greatest a a a (le_refl a) (le_refl a))

plus_left : (a : Ext) → exact_plus (Int (pos 0)) a ≡ a
plus_left a = plus_swap (Int (pos 0)) a ∙ range_right Sum a

min_from_high : (a : Ext) → ext_min PosInf a ≡ a
min_from_high a = min_swap PosInf a ∙ range_right MinOf a

number_sum : (u v : Ext) → IsNumber u → IsNumber v → IsNumber (exact_plus u v)
number_sum (Int x) (Int y) i j = tt
number_sum NegInf v i j = absurd i
number_sum PosInf v i j = absurd i
number_sum (Int x) NegInf i j = absurd j
number_sum (Int x) PosInf i j = absurd j

-- the cell value that stands on both sides is taken off once

sum_takes : (u v d : Ext) → IsNumber u → IsNumber v → IsNumber d → exact_joined Add (exact_plus u d) v d ≡ exact_plus u v
sum_takes (Int x) (Int y) (Int z) i j k = ap Int (omega (arith, ints))
sum_takes NegInf v d i j k = absurd i
sum_takes PosInf v d i j k = absurd i
sum_takes (Int x) NegInf d i j k = absurd j
sum_takes (Int x) PosInf d i j k = absurd j
sum_takes (Int x) (Int y) NegInf i j k = absurd k
sum_takes (Int x) (Int y) PosInf i j k = absurd k

sum_gives : (u v d : Ext) → IsNumber u → IsNumber v → IsNumber d → exact_joined Add u (exact_plus v d) d ≡ exact_plus u v
sum_gives (Int x) (Int y) (Int z) i j k = ap Int (omega (arith, ints))
sum_gives NegInf v d i j k = absurd i
sum_gives PosInf v d i j k = absurd i
sum_gives (Int x) NegInf d i j k = absurd j
sum_gives (Int x) PosInf d i j k = absurd j
sum_gives (Int x) (Int y) NegInf i j k = absurd k
sum_gives (Int x) (Int y) PosInf i j k = absurd k

-- the aggregators

g_assoc : (g : Aggregator) (u v w : Ext) → exact_op (range_op g) (exact_op (range_op g) u v) w ≡ exact_op (range_op g) u (exact_op (range_op g) v w)
g_assoc Sum = plus_assoc
g_assoc MaxOf = max_assoc
g_assoc MinOf = min_assoc

g_swap : (g : Aggregator) (u v : Ext) → exact_op (range_op g) u v ≡ exact_op (range_op g) v u
g_swap Sum = plus_swap
g_swap MaxOf = max_swap
g_swap MinOf = min_swap

g_left : (g : Aggregator) (u : Ext) → exact_op (range_op g) (default_value g) u ≡ u
g_left g u = g_swap g (default_value g) u ∙ range_right g u

-- an operator that leaves a value as it is beside itself: what is folded twice stays
module _ (op : Ext → Ext → Ext) (assoc : (u v w : Ext) → op (op u v) w ≡ op u (op v w)) (swap : (u v : Ext) → op u v ≡ op v u)
    (twice : (u : Ext) → op u u ≡ u) where
  stands_in : (u d : Ext) → op (op u d) d ≡ op u d
  stands_in u d = assoc u d d ∙ ap (op u) (twice d)

  is_taken : (u v d : Ext) → op v d ≡ v → op (op u d) v ≡ op u v
  is_taken u v d h = assoc u d v ∙ ap (op u) (swap d v ∙ h)

  is_given : (u v d : Ext) → op u d ≡ u → op u (op v d) ≡ op u v
  is_given u v d h = ap (op u) (swap v d) ∙ sym (assoc u d v) ∙ ap (λ z. op z v) h

abbrev half_with : (Ext → Ext → Ext) → Ext → Ext → Half Ext
half_with op n i = record { phi = λ u v. op u v; neutral = n; idle = i }

-- parts are numbers, and the cell value that stands in both is taken off
sum_half : (i : Ext) → HalfLaws (half_with exact_plus (Int (pos 0)) i) (λ u v d. exact_joined Add u v d) IsNumber
    (λ u d. Unit {0})
sum_half i = record {
  neutral_part = tt;
  phi_part = number_sum;
  assoc = λ u v w j k l. plus_assoc u v w;
  comm = λ u v j k. plus_swap u v;
  left = λ u j. plus_left u;
  folds = λ u d j k. tt;
  takes = λ u v d j k l h. sum_takes u v d j k l;
  gives = λ u v d j k l h. sum_gives u v d j k l;
}

-- parts are those that the operator leaves as they are beside n
module _ (op : Ext → Ext → Ext) (assoc : (u v w : Ext) → op (op u v) w ≡ op u (op v w)) (swap : (u v : Ext) → op u v ≡ op v u)
    (twice : (u : Ext) → op u u ≡ u) (n i : Ext) (Part : Ext → Type 0) (neutral_part : Part n)
    (op_part : (u v : Ext) → Part u → Part v → Part (op u v)) (op_left : (u : Ext) → Part u → op n u ≡ u) where
  lattice_half : HalfLaws (half_with op n i) (λ u v d. op u v) Part (λ u d. op u d ≡ u)
  lattice_half = record {
    neutral_part = neutral_part;
    phi_part = op_part;
    assoc = λ u v w j k l. assoc u v w;
    comm = λ u v j k. swap u v;
    left = op_left;
    folds = λ u d j k. stands_in op assoc swap twice u d;
    takes = λ u v d j k l h. is_taken op assoc swap twice u v d h;
    gives = λ u v d j k l h. is_given op assoc swap twice u v d h;
  }

-- any parts
abbrev AnyPart : Ext → Type 0
AnyPart u = Unit {0}

max_half : (i : Ext) → HalfLaws (half_with ext_max NegInf i) (λ u v d. ext_max u v) AnyPart (λ u d. ext_max u d ≡ u)
max_half i = lattice_half ext_max max_assoc max_swap max_twice NegInf i AnyPart tt (λ u v j k. tt) (λ u j. refl)

min_half : (i : Ext) → HalfLaws (half_with ext_min PosInf i) (λ u v d. ext_min u v) AnyPart (λ u d. ext_min u d ≡ u)
min_half i = lattice_half ext_min min_assoc min_swap min_twice PosInf i AnyPart tt (λ u v j k. tt) (λ u j. min_from_high u)

whole_laws : (g : Aggregator) (f : Feature) → HalfLaws (exact g f).whole (exact_joined (cell_op f)) (PartOf f) (FoldedOf (cell_op f))
whole_laws g One =
    lattice_half ext_max max_assoc max_swap max_twice (Int (pos 1)) (default_value g) (PartOf One) refl
    (λ u v j k. ap (λ z. ext_max z v) j ∙ ap (ext_max (Int (pos 1))) k) (λ u j. ap (ext_max (Int (pos 1))) j ∙ sym j)
whole_laws g Width = sum_half (default_value g)
whole_laws g Surf = sum_half (default_value g)
whole_laws g MaxFeature = max_half (default_value g)
whole_laws g MinFeature = min_half (default_value g)
whole_laws g Range = max_half (default_value g)

-- a half at rest: every part is 0
rest_half : HalfLaws (half_by constant_value exact_operator None Zero) (joined_by None) (PartBy None) (FoldedBy None)
rest_half = record {
  neutral_part = refl;
  phi_part = λ u v j k. j;
  assoc = λ u v w j k l. refl;
  comm = λ u v j k. j ∙ sym k;
  left = λ u j. sym j;
  folds = λ u d j k. tt;
  takes = λ u v d j k l h. refl;
  gives = λ u v d j k l h. refl;
}

away_laws : (g : Aggregator) (f : Feature) → HalfLaws (exact g f).less (joined_by (less_fold f)) (PartBy (less_fold f)) (FoldedBy (less_fold f))
away_laws g One = rest_half
away_laws g Width = rest_half
away_laws g Surf = rest_half
away_laws g MaxFeature = rest_half
away_laws g MinFeature = rest_half
away_laws g Range = min_half (Int (pos 0))

-- two halves that keep the laws keep them together
module _ (g : Aggregator) (f : Feature) where
  abbrev o : Ops (Ext × Ext) Ext
  o = paired (exact g f)

  abbrev first : HalfLaws (exact g f).whole (exact_joined (cell_op f)) (PartOf f) (FoldedOf (cell_op f))
  first = whole_laws g f

  abbrev second : HalfLaws (exact g f).less (joined_by (less_fold f)) (PartBy (less_fold f)) (FoldedBy (less_fold f))
  second = away_laws g f

  both_laws : HalfLaws (half_of o) (both_joined f) (BothParts f) (BothFolded f)
  both_laws = record {
    neutral_part = (first.neutral_part, second.neutral_part);
    phi_part = λ u v j k. (first.phi_part u.0 v.0 j.0 k.0, second.phi_part u.1 v.1 j.1 k.1);
    assoc = λ u v w j k l. pair_same (first.assoc u.0 v.0 w.0 j.0 k.0 l.0) (second.assoc u.1 v.1 w.1 j.1 k.1 l.1);
    comm = λ u v j k. pair_same (first.comm u.0 v.0 j.0 k.0) (second.comm u.1 v.1 j.1 k.1);
    left = λ u j. pair_same (first.left u.0 j.0) (second.left u.1 j.1) ∙ pair_is u;
    folds = λ u d j k. (first.folds u.0 d.0 j.0 k.0, second.folds u.1 d.1 j.1 k.1);
    takes = λ u v d j k l h.
        pair_same (first.takes u.0 v.0 d.0 j.0 k.0 l.0 h.0) (second.takes u.1 v.1 d.1 j.1 k.1 l.1 h.1);
    gives = λ u v d j k l h.
        pair_same (first.gives u.0 v.0 d.0 j.0 k.0 l.0 h.0) (second.gives u.1 v.1 d.1 j.1 k.1 l.1 h.1);
  }

  pub laws_of : GlueLaws o (both_joined f) (BothParts f) (BothFolded f)
  laws_of = record {
    half = both_laws;
    idle_read = idle_read g (less_fold f);
    g_assoc = g_assoc g;
    g_comm = g_swap g;
    g_left = g_left g;
  }
