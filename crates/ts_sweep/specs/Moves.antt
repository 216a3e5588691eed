-- What a move makes of hulls in lanes.
use Rattle.std.specs.Prelude.{◌≡◌, ◌⊎◌, ℕ, ◌≤◌, ℤ, pos, Bool, ◌||◌, if◌then◌else◌, Option, None, Some, List}
use Rattle.ts_automaton.specs.declared.expr.Atom.TheVariants.{C as AtomC, E as AtomE, D as AtomD, F as AtomF, R as AtomR, Zero as AtomZero}
use Rattle.ts_automaton.specs.Formula.{Leaf}
use Rattle.ts_automaton.specs.Registers.{EachOf, each}
use Rattle.ts_hull.specs.Cuts.{Cut, front_hull, closed_hull}
use Rattle.ts_hull.specs.Splits.{Split, FrontOf}
use Rattle.ts_sweep.specs.declared.packed.Ends.{Ends}
use Rattle.ts_sweep.specs.declared.packed.Name.{Name}
use Rattle.ts_sweep.specs.declared.packed.Name.TheVariants.{C, E, D, F, R}
use Rattle.ts_sweep.specs.Lanes.{no_lanes}
use Rattle.ts_sweep.specs.Packed.{number_ends, is_wide, place, ends_in, with_ends_in, unpacked, AreSome, IsPacked}
use Rattle.ts_sweep.specs.Sides.{Sides, as_read, seen_hull}

-- what there is for a register
abbrev pub of_name : {A : Type 0} → EachOf A → Name → A
of_name a C = a.c
of_name a E = a.e
of_name a D = a.d
of_name a F = a.f
of_name a R = a.r

-- the split expressions of a move, for hulls of a width: E and F of narrow ones stay 0
abbrev pub rest_split : Bool → Split → Split
rest_split wide p = if wide then p else FrontOf (Leaf AtomZero)

abbrev pub of_width : Bool → Cut → Cut
of_width wide k = each k.c (rest_split wide k.e) k.d (rest_split wide k.f) k.r

-- the split expressions of a move that keeps all registers
abbrev pub kept_cut : Bool → Cut
kept_cut wide =
    of_width wide
    (each (FrontOf (Leaf AtomC)) (FrontOf (Leaf AtomE)) (FrontOf (Leaf AtomD)) (FrontOf (Leaf AtomF))
    (FrontOf (Leaf AtomR)))

-- lanes ys stand for what is seen of the fronts of the hull in lanes xs at a value
abbrev pub IsFrontOf : Sides → Cut → ℕ → List ℤ → ℤ → List ℤ → Type 0
IsFrontOf s k n xs v ys = IsPacked n ys × (unpacked ys ≡ seen_hull s (front_hull k (unpacked xs) v))

-- lanes ys stand for what is seen of what the next value makes of the hull in lanes xs
abbrev pub IsClosingOf : Sides → Cut → ℕ → List ℤ → ℤ → List ℤ → Type 0
IsClosingOf s k n xs w ys = IsPacked n ys × (unpacked ys ≡ seen_hull s (closed_hull k (unpacked xs) w))

-- the ends of all registers are replaced
abbrev pub replaced_all : {X : Type 0} → (X → Name → Ends → X) → X → (Name → Ends) → X
replaced_all replaced h e =
    replaced (replaced (replaced (replaced (replaced h C (e C)) E (e E)) D (e D)) F (e F)) R (e R)

-- n lanes with other ends of all registers
abbrev pub with_all : ℕ → List ℤ → (Name → Ends) → List ℤ
with_all n xs e =
    with_ends_in
    (with_ends_in
    (with_ends_in (with_ends_in (with_ends_in xs (place n C) (e C)) (place n E) (e E)) (place n D) (e D))
    (place n F) (e F))
    (place n R) (e R)

-- the ends of a register for which narrow hulls have no lanes, and of all registers
abbrev pub beside : Bool → Ends → Ends
beside wide e = if wide then e else number_ends (pos 0)

abbrev pub ends_by : Bool → Ends → Ends → Ends → Ends → Ends → Name → Ends
ends_by wide c e d f r C = c
ends_by wide c e d f r E = beside wide e
ends_by wide c e d f r D = d
ends_by wide c e d f r F = beside wide f
ends_by wide c e d f r R = r

-- the ends of all registers, by what is made of lanes
abbrev pub begun_by : Bool → (Name → List ℤ → Ends) → List ℤ → Name → Ends
begun_by wide front xs = ends_by wide (front C xs) (front E xs) (front D xs) (front F xs) (front R xs)

-- the ends of all registers, by what is made of the ends of each
abbrev pub closed_by : ℕ → (Name → Ends → Ends) → List ℤ → Name → Ends
closed_by n close xs =
    ends_by (is_wide n) (close C (ends_in xs (place n C))) (close E (ends_in xs (place n E)))
    (close D (ends_in xs (place n D)))
    (close F (ends_in xs (place n F))) (close R (ends_in xs (place n R)))

-- whether any part has a tail
abbrev pub any_tail : (Name → Bool) → Bool
any_tail tail = tail C || (tail E || (tail D || (tail F || tail R)))

-- what five parts ask of lanes, by the register of each
abbrev pub fits_by : (List ℤ → Type 0) → (List ℤ → Type 0) → (List ℤ → Type 0) → (List ℤ → Type 0) → (List ℤ → Type 0) →
    Name → List ℤ → Type 0
fits_by c e d f r C = c
fits_by c e d f r E = e
fits_by c e d f r D = d
fits_by c e d f r F = f
fits_by c e d f r R = r

abbrev pub closes_by : (Ends → Type 0) → (Ends → Type 0) → (Ends → Type 0) → (Ends → Type 0) → (Ends → Type 0) → Name →
    Ends → Type 0
closes_by c e d f r C = c
closes_by c e d f r E = e
closes_by c e d f r D = d
closes_by c e d f r F = f
closes_by c e d f r R = r

-- what is said of a register, where it has a place
abbrev pub IfPlaced : Option ℕ → Type 0 → Type 0
IfPlaced None P = Unit {0}
IfPlaced (Some p) P = P

-- nothing, or lanes in which registers lie and that are fit, as they are read, for each part
abbrev pub IsFitFor : Sides → ℕ → (Name → List ℤ → Type 0) → List ℤ → Type 0
IsFitFor s n fit xs =
    (xs ≡ no_lanes n) ⊎ ((6 ≤ n) × AreSome n xs × ((k : Name) → IfPlaced (place n k) (fit k (as_read s xs))))

-- nothing, or lanes in which registers lie that each part, as they are read, may close
abbrev pub IsClosableBy : Sides → ℕ → (Name → Ends → Type 0) → List ℤ → Type 0
IsClosableBy s n can xs =
    (xs ≡ no_lanes n)
    ⊎ ((6 ≤ n) × AreSome n xs × ((k : Name) → IfPlaced (place n k) (can k (ends_in (as_read s xs) (place n k)))))
