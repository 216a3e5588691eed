-- What the law of the glued value needs of the operators, what the registers of a run keep, and the glued value in the
-- form of the proof. What both halves of a range are is one thing here, a part, and its value is read of it.
use Rattle.std.specs.Prelude.{◌≡◌, ℕ, zero, suc, Bool, true, false}
use Rattle.ts_base.specs.declared.range.Kind.{Kind}
use Rattle.ts_base.specs.declared.range.Kind.TheVariants.{Idle, Pending, Held}
use Rattle.ts_transducer.specs.declared.row.Phase.{Phase}
use Rattle.ts_transducer.specs.declared.row.Phase.TheVariants.{Out, OutR, OutA, MaybeB, MaybeA, Found, FoundE, Inside}
use Rattle.ts_decorate.specs.Operators.{Half, with_all, range_after, cells_after}

-- the parts that are held and that may come to them, and the value of the ranges that were emitted
pub record State (P E : Type 0) : Type 0 where
  pub c : P
  pub d : P
  pub r : E

abbrev pub state : {P E : Type 0} → P → P → E → State P E
state c d r = record { c = c; d = d; r = r }

-- phi joins parts, `idle` stands where none is held; g joins what is read of them
pub record Ops (P E : Type 0) : Type 0 where
  pub phi : P → P → P
  pub neutral : P
  pub idle : P
  pub read : P → E
  pub g : E → E → E
  pub default : E

abbrev pub half_of : {P E : Type 0} → Ops P E → Half P
half_of o = record { phi = o.phi; neutral = o.neutral; idle = o.idle }

abbrev pub total : {P E : Type 0} → Ops P E → State P E → E
total o s = o.g s.r (o.read s.c)

-- what a phase letter does to them
abbrev pub results_after : {P E : Type 0} → Ops P E → ℕ → Phase → State P E → P → P → E
results_after o a Out s p q = s.r
results_after o a OutR s p q = s.r
results_after o a OutA s p q = total o s
results_after o a MaybeB s p q = s.r
results_after o a MaybeA s p q = s.r
results_after o a Found s p q = s.r
results_after o a FoundE s p q = o.g s.r (o.read (with_all (half_of o) a s.d p q))
results_after o a Inside s p q = s.r

abbrev pub moved : {P E : Type 0} → Ops P E → ℕ → Phase → State P E → P → P → State P E
moved o a f s p q =
    state (range_after (half_of o) a f s.c s.d p q) (cells_after (half_of o) a f s.d p q) (results_after o a f s p q)

-- Part holds of what phi joins; Folded u d says that the cell d stands in u already; joined u v d is u with v where d
-- stands in both
pub record HalfLaws {P : Type 0} (h : Half P) (joined : P → P → P → P) (Part : P → Type 0) (Folded : P → P → Type 0) : Type 0 where
  pub neutral_part : Part h.neutral
  pub phi_part : (u v : P) → Part u → Part v → Part (h.phi u v)
  pub assoc : (u v w : P) → Part u → Part v → Part w → h.phi (h.phi u v) w ≡ h.phi u (h.phi v w)
  pub comm : (u v : P) → Part u → Part v → h.phi u v ≡ h.phi v u
  pub left : (u : P) → Part u → h.phi h.neutral u ≡ u
  pub folds : (u d : P) → Part u → Part d → Folded (h.phi u d) d
  pub takes : (u v d : P) → Part u → Part v → Part d → Folded v d → joined (h.phi u d) v d ≡ h.phi u v
  pub gives : (u v d : P) → Part u → Part v → Part d → Folded u d → joined u (h.phi v d) d ≡ h.phi u v

-- and what is read of parts is joined by g
pub record GlueLaws {P E : Type 0} (o : Ops P E) (joined : P → P → P → P) (Part : P → Type 0) (Folded : P → P → Type 0) : Type 0 where
  pub half : HalfLaws (half_of o) joined Part Folded
  pub idle_read : o.read o.idle ≡ o.default
  pub g_assoc : (u v w : E) → o.g (o.g u v) w ≡ o.g u (o.g v w)
  pub g_comm : (u v : E) → o.g u v ≡ o.g v u
  pub g_left : (u : E) → o.g o.default u ≡ u

-- what may still come to an occurrence: all that is held, and what is not yet
abbrev pub opened_by : {P : Type 0} → (P → P → P) → Kind → P → P → P
opened_by phi Idle c d = d
opened_by phi Pending c d = d
opened_by phi Held c d = phi c d

abbrev pub opened : {P E : Type 0} → Ops P E → Kind → State P E → P
opened o k s = opened_by o.phi k s.c s.d

-- where an occurrence keeps its last cell, the cell at which a held run stands is folded already
abbrev pub Kept : {P : Type 0} → (P → P → Type 0) → ℕ → P → P → Type 0
Kept Folded zero u p = Folded u p
Kept Folded (suc n) u p = Unit {0}

-- the state at a cell that is p, of each kind
abbrev pub Good : {P E : Type 0} → Ops P E → (P → Type 0) → (P → P → Type 0) → ℕ → Kind → State P E → P → Type 0
Good o Part Folded a Idle s p = (s.c ≡ o.idle) × (s.d ≡ o.neutral)
Good o Part Folded a Pending s p = (s.c ≡ o.idle) × Part s.d
Good o Part Folded a Held s p = Part s.c × Part s.d × Kept Folded a (o.phi s.c s.d) p

-- one occurrence that goes on over the cell d, of which u and v are open on both sides
abbrev pub through : {P : Type 0} → (P → P → P) → (P → P → P → P) → ℕ → P → P → P → P
through phi joined zero u v d = joined u v d
through phi joined (suc n) u v d = phi (phi u d) v

-- the glued value before the mark; the flag says whether one occurrence goes on over the cell
abbrev pub glued : {P E : Type 0} → Ops P E → (P → P → P → P) → ℕ → Bool → Kind → Kind → State P E → State P E → P → E
glued o joined a false k l f b p = o.g (total o f) (total o b)
glued o joined a true k l f b p = o.g (o.g f.r b.r) (o.read (through o.phi joined a (opened o k f) (opened o l b) p))
