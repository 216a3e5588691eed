-- What the lines of each table keep: how many rows it has, that they are typed, and that each residual is left by an earlier one.
use Rattle.std.proofs.Common.{◌≡◌, ℕ, ◌+◌, ◌≤◌, leb, nat_lt, Bool, ◌&&◌, IsTrue, List, [], ◌∷◌, length, map, refl, sym, ◌∙◌, ap, arith}
use Rattle.std.proofs.lemmas.Bool.{leb-true, and_parts}
use Rattle.std.proofs.lemmas.List.{length-map}
use Rattle.ts_base.specs.declared.letter.Letter.{Letter}
use Rattle.ts_transducer.specs.Typing.{is_typed}
use Rattle.ts_pattern.specs.declared.name.PatternId.{PatternId}
use Rattle.ts_pattern.specs.declared.name.PatternId.TheVariants.{Increasing, Decreasing, Steady, IncreasingSequence, DecreasingSequence, StrictlyIncreasingSequence, StrictlyDecreasingSequence, SteadySequence, IncreasingTerrace, DecreasingTerrace, Inflexion, Peak, Valley, Plateau, Plain, ProperPlateau, ProperPlain, Summit, Gorge, Zigzag, DipOnIncreasingSequence, BumpOnDecreasingSequence}
use Rattle.ts_seed.specs.declared.table.PrintedTable.{PrintedTable}
use Rattle.ts_seed.specs.declared.table.Reading.{Reading}
use Rattle.ts_seed.specs.SeedTable.{table_of}
use Rattle.ts_seed.specs.Table.{Table}
use Rattle.ts_seed.specs.Written.{from_earlier, origin_read, row_read, table_read}

-- the test of a table
abbrev keeps : Table → Bool
keeps t = leb (length t.rows) 8 && (is_typed t.rows && from_earlier 1 t.residuals)

all_keep : (id : PatternId) → IsTrue (keeps (table_of id))
all_keep Increasing = refl
all_keep Decreasing = refl
all_keep Steady = refl
all_keep IncreasingSequence = refl
all_keep DecreasingSequence = refl
all_keep StrictlyIncreasingSequence = refl
all_keep StrictlyDecreasingSequence = refl
all_keep SteadySequence = refl
all_keep IncreasingTerrace = refl
all_keep DecreasingTerrace = refl
all_keep Inflexion = refl
all_keep Peak = refl
all_keep Valley = refl
all_keep Plateau = refl
all_keep Plain = refl
all_keep ProperPlateau = refl
all_keep ProperPlain = refl
all_keep Summit = refl
all_keep Gorge = refl
all_keep Zigzag = refl
all_keep DipOnIncreasingSequence = refl
all_keep BumpOnDecreasingSequence = refl

-- its parts
few : (id : PatternId) → length (table_of id).rows ≤ 8
few id =
    let t = table_of id in
    leb-true _ _ (and_parts (leb (length t.rows) 8) (is_typed t.rows && from_earlier 1 t.residuals) (all_keep id)).0

others : (id : PatternId) → IsTrue (is_typed (table_of id).rows) × IsTrue (from_earlier 1 (table_of id).residuals)
others id =
    let t = table_of id in
    and_parts (is_typed t.rows) (from_earlier 1 t.residuals) (and_parts (leb (length t.rows) 8) (is_typed t.rows && from_earlier 1 t.residuals) (all_keep id)).1

pub typed : (id : PatternId) → IsTrue (is_typed (table_of id).rows)
typed id = (others id).0

-- the letters are read otherwise, and the residuals that they leave stay
same_origins : (reading : Reading) (n : ℕ) (os : List (ℕ × Letter)) →
    from_earlier n (map (λ o. origin_read reading o) os) ≡ from_earlier n os
same_origins reading n [] = refl
same_origins reading n (o ∷ os) = ap (λ b. nat_lt o.0 n && b) (same_origins reading (n + 1) os)

-- of the table as it is printed
pub few_rows : (id : PatternId) (reading : Reading) (t : PrintedTable) → table_read reading t ≡ table_of id → length t.rows.now ≤ 8
few_rows id reading t same =
    let kept = length-map t.rows.now (λ x. row_read reading x) in
    let rows = ap (λ (u : Table). length u.rows) same in
    let h = few id in
    omega arith

pub all_earlier : (id : PatternId) (reading : Reading) (t : PrintedTable) → table_read reading t ≡ table_of id →
    IsTrue (from_earlier 1 t.residuals.now)
all_earlier id reading t same =
    let residuals = ap (λ (u : Table). from_earlier 1 u.residuals) same in
    sym (same_origins reading 1 t.residuals.now) ∙ residuals ∙ (others id).1
