-- The least length of a word, computed from the expression.
use Rattle.std.specs.Prelude.{ℕ, ◌+◌, ◌≤◌, min, List, length}
use Rattle.std.proofs.Common.{sym, subst, arith, length-append, ⊎_elim}
use Rattle.ts_base.specs.declared.letter.Letter.{Letter}
use Rattle.ts_regex.specs.Shape.{Shape, Empty, Eps, One, Cat, Alt, Star}
use Rattle.ts_regex.specs.Language.{InLanguage}
use Rattle.ts_pattern.specs.declared.name.PatternId.{PatternId}
use Rattle.ts_pattern.specs.declared.name.PatternId.TheVariants.{Increasing, Decreasing, Steady, IncreasingSequence, DecreasingSequence, StrictlyIncreasingSequence, StrictlyDecreasingSequence, SteadySequence, IncreasingTerrace, DecreasingTerrace, Inflexion, Peak, Valley, Plateau, Plain, ProperPlateau, ProperPlain, Summit, Gorge, Zigzag, DipOnIncreasingSequence, BumpOnDecreasingSequence}
use Rattle.ts_pattern.specs.PatternTable.{pattern_shape, pattern_b, pattern_a}
use Rattle.ts_pattern.specs.Trims.{FitsTrims, HasLongWords}

abbrev pub least_length : Shape → ℕ
least_length Empty = 0
least_length Eps = 0
least_length (One l) = 1
least_length (Cat r s) = least_length r + least_length s
least_length (Alt r s) = min (least_length r) (least_length s)
least_length (Star r) = 0

pub no_shorter : (r : Shape) (w : List Letter) → InLanguage r w → least_length r ≤ length w
no_shorter Empty w h = absurd h
no_shorter Eps w h = omega arith
no_shorter (One l) w h = subst (λ v. 1 ≤ length v) (sym h) (omega arith)
no_shorter (Cat r s) w h =
    let x = no_shorter r h.0 h.3 in
    let y = no_shorter s h.1 h.4 in
    let n = length-append h.0 h.1 in
    subst (λ v. least_length r + least_length s ≤ length v) (sym h.2) (omega arith)
no_shorter (Alt r s) w h =
    ⊎_elim (λ a. let x = no_shorter r w a in omega arith) (λ a. let x = no_shorter s w a in omega arith) h
no_shorter (Star r) w h = omega arith

-- the least word of each pattern covers its trims, and isn't empty
pub long_enough : (id : PatternId) → (pattern_b id + pattern_a id ≤ least_length (pattern_shape id)) × (1 ≤ least_length (pattern_shape id))
long_enough Increasing = (omega arith, omega arith)
long_enough Decreasing = (omega arith, omega arith)
long_enough Steady = (omega arith, omega arith)
long_enough IncreasingSequence = (omega arith, omega arith)
long_enough DecreasingSequence = (omega arith, omega arith)
long_enough StrictlyIncreasingSequence = (omega arith, omega arith)
long_enough StrictlyDecreasingSequence = (omega arith, omega arith)
long_enough SteadySequence = (omega arith, omega arith)
long_enough IncreasingTerrace = (omega arith, omega arith)
long_enough DecreasingTerrace = (omega arith, omega arith)
long_enough Inflexion = (omega arith, omega arith)
long_enough Peak = (omega arith, omega arith)
long_enough Valley = (omega arith, omega arith)
long_enough Plateau = (omega arith, omega arith)
long_enough Plain = (omega arith, omega arith)
long_enough ProperPlateau = (omega arith, omega arith)
long_enough ProperPlain = (omega arith, omega arith)
long_enough Summit = (omega arith, omega arith)
long_enough Gorge = (omega arith, omega arith)
long_enough Zigzag = (omega arith, omega arith)
long_enough DipOnIncreasingSequence = (omega arith, omega arith)
long_enough BumpOnDecreasingSequence = (omega arith, omega arith)

pub has_long_words : (id : PatternId) → HasLongWords (pattern_shape id) (pattern_b id) (pattern_a id)
has_long_words id w h =
    let n = no_shorter (pattern_shape id) w h in
    let k = long_enough id in
    let k0 = k.0 in
    let k1 = k.1 in
    (omega arith, omega arith)

pub fits_trims : (id : PatternId) → FitsTrims (pattern_shape id) (pattern_b id) (pattern_a id)
fits_trims id w h some = (has_long_words id w h).0

small_trims : (id : PatternId) → (pattern_b id ≤ 2) × (pattern_a id ≤ 1)
small_trims Increasing = (omega arith, omega arith)
small_trims Decreasing = (omega arith, omega arith)
small_trims Steady = (omega arith, omega arith)
small_trims IncreasingSequence = (omega arith, omega arith)
small_trims DecreasingSequence = (omega arith, omega arith)
small_trims StrictlyIncreasingSequence = (omega arith, omega arith)
small_trims StrictlyDecreasingSequence = (omega arith, omega arith)
small_trims SteadySequence = (omega arith, omega arith)
small_trims IncreasingTerrace = (omega arith, omega arith)
small_trims DecreasingTerrace = (omega arith, omega arith)
small_trims Inflexion = (omega arith, omega arith)
small_trims Peak = (omega arith, omega arith)
small_trims Valley = (omega arith, omega arith)
small_trims Plateau = (omega arith, omega arith)
small_trims Plain = (omega arith, omega arith)
small_trims ProperPlateau = (omega arith, omega arith)
small_trims ProperPlain = (omega arith, omega arith)
small_trims Summit = (omega arith, omega arith)
small_trims Gorge = (omega arith, omega arith)
small_trims Zigzag = (omega arith, omega arith)
small_trims DipOnIncreasingSequence = (omega arith, omega arith)
small_trims BumpOnDecreasingSequence = (omega arith, omega arith)

pub small_before : (id : PatternId) → pattern_b id ≤ 2
small_before id = (small_trims id).0

pub small_after : (id : PatternId) → pattern_a id ≤ 1
small_after id = (small_trims id).1

-- what the table of patterns keeps
pub ruleset of_the_table = (has_long_words, fits_trims, small_before, small_after)
