-- A text that is given at once, line by line.
use Rattle.std.proofs.Common.{◌≡◌, ℕ, ◌<◌, List, [], ◌∷◌, ◌++◌, length, refl, sym, ap, subst, ◌∙◌, arith, append_assoc, append-nil, length-append}
use Rattle.std.specs.Prelude.{Result}
use Rattle.std.proofs.lemmas.List.{nil_from_length}
use Rattle.ts_base.specs.Words.{strict_lines}
use Rattle.ts_token.specs.Gist.{AreEnded}
use Rattle.ts_token.proofs.EndLaws.{ended_before, one_line}
use Rattle.ts_token.proofs.GistLaws.{ended_append, ended_none}
use Rattle.ts_model.specs.declared.error.ModelStop.{ModelStop}
use Rattle.ts_model.specs.declared.model.Need.{Need}
use Rattle.ts_model.specs.LineByLine.{HasRead, HasRoom, ReadsLine, SoFar}
use Rattle.ts_model.proofs.ModelTexts.{room_left}

-- what stands before the rest is read, in whole lines where anything is left
pub record IsReadTo (need : Need) (text rest : List ℕ) (r : Result SoFar ModelStop) : Type 0 where
  pub front : List ℕ
  pub parts : text ≡ front ++ rest
  pub ended : 0 < length rest → AreEnded front
  pub read : HasRead need front r

-- before the first line
pub none_read_of : (need : Need) (text : List ℕ) (r : Result SoFar ModelStop) → HasRead need [] r → IsReadTo need text text r
none_read_of need text r has = record { front = []; parts = refl; ended = λ some. ended_none; read = has }

-- one line more may be counted, and it has fewer bytes than too many
pub room_to : (need : Need) (text rest : List ℕ) (r : Result SoFar ModelStop) → IsReadTo need text rest r → 0 < length rest →
    length text < 4000000000 → HasRoom r
room_to need text rest r h some few =
    let size = ap length h.parts ∙ length-append h.front rest in room_left need r h.front rest h.read some (omega (arith, size, few))

pub line_small : (need : Need) (text rest line left : List ℕ) (r : Result SoFar ModelStop) → IsReadTo need text rest r → rest ≡ line ++ left →
    length text < 4000000000 → length line < 4000000000
line_small need text rest line left r h parts few =
    let size = ap length h.parts ∙ length-append h.front rest in
    let cut = ap length parts ∙ length-append line left in omega (arith, size, cut, few)

-- one line more is read
pub line_on : (need : Need) (text rest line left : List ℕ) (old new : Result SoFar ModelStop) → IsReadTo need text rest old →
    strict_lines rest ≡ line ∷ strict_lines left → rest ≡ line ++ left → 0 < length line → ReadsLine old line new → IsReadTo need text left new
line_on need text rest line left old new h cut parts some reads =
    let size = ap length parts ∙ length-append line left in
    let ended = h.ended (omega (arith, size, some)) in
    record {
      front = h.front ++ line;
      parts = h.parts ∙ ap (λ (x : List ℕ). h.front ++ x) parts ∙ sym (append_assoc h.front line left);
      ended = λ more. ended_append h.front line ended (ended_before rest line left cut more);
      read = reads need h.front line ended (one_line rest line left some cut) refl h.read;
    }

-- all lines are read
pub all_read : (need : Need) (text rest : List ℕ) (r : Result SoFar ModelStop) → IsReadTo need text rest r → length rest ≡ 0 → HasRead need text r
all_read need text rest r h none =
    let left = nil_from_length rest none in
    subst (λ (x : List ℕ). HasRead need x r) (sym (h.parts ∙ ap (λ (x : List ℕ). h.front ++ x) left ∙ append-nil h.front)) h.read
