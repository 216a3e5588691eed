-- The lines of a certificate that are fed one after the other.
use Rattle.std.proofs.Common.{◌≡◌, ℕ, ◌+◌, ◌<◌, ◌≤◌, List, [], ◌∷◌, ◌++◌, length, refl, sym, ◌∙◌, ap, subst, arith, append_assoc, append-nil, length-append}
use Rattle.std.proofs.lemmas.List.{nil_from_length}
use Rattle.ts_base.specs.Words.{strict_lines}
use Rattle.ts_certificate.specs.Reading.{Reading}
use Rattle.ts_model.specs.ModelParts.{ModelParts}
use Rattle.ts_checker.specs.Checking.{Checking, HasChecked, Checks}

-- the lines that were fed, and those that are left
pub record IsFed (text rest : List ℕ) (m : ModelParts) (c : Checking) : Type 0 where
  pub done : List (List ℕ)
  pub lines : done ++ strict_lines rest ≡ strict_lines text
  pub checked : HasChecked done c
  pub model : c.model ≡ m
  pub few : c.reading.next + length rest ≤ 1 + length text

-- one more line is fed
pub fed_more : (text rest line left : List ℕ) (m : ModelParts) (old new : Checking) → IsFed text rest m old → strict_lines rest ≡ line ∷ strict_lines left →
    rest ≡ line ++ left → 0 < length line → Checks old line new → new.model ≡ old.model → new.reading.next ≤ old.reading.next + 1 → IsFed text left m new
fed_more text rest line left m old new f cut parts some checks same next = record {
  done = f.done ++ line ∷ [];
  lines = append_assoc f.done (line ∷ []) (strict_lines left) ∙ ap (λ z. f.done ++ z) (sym cut) ∙ f.lines;
  checked = checks f.done f.checked;
  model = same ∙ f.model;
  few = let n = f.few in let k = shorter rest line left parts in omega (arith, n, k, some, next);
}
  where
    shorter : (rest line left : List ℕ) → rest ≡ line ++ left → length rest ≡ length line + length left
    shorter rest line left e = ap length e ∙ length-append line left

-- all lines are fed
pub fed_all : (text rest : List ℕ) (m : ModelParts) (c : Checking) → IsFed text rest m c → length rest ≡ 0 → HasChecked (strict_lines text) c
fed_all text rest m c f none =
    let left = nil_from_length rest none in
    subst (λ ts. HasChecked ts c) (sym (append-nil f.done) ∙ ap (λ (z : List ℕ). f.done ++ strict_lines z) (sym left) ∙ f.lines) f.checked

pub none_fed : (text : List ℕ) (m : ModelParts) (c : Checking) → HasChecked [] c → c.model ≡ m → IsFed text text m c
none_fed text m c h same = record {
  done = [];
  lines = refl;
  checked = h;
  model = same;
  few = let n : c.reading.next ≡ 1 = ap (λ (r : Reading). r.next) h.reading in omega (arith, n);
}
