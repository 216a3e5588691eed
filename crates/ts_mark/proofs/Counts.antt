-- A series has no more occurrences than cells.
use Rattle.std.proofs.Common.{◌≡◌, ℕ, ◌≤◌, ℤ, Ok, Err, List, Vec, length, sym, subst, arith}
use Rattle.std.specs.Prelude.{IfOk, Result}
use Rattle.std.specs.Global.{Global}
use Rattle.ts_base.specs.declared.error.Memory.{Memory}
use Rattle.ts_base.specs.declared.letter.Letter.{Letter}
use Rattle.ts_base.specs.declared.range.Range.{Range}
use Rattle.ts_base.specs.Signature.{signature_of}
use Rattle.ts_transducer.specs.declared.row.Row.{Row}
use Rattle.ts_transducer.specs.Decode.{decode}
use Rattle.ts_transducer.proofs.CallerLemmas.{decode_count}
use Rattle.ts_occurrence.proofs.Values.{signature_length}

pub few_decoded : (rows : List Row) (a : ℕ) (w : List Letter) (xs : List ℤ) (found : Result (Vec Range Global) Memory) →
    w ≡ signature_of xs → 1 ≤ length xs → IfOk found (λ v. v.items ≡ decode rows a w) → IfOk found (λ v. length v.items ≤ length xs)
few_decoded rows a w xs (Ok x) is some h =
    let n = signature_length xs some in
    let m = subst (λ (v : List Letter). length (decode rows a w) ≤ length v) is (decode_count rows a w) in
    subst (λ (z : List Range). length z ≤ length xs) (sym h) (omega (arith, n, m))
few_decoded rows a w xs (Err e) is some h = tt
