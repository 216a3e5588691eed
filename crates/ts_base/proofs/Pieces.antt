-- Pieces given and taken one after the other.
use Rattle.std.proofs.Common.{◌≡◌, ℕ, ◌≤◌, ◌+◌, ◌-◌, List, ◌++◌, length, take, drop, min, refl, ap, sym, ◌∙◌, append_assoc, append-nil, arith}
use Rattle.std.proofs.lemmas.List.{take_min}
use Rattle.std.proofs.Math.Seq.{drop-append_seam, take-add, take-append-add}
use Rattle.std.specs.Prelude.{Option, Some, None, IfSome}
use Rattle.ts_base.specs.Outside.{AtEnd, GaveAtMost, left_after, put_back, taken_more}

-- two pieces put back are one
pub put_back-twice : (a b : List ℕ) (left : Option (List ℕ)) → put_back a (put_back b left) ≡ put_back (a ++ b) left
put_back-twice a b None = refl
put_back-twice a b (Some left) = ap Some (sym (append_assoc a b left))

-- two pieces taken are one
pub taken_more-twice : (taken : Option (List ℕ)) (a b : List ℕ) → taken_more (taken_more taken a) b ≡ taken_more taken (a ++ b)
taken_more-twice None a b = refl
taken_more-twice (Some taken) a b = ap Some (append_assoc taken a b)

-- all that were left are told, where they are told
pub told_all : (bytes : List ℕ) (left left_now : Option (List ℕ)) → left ≡ put_back bytes left_now → AtEnd left_now → IfSome left (λ told. told ≡ bytes)
told_all bytes None left_now e end = tt
told_all bytes (Some all) None e end = cc
told_all bytes (Some all) (Some rest) e end =
    let same : all ≡ bytes ++ rest = cc in
    same ∙ ap (λ (more : List ℕ). bytes ++ more) end ∙ append-nil bytes

-- what is left is what a piece was put back before
pub given_after : (bytes : List ℕ) (before after : Option (List ℕ)) → before ≡ put_back bytes after → after ≡ left_after (length bytes) before
given_after bytes before None e = sym (ap (left_after (length bytes)) e)
given_after bytes before (Some left) e =
    ap (λ (rest : List ℕ). Some rest) (sym (drop-append_seam bytes left)) ∙ sym (ap (left_after (length bytes)) e)

pub gave_bytes : (limit : ℕ) (bytes : List ℕ) (before after : Option (List ℕ)) → length bytes ≤ limit → before ≡ put_back bytes after →
    GaveAtMost limit before after
gave_bytes limit bytes before after few e = (length bytes, few, given_after bytes before after e)

-- a piece of the rest taken after the first n bytes
pub taken_further : (n m : ℕ) (text : List ℕ) (first before after : Option (List ℕ)) →
    before ≡ taken_more first (take n text) → after ≡ taken_more before (take m (drop n text)) →
    after ≡ taken_more first (take (n + m) text)
taken_further n m text first before after e f =
    f ∙ ap (λ taken. taken_more taken (take m (drop n text))) e ∙ taken_more-twice first (take n text) (take m (drop n text))
    ∙ ap (taken_more first) (sym (take-add n m text))

-- what fits of a piece after the bytes kept
pub kept_in_room : (kept piece : List ℕ) (room : ℕ) → length kept ≤ room →
    kept ++ take (min (room - length kept) (length piece)) piece ≡ take room (kept ++ piece)
kept_in_room kept piece room within =
    ap (λ front. kept ++ front) (take_min (room - length kept) piece)
    ∙ sym (take-append-add kept piece (room - length kept))
    ∙ ap (λ n. take n (kept ++ piece)) (omega (arith, within))
