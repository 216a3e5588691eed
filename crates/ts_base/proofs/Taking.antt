-- Bytes that an intake has taken of a source, piece by piece.
use Rattle.std.proofs.Common.{◌≡◌, ℕ, ◌+◌, ◌-◌, ◌<◌, ◌≤◌, Option, Some, None, List, [], ◌++◌, length, take, refl, sym, ◌∙◌, ap, subst, arith, length-append}
use Rattle.std.proofs.lemmas.List.{length-take-le}
use Rattle.ts_base.specs.Outside.{AtEnd, GaveAtMost, HasMoreThan, left_after, put_back}
use Rattle.ts_base.proofs.Pieces.{gave_bytes, given_after, put_back-twice}
use Rattle.ts_base.specs.Taken.{TookAll}

-- these bytes were taken of those that were left, and so many more may come
pub record HasTaken {T : Type 0} (Took : List ℕ → T → Type 0) (limit spare : ℕ) (left left_now : Option (List ℕ)) (now : T) : Type 0 where
  pub bytes : List ℕ
  pub took : Took bytes now
  pub gave : left ≡ put_back bytes left_now
  pub count : length bytes + spare ≡ limit

no_bytes : (left : Option (List ℕ)) → put_back [] left ≡ left
no_bytes None = refl
no_bytes (Some bytes) = refl

more_than : (limit : ℕ) (bytes : List ℕ) (left left_now : Option (List ℕ)) → left ≡ put_back bytes left_now → limit < length bytes → HasMoreThan limit left
more_than limit bytes None left_now e more = tt
more_than limit bytes (Some all) None e more = cc
more_than limit bytes (Some all) (Some rest) e more =
    let same : all ≡ bytes ++ rest = cc in
    let count = ap length same ∙ length-append bytes rest in
    omega (arith, count, more)

module _ {T : Type 0} (Took : List ℕ → T → Type 0) (limit : ℕ) (left : Option (List ℕ)) where
  pub none_taken : (now : T) → Took [] now → HasTaken Took limit limit left left now
  none_taken now took = record { bytes = []; took = took; gave = sym (no_bytes left); count = omega arith }

  module _ (spare : ℕ) (before after : Option (List ℕ)) (old : T) (h : HasTaken Took limit spare left before old) where
    -- a read that failed gave nothing
    pub gave_kept : after ≡ before → GaveAtMost (limit + 1) left after
    gave_kept kept =
        let count = h.count in
        gave_bytes (limit + 1) h.bytes left after (omega (arith, count)) (h.gave ∙ ap (put_back h.bytes) (sym kept))

    module _ (m : ℕ) (buffer : List ℕ) (fits : m ≤ length buffer) (gave : before ≡ put_back (take m buffer) after) where
      gave_more : left ≡ put_back (h.bytes ++ take m buffer) after
      gave_more = h.gave ∙ ap (put_back h.bytes) gave ∙ put_back-twice h.bytes (take m buffer) after

      count_more : length (h.bytes ++ take m buffer) ≡ length h.bytes + m
      count_more = length-append h.bytes (take m buffer) ∙ ap (λ n. length h.bytes + n) (length-take-le m buffer fits)

      -- a piece more was taken
      pub more_taken : (now : T) → m ≤ spare → ((bytes : List ℕ) → Took bytes old → Took (bytes ++ take m buffer) now) →
          HasTaken Took limit (spare - m) left after now
      more_taken now few takes =
          let count = h.count in
          let more = count_more in
          record { bytes = h.bytes ++ take m buffer; took = takes h.bytes h.took; gave = gave_more; count = omega (arith, count, more, few) }

      -- a piece that was read and not taken is within the limit, or one byte more
      pub gave_piece : m ≤ spare + 1 → GaveAtMost (limit + 1) left after
      gave_piece few =
          let count = h.count in
          let more = count_more in
          gave_bytes (limit + 1) (h.bytes ++ take m buffer) left after (omega (arith, count, more, few)) gave_more

      pub gave_within : m ≤ spare → GaveAtMost limit left after
      gave_within few =
          let count = h.count in
          let more = count_more in
          gave_bytes limit (h.bytes ++ take m buffer) left after (omega (arith, count, more, few)) gave_more

      -- it went past the limit
      pub past_limit : spare < m → HasMoreThan limit left
      past_limit over =
          let count = h.count in
          let more = count_more in
          more_than limit (h.bytes ++ take m buffer) left after gave_more (omega (arith, count, more, over))

      pub one_past : spare < m → m ≤ spare + 1 → after ≡ left_after (limit + 1) left
      one_past over few =
          let count = h.count in
          let more = count_more in
          let all : length (h.bytes ++ take m buffer) ≡ limit + 1 = omega (arith, count, more, over, few) in
          given_after (h.bytes ++ take m buffer) left after gave_more ∙ ap (λ n. left_after n left) all

    -- nothing was left
    pub all_taken : (buffer : List ℕ) → before ≡ put_back (take 0 buffer) after → AtEnd before → TookAll Took limit left after old
    all_taken buffer gave end =
        let same : before ≡ after = gave ∙ no_bytes after in
        let count = h.count in
        record {
          bytes = h.bytes;
          took = h.took;
          gave = h.gave ∙ ap (put_back h.bytes) same;
          end = subst AtEnd same end;
          within = omega (arith, count);
        }
