use Rattle.std.proofs.Common.{◌≡◌, ℕ, ◌<◌, List, [], ◌++◌, ◌∙◌, ap, arith, drop, length, take}
use Rattle.std.proofs.lemmas.List.{take-append-drop}
use Rattle.ts_pattern_tests.proofs.tokens.feed_halves.Goals as goal

halves_few : (line front back : List ℕ) (n : ℕ) → front ≡ take n line → back ≡ drop n line → length line < 1000 → length (front ++ back) < 4000000000
halves_few line front back n first rest few =
    let whole = ap (λ (x : List ℕ). x ++ back) first ∙ ap (λ (x : List ℕ). take n line ++ x) rest ∙ take-append-drop n line in
    let size = ap length whole in omega (arith, size, few)

pub is_separator-requires : goal.is_separator-requires
is_separator-requires c =
    let front = c.split_at.result.0.now in
    let back = c.split_at.result.1.now in (
      front ++ back,
      c.in_ok-feed-2.ensures.taken front (c.in_ok-feed.ensures.taken [] c.requires.none),
      halves_few c.args.line.now front back _ c.split_at.ensures.front c.split_at.ensures.back c.requires.few,
    )
