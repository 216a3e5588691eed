use Rattle.std.proofs.Common.{◌≡◌, ◌-ℤ◌, ℤ, sym, ap, subst, ◌∙◌}
use Rattle.std.specs.Int.{int_max, int_min}
use Rattle.ts_sweep.specs.Packed.{ends}
use Rattle.ts_sweep.specs.PairMoves.{found_ends}
use Rattle.ts_sweep.specs.Small.{IsSmall}
use Rattle.ts_sweep.proofs.PairLaws.{least_small, most_small, to_passed}
use Rattle.ts_sweep.proofs.PairSteps.{as_both_passed}
use Rattle.ts_sweep.proofs.pair_move.found_ends.Goals as goal

pub apart-requires : goal.apart-requires
apart-requires g c =
    let x = c.args.x in
    let y = c.args.y in
    let most : c.max-most.result ≡ int_max x y =
    as_both_passed (λ x y. c.max-most.result ≡ int_max x y) x y c.requires.this c.requires.next c.max-most.ensures.value in
    let least : c.min-least.result ≡ int_min x y =
    as_both_passed (λ x y. c.min-least.result ≡ int_min x y) x y c.requires.this c.requires.next c.min-least.ensures.value in
    let most_is : IsSmall c.max-most.result = subst IsSmall (sym most) (most_small x y c.requires.this c.requires.next) in
    let least_is : IsSmall c.min-least.result = subst IsSmall (sym least) (least_small x y c.requires.this c.requires.next) in
    record { most = to_passed IsSmall c.max-most.result most_is most_is; least = to_passed IsSmall c.min-least.result least_is least_is }

pub returns-then-is_wide : goal.returns-then-is_wide
returns-then-is_wide g c =
    let x = c.args.x in
    let y = c.args.y in
    let most : c.max-most.result ≡ int_max x y =
    as_both_passed (λ x y. c.max-most.result ≡ int_max x y) x y c.requires.this c.requires.next c.max-most.ensures.value in
    let least : c.min-least.result ≡ int_min x y =
    as_both_passed (λ x y. c.min-least.result ≡ int_min x y) x y c.requires.this c.requires.next c.min-least.ensures.value in
    let most_is : IsSmall c.max-most.result = subst IsSmall (sym most) (most_small x y c.requires.this c.requires.next) in
    let least_is : IsSmall c.min-least.result = subst IsSmall (sym least) (least_small x y c.requires.this c.requires.next) in
    as_both_passed (λ a b. c.apart.result ≡ ends (b -ℤ a) (a -ℤ b)) c.max-most.result c.min-least.result most_is least_is c.apart.ensures
    ∙ ap (λ a. ends (c.min-least.result -ℤ a) (a -ℤ c.min-least.result)) most
    ∙ ap (λ b. ends (b -ℤ int_max x y) (int_max x y -ℤ b)) least
    ∙ ap (λ wide. found_ends wide c.args.cells x y) (sym c.if-is_wide.true ∙ c.is_wide.ensures)
