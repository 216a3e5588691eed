use Rattle.std.proofs.Common.{◌≡◌, length, rules, subst}
use Rattle.ts_bound.specs.declared.any_row.AnyView.{AnyView}
use Rattle.ts_bound.specs.AnyRows.{columns, viewed}
use Rattle.ts_bound.proofs.any_row.are_same.Goals as goal

pub are_same_columns-requires : goal.are_same_columns-requires
are_same_columns-requires c =
    let HasAll = λ (z : AnyView). length (columns (viewed z)) ≡ c.args.states in (
      search rules,
      (
        search rules,
        (
          search rules,
          (
            subst HasAll c.in-Narrow-Narrow.is-0 c.requires.first,
            subst HasAll c.in-Narrow-Narrow.is-1 c.requires.second,
          ),
        ),
      ),
    )

pub are_same_columns-requires-in-Upper-Upper : goal.are_same_columns-requires-in-Upper-Upper
are_same_columns-requires-in-Upper-Upper c =
    let HasAll = λ (z : AnyView). length (columns (viewed z)) ≡ c.args.states in (
      search rules,
      (
        search rules,
        (
          search rules,
          (
            subst HasAll c.in-Upper-Upper.is-0 c.requires.first,
            subst HasAll c.in-Upper-Upper.is-1 c.requires.second,
          ),
        ),
      ),
    )

pub are_same_columns-requires-in-Lower-Lower : goal.are_same_columns-requires-in-Lower-Lower
are_same_columns-requires-in-Lower-Lower c =
    let HasAll = λ (z : AnyView). length (columns (viewed z)) ≡ c.args.states in (
      search rules,
      (
        search rules,
        (
          search rules,
          (
            subst HasAll c.in-Lower-Lower.is-0 c.requires.first,
            subst HasAll c.in-Lower-Lower.is-1 c.requires.second,
          ),
        ),
      ),
    )

pub are_same_columns-requires-in-Wide-Wide : goal.are_same_columns-requires-in-Wide-Wide
are_same_columns-requires-in-Wide-Wide c =
    let HasAll = λ (z : AnyView). length (columns (viewed z)) ≡ c.args.states in (
      search rules,
      (
        search rules,
        (
          search rules,
          (
            subst HasAll c.in-Wide-Wide.is-0 c.requires.first,
            subst HasAll c.in-Wide-Wide.is-1 c.requires.second,
          ),
        ),
      ),
    )
