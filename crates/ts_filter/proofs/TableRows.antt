-- The rows of the tables of a machine: none yet, and more of them.
use Rattle.std.proofs.Common.{◌≡◌, List, [], reverse, Option, Some, None, option_map, refl, sym, ap, ◌∙◌, subst, arith}
use Rattle.std.proofs.lemmas.Option.{same_Some}
use Rattle.ts_automaton.specs.Body.{Body}
use Rattle.ts_base.specs.declared.range.Range.{Range}
use Rattle.ts_base.specs.Windows.{looked_at}
use Rattle.ts_bound.specs.TermSpans.{Automata}
use Rattle.ts_sweep.specs.Sides.{Sides}
use Rattle.ts_bound.specs.declared.planned.Planned.{Planned}
use Rattle.ts_bound.specs.AnyRows.{form_sides}
use Rattle.ts_bound.specs.BoxRows.{AreFirst, AreKeptBehind, AreRows, AreBehind, GoOnBehind}
use Rattle.ts_bound.specs.RowStacks.{AreKept, Sight, Stack, GoOn, no_rows, nothing_laid, sight}
use Rattle.ts_filter.specs.Boxes.{Box}
use Rattle.ts_filter.specs.KnownRows.{AreKnown, AreRowsOf, KnownRows, StillKnown}
use Rattle.ts_domain.proofs.Sets.{nothing_in}
use Rattle.ts_glue.specs.Pairs.{Pair}
use Rattle.ts_model.specs.declared.model.Require.{Require}

-- the tables of a machine with these rows, and these requirements by which nothing is found
abbrev pub tables : Automata → Stack → Stack → List Require → KnownRows
tables a x y quiet = record {
  machine = a;
  form = x.planned.form;
  ahead = x.known;
  behind = y.known;
  laid_ahead = x.laid;
  laid_behind = y.laid;
  kept_ahead = x.kept;
  kept_behind = y.kept;
  quiet = quiet;
}

-- tables of which nothing is known

nothing_is_kept : (a : Sight) (cells : Box) → AreKept a cells []
nothing_is_kept a cells i = λ some. absurd (omega (arith, some))

no_behind : (p : Option Pair) (ends : Sides) (cells : Box) → AreBehind p ends cells [] × GoOnBehind p ends cells nothing_laid × AreKeptBehind p ends cells []
no_behind None ends cells = (tt, tt, tt)
no_behind (Some p) ends cells = (
  refl,
  record { few = omega arith; each = λ i le lt. absurd (omega (arith, lt)) },
  nothing_is_kept (sight p.reverse ends) (reverse cells),
)

pub nothing_known : (a : Automata) (p q : Planned) (x y : Stack) (quiet : List Require) (t : KnownRows) (cells : Box) → x ≡ no_rows p → y ≡ no_rows q →
    quiet ≡ [] → tables a x y quiet ≡ t → AreRowsOf cells t
nothing_known a p q x y quiet t cells is is' none now =
    let behind = no_behind a.pair (form_sides p.form) cells in
    let empty : AreRowsOf cells (tables a (no_rows p) (no_rows q) []) = record {
      ahead = refl;
      behind = behind.0;
      laid_ahead = record { few = omega arith; each = λ i le lt. absurd (omega (arith, lt)) };
      laid_behind = behind.1;
      kept_ahead = nothing_is_kept (sight a.forward (form_sides p.form)) cells;
      kept_behind = behind.2;
      quiet = λ r c. absurd (nothing_in r c);
    } in
    subst (AreRowsOf cells)
    (ap (λ z. tables a z (no_rows q) []) (sym is) ∙ ap (λ z. tables a x z []) (sym is') ∙ ap (tables a x y) (sym none) ∙ now) empty

-- tables with more rows, in the form that there is

module _ (a : Automata) (b : Box) (quiet : List Require) (old new : KnownRows) (row : Body) (w : Option Range) (is_window : w ≡ a.window)
    (h : AreKnown b old) where
  pub ahead_known : (x x' y : Stack) → row ≡ a.forward → AreRows row (looked_at w b) x' → x'.planned.form ≡ x.planned.form → tables a x y quiet ≡ old →
      tables a x' y quiet ≡ new → StillKnown b old new
  ahead_known x x' y is rows form was now =
      let known = subst (AreKnown b) (sym was) h in
      let more = subst (λ v. AreRows a.forward (looked_at v b) x') is_window (subst (λ f. AreRows f (looked_at w b) x') is rows) in
      let same : form_sides x.planned.form ≡ form_sides x'.planned.form = ap form_sides (sym form) in
      subst (StillKnown b old) now
      (subst (λ t. StillKnown b t (tables a x' y quiet)) was (record {
        machine = refl;
        known = record {
          ahead = more.known;
          behind = subst (λ s. AreBehind a.pair s (looked_at a.window b) y.known) same known.behind;
          laid_ahead = more.laid;
          laid_behind = subst (λ s. GoOnBehind a.pair s (looked_at a.window b) y.laid) same known.laid_behind;
          kept_ahead = more.kept;
          kept_behind = subst (λ s. AreKeptBehind a.pair s (looked_at a.window b) y.kept) same known.kept_behind;
          quiet = known.quiet;
        };
      }))

  rows_behind : (p : Option Pair) (ends : Sides) (cells : Box) (s : Stack) → form_sides s.planned.form ≡ ends → Some row ≡ option_map (λ q. q.reverse) p →
      AreRows row (reverse cells) s → AreBehind p ends cells s.known × GoOnBehind p ends cells s.laid × AreKeptBehind p ends cells s.kept
  rows_behind None ends cells s same e rows = (tt, tt, tt)
  rows_behind (Some p) ends cells s same e rows =
      let r = subst (λ f. AreRows f (reverse cells) s) (same_Some row p.reverse e) rows in (
        subst (λ z. AreFirst (sight p.reverse z) (reverse cells) s.known) same r.known,
        subst (λ z. GoOn (sight p.reverse z) (reverse cells) s.laid.rows s.laid.from) same r.laid,
        subst (λ z. AreKept (sight p.reverse z) (reverse cells) s.kept) same r.kept,
      )

  pub behind_known : (x y y' : Stack) → Some row ≡ option_map (λ q. q.reverse) a.pair → AreRows row (reverse (looked_at w b)) y' →
      y'.planned.form ≡ x.planned.form → tables a x y quiet ≡ old → tables a x y' quiet ≡ new → StillKnown b old new
  behind_known x y y' is rows form was now =
      let known = subst (AreKnown b) (sym was) h in
      let more = rows_behind a.pair (form_sides x.planned.form) (looked_at a.window b) y' (ap form_sides form) is
      (subst (λ v. AreRows row (reverse (looked_at v b)) y') is_window rows) in
      subst (StillKnown b old) now
      (subst (λ t. StillKnown b t (tables a x y' quiet)) was (record {
        machine = refl;
        known = record {
          ahead = known.ahead;
          behind = more.0;
          laid_ahead = known.laid_ahead;
          laid_behind = more.1;
          kept_ahead = known.kept_ahead;
          kept_behind = more.2;
          quiet = known.quiet;
        };
      }))
