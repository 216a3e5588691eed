use Rattle.ts_regex.specs.Shape.{shape_of}
use Rattle.ts_pattern.proofs.CallerLemmas.{ranges_are}
use Rattle.ts_occurrence.proofs.Noted.{inside_series}
use Rattle.ts_occurrence.proofs.occurrence.occurrences.Goals as goal

pub returns-clause-exact : goal.returns-clause-exact
returns-clause-exact c =
    ranges_are (shape_of c.args.p.now.regex) c.args.p.now.b c.args.p.now.a c.args.w.now c.in_ok-maximal_matches.field-0.items c.in_ok-maximal_matches.ensures

pub returns-clause-inside : goal.returns-clause-inside
returns-clause-inside c =
    inside_series (shape_of c.args.p.now.regex) c.args.p.now.b c.args.p.now.a c.args.w.now c.in_ok-maximal_matches.field-0.items c.requires.fits
    c.in_ok-maximal_matches.ensures
