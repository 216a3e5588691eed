-- The best series that a tree reports.
use Rattle.std.specs.Prelude.{Bool, true, cond, ◌&&◌, List, [], ◌∷◌, ◌++◌, Option, Some, None}
use Rattle.ts_base.specs.declared.ext.Ext.{Ext}
use Rattle.ts_certificate.specs.declared.certificate.TreeLine.{TreeLine}
use Rattle.ts_certificate.specs.declared.certificate.TreeLine.TheVariants.{Split, Remove, No, Worse, Yes, Unsearched}
use Rattle.ts_model.specs.FirstBest.{is_better}
use Rattle.ts_model.specs.Judgement.{is_met}
use Rattle.ts_filter.specs.Boxes.{Box}
use Rattle.ts_filter.specs.Steps.{made_by}
use Rattle.ts_search.specs.Dive.{Find, value_of, find}
use Rattle.ts_frontier.specs.Forms.{Form, Alone, Wide, form}
use Rattle.ts_search.specs.LineOf.{Contest}

abbrev pub beats : Contest → Option Find → Ext → Bool
beats c None v = true
beats c (Some f) v = is_better c.goal v f.value

-- the best series after one more line: that of a box of one series that has a `worse` line, where it meets and is
-- better
abbrev pub tally_after : Contest → Option Find → Form → TreeLine → Option Find
tally_after c best form (Split k t) = best
tally_after c best form (Remove k v j) = best
tally_after c best form (No j p) = best
tally_after c best (Alone x) (Worse p) =
    cond (is_met c.search.model x && beats c best (value_of c.search.model x)) (Some (find c.search.model x)) best
tally_after c best (Wide k t) (Worse p) = best
tally_after c best form Yes = best
tally_after c best form Unsearched = best

-- the first of the best series so far, after lines for the boxes that wait
abbrev pub tally : Contest → Option Find → List Box → List TreeLine → Option Find
tally c best waiting [] = best
tally c best [] (l ∷ ls) = best
tally c best (b ∷ waiting) (l ∷ ls) = tally c (tally_after c best (form b) l) (made_by l b ++ waiting) ls

-- the reported series, or the warm one where none is reported or the warm one is better
abbrev pub reported_or_warm : Contest → Option Find → Option Find → Option Find
reported_or_warm c None warm = warm
reported_or_warm c (Some f) None = Some f
reported_or_warm c (Some f) (Some w) = cond (is_better c.goal w.value f.value) (Some w) (Some f)

-- the series that a tree for the model's box finds
abbrev pub found_in : Contest → List TreeLine → Option Find
found_in c ls = reported_or_warm c (tally c None (c.search.model.cells ∷ []) ls) c.warm
