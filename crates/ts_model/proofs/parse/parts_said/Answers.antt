use Rattle.std.proofs.Common.{rules, ◌∙◌, ap}
use Rattle.ts_model.specs.Words.{aggregator_of, feature_of, pattern_of}
use Rattle.ts_model.proofs.TableNames.{aggregator_is, feature_is, pattern_is}
use Rattle.ts_model.proofs.parse.parts_said.Goals as goal

pub returns-in_err-pattern_of : goal.returns-in_err-pattern_of
returns-in_err-pattern_of c =
    let pattern = pattern_is _ _ c.pattern_of.ensures ∙ ap pattern_of c.text_at-then-is_count.ensures in search rules

pub returns-then-is_count : goal.returns-then-is_count
returns-then-is_count c =
    let pattern = pattern_is _ _ c.pattern_of.ensures ∙ ap pattern_of c.text_at-then-is_count.ensures in search rules

pub returns-in_err-aggregator_of : goal.returns-in_err-aggregator_of
returns-in_err-aggregator_of c =
    let aggregator = aggregator_is _ _ c.aggregator_of.ensures ∙ ap aggregator_of c.text_at-2.ensures in search rules

pub returns-in_err-feature_of : goal.returns-in_err-feature_of
returns-in_err-feature_of c =
    let aggregator = aggregator_is _ _ c.aggregator_of.ensures ∙ ap aggregator_of c.text_at-2.ensures in
    let feature = feature_is _ _ c.feature_of.ensures ∙ ap feature_of c.text_at-3.ensures in search rules

pub returns-in_err-pattern_of-2 : goal.returns-in_err-pattern_of-2
returns-in_err-pattern_of-2 c =
    let aggregator = aggregator_is _ _ c.aggregator_of.ensures ∙ ap aggregator_of c.text_at-2.ensures in
    let feature = feature_is _ _ c.feature_of.ensures ∙ ap feature_of c.text_at-3.ensures in
    let pattern = pattern_is _ _ c.pattern_of-2.ensures ∙ ap pattern_of c.text_at-4.ensures in search rules

pub returns : goal.returns
returns c =
    let aggregator = aggregator_is _ _ c.aggregator_of.ensures ∙ ap aggregator_of c.text_at-2.ensures in
    let feature = feature_is _ _ c.feature_of.ensures ∙ ap feature_of c.text_at-3.ensures in
    let pattern = pattern_is _ _ c.pattern_of-2.ensures ∙ ap pattern_of c.text_at-4.ensures in search rules
