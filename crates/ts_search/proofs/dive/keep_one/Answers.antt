use Rattle.std.proofs.Common.{◌-◌, [], get_or, ap, sym, ◌∙◌}
use Rattle.std.proofs.lemmas.List.{get_or-set_same}
use Rattle.ts_domain.specs.Kept.{values_above, values_up_to}
use Rattle.ts_filter.specs.Boxes.{high_side, low_side, only, values_at}
use Rattle.ts_filter.proofs.BoxParts.{domain_at, place}
use Rattle.ts_search.specs.Views.{search_of}
use Rattle.ts_search.proofs.DiveSteps.{below_is, high_stays, kept_box, kept_is, kept_there, kept_value_within, low_stays, sub_fits}
use Rattle.ts_search.proofs.dive.keep_one.Goals as goal

pub keep_low-requires-clause-stays : goal.keep_low-requires-clause-stays
keep_low-requires-clause-stays c =
    let b = c.args.cells.now.present in
    let v = c.in_ok-v.v in
    let there = kept_there (search_of c.args.contest.now.problem) c.args.contest.now.goal c.args.k b v c.requires.asked.part c.requires.cell
    c.in_ok-v.ensures.kept in
    let within = kept_value_within b c.args.k v c.requires.asked.part.box c.requires.cell there in
    λ none. low_stays v (values_at c.args.k b) there (ap (λ t. values_up_to t (values_at c.args.k b)) (sym (kept_is v within)) ∙ none)

-- a value of a domain is far from the ends of 64 bits
pub overflow_sub-v : goal.overflow_sub-v
overflow_sub-v c =
    let b = c.args.cells.now.present in
    let v = c.in_ok-v.v in
    let there = kept_there (search_of c.args.contest.now.problem) c.args.contest.now.goal c.args.k b v c.requires.asked.part c.requires.cell
    c.in_ok-v.ensures.kept in
    sub_fits v (kept_value_within b c.args.k v c.requires.asked.part.box c.requires.cell there)

pub keep_high-requires-clause-stays : goal.keep_high-requires-clause-stays
keep_high-requires-clause-stays c =
    let b = c.args.cells.now.present in
    let v = c.in_ok-v.v in
    let there = kept_there (search_of c.args.contest.now.problem) c.args.contest.now.goal c.args.k b v c.requires.asked.part c.requires.cell
    c.in_ok-v.ensures.kept in
    let within = kept_value_within b c.args.k v c.requires.asked.part.box c.requires.cell there in
    let at = place c.args.k b c.requires.cell in
    let low = ap (λ z. get_or z.present (c.args.k - 1) []) c.in_ok-keep_low.ensures.ok
    ∙ get_or-set_same b (c.args.k - 1) _ [] at ∙ ap (λ t. values_up_to t (values_at c.args.k b)) (kept_is v within) in
    λ none. high_stays v (values_at c.args.k b) (get_or c.keep_low.new.self.present (c.args.k - 1) [])
    (domain_at b (c.args.k - 1) c.requires.asked.part.box at).rising there low
    (ap (λ t. values_above t (get_or c.keep_low.new.self.present (c.args.k - 1) [])) (sym (below_is v within)) ∙ none)

pub returns-clause-kept : goal.returns-clause-kept
returns-clause-kept c =
    let b = c.args.cells.now.present in
    let v = c.in_ok-v.v in
    let there = kept_there (search_of c.args.contest.now.problem) c.args.contest.now.goal c.args.k b v c.requires.asked.part c.requires.cell
    c.in_ok-v.ensures.kept in
    let within = kept_value_within b c.args.k v c.requires.asked.part.box c.requires.cell there in
    kept_box c.args.k v b c.keep_low.new.self.present c.keep_high.new.self.present c.requires.asked.part.box c.requires.cell there
    (ap (λ z. z.present) c.in_ok-keep_low.ensures.ok ∙ ap (λ t. low_side c.args.k t b) (kept_is v within))
    (ap (λ z. z.present) c.in_ok-keep_high.ensures.ok ∙ ap (λ t. high_side c.args.k t c.keep_low.new.self.present) (below_is v within))
    ∙ ap (λ t. only c.args.k t b) c.in_ok-v.ensures.kept
