use mir.Val.{SFits}
use Rattle.std.proofs.Common.{ℕ, ℤ, ◌++◌, ◌∷◌, [], arith, refl, rules, subst, sym, w64}
use Rattle.std.proofs.lemmas.Int.{to_z-of_z}
use Rattle.ts_monitor.specs.Monitors.{StandsFor, Watched}
use Rattle.ts_token.specs.Gist.{without_end}
use Rattle.ts_run.specs.Watch.{line_gives}
use Rattle.ts_run.specs.Watching.{HasTerms, IsNext}
use Rattle.ts_run.specs.declared.readings.Reading.TheVariants.{Bad}
use Rattle.ts_run.proofs.ReadingSteps.{few_kept, few_lines, line_bad, line_read, line_skipped, room_for, same_terms}
use Rattle.ts_run.proofs.readings.ReadingsText.end_line.Goals as goal

pub returns-in-Skipped-clause-reads : goal.returns-in-Skipped-clause-reads
returns-in-Skipped-clause-reads c = λ m text line values ended is short h.
    line_skipped c.args.self.now c.bytes-line.result.now c.bytes-line.ensures.stands m text line values ended is short h c.next_line.new.self
    c.args.text.now.items c.args.text.now.items c.in-Skipped.ensures refl c.next_line.ensures.lines c.next_line.ensures.monitor c.next_line.ensures.line

pub returns-in_ok-push_values-in-Value-clause-reads : goal.returns-in_ok-push_values-in-Value-clause-reads
returns-in_ok-push_values-in-Value-clause-reads c = λ m text line values ended is short h.
    let taken = c.take.ensures in
    let next = c.in-Value.ensures in
    let fits : SFits w64 c.in-Value.v = search rules in
    let stands = subst (λ (v : ℤ). StandsFor c.take.new.self (values ++ v ∷ [])) (to_z-of_z w64 c.in-Value.v fits) (taken.stands values h.stands) in
    let terms = same_terms m c.args.self.now.monitor c.take.new.self taken.terms h.terms in
    let next_line = c.next_line-in-Value.ensures in
    line_read c.args.self.now c.bytes-line.result.now c.bytes-line.ensures.stands m text line values ended is short h c.in-Value.v
    c.next_line-in-Value.new.self c.args.text.now.items c.push_values.new.text.items next.0
    (room_for c.args.self.now.monitor.count values next.1 h.stands.count) (c.in_ok-push_values-in-Value.ensures.ok m _ stands terms)
    next_line.lines (subst (λ (w : Watched). StandsFor w (values ++ c.in-Value.v ∷ [])) (sym next_line.monitor) stands)
    (subst (λ (w : Watched). HasTerms m w) (sym next_line.monitor) terms) next_line.line

pub returns-in_ok-status-in-Bad-clause-reads : goal.returns-in_ok-status-in-Bad-clause-reads
returns-in_ok-status-in-Bad-clause-reads c = λ m text line values ended is short h.
    let put = c.in_ok-status-in-Bad.ensures.put in
    let bad = subst (λ (n : ℕ). IsNext n (line_gives (without_end c.bytes-line.result.now)) Bad) h.stands.count c.in-Bad.ensures in
    line_bad c.args.self.now c.bytes-line.result.now c.bytes-line.ensures.stands m text line values ended is short h c.args.self.now c.args.text.now.items
    c.push_refusal.new.text.items _ c.in_ok-status-in-Bad.status bad refl put.0 put.1

pub next_reading-requires : goal.next_reading-requires
next_reading-requires c = few_kept c.args.self.now c.bytes-line.result.now c.requires c.bytes-line.ensures.short

pub next_line-requires : goal.next_line-requires
next_line-requires c = record { few = few_lines c.args.self.now c.requires }

pub next_line-requires-in-Value : goal.next_line-requires-in-Value
next_line-requires-in-Value c = record { few = few_lines c.args.self.now c.requires }

pub overflow_add-self : goal.overflow_add-self
overflow_add-self c = let few = few_lines c.args.self.now c.requires in omega (arith, few)

pub push_values-requires-clause-few : goal.push_values-requires-clause-few
push_values-requires-clause-few c =
    let may = c.requires in
    (same_terms may.model c.args.self.now.monitor c.take.new.self c.take.ensures.terms may.taken.terms).few
