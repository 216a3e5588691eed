use Rattle.std.proofs.Common.{◌≡◌, ℕ, Option, Some, None, List, subst}
use Rattle.std.proofs.lemmas.Result.{IfOk-weaker}
use Rattle.ts_run.specs.Watching.{ReadsLine}
use Rattle.ts_run.specs.declared.readings.ReadingsText.{ReadingsText}
use Rattle.ts_run.specs.declared.status.Status.{Status}
use Rattle.ts_run.proofs.ReadingSteps.{ends_bad, ends_good, ends_none, may_end_last}
use Rattle.ts_run.proofs.readings.ReadingsText.end.Goals as goal

-- what was read, with the status that is known
reads_as : (old new : ReadingsText) (before after : List ℕ) (told ended : Option Status) → told ≡ ended → ReadsLine old before after told new →
    ReadsLine old before after ended new
reads_as old new before after told ended is reads = subst (λ (e : Option Status). ReadsLine old before after e new) is reads

pub end_line-requires : goal.end_line-requires
end_line-requires c = let some = c.requires.some in may_end_last some.0 some.1 c.args.self.now some.2 some.3

pub returns-then-is_empty : goal.returns-then-is_empty
returns-then-is_empty c = record {
  put = IfOk-weaker c.push_end.result _ _
      (λ status put m bytes h.
      ends_none m bytes c.args.self.now h c.args.text.now.items c.push_end.new.text.items c.count.result status (c.is_empty.ensures.none c.if-is_empty.true)
      c.count.ensures.count put.0 put.1)
      c.push_end.ensures;
}

pub returns-in-Some : goal.returns-in-Some
returns-in-Some c =
    let before = c.args.text.now.items in
    let mid = c.end_line.new.text.items in
    let reads = reads_as c.args.self.now c.end_line.new.self before mid _ (Some c.in-Some.status) c.in-Some.is c.in_ok-status.ensures.reads in
    record {
      put = λ m bytes h.
          ends_bad m bytes c.args.self.now h c.end_line.new.self (c.is_empty.ensures.some c.if-is_empty.false) before mid c.in-Some.status reads;
    }

pub returns-in-None : goal.returns-in-None
returns-in-None c =
    let before = c.args.text.now.items in
    let mid = c.end_line.new.text.items in
    let end = c.push_end-in-None in
    let count = c.count-in-None in
    let reads = reads_as c.args.self.now c.end_line.new.self before mid _ None c.in-None.is c.in_ok-status.ensures.reads in
    record {
      put = IfOk-weaker end.result _ _
          (λ status put m bytes h.
          ends_good m bytes c.args.self.now h c.end_line.new.self (c.is_empty.ensures.some c.if-is_empty.false) before mid end.new.text.items count.result
          status reads count.ensures.count put.0 put.1)
          end.ensures;
    }
