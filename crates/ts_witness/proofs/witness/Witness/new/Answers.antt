use Rattle.std.proofs.Common.{◌∙◌, ap, sym, reverse}
use Rattle.ts_glue.specs.Machines.{forward_of}
use Rattle.ts_witness.proofs.witness.Witness.new.Goals as goal

pub returns-clause-witness : goal.returns-clause-witness
returns-clause-witness c = record {
  mirror = c.in_ok-behind.ensures.cells ∙ c.in_ok-reversed.ensures ∙ ap reverse (sym c.in_ok-ahead.ensures.cells);
  ahead = c.in_ok-ahead.ensures.runs (forward_of c.args.m.now);
  behind = λ p e. c.in_ok-behind.ensures.runs p.reverse;
}
