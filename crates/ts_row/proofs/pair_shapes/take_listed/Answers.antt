use Rattle.ts_row.proofs.pair_shapes.take_listed.Goals as goal

pub take_pairs-requires : goal.take_pairs-requires
take_pairs-requires g c =
    let t = c.args.t.now in
    let values = t.values.now in
    let next_values = t.next_values.now in
    record {
      registers = t.registers;
      width = c.requires.width;
      suits = c.requires.suits;
      ok = (values.small, values.rises);
      next_ok = (next_values.small, next_values.rises);
      packed = c.requires.covered.packed;
      fit = c.requires.fit;
      next_packed = c.requires.next_packed;
    }
