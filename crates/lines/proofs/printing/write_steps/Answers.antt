use Rattle.std.proofs.Common.{length, ap}
use Rattle.control.specs.Databases.{rows_of}
use Rattle.lines.proofs.ValueParts.{steps_printed}
use Rattle.lines.proofs.printing.write_steps.Goals as goal

pub returns : goal.returns
returns c =
    steps_printed (rows_of c.args.design.now.rows) c.args.work.now c.args.design.now.usable c.requires.work c.args.at c.write_levels.result c.args.output.now c.write_levels.new.output
    c.all_bits-first.result (length c.rows.result.steps.now) c.write_levels.ensures c.all_bits-first.ensures (ap (λ rows. length rows.steps.now) c.rows.ensures)
