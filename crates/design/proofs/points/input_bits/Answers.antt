use Rattle.std.proofs.Common.{◌∙◌}
use Rattle.control.specs.Databases.{rows_of}
use Rattle.design.proofs.BitCounts.{inputs}
use Rattle.design.proofs.points.input_bits.Goals as goal

pub returns : goal.returns
returns c = c.bits_before.ensures ∙ inputs (rows_of c.args.rows.now)
