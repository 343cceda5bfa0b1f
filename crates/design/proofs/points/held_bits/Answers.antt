use Rattle.std.proofs.Common.{◌∙◌}
use Rattle.control.specs.Databases.{rows_of}
use Rattle.design.proofs.BitCounts.{held}
use Rattle.design.proofs.points.held_bits.Goals as goal

pub returns : goal.returns
returns c = c.bits_before.ensures ∙ held (rows_of c.args.rows.now)
