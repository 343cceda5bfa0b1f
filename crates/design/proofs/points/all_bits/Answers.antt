use Rattle.std.proofs.Common.{◌∙◌}
use Rattle.control.specs.Databases.{rows_of}
use Rattle.design.proofs.BitCounts.{all}
use Rattle.design.proofs.points.all_bits.Goals as goal

pub returns : goal.returns
returns c = c.bits_before.ensures ∙ all (rows_of c.args.rows.now) c.requires
