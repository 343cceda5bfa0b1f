use Rattle.control.specs.Databases.{rows_of}
use Rattle.lines.proofs.ValueParts.{symbol_printed}
use Rattle.lines.proofs.printing.write_symbol.Goals as goal

pub returns : goal.returns
returns c =
    symbol_printed (rows_of c.args.design.now.rows) c.args.work.now c.args.design.now.usable c.requires.work c.args.at c.write_levels-end.result c.args.output.now c.write_levels-end.new.output
    c.args.symbol c.points_of.result.start c.points_of.result.end c.write_byte.result c.write_byte.new.output c.write_levels-end.ensures c.write_byte.ensures
    c.requires.row c.points_of.ensures.start c.points_of.ensures.end
