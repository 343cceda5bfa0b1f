use Rattle.std.proofs.Common.{length, ap, arith}
use Rattle.control.specs.Databases.{rows_of}
use Rattle.lines.specs.Cursors.{spaced_behind}
use Rattle.lines.proofs.NameRows.{none_left}
use Rattle.lines.proofs.names.room_behind.Goals as goal

pub returns : goal.returns
returns c =
    let rows = ap (λ t. length t.symbols.now) c.rows.ensures in
    omega (arith, ap (λ names. length (spaced_behind names)) (none_left c.args.design.now.text.now (rows_of c.args.design.now.rows) c.args.class c.loop-index.index (omega arith)))
