use Rattle.std.proofs.Common.{length, sym, ap, ◌∙◌, arith}
use Rattle.level.specs.contracts.ternary.TernaryLevel.TheImpl.{ghosts as ternary}
use Rattle.control.specs.Databases.{rows_of}
use Rattle.control.specs.Levels.{lane}
use Rattle.lines.proofs.ValuePrints.{symbol_room, symbol_shown, symbol_passed, class_shown}
use Rattle.lines.proofs.printing.write_class.Goals as goal
use Rattle.lines.proofs.printing.write_class.Goals.{then-is_of_class, else-is_of_class}

pub write_symbol-end-requires-clause-room : goal.write_symbol-end-requires-clause-room
write_symbol-end-requires-clause-room c =
    let rows = ap (λ r. length r.symbols.now) c.rows.ensures in
    let room = symbol_room (rows_of c.args.design.now.rows) (lane ternary c.args.work.now 0) c.args.class c.args.design.now.usable
    c.args.at c.loop-symbol.end (length c.args.output.now) c.loop-symbol.symbol c.args.output.now c.loop-symbol.output
    (omega arith, omega arith) (sym c.is_of_class.ensures ∙ c.if-is_of_class.true) c.requires.room c.loop-symbol.invariant in
    omega arith

pub loop-symbol-preserved : goal.loop-symbol-preserved
loop-symbol-preserved c =
    let d = rows_of c.args.design.now.rows in
    let w = lane ternary c.args.work.now 0 in
    elim c.if-is_of_class.branch [
      | then-is_of_class v ↦ rw (v.end-is, v.output-is)
          (symbol_shown d w c.args.class c.args.at c.loop-symbol.end c.args.output.now c.loop-symbol.output c.loop-symbol.symbol (omega arith) c.loop-symbol.invariant
          v.write_symbol-end.result v.write_symbol-end.new.output (sym c.is_of_class.ensures ∙ v.if-is_of_class.true) v.write_symbol-end.ensures)
      | else-is_of_class v ↦ rw (v.end-is, v.output-is)
          (symbol_passed d w c.args.class c.args.at c.loop-symbol.end c.args.output.now c.loop-symbol.output c.loop-symbol.symbol (omega arith) c.loop-symbol.invariant
          (sym c.is_of_class.ensures ∙ v.if-is_of_class.false))
    ]

pub returns : goal.returns
returns c =
    let rows = ap (λ r. length r.symbols.now) c.rows.ensures in
    class_shown (rows_of c.args.design.now.rows) (lane ternary c.args.work.now 0) c.args.class
    c.args.at c.loop-symbol.end c.args.output.now c.loop-symbol.output c.loop-symbol.symbol (omega arith) c.loop-symbol.invariant (omega arith)
