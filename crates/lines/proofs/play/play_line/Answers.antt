use Rattle.std.proofs.Common.{length, ap, ◌∙◌, subst, arith}
use Rattle.std.proofs.lemmas.Bool.{le-ltb}
use Rattle.level.specs.contracts.ternary.TernaryLevel.TheImpl.{ghosts as ternary}
use Rattle.control.specs.Databases.{rows_of}
use Rattle.control.specs.Levels.{lane}
use Rattle.lines.specs.Cursors.{from_list}
use Rattle.lines.specs.Lines.{value_line, printed_letters, Printed}
use Rattle.lines.proofs.ValuePlays.{long_enough, line_played}
use Rattle.lines.proofs.play.play_line.Goals as goal

pub returns-clause-played : goal.returns-clause-played
returns-clause-played c =
    let d = rows_of c.args.engine.now.design.rows in
    let x = from_list c.in_ok-letters.letters in
    let w = lane ternary c.clock.new.work 0 in
    let read = rw c.in_ok-letters.ensures.ok_part at c.read_values.ensures.read in (
      long_enough (length c.args.held.now) (length c.args.work.now) (omega arith) (omega arith),
      record {
        wide = le-ltb (length c.args.output.now) 4096 (omega arith);
        driven = x;
        reads = read ∙ ap (λ design. value_line (rows_of design.rows) x) c.design.ensures;
        plays = line_played d c.args.engine.now.design.usable x (lane ternary c.args.held.now 0) (lane ternary c.drive_inputs.new.held 0) w (lane ternary c.clock.new.held 0)
            c.drive_inputs.ensures.driven c.clock.ensures.settled c.clock.ensures.clocked;
        printed = subst (λ design. Printed (printed_letters (rows_of design.rows) w) c.print_letters.result c.args.output.now c.print_letters.new.output) c.design-2.ensures c.print_letters.ensures;
      },
    )
