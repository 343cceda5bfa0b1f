use Rattle.std.proofs.Common.{◌<◌, ◌||◌, nat_lt, length, ap, ◌∙◌, subst, arith}
use Rattle.std.proofs.lemmas.List.{get_or_default}
use Rattle.level.specs.declared.letter.Letter.TheVariants.{Unknown}
use Rattle.level.specs.contracts.ternary.TernaryLevel.TheImpl.{ghosts as ternary}
use Rattle.control.specs.Databases.{rows_of}
use Rattle.control.specs.Points.{most_points, working_rows, input_bits}
use Rattle.control.specs.Rules.{WasDriven}
use Rattle.control.specs.Levels.{lane, HeldRow}
use Rattle.lines.specs.Cursors.{from_list}
use Rattle.engine.specs.Promise.{both, is_short}
use Rattle.lines.proofs.ValuePlays.{few_inputs, drive_done, drives_more, only_in_twice}
use Rattle.lines.proofs.play.drive_inputs.Goals as goal

pub bounds-letters-input : goal.bounds-letters-input
bounds-letters-input c =
    let few = few_inputs (rows_of c.args.engine.now.design.rows) c.args.engine.now.design.usable in
    let end = c.input_bits-input-end.ensures ∙ ap (λ design. input_bits (rows_of design.rows)) c.design.ensures in
    omega arith

pub loop-input-preserved : goal.loop-input-preserved
loop-input-preserved c =
    let d = rows_of c.args.engine.now.design.rows in
    let x = from_list c.args.letters.now in
    let n = c.loop-input.input in
    let old = lane ternary c.args.held.now 0 in
    let mid = lane ternary c.loop-input.held 0 in
    let new = lane ternary c.drive.new.held 0 in
    let few = few_inputs d c.args.engine.now.design.usable in
    let end = c.input_bits-input-end.ensures ∙ ap (λ design. input_bits (rows_of design.rows)) c.design.ensures in
    let known = c.told-letters in
    let long = ap (λ rows. nat_lt rows most_points || nat_lt (length c.args.work.now) working_rows) c.loop-input.auto.held ∙ c.requires.long in
    let there : n < length c.args.letters.now = omega arith in
    let driven = drive_done d (is_short (both c.loop-input.held c.args.work.now)) mid new n _ _ long (omega arith) (c.drive.ensures.answers 0 (omega arith)) in
    record {
      driven = drives_more n x old mid new c.loop-input.invariant.driven (subst (λ letter. WasDriven n letter mid new) (get_or_default c.args.letters.now n _ Unknown there) driven);
      rows = only_in_twice (HeldRow d) c.args.held.now c.loop-input.held c.drive.new.held c.loop-input.invariant.rows c.drive.ensures.rows;
    }
