use Rattle.std.proofs.Common.{length}
use Rattle.control.specs.Databases.{rows_of}
use Rattle.settling.proofs.UsableDatabases.{sound_is_usable}
use Rattle.design.proofs.HeldRows.{none_held, rows_held}
use Rattle.design.proofs.design.Design.new.Goals as goal

pub returns-then-not-is_sound-clause-refused : goal.returns-then-not-is_sound-clause-refused
returns-then-not-is_sound-clause-refused c = none_held (length c.args.text.now) (rows_of c.rows_in_use-rows.result) (rows_of c.args.tables) c.rows_in_use-rows.ensures.hold c.rows_in_use-rows.ensures.ends c.if-not-is_sound.ensures

pub of-places-requires : goal.of-places-requires
of-places-requires c = sound_is_usable (length c.args.text.now) (rows_of c.rows_in_use-rows.result) c.if-not-is_sound.ensures

pub invariant_of-result : goal.invariant_of-result
invariant_of-result c = record {
  sound = ∣ c.if-not-is_sound.ensures ∣₁;
  usable = sound_is_usable (length c.args.text.now) (rows_of c.rows_in_use-rows.result) c.if-not-is_sound.ensures;
  placed = c.of-places.ensures;
}

pub returns-clause-same : goal.returns-clause-same
returns-clause-same c = rows_held (length c.args.text.now) (rows_of c.rows_in_use-rows.result) (rows_of c.args.tables) c.rows_in_use-rows.ensures.hold c.rows_in_use-rows.ensures.ends
