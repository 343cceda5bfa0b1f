-- What the refusals of a level are told as. Assumes nothing.
use Rattle.std.specs.Prelude.{ℕ}
use Rattle.fault.specs.declared.Refusal.{Refusal}
use Rattle.fault.specs.Print.{layer_refusal}
use Rattle.fault.specs.declared.Layer.TheVariants.{Bench}
use Rattle.level.specs.declared.faults.LevelFault.{LevelFault}
use Rattle.level.specs.declared.faults.LevelFault.TheVariants.{NoSuchLane}

-- a refusal of the bench's layer, which has no place in the text
abbrev pub bench_refusal : ℕ → Refusal
bench_refusal = layer_refusal Bench

abbrev pub level_told : LevelFault → Refusal
level_told NoSuchLane = bench_refusal 25
