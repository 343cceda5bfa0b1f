-- What the refusals of the engine are told as. Assumes nothing.
use Rattle.fault.specs.declared.Refusal.{Refusal}
use Rattle.level.specs.Faults.{bench_refusal}
use Rattle.engine.specs.declared.faults.EngineFault.{EngineFault}
use Rattle.engine.specs.declared.faults.EngineFault.TheVariants.{Unsound, ShortTable, Missing}

abbrev pub engine_told : EngineFault → Refusal
engine_told Unsound = bench_refusal 18
engine_told ShortTable = bench_refusal 23
engine_told Missing = bench_refusal 25
