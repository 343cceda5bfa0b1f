-- What the refusals of lines are told as. Assumes nothing.
use Rattle.fault.specs.declared.Refusal.{Refusal}
use Rattle.level.specs.Faults.{bench_refusal}
use Rattle.lines.specs.declared.faults.LineFault.{LineFault}
use Rattle.lines.specs.declared.faults.LineFault.TheVariants.{ShortTable, ShortOutput, WrongNames, WrongValues}

abbrev pub line_told : LineFault → Refusal
line_told ShortTable = bench_refusal 23
line_told ShortOutput = bench_refusal 26
line_told WrongNames = bench_refusal 27
line_told WrongValues = bench_refusal 28
