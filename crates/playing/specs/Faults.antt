-- What the user is told where no call is played. Assumes nothing.
use Rattle.std.specs.Prelude.{ℕ, List, codes}
use Rattle.fault.specs.declared.Refusal.{Refusal}
use Rattle.level.specs.Faults.{bench_refusal}
use Rattle.text.specs.Faults.{read_told, fault_line as read_line}
use Rattle.playing.specs.declared.faults.PlayFault.{PlayFault}
use Rattle.playing.specs.declared.faults.PlayFault.TheVariants.{OutOfMemory, Read}

-- number, place and layer of each case
abbrev pub play_told : PlayFault → Refusal
play_told OutOfMemory = bench_refusal 0
play_told (Read fault) = read_told fault

-- what is printed of each case
abbrev pub fault_line : PlayFault → List ℕ
fault_line OutOfMemory = codes "no memory for the answers"
fault_line (Read fault) = read_line fault
