use Rattle.settling.proofs.UsableDatabases.{sound_is_usable}
use Rattle.settling.proofs.usable_law.Goals as goal

pub returns : goal.returns
returns c = sound_is_usable
