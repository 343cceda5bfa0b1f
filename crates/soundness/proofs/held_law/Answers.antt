use Rattle.soundness.proofs.Held.{one_held}
use Rattle.soundness.proofs.held_law.Goals as goal

pub returns : goal.returns
returns c = one_held
