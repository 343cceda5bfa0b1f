-- What the law says, AcceptedAreSound, is proved in Sound. Assumes nothing.
use Rattle.soundness.proofs.Sound.{accepted_are_sound}
use Rattle.soundness.proofs.soundness_law.Goals as goal

pub returns : goal.returns
returns c = accepted_are_sound
