use Rattle.rules.proofs.Bits.{strings_say}
use Rattle.rules.proofs.string_law.Goals as goal

pub returns : goal.returns
returns c = strings_say
