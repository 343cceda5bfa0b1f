use Rattle.least.proofs.Leasts.{least_laws_lem}
use Rattle.least.proofs.least_laws.Goals as goal

pub returns : goal.returns
returns c = least_laws_lem
