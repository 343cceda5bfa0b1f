use Rattle.least.proofs.Finds.{list_laws_lem}
use Rattle.least.proofs.list_laws.Goals as goal

pub returns : goal.returns
returns g c = list_laws_lem
