use Rattle.text.proofs.Laws.{read_laws_lem}
use Rattle.text.proofs.read_laws.Goals as goal

pub returns : goal.returns
returns c = read_laws_lem
