use Rattle.text.proofs.Worked.{worked}
use Rattle.text.proofs.worked_texts.Goals as goal

pub returns : goal.returns
returns c = worked
