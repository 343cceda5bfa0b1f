use Rattle.soundness.proofs.Rows.{laid}
use Rattle.soundness.proofs.Names.{names_within}
use Rattle.soundness.proofs.layout_law.Goals as goal

pub returns : goal.returns
returns c = (laid, names_within)
