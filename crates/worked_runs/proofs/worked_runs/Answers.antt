use Rattle.worked_runs.proofs.Worked.{worked}
use Rattle.worked_runs.proofs.worked_runs.Goals as goal

pub returns : goal.returns
returns c = worked
