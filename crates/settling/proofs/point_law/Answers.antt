use Rattle.settling.proofs.PointLists.{points_in_order}
use Rattle.settling.proofs.point_law.Goals as goal

pub returns : goal.returns
returns c = points_in_order
