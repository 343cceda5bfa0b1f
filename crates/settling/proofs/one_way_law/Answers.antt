-- What the law says, OneWay, is proved in RunsLaws. Assumes nothing.
use Rattle.settling.proofs.UsableDatabases.{sound_is_usable}
use Rattle.settling.proofs.RunsFacts.{point_facts}
use Rattle.settling.proofs.RunsLaws.{one_way}
use Rattle.settling.proofs.one_way_law.Goals as goal

pub returns : goal.returns
returns c = one_way sound_is_usable point_facts
