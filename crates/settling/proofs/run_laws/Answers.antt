-- What the laws of runs say is proved in RunsLaws. Assumes nothing.
use Rattle.settling.proofs.UsableDatabases.{sound_is_usable}
use Rattle.settling.proofs.RunsFacts.{point_facts}
use Rattle.settling.proofs.RunsLaws.{one_run, known_stays, known_stays_opened}
use Rattle.settling.proofs.run_laws.Goals as goal

pub returns-clause-one : goal.returns-clause-one
returns-clause-one c = one_run sound_is_usable point_facts

pub returns-clause-stays : goal.returns-clause-stays
returns-clause-stays c = known_stays sound_is_usable point_facts

pub returns-clause-opened : goal.returns-clause-opened
returns-clause-opened c = known_stays_opened sound_is_usable point_facts
