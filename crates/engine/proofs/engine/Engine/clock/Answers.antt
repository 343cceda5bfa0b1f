use Rattle.control.specs.Databases.{rows_of}
use Rattle.engine.specs.Promise.{both, is_short}
use Rattle.engine.proofs.Calls.{clocked_called}
use Rattle.engine.proofs.engine.Engine.clock.Goals as goal

pub returns-clause-answers : goal.returns-clause-answers
returns-clause-answers g c =
    let filled = c.in_ok-fill.ensures.filled in
    clocked_called g.L.Level (rows_of c.args.self.now.design.rows) c.args.held.now c.fill.new.work filled.1.settled
    (is_short (both c.args.held.now c.args.work.now)) filled.0 c.load.new.held c.load.ensures.follows
