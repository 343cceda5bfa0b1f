use Rattle.std.proofs.Common.{arith}
use Rattle.control.specs.Databases.{rows_of}
use Rattle.engine.specs.Promise.{both, is_short}
use Rattle.engine.proofs.Opens.{points_few}
use Rattle.engine.proofs.Calls.{long_tables, looked_called}
use Rattle.engine.proofs.engine.Engine.look.Goals as goal

pub returns-clause-answers : goal.returns-clause-answers
returns-clause-answers g c =
    let few = points_few (rows_of c.args.self.now.design.rows) c.args.self.now.design.usable in
    let long = long_tables c.args.held.now c.args.work.now c.in_ok-check_tables.ensures.long in
    looked_called g.L.Level (rows_of c.args.self.now.design.rows) c.args.held.now c.settle.new.work c.settle.ensures.settled
    (is_short (both c.args.held.now c.args.work.now)) c.in_ok-check_tables.ensures.long c.args.point c.index-work-point.result (omega arith) (omega (arith, c.settle.ensures.kept.length)) c.index-work-point.is
