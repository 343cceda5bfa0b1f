use Rattle.control.specs.Databases.{rows_of}
use Rattle.engine.proofs.NextLoads.{loaded_follows}
use Rattle.engine.proofs.clock.load.Goals as goal

pub returns-clause-follows : goal.returns-clause-follows
returns-clause-follows g c =
    let design = c.args.design.now in
    loaded_follows g.L.Level (rows_of design.rows) c.args.work.now c.args.held.now c.load_registers.new.held c.load_steps.new.held design.usable
    c.load_registers.ensures.loads c.load_steps.ensures.loads
