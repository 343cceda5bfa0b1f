use Rattle.std.proofs.Common.{rules, arith}
use Rattle.control.specs.Databases.{rows_of}
use Rattle.engine.specs.Promise.{both, is_short}
use Rattle.engine.proofs.Calls.{input_room, driven_only, driven_called}
use Rattle.engine.proofs.engine.Engine.drive.Goals as goal

pub bounds-held-input : goal.bounds-held-input
bounds-held-input g c = input_room c.args.held.now c.args.work.now (rows_of c.args.self.now.design.rows) c.args.input c.args.self.now.design.usable c.in_ok-check_tables.ensures.long (omega arith)

pub offset_bounds-held-input : goal.offset_bounds-held-input
offset_bounds-held-input g c =
    let room = input_room c.args.held.now c.args.work.now (rows_of c.args.self.now.design.rows) c.args.input c.args.self.now.design.usable c.in_ok-check_tables.ensures.long (omega arith) in
    search rules

pub returns-clause-answers : goal.returns-clause-answers
returns-clause-answers g c =
    let room = input_room c.args.held.now c.args.work.now (rows_of c.args.self.now.design.rows) c.args.input c.args.self.now.design.usable c.in_ok-check_tables.ensures.long (omega arith) in
    driven_called g.L.Level (rows_of c.args.self.now.design.rows) c.args.held.now c.args.input c.args.level (omega arith) room
    (is_short (both c.args.held.now c.args.work.now)) c.in_ok-check_tables.ensures.long

pub returns-clause-rows : goal.returns-clause-rows
returns-clause-rows g c =
    let room = input_room c.args.held.now c.args.work.now (rows_of c.args.self.now.design.rows) c.args.input c.args.self.now.design.usable c.in_ok-check_tables.ensures.long (omega arith) in
    driven_only g.L.Level (rows_of c.args.self.now.design.rows) c.args.held.now c.args.input c.args.level (omega arith) room
