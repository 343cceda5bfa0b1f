use Rattle.std.proofs.Common.{◌+◌, ◌-◌, ◌≤◌, length, vec_len, vec_capacity}
use Rattle.control.specs.Databases.{rows_of}
use Rattle.engine.specs.Promise.{both}
use Rattle.engine.proofs.Plays.{Playing}
use Rattle.engine.proofs.engine.Engine.play.Given as goal

abbrev pub invariant-loop-call : goal.invariant-loop-call
invariant-loop-call g l = record {
  playing : Playing g.L.Level (rows_of l.self.design.rows) l.calls l.fn.answers.items (both l.fn.held l.fn.work) l.call-index l.answers.items (both l.held l.work);
  room : vec_len l.answers + (length l.calls - l.call-index) ≤ vec_capacity l.answers;
}
