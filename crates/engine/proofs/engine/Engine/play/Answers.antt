use Rattle.std.proofs.Common.{◌+◌, rules, sym, arith, subst}
use Rattle.control.specs.Databases.{rows_of}
use Rattle.settling.proofs.UsableDatabases.{sound_is_usable}
use Rattle.settling.proofs.RunsFacts.{point_facts}
use Rattle.settling.proofs.RunsLaws.{one_run, known_stays, known_stays_opened}
use Rattle.engine.specs.Promise.{both}
use Rattle.engine.proofs.Plays.{Playing, none_played, more_played, all_made, all_played, all_before}
use Rattle.engine.proofs.engine.Engine.play.Goals as goal

pub loop-call-init : goal.loop-call-init
loop-call-init g c = record {
  playing = subst (λ answers. Playing g.L.Level (rows_of c.args.self.now.design.rows) c.args.calls.now c.args.answers.now.items (both c.args.held.now c.args.work.now) 0 answers (both c.args.held.now c.args.work.now))
      (sym c.try_reserve.ensures.items)
      (none_played g.L.Level (rows_of c.args.self.now.design.rows) c.args.calls.now c.args.answers.now.items (both c.args.held.now c.args.work.now));
  room = search rules;
}

pub loop-call-preserved : goal.loop-call-preserved
loop-call-preserved g c = record {
  playing = subst (λ answers. Playing g.L.Level (rows_of c.args.self.now.design.rows) c.args.calls.now c.args.answers.now.items (both c.args.held.now c.args.work.now) (c.loop-call.call-index + 1) answers (both c.make.new.held c.make.new.work))
      (sym c.push_reserved.ensures.items)
      (more_played g.L.Level (rows_of c.args.self.now.design.rows) c.args.calls.now c.args.answers.now.items (both c.args.held.now c.args.work.now)
      c.loop-call.call-index c.loop-call.answers.items (both c.loop-call.held c.loop-call.work) (both c.make.new.held c.make.new.work) c.call-item.result c.make.result
      (omega arith) c.call-item.is c.loop-call.invariant.playing c.make.ensures.made c.make.ensures.work);
  room = omega (arith, c.loop-call.invariant.room);
}

pub push_reserved-requires : goal.push_reserved-requires
push_reserved-requires g c = omega (arith, c.loop-call.invariant.room)

pub returns-clause-made : goal.returns-clause-made
returns-clause-made g c =
    all_made g.L.Level (rows_of c.args.self.now.design.rows) c.args.calls.now c.args.answers.now.items (both c.args.held.now c.args.work.now)
    _ c.loop-call.call-index c.loop-call.answers.items (both c.loop-call.held c.loop-call.work) c.args.answers.now.ok.0 (omega arith) c.loop-call.invariant.playing

pub returns-clause-played : goal.returns-clause-played
returns-clause-played g c =
    all_played g.L.Level (rows_of c.args.self.now.design.rows) c.args.calls.now c.args.answers.now.items (both c.args.held.now c.args.work.now)
    _ c.loop-call.call-index c.loop-call.answers.items (both c.loop-call.held c.loop-call.work) c.args.answers.now.ok.0 (omega arith) c.loop-call.invariant.playing

pub returns-clause-before : goal.returns-clause-before
returns-clause-before g c =
    all_before g.L.Level (rows_of c.args.self.now.design.rows) c.args.calls.now c.args.answers.now.items (both c.args.held.now c.args.work.now)
    _ c.loop-call.call-index c.loop-call.answers.items (both c.loop-call.held c.loop-call.work) c.args.answers.now.ok.0 (omega arith) c.loop-call.invariant.playing

pub returns-clause-held : goal.returns-clause-held
returns-clause-held g c = c.loop-call.invariant.playing.held

pub returns-clause-work : goal.returns-clause-work
returns-clause-work g c = c.loop-call.invariant.playing.work

pub returns-in_err-try_reserve-clause-one : goal.returns-in_err-try_reserve-clause-one
returns-in_err-try_reserve-clause-one g c = one_run sound_is_usable point_facts

pub returns-in_err-try_reserve-clause-stays : goal.returns-in_err-try_reserve-clause-stays
returns-in_err-try_reserve-clause-stays g c = known_stays sound_is_usable point_facts

pub returns-in_err-try_reserve-clause-opened : goal.returns-in_err-try_reserve-clause-opened
returns-in_err-try_reserve-clause-opened g c = known_stays_opened sound_is_usable point_facts

pub returns-clause-one : goal.returns-clause-one
returns-clause-one g c = one_run sound_is_usable point_facts

pub returns-clause-stays : goal.returns-clause-stays
returns-clause-stays g c = known_stays sound_is_usable point_facts

pub returns-clause-opened : goal.returns-clause-opened
returns-clause-opened g c = known_stays_opened sound_is_usable point_facts
