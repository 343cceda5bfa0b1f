use Rattle.std.proofs.Common.{refl, ap, sym, subst}
use Rattle.control.specs.declared.calls.Call.TheVariants.{Open, Drive, Clock, Reset, Look}
use Rattle.control.specs.Databases.{rows_of}
use Rattle.engine.specs.Promise.{both, Made}
use Rattle.engine.proofs.Makes.{made_look, made_plain, made_as, if_err, if_ok, ok_then}
use Rattle.engine.proofs.engine.Engine.make.Goals.{in-Open, in-Drive, in-Clock, in-Reset}
use Rattle.engine.proofs.engine.Engine.make.Goals as goal

pub returns-in-Look-clause-made : goal.returns-in-Look-clause-made
returns-in-Look-clause-made g c =
    let d = rows_of c.args.self.now.design.rows in
    let held = c.args.held.now in
    let work = c.args.work.now in
    subst (λ call. Made g.L.Level d call c.told.result (both held work) (both held c.look.new.work)) (sym c.in-Look.is)
    (subst (λ answer. Made g.L.Level d (Look c.in-Look.point) answer (both held work) (both held c.look.new.work)) (sym c.told.ensures)
    (made_look g.L.Level d c.in-Look.point c.look.result held work c.look.new.work c.look.ensures.refusal c.look.ensures.answers c.look.ensures.left c.look.ensures.filled))

pub returns-clause-made : goal.returns-clause-made
returns-clause-made g c =
    let d = rows_of c.args.self.now.design.rows in
    let old = both c.args.held.now c.args.work.now in
    let work = c.args.work.now in
    elim c.match-call.branch [
      | in-Open w ↦
          let r = w.open-done in
          made_as g.L.Level d old w.in-Open.is c.answered.ensures w.done-is w.held-is w.work-is
          (made_plain g.L.Level d (Open w.in-Open.starts) r.result old (both r.new.held work) r.ensures.refusal r.ensures.answers
          (if_err r.result (ap (λ held. both held work)) r.ensures.left) (if_ok r.result (λ u. (refl, refl))) r.ensures.rows)
      | in-Drive w ↦
          let r = w.drive-done in
          made_as g.L.Level d old w.in-Drive.is c.answered.ensures w.done-is w.held-is w.work-is
          (made_plain g.L.Level d (Drive w.in-Drive.input w.in-Drive.level) r.result old (both r.new.held work) r.ensures.refusal r.ensures.answers
          (if_err r.result (ap (λ held. both held work)) r.ensures.left) (if_ok r.result (λ u. (refl, refl))) r.ensures.rows)
      | in-Clock w ↦
          let r = w.clock-done in
          made_as g.L.Level d old w.in-Clock.is c.answered.ensures w.done-is w.held-is w.work-is
          (made_plain g.L.Level d Clock r.result old (both r.new.held r.new.work) r.ensures.refusal r.ensures.answers
          r.ensures.left (ok_then r.result (λ filled. (refl, filled)) r.ensures.filled) r.ensures.rows)
      | in-Reset w ↦
          let r = w.reset-done in
          made_as g.L.Level d old w.in-Reset.is c.answered.ensures w.done-is w.held-is w.work-is
          (made_plain g.L.Level d Reset r.result old (both r.new.held work) r.ensures.refusal r.ensures.answers
          (if_err r.result (ap (λ held. both held work)) r.ensures.left) (if_ok r.result (λ u. (refl, refl))) r.ensures.rows)
    ]
