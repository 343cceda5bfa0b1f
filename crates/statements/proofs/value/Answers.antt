use Rattle.std.proofs.Common.{arith}
use Rattle.statements.proofs.value.Goals as goal

pub returns-clause-room : goal.returns-clause-room
returns-clause-room c = λ limit slack r.
    let forward = c.in_ok-expression.ensures.forward in
    record {
      items = (omega (arith, forward, r.items.0), r.items.1);
      steps = (omega (arith, forward, r.steps.0), r.steps.1);
      statements = (omega (arith, forward, r.statements.0, c.in_ok-push.ensures.upper_bound), omega (arith, r.statements.1, c.in_ok-push.ensures.capacity));
      targets = (omega (arith, forward, r.targets.0), r.targets.1);
      exits = (omega (arith, forward, r.exits.0), r.exits.1);
      resets = (omega (arith, forward, r.resets.0), r.resets.1);
      terms = c.in_ok-expression.ensures.room limit slack r.terms;
    }
