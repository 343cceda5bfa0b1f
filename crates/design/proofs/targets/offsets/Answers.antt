use Rattle.std.proofs.Common.{refl, arith}
use Rattle.std.proofs.lemmas.List.{get_or-replicate}
use Rattle.control.specs.Databases.{rows_of}
use Rattle.design.proofs.Bounds.{bounded}
use Rattle.design.proofs.Takings.{none_taken, room, taken_turn}
use Rattle.design.proofs.targets.offsets.Goals as goal

pub loop-index-init : goal.loop-index-init
loop-index-init c = none_taken (rows_of c.args.rows.now) _ _ refl refl (λ s h. get_or-replicate 256 s 0 0 h)

pub bits_of-requires-clause-forward : goal.bits_of-requires-clause-forward
bits_of-requires-clause-forward c = (bounded (rows_of c.args.rows.now) c.requires c.loop-index.index c.loop-index-test.true).forward

pub bits_of-requires-clause-few : goal.bits_of-requires-clause-few
bits_of-requires-clause-few c = let b = bounded (rows_of c.args.rows.now) c.requires c.loop-index.index c.loop-index-test.true in omega arith

pub take-requires-clause-there : goal.take-requires-clause-there
take-requires-clause-there c =
    let b = bounded (rows_of c.args.rows.now) c.requires c.loop-index.index c.loop-index-test.true in
    let long = c.loop-index.invariant.statements in
    (b.first_statement, omega arith)

pub take-requires-clause-few : goal.take-requires-clause-few
take-requires-clause-few c =
    omega (arith, c.bits_of.ensures, room (rows_of c.args.rows.now) c.requires c.loop-index.index c.loop-index-test.true c.loop-index.offsets c.loop-index.taken c.loop-index.invariant)

pub loop-index-preserved : goal.loop-index-preserved
loop-index-preserved c =
    taken_turn (rows_of c.args.rows.now) c.requires c.loop-index.index c.loop-index-test.true c.loop-index.offsets c.loop-index.taken c.loop-index.invariant
    c.take.result c.bits_of.result c.take.new.taken c.bits_of.ensures c.take.ensures.first c.take.ensures.behind
