use Rattle.std.proofs.Common.{◌-◌, refl, arith}
use Rattle.std.proofs.lemmas.List.{get_or-replicate}
use Rattle.control.specs.Databases.{rows_of}
use Rattle.design.proofs.Bounds.{bounded}
use Rattle.design.proofs.Namings.{none_linked, linked_turn}
use Rattle.design.proofs.targets.chains.Goals as goal

pub loop-index-init : goal.loop-index-init
loop-index-init c = none_linked (rows_of c.args.rows.now) _ _ refl refl (λ s h. get_or-replicate 64 s 0 0 h)

pub put_first-requires : goal.put_first-requires
put_first-requires c =
    let b = bounded (rows_of c.args.rows.now) c.requires (c.loop-index.index - 1) (omega arith) in
    let long = c.loop-index.invariant.symbols in
    (b.first_symbol, omega arith)

pub loop-index-preserved : goal.loop-index-preserved
loop-index-preserved c =
    linked_turn (rows_of c.args.rows.now) c.requires c.loop-index.index c.loop-index-test.true c.loop-index.auto.index c.loop-index.firsts c.loop-index.nexts c.loop-index.invariant
    c.put_first.result c.put_first.new.firsts c.put_first.ensures.next c.put_first.ensures.first
