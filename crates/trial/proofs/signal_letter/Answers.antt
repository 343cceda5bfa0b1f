use Rattle.std.proofs.Common.{◌≡◌, ◌≤◌, length, get_or, ap, ◌∙◌, arith, lit<}
use Rattle.std.proofs.lemmas.List.{get_or-take, get_or_append_left}
use Rattle.level.specs.contracts.ternary.TernaryLevel.TheImpl.{ghosts as ternary}
use Rattle.store.specs.Meaning.{at}
use Rattle.store.proofs.Columns.{at_front}
use Rattle.trial.proofs.signal_letter.Goals as goal

pub returns : goal.returns
returns g c =
    let signal = c.args.signal in
    let work = c.settle.new.work in
    let level = c.index.result.now in
    let size = (g.S.Store.means c.args.store.now).size in
    let table : size ≤ c.in_ok-work.work.len = omega (arith, c.in_ok-work.ensures.len, c.count.ensures) in
    let rows : size ≤ length work = omega (arith, table, c.settle.auto.work, c.deref_mut.ensures.len) in
    let read : level ≡ get_or work signal level = c.index.ensures ∙ get_or-take _ _ signal level (omega (arith, table)) ∙ get_or_append_left work _ level signal (omega (arith, rows)) in
    c.in_ok-letter.ensures.1
    ∙ at_front ternary 0 work signal level size c.requires.there rows read
    ∙ ap (λ y. at y signal) (c.in_ok-settle.ensures.lanewise 0 (lit< tt))
