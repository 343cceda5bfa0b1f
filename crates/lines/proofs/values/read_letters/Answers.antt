use Rattle.std.proofs.Common.{arith}
use Rattle.lines.proofs.ValueReads.{letter_there}
use Rattle.lines.proofs.values.read_letters.Goals as goal

pub returns-in_err-letters-clause-wrong : goal.returns-in_err-letters-clause-wrong
returns-in_err-letters-clause-wrong c =
    rw c.from_residual-in_err-letters.ensures
    (λ word rest same stands.
    let there = letter_there c.args.line.now c.args.at word rest stands c.loop-i.i (omega arith) in
    let character = c.in_ok-get.ensures.lookup.3.1 0 in
    let none = c.in_err-letters.was in
    cc)
