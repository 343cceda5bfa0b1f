-- No keyword is left. Assumes nothing.
use Rattle.std.proofs.Common.{arith}
use Rattle.words.proofs.Keywords.{no_keyword}
use Rattle.words.proofs.front.keyword.Goals as goal

pub returns : goal.returns
returns c = no_keyword c.args.bytes.now (λ j h. c.loop-keyword.invariant j (omega arith))
