use Rattle.std.proofs.Common.{arith}
use Rattle.drafts.specs.Parsed.{longest_text}
use Rattle.drafts.proofs.read_text.Goals as goal

pub returns-clause-memory : goal.returns-clause-memory
returns-clause-memory c = λ tokens rows. (
  omega (arith, tokens, c.read_tokens.ensures.reserved),
  c.read_module.ensures.memory longest_text (omega (arith, c.if-text-gt-LONGEST_TEXT.false, c.deref.ensures.len, c.in_ok-read_tokens.ensures.few)) rows,
)
