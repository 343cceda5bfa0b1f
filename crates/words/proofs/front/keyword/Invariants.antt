use Rattle.std.proofs.Common.{◌≡◌, ◌<◌, ℕ, get_or}
use Rattle.words.specs.declared.token.Keyword.TheVariants.{Module}
use Rattle.words.specs.Spelling.{capitals, keyword_text}
use Rattle.words.proofs.front.keyword.Given as goal

abbrev pub invariant-loop-keyword : goal.invariant-loop-keyword
invariant-loop-keyword l = (j : ℕ) → j < l.keyword-index → capitals l.bytes ≡ keyword_text (get_or l.keyword-items j Module) → ⊥
