use Rattle.grammar.proofs.Laws.{grammar_laws_lem}
use Rattle.grammar.proofs.grammar_laws.Goals as goal

pub returns : goal.returns
returns c = grammar_laws_lem
