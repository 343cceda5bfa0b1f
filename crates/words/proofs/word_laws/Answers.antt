use Rattle.words.proofs.Laws.{word_laws_lem}
use Rattle.words.proofs.word_laws.Goals as goal

pub returns : goal.returns
returns c = word_laws_lem
