-- What the law says of names and of letters is proved in ShortLines. Assumes nothing.
use Rattle.fitting.proofs.ShortLines.{names_fit, letters_fit}
use Rattle.fitting.proofs.fitting_law.Goals as goal

pub returns-clause-names : goal.returns-clause-names
returns-clause-names c = names_fit

pub returns-clause-letters : goal.returns-clause-letters
returns-clause-letters c = letters_fit
