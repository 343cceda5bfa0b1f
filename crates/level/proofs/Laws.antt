-- The laws of letters, for the proofs of crates above. Assumes nothing.
use Rattle.std.proofs.Common.{rules}
use Rattle.level.specs.Laws.{LetterLaws}

pub letter_laws_lem : LetterLaws
letter_laws_lem = search rules
