-- A part over signals that have the letters of the leaves 0 and 1. Assumes nothing.
use Rattle.std.proofs.Common.{◌≡◌, ℕ, List, arith}
use Rattle.level.specs.declared.letter.Letter.{Letter}
use Rattle.store.specs.declared.part.PartKind.{PartKind}
use Rattle.store.specs.Meaning.{at}
use Rattle.store.specs.Parts.{kind_letter, part_letter}
use Rattle.trial.specs.Trials.{first_of}

-- a part over signals that have the letters of the leaves has the letter of a part over these
pub over_leaves : (leaves signals : List Letter) (a b : ℕ) (kind : PartKind) → at signals a ≡ at leaves 0 → at signals b ≡ at leaves 1 → part_letter kind (first_of kind a) b leaves signals ≡ kind_letter kind (at leaves 0) (at leaves 0) (at leaves 1)
over_leaves leaves signals a b kind p q = grind arith
