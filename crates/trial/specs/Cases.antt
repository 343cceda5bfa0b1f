-- What a case is printed as. Assumes nothing.
use Rattle.std.specs.Prelude.{ℕ, List, [], ◌∷◌, ◌++◌, codes}
use Rattle.level.specs.declared.letter.Letter.{Letter}
use Rattle.level.specs.Letters.{symbol_of}
use Rattle.store.specs.declared.part.PartKind.{PartKind}
use Rattle.store.specs.declared.part.PartKind.TheVariants.{Zero, One, Leaf, Not, And, Or, Xor}
use Rattle.store.specs.Parts.{kind_name}
use Rattle.trial.specs.declared.Case.{Case}

-- a letter, with a space before it
abbrev pub spaced : Letter → List ℕ
spaced x = codes " " ++ symbol_of x ∷ []

-- the letters that a part of this kind takes, as they are printed
abbrev pub operands_text : PartKind → Letter → Letter → List ℕ
operands_text Zero a b = []
operands_text One a b = []
operands_text Leaf a b = spaced a
operands_text Not a b = spaced a
operands_text And a b = spaced a ++ spaced b
operands_text Or a b = spaced a ++ spaced b
operands_text Xor a b = spaced a ++ spaced b

-- the part's name and its letters
abbrev pub case_text : Case → List ℕ
case_text c = kind_name c.kind ++ operands_text c.kind c.a c.b
