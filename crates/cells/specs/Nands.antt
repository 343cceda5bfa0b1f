-- The cells of the NAND table. Assumes nothing.
use Rattle.std.specs.Prelude.{ℕ, Bool, false, ◌||◌, List, nat_le}
use Rattle.level.specs.declared.letter.Letter.{Letter}
use Rattle.level.specs.Letters.{zero_l, one_l, not_l, and_l}
use Rattle.store.specs.Meaning.{at}
use Rattle.cells.specs.declared.nand.NandCell.{NandCell}
use Rattle.cells.specs.declared.nand.NandCell.TheVariants.{Zero, One, Leaf, Nand}

-- NAND is NOT of AND
abbrev pub nand_l : Letter → Letter → Letter
nand_l a b = not_l (and_l a b)

-- the letter of a cell
abbrev pub nand_letter : NandCell → List Letter → List Letter → Letter
nand_letter Zero leaves before = zero_l
nand_letter One leaves before = one_l
nand_letter (Leaf n) leaves before = at leaves n
nand_letter (Nand a b) leaves before = nand_l (at before a) (at before b)

-- whether it names what is not there
abbrev pub nand_dangles : ℕ → NandCell → Bool
nand_dangles n Zero = false
nand_dangles n One = false
nand_dangles n (Leaf k) = nat_le 1088 k
nand_dangles n (Nand a b) = nat_le n a || nat_le n b
