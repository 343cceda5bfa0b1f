-- The letters 0, 1 and X, the operations on them, and the letters that bits stand for. Assumes nothing.
use Rattle.std.specs.Prelude.{ℕ, Bool, true, false, cond, ◌==◌}
use Rattle.std.specs.Int.{bit_at}
use Rattle.level.specs.declared.letter.Letter.{Letter}
use Rattle.level.specs.declared.letter.Letter.TheVariants.{Zero, One, Unknown}

abbrev pub zero_l : Letter
zero_l = Zero

abbrev pub one_l : Letter
one_l = One

-- NOT swaps 0 and 1 and keeps X
abbrev pub not_l : Letter → Letter
not_l Zero = One
not_l One = Zero
not_l Unknown = Unknown

-- AND is 0 if a side is 0, 1 if both are 1, else X
abbrev pub and_l : Letter → Letter → Letter
and_l Zero b = Zero
and_l One b = b
and_l Unknown Zero = Zero
and_l Unknown One = Unknown
and_l Unknown Unknown = Unknown

-- OR is 1 if a side is 1, 0 if both are 0, else X
abbrev pub or_l : Letter → Letter → Letter
or_l One b = One
or_l Zero b = b
or_l Unknown One = One
or_l Unknown Zero = Unknown
or_l Unknown Unknown = Unknown

-- XOR is X if a side is X, else 1 where they differ
abbrev pub xor_l : Letter → Letter → Letter
xor_l Unknown b = Unknown
xor_l Zero b = b
xor_l One b = not_l b

-- the character that stands for a letter: `0`, `1`, `X`
abbrev pub symbol_of : Letter → ℕ
symbol_of Zero = 48
symbol_of One = 49
symbol_of Unknown = 88

-- the letter of a truth value
abbrev pub bool_letter : Bool → Letter
bool_letter true = One
bool_letter false = Zero

-- the letter of a bit that is 0 or 1
abbrev pub bit_letter : ℕ → Letter
bit_letter n = cond (n == 1) One Zero

-- the letter of a lane of a word: its bit k
abbrev pub lane_letter : ℕ → ℕ → Letter
lane_letter word k = bit_letter (bit_at word k)
