-- X may become 0 or 1, and a known letter stays. Assumes nothing.
use Rattle.std.specs.Prelude.{◌≡◌}
use Rattle.level.specs.declared.letter.Letter.{Letter}
use Rattle.level.specs.declared.letter.Letter.TheVariants.{Zero, One, Unknown}

-- b is a, or a is X
abbrev pub MayBecome : Letter → Letter → Type 0
MayBecome Zero b = b ≡ Zero
MayBecome One b = b ≡ One
MayBecome Unknown b = Unit {0}
