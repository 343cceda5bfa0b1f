-- Which parts ignore a letter. Assumes nothing.
use Rattle.std.proofs.Common.{◌≡◌, ◌⊎◌, arith}
use Rattle.level.specs.declared.letter.Letter.TheVariants as letter
use Rattle.store.specs.declared.part.PartKind.{PartKind}
use Rattle.store.specs.declared.part.PartKind.TheVariants.{Zero, One, Leaf, Not}
use Rattle.store.specs.Parts.{IgnoresFirst, IgnoresSecond}

-- only 0 and 1 ignore the first letter
pub ignores_first : (kind : PartKind) → IgnoresFirst kind → (kind ≡ Zero) ⊎ (kind ≡ One)
ignores_first kind h = grind (arith, h letter.Zero letter.One letter.Zero, h letter.One letter.Zero letter.Zero, h letter.Zero letter.One letter.One)

-- And, Or and Xor do not ignore the second
pub ignores_second : (kind : PartKind) → IgnoresSecond kind → ((kind ≡ Zero) ⊎ (kind ≡ One)) ⊎ ((kind ≡ Leaf) ⊎ (kind ≡ Not))
ignores_second kind h = grind (arith, h letter.One letter.Zero letter.One, h letter.Zero letter.Zero letter.One)
