-- How answers are made of others. Assumes nothing.
use Rattle.std.proofs.Common.{◌≡◌, Bool, true, false, sym, refl}
use Rattle.std.proofs.lemmas.Bool.{false≢true}
use Rattle.control.specs.Deciding.{Decides}

-- a test decides what it means
pub decide : (b : Bool) {P : Type 0} → (b ≡ true → P) → (P → b ≡ true) → Decides b P
decide true to from = to refl
decide false to from = λ p. false≢true (from p)

-- an answer decides what comes to the same
pub decides_as : (b : Bool) {P Q : Type 0} → (P → Q) → (Q → P) → Decides b P → Decides b Q
decides_as true to from d = to d
decides_as false to from d = λ q. d (from q)

-- a wrong part makes the whole wrong
pub decides_part : (b : Bool) {P Q : Type 0} → b ≡ false → (Q → P) → Decides b P → Decides b Q
decides_part true e from d = absurd (false≢true (sym e))
decides_part false e from d = λ q. d (from q)
