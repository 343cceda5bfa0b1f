-- Tests that decide a fact. Assumes nothing.
use Rattle.std.specs.Prelude.{Bool, true, false}

-- where the test is true the fact holds, and where it is false it does not
abbrev pub Decides : Bool → Type 0 → Type 0
Decides true P = P
Decides false P = P → ⊥
