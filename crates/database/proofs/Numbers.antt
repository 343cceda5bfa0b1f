-- The row of an index among those that are made of a list. Assumes nothing.
use Rattle.std.proofs.Common.{◌≡◌, ℕ, ◌+◌, ◌<◌, ◌≤◌, List, length, get_or, sym, ap, ◌∙◌, arith}
use Rattle.std.proofs.lemmas.List.{get_or_past}
use Rattle.least.specs.Each.{numbered}
use Rattle.least.proofs.Finds.{length_numbered, numbered_at}

module _ {A B : Type 0} (f : ℕ → A → B) (none : B) (xs : List A) (k : ℕ) where
  pub row_there : (x : A) → k < length xs → x ≡ get_or xs k x → f (k + 1) x ≡ get_or (numbered f xs) k none
  row_there x there is = ap (f (k + 1)) is ∙ sym (numbered_at f xs k x none there)

  pub row_missing : length xs ≤ k → none ≡ get_or (numbered f xs) k none
  row_missing past = sym (get_or_past (numbered f xs) k none (omega (arith, length_numbered f xs)))
