-- Rows of levels and their letters in a lane. Assumes nothing.
use Rattle.std.proofs.Common.{◌≡◌, ℕ, ◌<◌, ◌≤◌, List, length, get_or, take, sym, ap, ◌∙◌, arith}
use Rattle.std.proofs.lemmas.List.{get_or-map, get_or-take, length-take}
use Rattle.level.specs.declared.letter.Letter.TheVariants.{Unknown}
use Rattle.level.specs.declared.Level.{Ghosts}
use Rattle.store.specs.Meaning.{at}
use Rattle.store.specs.Settle.{column}

module _ {X : Type 0} (L : Ghosts X) (k : ℕ) (rows : List X) (n : ℕ) (v : X) where
  -- the letter of a row that was read
  pub at_column : n < length rows → v ≡ get_or rows n v → L.letters v k ≡ at (column L k rows) n
  at_column h e = ap (λ w. L.letters w k) e ∙ sym (get_or-map (λ w. L.letters w k) rows n v Unknown h)

-- and of one among the first m
pub at_front : {X : Type 0} (L : Ghosts X) (k : ℕ) (rows : List X) (n : ℕ) (v : X) (m : ℕ) → n < m → m ≤ length rows → v ≡ get_or rows n v → L.letters v k ≡ at (column L k (take m rows)) n
at_front L k rows n v m h l e =
    let short : n < length (take m rows) = simp length-take (omega arith) in
    at_column L k (take m rows) n v short (e ∙ sym (get_or-take m rows n v h))
