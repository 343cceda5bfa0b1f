-- The letters of tables of levels, row by row. Assumes nothing.
use Rattle.std.proofs.Common.{◌≡◌, ℕ, zero, suc, ◌<◌, ◌≤◌, List, [], ◌∷◌, length, get_or, refl, ap, arith}
use Rattle.std.proofs.lemmas.List.{get_or-map, get_or_past, length-map}
use Rattle.level.specs.declared.letter.Letter.TheVariants.{Unknown}
use Rattle.level.specs.declared.Level.{Ghosts}
use Rattle.control.specs.Letters.{column}
use Rattle.control.specs.Levels.{lane}

module _ {X : Type 0} (G : Ghosts X) (k : ℕ) where
  -- the letter of a row is that of the level in it
  pub lane_at : (xs : List X) (r : ℕ) (x : X) → r < length xs → lane G xs k r ≡ G.letters (get_or xs r x) k
  lane_at xs r x l = get_or-map (λ y. G.letters y k) xs r x Unknown l

  -- past the table there is none
  pub lane_past : (xs : List X) (r : ℕ) → length xs ≤ r → lane G xs k r ≡ Unknown
  lane_past xs r l = get_or_past (column G.letters k xs) r Unknown (omega (arith, length-map xs (λ y. G.letters y k)))

  -- rows of the same level have the same letter
  pub lane_same : (xs ys : List X) (r : ℕ) → length ys ≡ length xs → ((x : X) → get_or ys r x ≡ get_or xs r x) → lane G ys k r ≡ lane G xs k r
  lane_same [] [] r e same = refl
  lane_same [] (y ∷ ys) r e same = absurd (cc)
  lane_same (x ∷ xs) [] r e same = absurd (cc)
  lane_same (x ∷ xs) (y ∷ ys) zero e same = ap (λ z. G.letters z k) (same x)
  lane_same (x ∷ xs) (y ∷ ys) (suc r) e same = lane_same xs ys r (omega arith) same
