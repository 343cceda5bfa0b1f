-- What is read and written in a lane, and which rows are. Assumes nothing.
use Rattle.std.proofs.Common.{◌≡◌, ℕ, ◌<◌, List, length, get_or, set, replicate, refl, sym, ap, ◌∙◌, subst, ⊎_elim}
use Rattle.std.proofs.lemmas.Bool.{cases_eq}
use Rattle.std.proofs.lemmas.List.{map-set, get_or-set_same, get_or-set_other, length-map, length-set, length-replicate, get_or-map, get_or-replicate}
use Rattle.std.proofs.lemmas.Bool.Decides.{nat_tests}
use Rattle.level.specs.declared.letter.Letter.{Letter}
use Rattle.level.specs.declared.letter.Letter.TheVariants.{Zero, One, Unknown}
use Rattle.level.specs.Letters.{or_l}
use Rattle.level.specs.declared.Level.{Ghosts}
use Rattle.control.specs.Letters.{Letters, column}
use Rattle.control.specs.Levels.{lane, OnlyIn}

module _ {X : Type 0} (G : Ghosts X) (k : ℕ) (xs : List X) where
  pub lane_read : (r : ℕ) (v : X) → r < length xs → v ≡ get_or xs r v → G.letters v k ≡ lane G xs k r
  lane_read r v low e = ap (λ x. G.letters x k) e ∙ sym (get_or-map (λ x. G.letters x k) xs r v Unknown low)

  pub lane_at : (r : ℕ) (v : X) → r < length xs → G.letters (get_or xs r v) k ≡ lane G xs k r
  lane_at r v low = sym (get_or-map (λ x. G.letters x k) xs r v Unknown low)

  module _ (r : ℕ) (v : X) where
    pub lane_same : r < length xs → lane G (set xs r v) k r ≡ G.letters v k
    lane_same low = ap (λ l. get_or l r Unknown) (map-set (λ x. G.letters x k) xs r v) ∙ get_or-set_same (column G.letters k xs) r (G.letters v k) Unknown (simp length-map low)

    pub lane_other : (q : ℕ) → (q ≡ r → ⊥) → lane G (set xs r v) k q ≡ lane G xs k q
    lane_other q ne = ap (λ l. get_or l q Unknown) (map-set (λ x. G.letters x k) xs r v) ∙ get_or-set_other (column G.letters k xs) r q (G.letters v k) Unknown ne

    -- a write of the letter that w has there
    pub write_keeps : (w : Letters) → r < length xs → G.letters v k ≡ w r → (q : ℕ) → lane G xs k q ≡ w q → lane G (set xs r v) k q ≡ w q
    write_keeps w low is q h =
        ⊎_elim
        (λ e. ap (lane G (set xs r v) k) e ∙ lane_same low ∙ is ∙ ap w (sym e))
        (λ ne. lane_other q ne ∙ h)
        (cases_eq q r)

-- only rows in use are written
module _ {X : Type 0} {InUse : ℕ → Type 0} where
  pub only_then : {xs ys zs : List X} → OnlyIn InUse xs ys → OnlyIn InUse ys zs → OnlyIn InUse xs zs
  only_then a b = record { length = b.length ∙ a.length; rows = λ r x no. b.rows r x no ∙ a.rows r x no }

  pub only_write : {xs ys : List X} (r : ℕ) (v : X) → OnlyIn InUse xs ys → InUse r → OnlyIn InUse xs (set ys r v)
  only_write {xs} {ys} r v a used = record {
    length = length-set ys r v ∙ a.length;
    rows = λ q x no. get_or-set_other ys r q v x (λ e. no (subst InUse (sym e) used)) ∙ a.rows q x no;
  }

-- a table that is filled with one level
module _ {X : Type 0} (G : Ghosts X) (k n : ℕ) (v : X) (r : ℕ) (low : r < n) where
  pub lane_filled : lane G (replicate n v) k r ≡ G.letters v k
  lane_filled = get_or-map (λ x. G.letters x k) (replicate n v) r v Unknown (simp length-replicate low) ∙ ap (λ x. G.letters x k) (get_or-replicate n r v v low)

pub or_zero : (a : Letter) → or_l a Zero ≡ a
or_zero Zero = refl
or_zero One = refl
or_zero Unknown = refl

pub lane_there : {X : Type 0} (G : Ghosts X) (k : ℕ) (xs : List X) (r : ℕ) (v : X) (q : ℕ) → q ≡ r → r < length xs → lane G (set xs r v) k q ≡ G.letters v k
lane_there G k xs r v q e low = ap (lane G (set xs r v) k) e ∙ lane_same G k xs r v low

pub ruleset adding = (lane_there, lane_other, lane_at, or_zero, nat_tests)
