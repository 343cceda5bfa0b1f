-- Tables of levels that are written row after row. Assumes nothing.
use Rattle.std.proofs.Common.{◌≡◌, ℕ, ◌+◌, ◌<◌, ◌≤◌, List, length, get_or, refl, ap, subst, sym, ◌∙◌, ⊎_elim, arith}
use Rattle.std.proofs.lemmas.Bool.{cases_lt}
use Rattle.std.proofs.lemmas.List.{get_or-set_same, get_or-set_other, length-set}
use Rattle.std.proofs.Math.ListN.{set}
use Rattle.level.specs.declared.letter.Letter.{Letter}
use Rattle.level.specs.declared.Level.{Ghosts}
use Rattle.control.specs.Levels.{lane, InEachLane, LevelIs}
use Rattle.engine.proofs.Lanes.{lane_at, lane_same}

-- From a row on, n rows have the letters that f says in each lane, and all others hold what they held.
pub record Written {X : Type 0} (G : Ghosts X) (from : ℕ) (f : ℕ → ℕ → Letter) (n : ℕ) (old new : List X) : Type 0 where
  pub length : length new ≡ length old
  pub rows : InEachLane G (λ k. (i : ℕ) → i < n → lane G new k (from + i) ≡ f k i)
  pub before : (r : ℕ) (x : X) → r < from → get_or new r x ≡ get_or old r x
  pub behind : (r : ℕ) (x : X) → from + n ≤ r → get_or new r x ≡ get_or old r x

module _ {X : Type 0} (G : Ghosts X) (from : ℕ) (f : ℕ → ℕ → Letter) where
  pub written_none : (xs : List X) → Written G from f 0 xs xs
  written_none xs = record {
    length = refl;
    rows = λ k inside i l. absurd (omega arith);
    before = λ r x l. refl;
    behind = λ r x l. refl;
  }

  -- one row more
  pub written_more : (n r : ℕ) (old new : List X) (v : X) → r ≡ from + n → r < length new → LevelIs G v (λ k. f k n) → Written G from f n old new → Written G from f (n + 1) old (set new r v)
  written_more n r old new v at low is w = record {
    length = length-set new r v ∙ w.length;
    rows = λ k inside i l.
        ⊎_elim
        (λ less. lane_same G k new (set new r v) (from + i) (length-set new r v) (λ x. get_or-set_other new r (from + i) v x (λ e. omega arith)) ∙ w.rows k inside i less)
        (λ more.
        let here : i ≡ n = omega arith in
        let place : from + i ≡ r = omega arith in
        subst (λ q. lane G (set new r v) k q ≡ f k i) (sym place)
        (subst (λ j. lane G (set new r v) k r ≡ f k j) (sym here)
        (lane_at G k (set new r v) r v (omega (arith, length-set new r v)) ∙ ap (λ z. G.letters z k) (get_or-set_same new r v v low) ∙ is k inside)))
        (cases_lt i n);
    before = λ q x l. get_or-set_other new r q v x (λ e. omega arith) ∙ w.before q x l;
    behind = λ q x l. get_or-set_other new r q v x (λ e. omega arith) ∙ w.behind q x (omega arith);
  }
