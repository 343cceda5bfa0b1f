-- Rows that have their letters, and what is made of them. Assumes nothing.
use Rattle.std.proofs.Common.{◌≡◌, ℕ, zero, suc, ◌+◌, ◌-◌, ◌<◌, ◌≤◌, Bool, true, false, cond, nat_lt, ◌==◌, List, length, get_or, set, replicate, Option, Some, None, refl, sym, ap, ap₂, ◌∙◌, subst, ⊎_elim, arith}
use Rattle.std.proofs.lemmas.Bool.{cases_eq, cond-true, cond-false, ltb-true, ltb-false, eq-eqb, ne_eqb}
use Rattle.std.proofs.lemmas.List.{map-set, get_or-set_same, get_or-set_other, length-map, length-set, get_or-map, get_or-replicate, length-replicate}
use Rattle.level.specs.declared.letter.Letter.{Letter}
use Rattle.level.specs.declared.letter.Letter.TheVariants.{Zero, One, Unknown}
use Rattle.level.specs.declared.Level.{Ghosts}
use Rattle.level.specs.Letters.{not_l, and_l, or_l, xor_l}
use Rattle.least.specs.Each.{IsRow}
use Rattle.database.specs.declared.codes.NodeSign.{NodeSign}
use Rattle.database.specs.declared.codes.NodeSign.TheVariants.{Name, Constant, Comma, And, Or, Xor, Not, AndReduce, OrReduce, XorReduce}
use Rattle.database.specs.declared.rows.NodeRow.{NodeRow}
use Rattle.database.specs.Codes.{sign_of}
use Rattle.database.specs.Rows.{Database, node}
use Rattle.control.specs.Letters.{Letters, column, joined, node_bit, side, letter_by, node_letter}
use Rattle.control.specs.Levels.{lane, OnlyIn}
use Rattle.control.specs.Usable.{Usable, MadeBy, Fits}
use Rattle.evaluation.specs.Inner.{NodeRight, SymbolRight, Fed, NowRight}

-- what is read and written in a lane
module _ {X : Type 0} (G : Ghosts X) (k : ℕ) (xs : List X) where
  pub lane_read : (r : ℕ) (v : X) → r < length xs → v ≡ get_or xs r v → G.letters v k ≡ lane G xs k r
  lane_read r v low e = ap (λ x. G.letters x k) e ∙ sym (get_or-map (λ x. G.letters x k) xs r v Unknown low)

  pub lane_index : (r : ℕ) (v : X) → r < length xs → v ≡ get_or xs r v → G.letters (get_or xs r v) k ≡ lane G xs k r
  lane_index r v low e = ap (λ x. G.letters x k) (sym e) ∙ lane_read r v low e

  module _ (r : ℕ) (v : X) where
    pub lane_same : r < length xs → lane G (set xs r v) k r ≡ G.letters v k
    lane_same low = ap (λ l. get_or l r Unknown) (map-set (λ x. G.letters x k) xs r v) ∙ get_or-set_same (column G.letters k xs) r (G.letters v k) Unknown (simp length-map low)

    pub lane_other : (q : ℕ) → (q ≡ r → ⊥) → lane G (set xs r v) k q ≡ lane G xs k q
    lane_other q ne = ap (λ l. get_or l q Unknown) (map-set (λ x. G.letters x k) xs r v) ∙ get_or-set_other (column G.letters k xs) r q (G.letters v k) Unknown ne

    -- a write of the letter that w has there
    pub write_keeps : (w : Letters) → r < length xs → G.letters v k ≡ w r → (q : ℕ) → lane G xs k q ≡ w q → lane G (set xs r v) k q ≡ w q
    write_keeps w low is q h =
        ⊎_elim
        (λ e. ap (lane G (set xs r v) k) e ∙ lane_same low ∙ is ∙ ap w (sym e))
        (λ ne. lane_other q ne ∙ h)
        (cases_eq q r)

    -- one row more has its letter
    pub write_more : (rows : ℕ → ℕ) (b : ℕ) (w old : Letters) → r ≡ rows b → r < length xs → G.letters v k ≡ w r
        → NowRight w old (lane G xs k) (λ w ys. (j : ℕ) → j < b → ys (rows j) ≡ w (rows j))
        → NowRight w old (lane G (set xs r v) k) (λ w ys. (j : ℕ) → j < b + 1 → ys (rows j) ≡ w (rows j))
    write_more rows b w old there low is f = record {
      keeps = λ q e. write_keeps w low is q (f.keeps q e);
      has = λ j l.
          ⊎_elim
          (λ e. subst (λ i. lane G (set xs r v) k (rows i) ≡ w (rows i)) (sym e) (subst (λ q. lane G (set xs r v) k q ≡ w q) there (lane_same low ∙ is)))
          (λ ne. write_keeps w low is (rows j) (f.has j (omega (arith, ne))))
          (cases_eq j b);
    }

-- an array of one level
pub lane_all : {X : Type 0} (G : Ghosts X) (k : ℕ) (v : X) (n r : ℕ) → r < n → lane G (replicate n v) k r ≡ G.letters v k
lane_all G k v n r low = sym (lane_read G k (replicate n v) r v (omega (arith, length-replicate n v)) (sym (get_or-replicate n r v v low)))

-- only rows in use are written
module _ {X : Type 0} {InUse : ℕ → Type 0} where
  pub only_none : (xs : List X) → OnlyIn InUse xs xs
  only_none xs = record { length = refl; rows = λ r x no. refl }

  pub only_then : {xs ys zs : List X} → OnlyIn InUse xs ys → OnlyIn InUse ys zs → OnlyIn InUse xs zs
  only_then a b = record { length = b.length ∙ a.length; rows = λ r x no. b.rows r x no ∙ a.rows r x no }

  pub only_write : {xs ys : List X} (r : ℕ) (v : X) → OnlyIn InUse xs ys → InUse r → OnlyIn InUse xs (set ys r v)
  only_write {xs} {ys} r v a used = record {
    length = length-set ys r v ∙ a.length;
    rows = λ q x no. get_or-set_other ys r q v x (λ e. no (subst InUse (sym e) used)) ∙ a.rows q x no;
  }

-- letters joined, one more
module _ (op : Letter → Letter → Letter) (unit : Letter) (f : ℕ → Letter) where
  pub join_none : joined op unit f 0 ≡ unit
  unfolding joined
  join_none = refl

  pub join_more : (n : ℕ) {r a b : Letter} → r ≡ op a b → a ≡ joined op unit f n → b ≡ f n → r ≡ joined op unit f (n + 1)
  unfolding joined
  join_more n {r} {a} {b} e p q = e ∙ ap₂ op p q ∙ (let z : suc n ≡ n + 1 = omega arith in ap (joined op unit f) z)

pub join_same : (op : Letter → Letter → Letter) (unit : Letter) (f g : ℕ → Letter) (n : ℕ) → ((i : ℕ) → i < n → f i ≡ g i) → joined op unit f n ≡ joined op unit g n
unfolding joined
join_same op unit f g zero h = refl
join_same op unit f g (suc n) h = ap₂ op (join_same op unit f g n (λ i l. h i (omega arith))) (h n (omega arith))

pub cond_same : {A : Type 0} (t : Bool) {a b c d : A} → (t ≡ true → a ≡ c) → (t ≡ false → b ≡ d) → cond t a b ≡ cond t c d
cond_same true p q = p refl
cond_same false p q = q refl

-- what a node makes of rows that have their letters
module _ (d : Database) (w xs : Letters) where
  side_same : (x : NodeRow) (n b : ℕ) → 1 ≤ (node d n).width → Fits d x n → b < x.width → NodeRight d w xs n → side d xs n b ≡ side d w n b
  side_same x n b one fits low right =
      right (cond ((node d n).width == 1) 0 b)
      (⊎_elim
      (λ e. let z : cond ((node d n).width == 1) 0 b ≡ 0 = cond-true ((node d n).width == 1) 0 b (eq-eqb _ 1 e) in omega arith)
      (λ ne. let z : cond ((node d n).width == 1) 0 b ≡ b = cond-false ((node d n).width == 1) 0 b (ne_eqb _ 1 ne) in omega (arith, fits ne))
      (cases_eq (node d n).width 1))

  two_same : (op : Letter → Letter → Letter) (x : NodeRow) (b : ℕ) → 1 ≤ (node d x.left).width → 1 ≤ (node d x.right).width → Fits d x x.left → Fits d x x.right → b < x.width → NodeRight d w xs x.left → NodeRight d w xs x.right
      → op (side d xs x.left b) (side d xs x.right b) ≡ op (side d w x.left b) (side d w x.right b)
  two_same op x b p q f g low l r = ap₂ op (side_same x x.left b p f low l) (side_same x x.right b q g low r)

  reduce_same : (op : Letter → Letter → Letter) (unit : Letter) (n : ℕ) → NodeRight d w xs n → joined op unit (node_bit xs n) (node d n).width ≡ joined op unit (node_bit w n) (node d n).width
  reduce_same op unit n right = join_same op unit (node_bit xs n) (node_bit w n) (node d n).width (λ i l. right i l)

  by_same : (s : Option NodeSign) (x : NodeRow) (b : ℕ) → MadeBy s d x → ((n : ℕ) → IsRow d.nodes n → 1 ≤ (node d n).width) → b < x.width
      → (s ≡ Some Name → SymbolRight d w xs x.symbol) → (1 ≤ x.left → NodeRight d w xs x.left) → (1 ≤ x.right → NodeRight d w xs x.right) → letter_by s d xs x b ≡ letter_by s d w x b
  by_same None x b m one low y l r = refl
  by_same (Some Name) x b m one low y l r = y refl (x.first + b) (omega (arith, m.2, m.3, m.4))
  by_same (Some Constant) x b m one low y l r = refl
  by_same (Some Comma) x b m one low y l r =
      cond_same (nat_lt b (node d x.left).width)
      (λ e. l m.0.0 b (ltb-true b _ e))
      (λ e. r m.1.0 (b - (node d x.left).width) (omega (arith, ltb-false b (node d x.left).width e, m.2)))
  by_same (Some And) x b m one low y l r = two_same and_l x b (one x.left m.0) (one x.right m.1) m.2 m.3 low (l m.0.0) (r m.1.0)
  by_same (Some Or) x b m one low y l r = two_same or_l x b (one x.left m.0) (one x.right m.1) m.2 m.3 low (l m.0.0) (r m.1.0)
  by_same (Some Xor) x b m one low y l r = two_same xor_l x b (one x.left m.0) (one x.right m.1) m.2 m.3 low (l m.0.0) (r m.1.0)
  by_same (Some Not) x b m one low y l r = ap not_l (l m.0.0 b (omega (arith, m.1)))
  by_same (Some AndReduce) x b m one low y l r = reduce_same and_l One x.left (l m.0.0)
  by_same (Some OrReduce) x b m one low y l r = reduce_same or_l Zero x.left (l m.0.0)
  by_same (Some XorReduce) x b m one low y l r = reduce_same xor_l Zero x.left (l m.0.0)

  pub letter_same : (n b : ℕ) → Usable d → IsRow d.nodes n → b < (node d n).width → Fed d w xs n → node_letter d xs n b ≡ node_letter d w n b
  letter_same n b u row low fed = by_same (sign_of (node d n).sign) (node d n) b (u.nodes n row).made (λ j is. (u.nodes j is).width.0) low fed.symbol fed.left fed.right
