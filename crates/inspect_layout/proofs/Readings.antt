-- What a node reads, by what it names and what its operands read. Assumes nothing.
use Rattle.std.proofs.Common.{◌≡◌, ℕ, ◌<◌, Bool, false, refl, sym, subst}
use Rattle.database.specs.declared.rows.NodeRow.{NodeRow}
use Rattle.least.specs.Each.{IsRow}
use Rattle.database.specs.Rows.{Database, node}
use Rattle.database.specs.Soundness.{IsBus, Reads, named, left, right}
use Rattle.control.specs.Deciding.{Decides}
use Rattle.inspect_layout.specs.Inner.{NamesBelow, ReadsBelow}
use Rattle.inspect_layout.proofs.Deciding.{decides_as, decides_part}

-- rows that are not there read nothing
pub reads_row : (d : Database) (n y : ℕ) → Reads d n y → IsRow d.nodes n
reads_row d n y (named r s e) = r
reads_row d n y (left r x) = r
reads_row d n y (right r x) = r

module _ (d : Database) (n bound : ℕ) (x : NodeRow) (is : x ≡ node d n) where
  all_below : NamesBelow d (node d n) bound → ReadsBelow d (node d n).left bound → ReadsBelow d (node d n).right bound → ReadsBelow d n bound
  all_below own l r y (named h s e) = subst (λ z. IsBus d z → z < bound) e (own s)
  all_below own l r y (left h x) = l y x
  all_below own l r y (right h x) = r y x

  module _ (there : IsRow d.nodes n) where
    name_first : ReadsBelow d n bound → NamesBelow d (node d n) bound
    name_first all s = all (node d n).symbol (named there s refl)

    left_first : ReadsBelow d n bound → ReadsBelow d (node d n).left bound
    left_first all y x = all y (left there x)

    right_first : ReadsBelow d n bound → ReadsBelow d (node d n).right bound
    right_first all y x = all y (right there x)

    pub wrong_name : (NamesBelow d x bound → ⊥) → ReadsBelow d n bound → ⊥
    wrong_name not all = not (subst (λ y. NamesBelow d y bound) (sym is) (name_first all))

    pub wrong_left : (b : Bool) → b ≡ false → Decides b (ReadsBelow d x.left bound) → Decides b (ReadsBelow d n bound)
    wrong_left b wrong = decides_part b wrong (λ all. subst (λ y. ReadsBelow d y.left bound) (sym is) (left_first all))

    pub reads_right : (b : Bool) → NamesBelow d x bound → ReadsBelow d x.left bound → Decides b (ReadsBelow d x.right bound) → Decides b (ReadsBelow d n bound)
    reads_right b own l = decides_as b
        (λ r. all_below (subst (λ y. NamesBelow d y bound) is own) (subst (λ y. ReadsBelow d y.left bound) is l) (subst (λ y. ReadsBelow d y.right bound) is r))
        (λ all. subst (λ y. ReadsBelow d y.right bound) (sym is) (right_first all))
