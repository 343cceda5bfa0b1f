use Rattle.std.proofs.Common.{◌≡◌, ap, ◌∙◌, arith}
use Rattle.store.specs.declared.part.PartKind.TheVariants.{Leaf}
use Rattle.store.specs.Meaning.{at}
use Rattle.store.specs.Parts.{kind_at}
use Rattle.store.proofs.Laws.{kind_at_lem}
use Rattle.store.proofs.Signals.{at_placed, at_stays}
use Rattle.trial.proofs.Leaves.{over_leaves}
use Rattle.trial.proofs.place_over_leaves.Goals as goal

pub returns : goal.returns
returns g c =
    let kind = c.args.kind in
    let means = g.S.Store.means in
    let p = c.in_ok-a.ensures in
    let q = c.in_ok-b.ensures in
    let r = c.in_ok-signal.ensures in
    let last : kind_at c.code-3.result ≡ kind = ap kind_at c.code-3.ensures ∙ kind_at_lem kind in
    record {
      took = record {
        before = c.place-2.new.self;
        first = c.first_operand.result;
        second = c.in_ok-b.b;
        placed = rw (← c.code-3.ensures) r;
        taken = omega (arith, r.longer);
      };
      there = r.there;
      letter = λ leaves.
          let signals = (means c.place-2.new.self).signals leaves in
          let a : at signals c.in_ok-a.a ≡ at leaves 0 = at_stays q leaves c.in_ok-a.a p.there ∙ at_placed p leaves Leaf (ap kind_at c.code.ensures) in
          let b : at signals c.in_ok-b.b ≡ at leaves 1 = at_placed q leaves Leaf (ap kind_at c.code-2.ensures) in
          grind (arith, at_placed r leaves kind last, over_leaves leaves signals c.in_ok-a.a c.in_ok-b.b kind a b);
      few = grind (arith, r.grown, last);
    }
