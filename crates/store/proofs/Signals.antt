-- The signals of a store in which a part was placed. Assumes nothing.
use Rattle.std.proofs.Common.{◌≡◌, ℕ, ◌<◌, List, sym, ap, ◌∙◌}
use Rattle.std.proofs.lemmas.List.{get_or-take}
use Rattle.level.specs.declared.letter.Letter.{Letter}
use Rattle.level.specs.declared.letter.Letter.TheVariants.{Unknown}
use Rattle.store.specs.declared.part.PartKind.{PartKind}
use Rattle.store.specs.Meaning.{Meaning, at}
use Rattle.store.specs.Parts.{kind_at, part_letter}
use Rattle.store.specs.Place.{Placed}

module _ {price : PartKind → ℕ} {code a b : ℕ} {m n : Meaning} {signal : ℕ} (p : Placed price code a b m n signal) (leaves : List Letter) where
  -- a signal from before has the letter that it had
  pub at_stays : (k : ℕ) → k < m.size → at (n.signals leaves) k ≡ at (m.signals leaves) k
  at_stays k h = sym (get_or-take m.size (n.signals leaves) k Unknown h) ∙ ap (λ y. at y k) (p.stays leaves)

  -- and the new one that of a part of the kind, where the code is the kind's
  pub at_placed : (kind : PartKind) → kind_at code ≡ kind → at (n.signals leaves) signal ≡ part_letter kind a b leaves (m.signals leaves)
  at_placed kind e = p.letter leaves ∙ ap (λ y. part_letter y a b leaves (m.signals leaves)) e
