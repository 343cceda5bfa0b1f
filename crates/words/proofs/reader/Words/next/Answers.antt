-- The word that is found is the first of what was unread. Assumes nothing.
use Rattle.std.proofs.Common.{refl, ap, arith}
use Rattle.words.specs.Reading.{Unread}
use Rattle.words.proofs.Reading.{reads_word}
use Rattle.words.proofs.reader.Words.next.Goals as goal

pub returns : goal.returns
returns c =
    let place = ap (λ (u : Unread). u.place) c.self.view_is in
    reads_word _ _ _ _ _ _ _ _ c.split_gap.ensures.parts (ap (λ (u : Unread). u.rest) c.self.view_is) c.in_ok-word.ensures (omega arith) refl refl
