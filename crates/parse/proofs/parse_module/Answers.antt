use Rattle.grammar.specs.Promise.{deepest}
use Rattle.grammar.specs.Trees.{both}
use Rattle.parse.proofs.Turns.{word_then, pair_is}
use Rattle.std.proofs.Common.{◌≡◌, ap, arith}
use Rattle.grammar.specs.declared.draft.Name.{Name}
use Rattle.grammar.specs.declared.draft.Heading.{Heading}
use Rattle.grammar.specs.Drafts.{RowLists}
use Rattle.grammar.proofs.Room.{rows_room_less}
use Rattle.parse.proofs.parse_module.Goals as goal

headed : {a b c d : Name} → a ≡ c → b ≡ d → ◌≡◌ {A = Heading} (record { title = a; clock = b }) (record { title = c; clock = d })
headed p q = cc

pub returns-clause-told : goal.returns-clause-told
returns-clause-told c =
    let head = c.in_ok-take.ensures.told in
    let colon = c.in_ok-take-2.ensures.told in
    let title = c.in_ok-title.ensures.told in
    let dot = c.in_ok-take-3.ensures.told in
    let contents = c.in_ok-clock.ensures.told in (
      both head.0 (both colon.0 (both title.0 (both dot.0 contents.0))),
      word_then deepest _ _ tt _ _ _ _ _ head.1 (word_then deepest _ _ tt _ _ _ _ _ colon.1
          (word_then deepest _ _ tt _ _ _ _ _ title.1 (word_then deepest _ _ tt _ _ _ _ _ dot.1 contents.1))),
      pair_is (headed title.2 (ap (λ (x : Name × RowLists). x.0) contents.2)) (ap (λ (x : Name × RowLists). x.1) contents.2),
    )

pub returns-clause-room : goal.returns-clause-room
returns-clause-room c = λ limit slack r.
    c.in_ok-clock.ensures.room limit slack
    (rows_room_less limit _ _ _ (omega (arith, c.in_ok-take.ensures.forward, c.in_ok-take-2.ensures.forward, c.in_ok-title.ensures.forward, c.in_ok-take-3.ensures.forward)) r)
