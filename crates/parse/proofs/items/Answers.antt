use Rattle.std.proofs.Common.{refl, ap, ◌∙◌, arith}
use Rattle.std.proofs.lemmas.Grind.{common_steps}
use Rattle.std.proofs.lemmas.Result.{err_from_is_err_and}
use Rattle.words.specs.declared.token.Sign.TheVariants.{Semicolon}
use Rattle.grammar.specs.Rules.{mark, ◌then◌, many, item}
use Rattle.grammar.specs.Trees.{both}
use Rattle.grammar.specs.Drafts.{row_lists, more_items}
use Rattle.grammar.specs.Promise.{deepest}
use Rattle.cursor.proofs.Steps.{goes_start, goes_turn, goes_end, goes_stop, then_got, then_stop_second}
use Rattle.parse.specs.Parts.{item_row, behind}
use Rattle.parse.proofs.Turns.{more_items-more}
use Rattle.parse.proofs.items.Goals as goal

pub loop-class-init : goal.loop-class-init
loop-class-init c = record {
  went = goes_start deepest (mark Semicolon then item) (more_items c.args.class) (behind (item_row c.args.class)) c.item.new.cursor (row_lists c.item.new.rows);
  on = omega arith;
  room = λ limit slack r. r;
}

pub loop-class-preserved : goal.loop-class-preserved
loop-class-preserved c =
    let (t, reads, wrote) = c.in_ok-next_item.ensures.told in record {
      went = goes_turn deepest (mark Semicolon then item) (more_items c.args.class) (behind (item_row c.args.class)) c.item.new.cursor (row_lists c.item.new.rows)
          (more_items-more c.args.class) c.loop-class.cursor (row_lists c.loop-class.rows) c.loop-class.invariant.went (grind (arith, common_steps)) t _ reads c.in_ok-next_item.ensures.forward (row_lists c.next_item.new.rows) wrote;
      on = omega (arith, c.loop-class.invariant.on, c.in_ok-next_item.ensures.forward);
      room = λ limit slack r. c.in_ok-next_item.ensures.room limit slack (c.loop-class.invariant.room limit slack r);
    }

pub returns-in_err-next_item-clause-told : goal.returns-in_err-next_item-clause-told
returns-in_err-next_item-clause-told c =
    let (first, begun, _) = c.in_ok-item.ensures.told in
    let p = err_from_is_err_and c.from_residual-in_err-next_item.result c.from_residual-in_err-next_item.ensures.1 in
    rw (p.1, p.2)
    (then_stop_second deepest item (many (mark Semicolon then item)) c.args.cursor.now first c.item.new.cursor begun _ _
    (goes_stop deepest (mark Semicolon then item) (more_items c.args.class) (behind (item_row c.args.class)) c.item.new.cursor (row_lists c.item.new.rows)
    c.loop-class.cursor (row_lists c.loop-class.rows) c.loop-class.invariant.went (grind (arith, common_steps)) (grind (arith, common_steps)) _ _ c.in_err-next_item.ensures.told))

pub returns-clause-told : goal.returns-clause-told
returns-clause-told c =
    let (first, begun, wrote) = c.in_ok-item.ensures.told in
    let (others, read_on, wrote_on) = goes_end deepest (mark Semicolon then item) (more_items c.args.class) (behind (item_row c.args.class)) c.item.new.cursor (row_lists c.item.new.rows)
    (λ d. refl) c.loop-class.cursor (row_lists c.loop-class.rows) c.loop-class.invariant.went (grind (arith, common_steps)) in
    (both first others, then_got deepest _ _ _ _ _ _ _ begun read_on, wrote_on ∙ ap (more_items c.args.class others) wrote)

pub returns-clause-forward : goal.returns-clause-forward
returns-clause-forward c = omega (arith, c.loop-class.invariant.on, c.in_ok-item.ensures.forward)

pub returns-in_err-next_item-clause-room : goal.returns-in_err-next_item-clause-room
returns-in_err-next_item-clause-room c = λ limit slack r.
    let p = err_from_is_err_and c.from_residual-in_err-next_item.result c.from_residual-in_err-next_item.ensures.1 in
    rw (p.1, p.2) (c.in_err-next_item.ensures.room limit slack (c.loop-class.invariant.room limit slack (c.in_ok-item.ensures.room limit slack r)))

pub returns-clause-room : goal.returns-clause-room
returns-clause-room c = λ limit slack r. c.loop-class.invariant.room limit slack (c.in_ok-item.ensures.room limit slack r)
