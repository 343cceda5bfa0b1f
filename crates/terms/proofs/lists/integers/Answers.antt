use Rattle.std.proofs.Common.{length, arith, refl, ap, ◌∙◌}
use Rattle.std.proofs.lemmas.Result.{err_from_is_err_and}
use Rattle.words.specs.declared.token.Sign.TheVariants.{Comma}
use Rattle.grammar.specs.Rules.{mark, integer, ◌then◌, many}
use Rattle.grammar.specs.Trees.{both}
use Rattle.grammar.specs.Drafts.{more_listed}
use Rattle.cursor.proofs.Steps.{then_got, then_stop, then_stop_second, goes_start}
use Rattle.cursor.proofs.MoreSteps.{list_turn, list_stop, list_end}
use Rattle.terms.proofs.Commas.{one_listed, one_more_listed}
use Rattle.terms.proofs.lists.integers.Goals as goal

pub returns-in_err-listed_integer-clause-told : goal.returns-in_err-listed_integer-clause-told
returns-in_err-listed_integer-clause-told c = λ n.
    let p = err_from_is_err_and c.from_residual.result c.from_residual.ensures.1 in
    rw (p.1, p.2) (then_stop n integer (many (mark Comma then integer)) _ _ _ (c.in_err-listed_integer.ensures.told n))

pub loop-comma-init : goal.loop-comma-init
loop-comma-init c = record { goes = λ n. goes_start n (mark Comma then integer) more_listed one_listed _ _; behind = omega arith; room = λ limit slack r. r }

pub loop-comma-preserved : goal.loop-comma-preserved
loop-comma-preserved c =
    let m = c.in-Ok.ensures in
    let i = c.in_ok-listed_integer-2.ensures in
    record {
      goes = λ n. list_turn n Comma integer more_listed one_listed _ _ _ _ (c.loop-comma.invariant.goes n) m.told.0 _ m.told.1 one_more_listed (i.told n).0 _ (i.told n).1 i.forward _ (let comma = m.told.2 in let rows = (i.told n).2 in cc);
      behind = omega (arith, m.forward, i.forward, c.loop-comma.invariant.behind);
      room = λ limit slack r.
          let now = c.loop-comma.invariant.room limit slack r in
          i.room limit slack (omega (arith, now.0, m.forward), now.1);
    }

pub returns-in_err-listed_integer-2-clause-told : goal.returns-in_err-listed_integer-2-clause-told
returns-in_err-listed_integer-2-clause-told c = λ n.
    let p = err_from_is_err_and c.from_residual-in_err-listed_integer-2.result c.from_residual-in_err-listed_integer-2.ensures.1 in
    let first = c.in_ok-listed_integer.ensures.told n in
    let m = c.in-Ok.ensures.told in
    rw (p.1, p.2) (then_stop_second n integer (many (mark Comma then integer)) _ first.0 _ first.1 _ _ (list_stop n Comma integer more_listed one_listed _ _ _ _ (c.loop-comma.invariant.goes n) m.0 _ m.1 _ _ (c.in_err-listed_integer-2.ensures.told n)))

pub returns-clause-told : goal.returns-clause-told
returns-clause-told c = λ n.
    let first = c.in_ok-listed_integer.ensures.told n in
    let last = list_end n Comma integer more_listed one_listed _ _ _ _ (c.loop-comma.invariant.goes n) (λ d. refl) _ c.in_default.ensures.stops _ c.in_default.ensures.told in
    (both first.0 last.0, then_got n integer (many (mark Comma then integer)) _ _ _ _ _ first.1 last.1, last.2 ∙ ap (more_listed last.0) first.2)

pub returns-clause-room : goal.returns-clause-room
returns-clause-room c = λ limit slack r.
    let now = c.loop-comma.invariant.room limit slack (c.in_ok-listed_integer.ensures.room limit slack r) in
    (omega (arith, now.0, ap length c.in_default.ensures.stays), now.1)
