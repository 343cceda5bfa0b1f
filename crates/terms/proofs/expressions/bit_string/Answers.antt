use Rattle.std.proofs.Common.{◌+◌, length, arith}
use Rattle.std.proofs.lemmas.Result.{err_from_is_err_and}
use Rattle.words.specs.declared.token.Sign.TheVariants.{Backslash}
use Rattle.grammar.specs.Rules.{mark, ◌then◌, integers}
use Rattle.grammar.specs.Trees.{both}
use Rattle.grammar.specs.Drafts.{term_lists}
use Rattle.grammar.specs.Reading.{read}
use Rattle.cursor.proofs.Steps.{then_got, then_stop, then_stop_second}
use Rattle.cursor.proofs.MoreSteps.{word_got, word_stop, wrote_last}
use Rattle.terms.specs.Expressions.{string_rule, string_rows}
use Rattle.terms.proofs.Terms.{string_is}
use Rattle.terms.proofs.expressions.bit_string.Goals as goal

pub returns-in_err-place-clause-told : goal.returns-in_err-place-clause-told
returns-in_err-place-clause-told c = λ n.
    let p = err_from_is_err_and c.from_residual.result c.from_residual.ensures.1 in
    rw (p.1, p.2) (then_stop n (mark Backslash) (integers then mark Backslash) _ _ _ (word_stop n (mark Backslash) tt _ _ _ c.in_err-place.ensures.told))

pub returns-in_err-integers-clause-told : goal.returns-in_err-integers-clause-told
returns-in_err-integers-clause-told c = λ n.
    let p = err_from_is_err_and c.from_residual-in_err-integers.result c.from_residual-in_err-integers.ensures.1 in
    rw (p.1, p.2) (then_stop_second n (mark Backslash) (integers then mark Backslash) _ c.in_ok-place.ensures.told.0 _ (word_got n (mark Backslash) tt _ _ _ c.in_ok-place.ensures.told.1) _ _
    (then_stop n integers (mark Backslash) _ _ _ (c.in_err-integers.ensures.told n)))

pub returns-in_err-take-clause-told : goal.returns-in_err-take-clause-told
returns-in_err-take-clause-told c = λ n.
    let p = err_from_is_err_and c.from_residual-in_err-take.result c.from_residual-in_err-take.ensures.1 in
    rw (p.1, p.2) (then_stop_second n (mark Backslash) (integers then mark Backslash) _ c.in_ok-place.ensures.told.0 _ (word_got n (mark Backslash) tt _ _ _ c.in_ok-place.ensures.told.1) _ _
    (then_stop_second n (integers) (mark Backslash) _ (c.in_ok-integers.ensures.told n).0 _ (c.in_ok-integers.ensures.told n).1 _ _
    (word_stop n (mark Backslash) tt _ _ _ c.in_err-take.ensures.told)))

pub returns-clause-told : goal.returns-clause-told
returns-clause-told c = λ n.
    let m = c.in_ok-place.ensures.told in
    let i = (c.in_ok-integers.ensures.told n) in
    let b = c.in_ok-take.ensures.told in
    let reads = then_got n (mark Backslash) (integers then mark Backslash) _ _ _ _ _ (word_got n (mark Backslash) tt _ _ _ m.1) (then_got n integers (mark Backslash) _ _ _ _ _ i.1 (word_got n (mark Backslash) tt _ _ _ b.1)) in
    let l = c.len-last.ensures in
    wrote_last (read n string_rule c.args.cursor.now) (λ t. string_rows t c.args.driven) (term_lists c.args.terms.now) _ _ (λ h. (both m.0 (both i.0 b.0), reads, string_is m.0 i.0 b.0 _ _ _ _ (term_lists c.args.terms.now) _ m.2 i.2 (omega arith) h)) _ c.push.ensures.pushed

pub returns-clause-room : goal.returns-clause-room
returns-clause-room c = λ limit slack r.
    let place = c.in_ok-place.ensures.forward in
    let list = c.in_ok-integers.ensures.forward in
    let close = c.in_ok-take.ensures.forward in
    let digits = c.in_ok-integers.ensures.room limit slack (omega (arith, place, r.digits.0), r.digits.1) in
    c.push.ensures.room limit (length c.take-2.new.self + slack) (record {
      nodes = (omega (arith, place, list, close, r.nodes.0), r.nodes.1);
      digits = (omega (arith, close, digits.0), digits.1);
    })
