use Rattle.std.proofs.lemmas.Result.{err_from_is_err_and}
use Rattle.words.specs.declared.token.Sign.TheVariants.{Dollar}
use Rattle.grammar.specs.Rules.{mark, integer, ◌then◌}
use Rattle.grammar.specs.Trees.{both}
use Rattle.grammar.specs.Drafts.{term_lists}
use Rattle.grammar.specs.Reading.{read}
use Rattle.cursor.proofs.Steps.{then_got, then_stop, then_stop_second}
use Rattle.cursor.proofs.MoreSteps.{word_got, word_stop, wrote_last}
use Rattle.terms.specs.Expressions.{sized_rule, sized_rows}
use Rattle.terms.proofs.Terms.{sized_is}
use Rattle.terms.proofs.expressions.sized.Goals as goal

pub returns-in_err-first-clause-told : goal.returns-in_err-first-clause-told
returns-in_err-first-clause-told c = λ n.
    let p = err_from_is_err_and c.from_residual.result c.from_residual.ensures.1 in
    rw (p.1, p.2) (then_stop n integer (mark Dollar then integer) _ _ _ (word_stop n integer tt _ _ _ c.in_err-first.ensures.told))

pub returns-in_err-take-clause-told : goal.returns-in_err-take-clause-told
returns-in_err-take-clause-told c = λ n.
    let p = err_from_is_err_and c.from_residual-in_err-take.result c.from_residual-in_err-take.ensures.1 in
    rw (p.1, p.2) (then_stop_second n integer (mark Dollar then integer) _ c.in_ok-first.ensures.told.0 _ (word_got n integer tt _ _ _ c.in_ok-first.ensures.told.1) _ _
    (then_stop n (mark Dollar) integer _ _ _ (word_stop n (mark Dollar) tt _ _ _ c.in_err-take.ensures.told)))

pub returns-in_err-second-clause-told : goal.returns-in_err-second-clause-told
returns-in_err-second-clause-told c = λ n.
    let p = err_from_is_err_and c.from_residual-in_err-second.result c.from_residual-in_err-second.ensures.1 in
    rw (p.1, p.2) (then_stop_second n integer (mark Dollar then integer) _ c.in_ok-first.ensures.told.0 _ (word_got n integer tt _ _ _ c.in_ok-first.ensures.told.1) _ _
    (then_stop_second n (mark Dollar) (integer) _ c.in_ok-take.ensures.told.0 _ (word_got n (mark Dollar) tt _ _ _ c.in_ok-take.ensures.told.1) _ _
    (word_stop n integer tt _ _ _ c.in_err-second.ensures.told)))

pub returns-clause-told : goal.returns-clause-told
returns-clause-told c = λ n.
    let m = c.in_ok-first.ensures.told in
    let d = c.in_ok-take.ensures.told in
    let k = c.in_ok-second.ensures.told in
    let reads = then_got n integer (mark Dollar then integer) _ _ _ _ _ (word_got n integer tt _ _ _ m.1) (then_got n (mark Dollar) integer _ _ _ _ _ (word_got n (mark Dollar) tt _ _ _ d.1) (word_got n integer tt _ _ _ k.1)) in
    wrote_last (read n sized_rule c.args.cursor.now) (λ t. sized_rows t c.args.driven) (term_lists c.args.terms.now) _ _ (λ h. (both m.0 (both d.0 k.0), reads, sized_is m.0 d.0 k.0 _ _ _ m.2 k.2 _ _ h)) _ c.push.ensures.pushed
