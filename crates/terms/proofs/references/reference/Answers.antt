use Rattle.std.proofs.lemmas.Result.{err_from_is_err_and}
use Rattle.grammar.specs.Rules.{name, maybe}
use Rattle.grammar.specs.Trees.{both}
use Rattle.cursor.proofs.Steps.{then_got, then_stop, then_stop_second}
use Rattle.cursor.proofs.MoreSteps.{word_got, word_stop}
use Rattle.terms.specs.Subscripts.{subscript_rule}
use Rattle.terms.proofs.Subscripts.{ref_is}
use Rattle.terms.proofs.references.reference.Goals as goal

pub returns-in_err-name-clause-told : goal.returns-in_err-name-clause-told
returns-in_err-name-clause-told c = λ n.
    let p = err_from_is_err_and c.from_residual.result c.from_residual.ensures.1 in
    rw (p.1, p.2) (then_stop n name (maybe subscript_rule) _ _ _ (word_stop n name tt _ _ _ c.in_err-name.ensures.told))

pub returns-in_err-subscript-clause-told : goal.returns-in_err-subscript-clause-told
returns-in_err-subscript-clause-told c = λ n.
    let p = err_from_is_err_and c.from_residual-in_err-subscript.result c.from_residual-in_err-subscript.ensures.1 in
    rw (p.1, p.2) (then_stop_second n name (maybe subscript_rule) _ c.in_ok-name.ensures.told.0 _ (word_got n name tt _ _ _ c.in_ok-name.ensures.told.1) _ _ (c.in_err-subscript.ensures.told n))

pub returns-clause-told : goal.returns-clause-told
returns-clause-told c = λ n.
    let m = c.in_ok-name.ensures.told in
    let q = c.in_ok-subscript.ensures.told n in
    (both m.0 q.0, then_got n name (maybe subscript_rule) _ _ _ _ _ (word_got n name tt _ _ _ m.1) q.1, ref_is m.0 q.0 _ _ m.2 q.2)
