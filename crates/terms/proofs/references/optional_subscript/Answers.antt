use Rattle.std.proofs.Common.{Some, sym, refl, ap, ◌∙◌}
use Rattle.std.proofs.lemmas.Result.{err_from_is_err_and}
use Rattle.words.specs.declared.token.Sign.TheVariants.{Colon, LeftBracket, RightBracket}
use Rattle.grammar.specs.Rules.{mark, integer, ◌then◌, maybe}
use Rattle.grammar.specs.Trees.{none, some}
use Rattle.cursor.proofs.Steps.{maybe_none, maybe_some, maybe_stop, starts_then}
use Rattle.terms.specs.Subscripts.{subscript_rule}
use Rattle.terms.proofs.references.optional_subscript.Goals as goal

pub returns-then-not-at-clause-told : goal.returns-then-not-at-clause-told
returns-then-not-at-clause-told c = λ n. (none, maybe_none n subscript_rule _ (starts_then (mark LeftBracket) (integer then maybe (mark Colon then integer) then mark RightBracket) _ refl ∙ sym c.if-not-at.ensures), refl)

pub returns-in_err-subscript-clause-told : goal.returns-in_err-subscript-clause-told
returns-in_err-subscript-clause-told c = λ n.
    let p = err_from_is_err_and c.from_residual.result c.from_residual.ensures.1 in
    rw (p.1, p.2) (maybe_stop n subscript_rule _ (starts_then (mark LeftBracket) (integer then maybe (mark Colon then integer) then mark RightBracket) _ refl ∙ sym c.if-not-at.ensures) _ _ (c.in_err-subscript.ensures.told n))

pub returns-clause-told : goal.returns-clause-told
returns-clause-told c = λ n.
    let s = c.in_ok-subscript.ensures.told n in
    (some s.0, maybe_some n subscript_rule _ (starts_then (mark LeftBracket) (integer then maybe (mark Colon then integer) then mark RightBracket) _ refl ∙ sym c.if-not-at.ensures) _ _ s.1, ap Some s.2)
