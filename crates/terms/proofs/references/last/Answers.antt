use Rattle.std.proofs.Common.{sym, refl, ap, ◌∙◌}
use Rattle.std.proofs.lemmas.Result.{err_from_is_err_and}
use Rattle.words.specs.declared.token.Sign.TheVariants.{Colon}
use Rattle.grammar.specs.Rules.{mark, integer, ◌then◌}
use Rattle.grammar.specs.Trees.{both, none, some}
use Rattle.cursor.proofs.Steps.{then_got, then_stop_second, maybe_none, maybe_some, maybe_stop, starts_then}
use Rattle.cursor.proofs.MoreSteps.{word_got, word_stop}
use Rattle.terms.proofs.references.last.Goals as goal

pub returns-then-not-at-clause-told : goal.returns-then-not-at-clause-told
returns-then-not-at-clause-told c = λ n. (none, maybe_none n (mark Colon then integer) _ (starts_then (mark Colon) integer _ refl ∙ sym c.if-not-at.ensures), refl)

pub returns-in_err-take-2-clause-told : goal.returns-in_err-take-2-clause-told
returns-in_err-take-2-clause-told c = λ n.
    let p = err_from_is_err_and c.from_residual-in_err-take-2.result c.from_residual-in_err-take-2.ensures.1 in
    rw (p.1, p.2) (
    maybe_stop n (mark Colon then integer) _ (starts_then (mark Colon) integer _ refl ∙ sym c.if-not-at.ensures) _ _
    (then_stop_second n (mark Colon) integer _ c.in_ok-take.ensures.told.0 _ (word_got n (mark Colon) tt _ _ _ c.in_ok-take.ensures.told.1) _ _ (word_stop n integer tt _ _ _ c.in_err-take-2.ensures.told)))

pub returns-clause-told : goal.returns-clause-told
returns-clause-told c = λ n.
    let m = c.in_ok-take.ensures.told in
    let i = c.in_ok-take-2.ensures.told in (
      some (both m.0 i.0),
      maybe_some n (mark Colon then integer) _ (starts_then (mark Colon) integer _ refl ∙ sym c.if-not-at.ensures) _ _
          (then_got n (mark Colon) integer _ _ _ _ _ (word_got n (mark Colon) tt _ _ _ m.1) (word_got n integer tt _ _ _ i.1)),
      ap (λ x. x.value) i.2,
    )
