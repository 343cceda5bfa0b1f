use Rattle.std.proofs.lemmas.Result.{err_from_is_err_and}
use Rattle.words.specs.declared.token.Sign.TheVariants.{Not, AndReduce, OrReduce, XorReduce}
use Rattle.grammar.specs.Rules.{mark, either}
use Rattle.grammar.specs.Trees.{left, right}
use Rattle.cursor.proofs.MoreSteps.{word_got, word_stop, sign_got, no_sign_got, no_sign_stop}
use Rattle.terms.proofs.Terms.{not_is, and_reduce_is, or_reduce_is, xor_reduce_is}
use Rattle.terms.proofs.expressions.prefix_sign.Goals as goal

pub returns-in-Ok-clause-told : goal.returns-in-Ok-clause-told
returns-in-Ok-clause-told c = λ n.
    let m = c.in-Ok.ensures.told in (
      left m.0,
      sign_got n Not (either (mark AndReduce) (either (mark OrReduce) (mark XorReduce))) _ _ _ m.1,
      not_is m.0 _ m.2,
    )

pub returns-in-Ok-take-clause-told : goal.returns-in-Ok-take-clause-told
returns-in-Ok-take-clause-told c = λ n.
    let m = c.in-Ok-take.ensures.told in (
      right (left m.0),
      no_sign_got n Not (either (mark AndReduce) (either (mark OrReduce) (mark XorReduce))) _ _ _ c.in_default.ensures.stops c.in_default.ensures.told _ _
          (sign_got n AndReduce (either (mark OrReduce) (mark XorReduce)) _ _ _ m.1),
      and_reduce_is m.0 _ m.2,
    )

pub returns-in-Ok-take-2-clause-told : goal.returns-in-Ok-take-2-clause-told
returns-in-Ok-take-2-clause-told c = λ n.
    let m = c.in-Ok-take-2.ensures.told in (
      right (right (left m.0)),
      no_sign_got n Not (either (mark AndReduce) (either (mark OrReduce) (mark XorReduce))) _ _ _ c.in_default.ensures.stops c.in_default.ensures.told _ _
          (no_sign_got n AndReduce (either (mark OrReduce) (mark XorReduce)) _ _ _ c.in_default-take.ensures.stops c.in_default-take.ensures.told _ _
          (sign_got n OrReduce (mark XorReduce) _ _ _ m.1)),
      or_reduce_is m.0 _ m.2,
    )

pub returns-in_err-place-clause-told : goal.returns-in_err-place-clause-told
returns-in_err-place-clause-told c = λ n.
    let p = err_from_is_err_and c.from_residual.result c.from_residual.ensures.1 in
    rw (p.1, p.2) (no_sign_stop n Not (either (mark AndReduce) (either (mark OrReduce) (mark XorReduce))) _ _ _ c.in_default.ensures.stops c.in_default.ensures.told _ _
    (no_sign_stop n AndReduce (either (mark OrReduce) (mark XorReduce)) _ _ _ c.in_default-take.ensures.stops c.in_default-take.ensures.told _ _
    (no_sign_stop n OrReduce (mark XorReduce) _ _ _ c.in_default-take-2.ensures.stops c.in_default-take-2.ensures.told _ _
    (word_stop n (mark XorReduce) tt _ _ _ c.in_err-place.ensures.told))))

pub returns-clause-told : goal.returns-clause-told
returns-clause-told c = λ n.
    let m = c.in_ok-place.ensures.told in (
      right (right (right (m.0))),
      no_sign_got n Not (either (mark AndReduce) (either (mark OrReduce) (mark XorReduce))) _ _ _ c.in_default.ensures.stops c.in_default.ensures.told _ _
          (no_sign_got n AndReduce (either (mark OrReduce) (mark XorReduce)) _ _ _ c.in_default-take.ensures.stops c.in_default-take.ensures.told _ _
          (no_sign_got n OrReduce (mark XorReduce) _ _ _ c.in_default-take-2.ensures.stops c.in_default-take-2.ensures.told _ _
          (word_got n (mark XorReduce) tt _ _ _ m.1))),
      xor_reduce_is m.0 _ m.2,
    )
