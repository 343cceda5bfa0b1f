use Rattle.std.proofs.lemmas.Result.{err_from_is_err_and}
use Rattle.words.specs.declared.token.Sign.TheVariants.{Colon, LeftBracket, RightBracket}
use Rattle.grammar.specs.Rules.{mark, integer, ◌then◌, maybe}
use Rattle.grammar.specs.Trees.{both}
use Rattle.cursor.proofs.Steps.{then_got, then_stop, then_stop_second}
use Rattle.cursor.proofs.MoreSteps.{word_got, word_stop}
use Rattle.terms.proofs.Subscripts.{subscript_is}
use Rattle.terms.proofs.references.subscript.Goals as goal

pub returns-in_err-place-clause-told : goal.returns-in_err-place-clause-told
returns-in_err-place-clause-told c = λ n.
    let p = err_from_is_err_and c.from_residual.result c.from_residual.ensures.1 in
    rw (p.1, p.2) (then_stop n (mark LeftBracket) (integer then maybe (mark Colon then integer) then mark RightBracket) _ _ _ (word_stop n (mark LeftBracket) tt _ _ _ c.in_err-place.ensures.told))

pub returns-in_err-first-clause-told : goal.returns-in_err-first-clause-told
returns-in_err-first-clause-told c = λ n.
    let p = err_from_is_err_and c.from_residual-in_err-first.result c.from_residual-in_err-first.ensures.1 in
    rw (p.1, p.2) (then_stop_second n (mark LeftBracket) (integer then maybe (mark Colon then integer) then mark RightBracket) _ c.in_ok-place.ensures.told.0 _ (word_got n (mark LeftBracket) tt _ _ _ c.in_ok-place.ensures.told.1) _ _
    (then_stop n integer (maybe (mark Colon then integer) then mark RightBracket) _ _ _ (word_stop n integer tt _ _ _ c.in_err-first.ensures.told)))

pub returns-in_err-last-clause-told : goal.returns-in_err-last-clause-told
returns-in_err-last-clause-told c = λ n.
    let p = err_from_is_err_and c.from_residual-in_err-last.result c.from_residual-in_err-last.ensures.1 in
    rw (p.1, p.2) (then_stop_second n (mark LeftBracket) (integer then maybe (mark Colon then integer) then mark RightBracket) _ c.in_ok-place.ensures.told.0 _ (word_got n (mark LeftBracket) tt _ _ _ c.in_ok-place.ensures.told.1) _ _
    (then_stop_second n integer (maybe (mark Colon then integer) then mark RightBracket) _ c.in_ok-first.ensures.told.0 _ (word_got n integer tt _ _ _ c.in_ok-first.ensures.told.1) _ _
    (then_stop n (maybe (mark Colon then integer)) (mark RightBracket) _ _ _ (c.in_err-last.ensures.told n))))

pub returns-in_err-take-clause-told : goal.returns-in_err-take-clause-told
returns-in_err-take-clause-told c = λ n.
    let p = err_from_is_err_and c.from_residual-in_err-take.result c.from_residual-in_err-take.ensures.1 in
    rw (p.1, p.2) (then_stop_second n (mark LeftBracket) (integer then maybe (mark Colon then integer) then mark RightBracket) _ c.in_ok-place.ensures.told.0 _ (word_got n (mark LeftBracket) tt _ _ _ c.in_ok-place.ensures.told.1) _ _
    (then_stop_second n integer (maybe (mark Colon then integer) then mark RightBracket) _ c.in_ok-first.ensures.told.0 _ (word_got n integer tt _ _ _ c.in_ok-first.ensures.told.1) _ _
    (then_stop_second n (maybe (mark Colon then integer)) (mark RightBracket) _ (c.in_ok-last.ensures.told n).0 _ (c.in_ok-last.ensures.told n).1 _ _
    (word_stop n (mark RightBracket) tt _ _ _ c.in_err-take.ensures.told))))

pub returns-clause-told : goal.returns-clause-told
returns-clause-told c = λ n.
    let m = c.in_ok-place.ensures.told in
    let i = c.in_ok-first.ensures.told in
    let q = c.in_ok-last.ensures.told n in
    let b = c.in_ok-take.ensures.told in (
      both m.0 (both i.0 (both q.0 b.0)),
      then_got n (mark LeftBracket) (integer then maybe (mark Colon then integer) then mark RightBracket) _ _ _ _ _ (word_got n (mark LeftBracket) tt _ _ _ m.1)
          (then_got n integer (maybe (mark Colon then integer) then mark RightBracket) _ _ _ _ _ (word_got n integer tt _ _ _ i.1)
          (then_got n (maybe (mark Colon then integer)) (mark RightBracket) _ _ _ _ _ q.1 (word_got n (mark RightBracket) tt _ _ _ b.1))),
      subscript_is m.0 i.0 q.0 b.0 _ _ _ m.2 i.2 q.2,
    )
