use Rattle.std.proofs.Common.{◌+◌, length, ap, sym, arith}
use Rattle.std.proofs.lemmas.Result.{err_from_is_err_and}
use Rattle.words.specs.declared.token.Sign.TheVariants.{Comma, LeftParen, RightParen, And, Or, Xor}
use Rattle.grammar.specs.Rules.{group, signed, mark, ◌then◌, many, part, primary, prefix_sign, prefix, and, xor, or, expr}
use Rattle.grammar.specs.Trees.{both, left, nested}
use Rattle.grammar.specs.Reading.{read}
use Rattle.grammar.specs.Drafts.{term_lists, prefix_rows}
use Rattle.cursor.proofs.Steps.{then_got, then_stop, then_stop_second, left_got, left_stop, part_wrong}
use Rattle.cursor.proofs.MoreSteps.{word_got, word_stop, wrote_last, wrote_right, nested_got, nested_stop, nested_deep}
use Rattle.grammar.proofs.Room.{terms_room_less}
use Rattle.terms.proofs.Terms.{under_is}
use Rattle.terms.proofs.Levels.{commas, ors, xors, ands, along_start, along_turn, along_stop, along_end}
use Rattle.terms.proofs.Primaries.{wrote_bits, wrote_string, wrote_sized, wrote_group}
use Rattle.terms.proofs.expressions.+expression.Goals as goal

pub expr-returns-in_err-or-clause-told : goal.expr-returns-in_err-or-clause-told
expr-returns-in_err-or-clause-told t c =
    let p = err_from_is_err_and c.from_residual.result c.from_residual.ensures.1 in
    rw (p.1, p.2) (then_stop c.args.left or (many (mark Comma then or)) _ _ _ c.in_err-or.ensures.told)

pub expr-loop-place-init : goal.expr-loop-place-init
expr-loop-place-init t c =
    record { goes = along_start commas c.args.left c.args.driven _ (term_lists c.or.new.terms); behind = omega arith; room = λ limit slack r. r }

pub expr-returns-in_err-or-2-clause-told : goal.expr-returns-in_err-or-2-clause-told
expr-returns-in_err-or-2-clause-told t c =
    let p = err_from_is_err_and c.from_residual-in_err-or-2.result c.from_residual-in_err-or-2.ensures.1 in
    rw (p.1, p.2) (along_stop commas c.args.left c.args.driven _ _ (term_lists c.or.new.terms) (term_lists c.loop-place.terms) c.loop-place.invariant.goes _ (term_lists c.args.terms.now) c.in_ok-or.ensures.told _ _ c.in-Ok.ensures.told _ _ c.in_err-or-2.ensures.told)

pub expr-loop-place-preserved : goal.expr-loop-place-preserved
expr-loop-place-preserved t c =
    let m = c.in-Ok.ensures in
    let a = c.in_ok-or-2.ensures in
    record {
      goes = along_turn commas c.args.left c.args.driven _ _ (term_lists c.or.new.terms) (term_lists c.loop-place.terms) c.loop-place.invariant.goes _ _ m.told _ (term_lists c.or-in-Ok.new.terms) a.told a.forward _ _ c.root-first.ensures c.root-second.ensures (term_lists c.push.new.terms) c.in_ok-push.ensures.pushed;
      behind = omega (arith, m.forward, a.forward, c.loop-place.invariant.behind);
      room = λ limit slack r.
          let spare = terms_room_less limit _ (length c.take.new.self + (slack + 1)) _ (omega (arith, m.forward)) (c.loop-place.invariant.room limit slack r) in
          c.in_ok-push.ensures.room limit _ (terms_room_less limit _ _ _ (omega arith) (a.room limit (slack + 1) spare));
    }

pub expr-returns-clause-told : goal.expr-returns-clause-told
expr-returns-clause-told t c =
    let x = along_end commas c.args.left c.args.driven _ _ (term_lists c.or.new.terms) (term_lists c.loop-place.terms) c.loop-place.invariant.goes _ (term_lists c.args.terms.now) c.in_ok-or.ensures.told _ c.in_default.ensures.stops _ c.in_default.ensures.told in
    (both x.0 x.1, x.2, x.3)

pub or-returns-in_err-xor-clause-told : goal.or-returns-in_err-xor-clause-told
or-returns-in_err-xor-clause-told t c =
    let p = err_from_is_err_and c.from_residual.result c.from_residual.ensures.1 in
    rw (p.1, p.2) (then_stop c.args.left xor (many (mark Or then xor)) _ _ _ c.in_err-xor.ensures.told)

pub or-loop-place-init : goal.or-loop-place-init
or-loop-place-init t c =
    record { goes = along_start ors c.args.left c.args.driven _ (term_lists c.xor.new.terms); behind = omega arith; room = λ limit slack r. r }

pub or-returns-in_err-xor-2-clause-told : goal.or-returns-in_err-xor-2-clause-told
or-returns-in_err-xor-2-clause-told t c =
    let p = err_from_is_err_and c.from_residual-in_err-xor-2.result c.from_residual-in_err-xor-2.ensures.1 in
    rw (p.1, p.2) (along_stop ors c.args.left c.args.driven _ _ (term_lists c.xor.new.terms) (term_lists c.loop-place.terms) c.loop-place.invariant.goes _ (term_lists c.args.terms.now) c.in_ok-xor.ensures.told _ _ c.in-Ok.ensures.told _ _ c.in_err-xor-2.ensures.told)

pub or-loop-place-preserved : goal.or-loop-place-preserved
or-loop-place-preserved t c =
    let m = c.in-Ok.ensures in
    let a = c.in_ok-xor-2.ensures in
    record {
      goes = along_turn ors c.args.left c.args.driven _ _ (term_lists c.xor.new.terms) (term_lists c.loop-place.terms) c.loop-place.invariant.goes _ _ m.told _ (term_lists c.xor-in-Ok.new.terms) a.told a.forward _ _ c.root-first.ensures c.root-second.ensures (term_lists c.push.new.terms) c.in_ok-push.ensures.pushed;
      behind = omega (arith, m.forward, a.forward, c.loop-place.invariant.behind);
      room = λ limit slack r.
          let spare = terms_room_less limit _ (length c.take.new.self + (slack + 1)) _ (omega (arith, m.forward)) (c.loop-place.invariant.room limit slack r) in
          c.in_ok-push.ensures.room limit _ (terms_room_less limit _ _ _ (omega arith) (a.room limit (slack + 1) spare));
    }

pub or-returns-clause-told : goal.or-returns-clause-told
or-returns-clause-told t c =
    let x = along_end ors c.args.left c.args.driven _ _ (term_lists c.xor.new.terms) (term_lists c.loop-place.terms) c.loop-place.invariant.goes _ (term_lists c.args.terms.now) c.in_ok-xor.ensures.told _ c.in_default.ensures.stops _ c.in_default.ensures.told in
    (both x.0 x.1, x.2, x.3)

pub xor-returns-in_err-and-clause-told : goal.xor-returns-in_err-and-clause-told
xor-returns-in_err-and-clause-told t c =
    let p = err_from_is_err_and c.from_residual.result c.from_residual.ensures.1 in
    rw (p.1, p.2) (then_stop c.args.left and (many (mark Xor then and)) _ _ _ c.in_err-and.ensures.told)

pub xor-loop-place-init : goal.xor-loop-place-init
xor-loop-place-init t c =
    record { goes = along_start xors c.args.left c.args.driven _ (term_lists c.and.new.terms); behind = omega arith; room = λ limit slack r. r }

pub xor-returns-in_err-and-2-clause-told : goal.xor-returns-in_err-and-2-clause-told
xor-returns-in_err-and-2-clause-told t c =
    let p = err_from_is_err_and c.from_residual-in_err-and-2.result c.from_residual-in_err-and-2.ensures.1 in
    rw (p.1, p.2) (along_stop xors c.args.left c.args.driven _ _ (term_lists c.and.new.terms) (term_lists c.loop-place.terms) c.loop-place.invariant.goes _ (term_lists c.args.terms.now) c.in_ok-and.ensures.told _ _ c.in-Ok.ensures.told _ _ c.in_err-and-2.ensures.told)

pub xor-loop-place-preserved : goal.xor-loop-place-preserved
xor-loop-place-preserved t c =
    let m = c.in-Ok.ensures in
    let a = c.in_ok-and-2.ensures in
    record {
      goes = along_turn xors c.args.left c.args.driven _ _ (term_lists c.and.new.terms) (term_lists c.loop-place.terms) c.loop-place.invariant.goes _ _ m.told _ (term_lists c.and-in-Ok.new.terms) a.told a.forward _ _ c.root-first.ensures c.root-second.ensures (term_lists c.push.new.terms) c.in_ok-push.ensures.pushed;
      behind = omega (arith, m.forward, a.forward, c.loop-place.invariant.behind);
      room = λ limit slack r.
          let spare = terms_room_less limit _ (length c.take.new.self + (slack + 1)) _ (omega (arith, m.forward)) (c.loop-place.invariant.room limit slack r) in
          c.in_ok-push.ensures.room limit _ (terms_room_less limit _ _ _ (omega arith) (a.room limit (slack + 1) spare));
    }

pub xor-returns-clause-told : goal.xor-returns-clause-told
xor-returns-clause-told t c =
    let x = along_end xors c.args.left c.args.driven _ _ (term_lists c.and.new.terms) (term_lists c.loop-place.terms) c.loop-place.invariant.goes _ (term_lists c.args.terms.now) c.in_ok-and.ensures.told _ c.in_default.ensures.stops _ c.in_default.ensures.told in
    (both x.0 x.1, x.2, x.3)

pub and-returns-in_err-prefix-clause-told : goal.and-returns-in_err-prefix-clause-told
and-returns-in_err-prefix-clause-told t c =
    let p = err_from_is_err_and c.from_residual.result c.from_residual.ensures.1 in
    rw (p.1, p.2) (then_stop c.args.left prefix (many (mark And then prefix)) _ _ _ c.in_err-prefix.ensures.told)

pub and-loop-place-init : goal.and-loop-place-init
and-loop-place-init t c =
    record { goes = along_start ands c.args.left c.args.driven _ (term_lists c.prefix.new.terms); behind = omega arith; room = λ limit slack r. r }

pub and-returns-in_err-prefix-2-clause-told : goal.and-returns-in_err-prefix-2-clause-told
and-returns-in_err-prefix-2-clause-told t c =
    let p = err_from_is_err_and c.from_residual-in_err-prefix-2.result c.from_residual-in_err-prefix-2.ensures.1 in
    rw (p.1, p.2) (along_stop ands c.args.left c.args.driven _ _ (term_lists c.prefix.new.terms) (term_lists c.loop-place.terms) c.loop-place.invariant.goes _ (term_lists c.args.terms.now) c.in_ok-prefix.ensures.told _ _ c.in-Ok.ensures.told _ _ c.in_err-prefix-2.ensures.told)

pub and-loop-place-preserved : goal.and-loop-place-preserved
and-loop-place-preserved t c =
    let m = c.in-Ok.ensures in
    let a = c.in_ok-prefix-2.ensures in
    record {
      goes = along_turn ands c.args.left c.args.driven _ _ (term_lists c.prefix.new.terms) (term_lists c.loop-place.terms) c.loop-place.invariant.goes _ _ m.told _ (term_lists c.prefix-in-Ok.new.terms) a.told a.forward _ _ c.root-first.ensures c.root-second.ensures (term_lists c.push.new.terms) c.in_ok-push.ensures.pushed;
      behind = omega (arith, m.forward, a.forward, c.loop-place.invariant.behind);
      room = λ limit slack r.
          let spare = terms_room_less limit _ (length c.take.new.self + (slack + 1)) _ (omega (arith, m.forward)) (c.loop-place.invariant.room limit slack r) in
          c.in_ok-push.ensures.room limit _ (terms_room_less limit _ _ _ (omega arith) (a.room limit (slack + 1) spare));
    }

pub and-returns-clause-told : goal.and-returns-clause-told
and-returns-clause-told t c =
    let x = along_end ands c.args.left c.args.driven _ _ (term_lists c.prefix.new.terms) (term_lists c.loop-place.terms) c.loop-place.invariant.goes _ (term_lists c.args.terms.now) c.in_ok-prefix.ensures.told _ c.in_default.ensures.stops _ c.in_default.ensures.told in
    (both x.0 x.1, x.2, x.3)

pub group-returns-then-not-at-clause-told : goal.group-returns-then-not-at-clause-told
group-returns-then-not-at-clause-told t c =
    part_wrong group _ c.args.left (sym c.if-not-at.ensures)

pub group-returns-in_err-inner-clause-told : goal.group-returns-in_err-inner-clause-told
group-returns-in_err-inner-clause-told t c =
    let p = err_from_is_err_and c.from_residual.result c.from_residual.ensures.1 in
    rw (p.1, p.2) (nested_deep group _ _ (sym c.if-not-at.ensures) _ c.in_err-inner.ensures)

pub group-returns-in_err-expr-clause-told : goal.group-returns-in_err-expr-clause-told
group-returns-in_err-expr-clause-told t c =
    let m = c.in_ok-take.ensures.told in
    let p = err_from_is_err_and c.from_residual-in_err-expr.result c.from_residual-in_err-expr.ensures.1 in
    rw (p.1, p.2) (nested_stop group _ _ (sym c.if-not-at.ensures) c.in_ok-inner.inner c.in_ok-inner.ensures _ _
    (then_stop_second c.in_ok-inner.inner (mark LeftParen) (expr then mark RightParen) _ m.0 _ (word_got c.in_ok-inner.inner (mark LeftParen) tt _ _ _ m.1) _ _
    (then_stop c.in_ok-inner.inner expr (mark RightParen) _ _ _ c.in_err-expr.ensures.told)))

pub group-returns-in_err-take-2-clause-told : goal.group-returns-in_err-take-2-clause-told
group-returns-in_err-take-2-clause-told t c =
    let m = c.in_ok-take.ensures.told in
    let a = c.in_ok-expr.ensures.told in
    let p = err_from_is_err_and c.from_residual-in_err-take-2.result c.from_residual-in_err-take-2.ensures.1 in
    rw (p.1, p.2) (nested_stop group _ _ (sym c.if-not-at.ensures) c.in_ok-inner.inner c.in_ok-inner.ensures _ _
    (then_stop_second c.in_ok-inner.inner (mark LeftParen) (expr then mark RightParen) _ m.0 _ (word_got c.in_ok-inner.inner (mark LeftParen) tt _ _ _ m.1) _ _
    (then_stop_second c.in_ok-inner.inner expr (mark RightParen) _ a.0 _ a.1 _ _
    (word_stop c.in_ok-inner.inner (mark RightParen) tt _ _ _ c.in_err-take-2.ensures.told))))

pub group-returns-clause-told : goal.group-returns-clause-told
group-returns-clause-told t c =
    let m = c.in_ok-take.ensures.told in
    let a = c.in_ok-expr.ensures.told in
    let r = c.in_ok-take-2.ensures.told in (
      nested group (both m.0 (both a.0 r.0)),
      nested_got group _ _ (sym c.if-not-at.ensures) c.in_ok-inner.inner c.in_ok-inner.ensures _ _
          (then_got c.in_ok-inner.inner (mark LeftParen) (expr then mark RightParen) _ _ _ _ _ (word_got c.in_ok-inner.inner (mark LeftParen) tt _ _ _ m.1)
          (then_got c.in_ok-inner.inner expr (mark RightParen) _ _ _ _ _ a.1 (word_got c.in_ok-inner.inner (mark RightParen) tt _ _ _ r.1))),
      a.2,
    )

pub prefix-returns-then-not-at_prefix_sign-clause-told : goal.prefix-returns-then-not-at_prefix_sign-clause-told
prefix-returns-then-not-at_prefix_sign-clause-told t c =
    wrote_right c.args.left (part signed) primary (λ t. prefix_rows t c.args.driven) _ (term_lists c.args.terms.now) _ _ _ (sym c.if-not-at_prefix_sign.ensures) c.primary.ensures.told

pub prefix-returns-in_err-inner-clause-told : goal.prefix-returns-in_err-inner-clause-told
prefix-returns-in_err-inner-clause-told t c =
    let p = err_from_is_err_and c.from_residual.result c.from_residual.ensures.1 in
    rw (p.1, p.2) (left_stop c.args.left (part signed) primary _ (sym c.if-not-at_prefix_sign.ensures) _ _
    (nested_deep signed _ _ (sym c.if-not-at_prefix_sign.ensures) _ c.in_err-inner.ensures))

pub prefix-returns-in_err-sign-clause-told : goal.prefix-returns-in_err-sign-clause-told
prefix-returns-in_err-sign-clause-told t c =
    let p = err_from_is_err_and c.from_residual-in_err-sign.result c.from_residual-in_err-sign.ensures.1 in
    rw (p.1, p.2) (left_stop c.args.left (part signed) primary _ (sym c.if-not-at_prefix_sign.ensures) _ _
    (nested_stop signed _ _ (sym c.if-not-at_prefix_sign.ensures) c.in_ok-inner.inner c.in_ok-inner.ensures _ _
    (then_stop c.in_ok-inner.inner prefix_sign prefix _ _ _ (c.in_err-sign.ensures.told c.in_ok-inner.inner))))

pub prefix-returns-in_err-prefix-clause-told : goal.prefix-returns-in_err-prefix-clause-told
prefix-returns-in_err-prefix-clause-told t c =
    let s = c.in_ok-sign.ensures.told c.in_ok-inner.inner in
    let p = err_from_is_err_and c.from_residual-in_err-prefix.result c.from_residual-in_err-prefix.ensures.1 in
    rw (p.1, p.2) (left_stop c.args.left (part signed) primary _ (sym c.if-not-at_prefix_sign.ensures) _ _
    (nested_stop signed _ _ (sym c.if-not-at_prefix_sign.ensures) c.in_ok-inner.inner c.in_ok-inner.ensures _ _
    (then_stop_second c.in_ok-inner.inner prefix_sign prefix _ s.0 _ s.1 _ _ c.in_err-prefix.ensures.told)))

pub prefix-returns-clause-told : goal.prefix-returns-clause-told
prefix-returns-clause-told t c =
    let s = c.in_ok-sign.ensures.told c.in_ok-inner.inner in
    let a = c.in_ok-prefix.ensures.told in
    let before = term_lists c.args.terms.now in
    let reads = left_got c.args.left (part signed) primary _ (sym c.if-not-at_prefix_sign.ensures) _ _ (nested_got signed _ _ (sym c.if-not-at_prefix_sign.ensures) c.in_ok-inner.inner c.in_ok-inner.ensures _ _ (then_got c.in_ok-inner.inner prefix_sign prefix _ _ _ _ _ s.1 a.1)) in
    wrote_last (read c.args.left prefix c.args.cursor.now) (λ t. prefix_rows t c.args.driven) before _ _
    (λ h. (left (nested signed (both s.0 a.0)), reads, under_is s.0 c.args.driven _ s.2 _ _ (term_lists c.prefix.new.terms) (prefix_rows a.0 c.args.driven before) _ c.form.ensures c.root-operand.ensures a.2 h))
    _ c.push.ensures.pushed

pub primary-returns-then-at-clause-told : goal.primary-returns-then-at-clause-told
primary-returns-then-at-clause-told t c =
    wrote_bits c.args.left c.args.driven _ (term_lists c.args.terms.now) _ _ _ c.if-at.ensures (c.bits.ensures.told c.args.left)

pub primary-returns-then-at-2-clause-told : goal.primary-returns-then-at-2-clause-told
primary-returns-then-at-2-clause-told t c =
    wrote_string c.args.left c.args.driven _ (term_lists c.args.terms.now) _ _ _ c.if-at.ensures c.if-at-2.ensures (c.bit_string.ensures.told c.args.left)

pub primary-returns-then-at-3-clause-told : goal.primary-returns-then-at-3-clause-told
primary-returns-then-at-3-clause-told t c =
    wrote_sized c.args.left c.args.driven _ (term_lists c.args.terms.now) _ _ _ c.if-at.ensures c.if-at-2.ensures c.if-at-3.ensures (c.sized.ensures.told c.args.left)

pub primary-returns-clause-told : goal.primary-returns-clause-told
primary-returns-clause-told t c =
    wrote_group c.args.left c.args.driven _ (term_lists c.args.terms.now) _ _ _ c.if-at.ensures c.if-at-2.ensures c.if-at-3.ensures c.group.ensures.told

pub expr-returns-in_err-or-2-clause-room : goal.expr-returns-in_err-or-2-clause-room
expr-returns-in_err-or-2-clause-room t c = λ limit slack r.
    let p = err_from_is_err_and c.from_residual-in_err-or-2.result c.from_residual-in_err-or-2.ensures.1 in
    let now = c.loop-place.invariant.room limit slack (c.in_ok-or.ensures.room limit slack r) in
    rw (p.1, p.2) (c.in_err-or-2.ensures.room limit slack (terms_room_less limit _ _ _ (omega (arith, c.in-Ok.ensures.forward)) now))

pub expr-returns-in_err-push-clause-room : goal.expr-returns-in_err-push-clause-room
expr-returns-in_err-push-clause-room t c = λ limit slack r.
    let p = err_from_is_err_and c.from_residual-in_err-push.result c.from_residual-in_err-push.ensures.1 in
    let now = c.loop-place.invariant.room limit slack (c.in_ok-or.ensures.room limit slack r) in
    let spare = terms_room_less limit _ (length c.take.new.self + (slack + 1)) _ (omega (arith, c.in-Ok.ensures.forward)) now in
    rw (p.1, p.2) (c.in_err-push.ensures.room limit _ (terms_room_less limit _ _ _ (omega arith) (c.in_ok-or-2.ensures.room limit (slack + 1) spare)))

pub expr-returns-clause-room : goal.expr-returns-clause-room
expr-returns-clause-room t c = λ limit slack r.
    let stays = c.in_default.ensures.stays in
    terms_room_less limit _ _ _ (omega (arith, ap length stays)) (c.loop-place.invariant.room limit slack (c.in_ok-or.ensures.room limit slack r))

pub or-returns-in_err-xor-2-clause-room : goal.or-returns-in_err-xor-2-clause-room
or-returns-in_err-xor-2-clause-room t c = λ limit slack r.
    let p = err_from_is_err_and c.from_residual-in_err-xor-2.result c.from_residual-in_err-xor-2.ensures.1 in
    let now = c.loop-place.invariant.room limit slack (c.in_ok-xor.ensures.room limit slack r) in
    rw (p.1, p.2) (c.in_err-xor-2.ensures.room limit slack (terms_room_less limit _ _ _ (omega (arith, c.in-Ok.ensures.forward)) now))

pub or-returns-in_err-push-clause-room : goal.or-returns-in_err-push-clause-room
or-returns-in_err-push-clause-room t c = λ limit slack r.
    let p = err_from_is_err_and c.from_residual-in_err-push.result c.from_residual-in_err-push.ensures.1 in
    let now = c.loop-place.invariant.room limit slack (c.in_ok-xor.ensures.room limit slack r) in
    let spare = terms_room_less limit _ (length c.take.new.self + (slack + 1)) _ (omega (arith, c.in-Ok.ensures.forward)) now in
    rw (p.1, p.2) (c.in_err-push.ensures.room limit _ (terms_room_less limit _ _ _ (omega arith) (c.in_ok-xor-2.ensures.room limit (slack + 1) spare)))

pub or-returns-clause-room : goal.or-returns-clause-room
or-returns-clause-room t c = λ limit slack r.
    let stays = c.in_default.ensures.stays in
    terms_room_less limit _ _ _ (omega (arith, ap length stays)) (c.loop-place.invariant.room limit slack (c.in_ok-xor.ensures.room limit slack r))

pub xor-returns-in_err-and-2-clause-room : goal.xor-returns-in_err-and-2-clause-room
xor-returns-in_err-and-2-clause-room t c = λ limit slack r.
    let p = err_from_is_err_and c.from_residual-in_err-and-2.result c.from_residual-in_err-and-2.ensures.1 in
    let now = c.loop-place.invariant.room limit slack (c.in_ok-and.ensures.room limit slack r) in
    rw (p.1, p.2) (c.in_err-and-2.ensures.room limit slack (terms_room_less limit _ _ _ (omega (arith, c.in-Ok.ensures.forward)) now))

pub xor-returns-in_err-push-clause-room : goal.xor-returns-in_err-push-clause-room
xor-returns-in_err-push-clause-room t c = λ limit slack r.
    let p = err_from_is_err_and c.from_residual-in_err-push.result c.from_residual-in_err-push.ensures.1 in
    let now = c.loop-place.invariant.room limit slack (c.in_ok-and.ensures.room limit slack r) in
    let spare = terms_room_less limit _ (length c.take.new.self + (slack + 1)) _ (omega (arith, c.in-Ok.ensures.forward)) now in
    rw (p.1, p.2) (c.in_err-push.ensures.room limit _ (terms_room_less limit _ _ _ (omega arith) (c.in_ok-and-2.ensures.room limit (slack + 1) spare)))

pub xor-returns-clause-room : goal.xor-returns-clause-room
xor-returns-clause-room t c = λ limit slack r.
    let stays = c.in_default.ensures.stays in
    terms_room_less limit _ _ _ (omega (arith, ap length stays)) (c.loop-place.invariant.room limit slack (c.in_ok-and.ensures.room limit slack r))

pub and-returns-in_err-prefix-2-clause-room : goal.and-returns-in_err-prefix-2-clause-room
and-returns-in_err-prefix-2-clause-room t c = λ limit slack r.
    let p = err_from_is_err_and c.from_residual-in_err-prefix-2.result c.from_residual-in_err-prefix-2.ensures.1 in
    let now = c.loop-place.invariant.room limit slack (c.in_ok-prefix.ensures.room limit slack r) in
    rw (p.1, p.2) (c.in_err-prefix-2.ensures.room limit slack (terms_room_less limit _ _ _ (omega (arith, c.in-Ok.ensures.forward)) now))

pub and-returns-in_err-push-clause-room : goal.and-returns-in_err-push-clause-room
and-returns-in_err-push-clause-room t c = λ limit slack r.
    let p = err_from_is_err_and c.from_residual-in_err-push.result c.from_residual-in_err-push.ensures.1 in
    let now = c.loop-place.invariant.room limit slack (c.in_ok-prefix.ensures.room limit slack r) in
    let spare = terms_room_less limit _ (length c.take.new.self + (slack + 1)) _ (omega (arith, c.in-Ok.ensures.forward)) now in
    rw (p.1, p.2) (c.in_err-push.ensures.room limit _ (terms_room_less limit _ _ _ (omega arith) (c.in_ok-prefix-2.ensures.room limit (slack + 1) spare)))

pub and-returns-clause-room : goal.and-returns-clause-room
and-returns-clause-room t c = λ limit slack r.
    let stays = c.in_default.ensures.stays in
    terms_room_less limit _ _ _ (omega (arith, ap length stays)) (c.loop-place.invariant.room limit slack (c.in_ok-prefix.ensures.room limit slack r))

pub group-returns-clause-room : goal.group-returns-clause-room
group-returns-clause-room t c = λ limit slack r.
    let inside = c.in_ok-expr.ensures.room limit slack (terms_room_less limit _ _ _ (omega (arith, c.in_ok-take.ensures.forward)) r) in
    terms_room_less limit _ _ _ (omega (arith, c.in_ok-take-2.ensures.forward)) inside

pub prefix-returns-clause-room : goal.prefix-returns-clause-room
prefix-returns-clause-room t c = λ limit slack r.
    let spare = terms_room_less limit _ (length c.prefix_sign.new.cursor + (slack + 1)) _ (omega (arith, c.in_ok-sign.ensures.forward)) r in
    c.push.ensures.room limit _ (terms_room_less limit _ _ _ (omega arith) (c.in_ok-prefix.ensures.room limit (slack + 1) spare))
