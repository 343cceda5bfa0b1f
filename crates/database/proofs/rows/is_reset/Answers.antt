use Rattle.std.proofs.Common.{◌+◌, ◌||◌, drop, sym, ap, ◌∙◌}
use Rattle.std.proofs.lemmas.List.{at_drop_more, at_drop_all}
use Rattle.std.proofs.lemmas.Bool.{eq-eqb, ne_eqb}
use Rattle.database.specs.Saying.{is_reset}
use Rattle.database.proofs.rows.is_reset.Goals as goal

pub returns-then-from-number : goal.returns-then-from-number
returns-then-from-number c =
    sym (c.loop-named.invariant ∙ at_drop_more (λ ns. is_reset ns c.args.number) c.args.resets.now c.loop-named.named-index _ c.loop-named-test.true
    ∙ ap (λ t. t || is_reset (drop (c.loop-named.named-index + 1) c.args.resets.now) c.args.number) (eq-eqb _ _ (sym c.from.ensures ∙ c.if-from-number.true)))

pub loop-named-preserved : goal.loop-named-preserved
loop-named-preserved c =
    c.loop-named.invariant ∙ at_drop_more (λ ns. is_reset ns c.args.number) c.args.resets.now c.loop-named.named-index _ c.loop-named-test.true
    ∙ ap (λ t. t || is_reset (drop (c.loop-named.named-index + 1) c.args.resets.now) c.args.number) (ne_eqb _ _ (λ e. c.if-from-number.false (c.from.ensures ∙ e)))

pub returns : goal.returns
returns c = sym (c.loop-named.invariant ∙ at_drop_all (λ ns. is_reset ns c.args.number) c.args.resets.now c.loop-named.named-index c.loop-named-test.false)
