use Rattle.std.proofs.Common.{false, arith}
use Rattle.std.proofs.lemmas.List.Sums.{sum_by-drop_more}
use Rattle.database.specs.Rows.{no_target}
use Rattle.database.specs.Soundness.{target_width}
use Rattle.inspect_layout.proofs.targets.are_wide.Goals as goal

pub returns-then-left-more : goal.returns-then-left-more
returns-then-left-more c =
    let own = c.args.own.now in
    let i = c.loop-target.target-index in
    let split = sum_by-drop_more target_width own i no_target c.loop-target-test.true in
    c.loop-target.invariant false (λ e. omega (arith, split, e, c.saturating_sub-more.ensures))
