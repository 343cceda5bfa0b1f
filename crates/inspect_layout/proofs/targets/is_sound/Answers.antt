use Rattle.std.proofs.Common.{◌∙◌, ap}
use Rattle.control.specs.Databases.{rows_of}
use Rattle.inspect_layout.proofs.Sides.{side_is}
use Rattle.inspect_layout.proofs.targets.is_sound.Goals as goal

pub returns-then-are_wide : goal.returns-then-are_wide
returns-then-are_wide c =
    side_is (rows_of c.args.rows.now) c.args.statement c.args.own.now c.are_in_order.result (c.if-are_wide.ensures ∙ ap (λ x. x.width) c.node.ensures) c.are_in_order.ensures
