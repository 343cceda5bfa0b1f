use Rattle.std.proofs.Common.{◌∙◌}
use Rattle.least.proofs.Notes.{then, notes_as}
use Rattle.symbols.specs.Widths.{comma_faults, width_up_to}
use Rattle.rules.specs.Targets.{bus_up_to}
use Rattle.rules.proofs.targets.note_target.Goals as goal

pub returns : goal.returns
returns c =
    let comma = c.args.target.comma in
    let last = c.last_of-last.ensures in
    let own = c.note_own-own.ensures.value in
    record {
      notes = then c.note_own-own.ensures.notes (notes_as _ (λ i. comma_faults comma (last i).width (own i)) c.note_up_to-width.ensures.notes);
      value = λ i. record {
        width = (c.note_up_to-width.ensures.value ∙ (λ j. width_up_to comma (last j).width (own j))) i;
        bus = (c.bus_up_to-bus.ensures ∙ (λ j. bus_up_to comma (last j).bus (c.own_bus.ensures j))) i;
      };
    }
