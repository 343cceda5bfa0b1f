-- The database of a text that keeps words, grammar and rules is sound. Assumes nothing.
use Rattle.std.proofs.Common.{◌≡◌, ℕ, List, [], length, sym, subst}
use Rattle.grammar.specs.Drafts.{DraftLists}
use Rattle.rules.specs.Faults.{faults}
use Rattle.database.specs.Saying.{database_of}
use Rattle.database.specs.Soundness.{Sound}
use Rattle.soundness.specs.Laws.{AcceptedAreSound}
use Rattle.soundness.specs.Layout.{Laid, NamesWithin}
use Rattle.soundness.proofs.Rows.{laid}
use Rattle.soundness.proofs.Names.{names_within}
use Rattle.soundness.proofs.Few.{few}
use Rattle.soundness.proofs.Symbols.{symbols_sound, symbols_in_order, bits_few}
use Rattle.soundness.proofs.StepRows.{some_step, steps_sound, closes, exits_sound}
use Rattle.soundness.proofs.StatementRows.{WidthsThere, statements_sound}
use Rattle.soundness.proofs.TargetRows.{targets_sound}
use Rattle.soundness.proofs.LaidRows.{laid_rows}
use Rattle.soundness.proofs.Sides.{BusesInOrder, sides_laid}
use Rattle.soundness.proofs.Nodes.{widths_there, nodes_sound, order}

-- rows that lie as those of a draft, without faults
pub sound : (text : List ℕ) (d : DraftLists) → Laid d.rows → NamesWithin 0 (length text) d.rows.items → faults text d ≡ [] → Sound (length text) (database_of text d)
sound text d lies names none =
    let wide : WidthsThere text d = widths_there text d lies none in
    let buses : BusesInOrder text d = order text d lies none in
    record {
      few = few text d none;
      symbols = symbols_sound text d none names;
      in_order = symbols_in_order text d none names;
      bits = bits_few text d none;
      some_step = some_step text d none lies;
      steps = steps_sound text d none lies;
      closes = closes text d none lies;
      statements = statements_sound text d none wide lies;
      targets = targets_sound text d none lies;
      exits = exits_sound text d none lies;
      nodes = nodes_sound text d lies none;
      laid = laid_rows text d none wide lies;
      sides = sides_laid text d none wide buses lies;
    }

pub accepted_are_sound : AcceptedAreSound
accepted_are_sound text d drafted none =
    sound text d (subst (λ (x : DraftLists). Laid x.rows) (sym drafted.are.drafted) (laid drafted.are.tree)) (names_within text d drafted) none
