use Rattle.std.proofs.Common.{◌↔◌}
use Rattle.grammar.specs.declared.draft.Class.TheVariants.{Input}
use Rattle.control.specs.Databases.{rows_of}
use Rattle.lines.specs.Lines.{NamesInputs}
use Rattle.lines.specs.NameLines.{names_behind}
use Rattle.lines.proofs.NameInputs.{Left}
use Rattle.lines.proofs.names.behind_inputs.Given as goal

-- the line names the inputs where the rest names those that are left
abbrev pub invariant-loop-index : goal.invariant-loop-index
invariant-loop-index l =
    NamesInputs l.design.text.now (rows_of l.design.rows) l.line ↔ Left l.rest l.space (names_behind l.design.text.now (rows_of l.design.rows) Input l.index)
