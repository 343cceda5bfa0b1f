use Rattle.std.proofs.Common.{◌+◌, ◌∷◌, map, sym, ap, ◌∙◌}
use Rattle.control.specs.Databases.{rows_of}
use Rattle.lines.specs.Lines.{upper}
use Rattle.lines.specs.NameLines.{names_behind}
use Rattle.lines.proofs.NameRows.{one_more, no_more}
use Rattle.lines.proofs.names.name_in.Goals as goal

pub returns-then-is_of_class : goal.returns-then-is_of_class
returns-then-is_of_class c =
    let text = c.args.design.now.text.now in
    let rows = rows_of c.args.design.now.rows in
    one_more text rows c.args.class c.args.index c.requires (sym c.is_of_class.ensures ∙ c.if-is_of_class.true)
    ∙ ap (λ name. map upper name ∷ names_behind text rows c.args.class (c.args.index + 1)) (sym c.name.ensures)

pub returns-else-is_of_class : goal.returns-else-is_of_class
returns-else-is_of_class c =
    no_more c.args.design.now.text.now (rows_of c.args.design.now.rows) c.args.class c.args.index c.requires (sym c.is_of_class.ensures ∙ c.if-is_of_class.false)
