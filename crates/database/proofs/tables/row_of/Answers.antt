use Rattle.std.proofs.Common.{◌<◌, ◌≤◌, length, ◌∙◌}
use Rattle.database.proofs.Numbers.{row_there, row_missing}
use Rattle.database.proofs.tables.row_of.Goals as goal

pub returns-in-Some : goal.returns-in-Some
returns-in-Some g c =
    let there : c.args.index < length c.args.written.now = c.in-Some.ensures.lookup.3.0 in
    c.make.ensures ∙ row_there (g.R.TableRow.made c.args.said.now) g.R.TableRow.unused c.args.written.now c.args.index c.in-Some.one.now there c.in-Some.ensures.lookup.1

pub returns-in-None : goal.returns-in-None
returns-in-None g c =
    let past : length c.args.written.now ≤ c.args.index = c.in-None.ensures.lookup.3 in
    c.unused.ensures ∙ row_missing (g.R.TableRow.made c.args.said.now) g.R.TableRow.unused c.args.written.now c.args.index past
