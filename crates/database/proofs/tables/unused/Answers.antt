use Rattle.database.proofs.tables.unused.Goals as goal

pub returns : goal.returns
returns g c = g.met.R.TableRow.is_unused c.default.result c.default.ensures
