use Rattle.std.proofs.Common.{sym, vec_items, unwrap_or}
use Rattle.least.proofs.Finds.{length_numbered}
use Rattle.symbols.specs.Widths.{width_at}
use Rattle.database.specs.Saying.{symbol_row, step_row, statement_row, target_row, exit_row, node_row}
use Rattle.database.proofs.tables.Tables.fill.Goals as goal

pub returns-clause-counted : goal.returns-clause-counted
returns-clause-counted c =
    let d = c.args.draft.now in
    let text = c.args.text.now in
    λ i. record {
      symbols = sym (length_numbered (λ n x. symbol_row x) d.items.now) i;
      steps = sym (length_numbered (step_row d.resets.now) d.steps.now) i;
      statements = sym (length_numbered (λ n s. statement_row s) d.statements.now) i;
      targets = sym (length_numbered (λ n t. target_row text d.items.now d.statements.now t) d.targets.now) i;
      exits = sym (length_numbered (λ n e. exit_row e) d.exits.now) i;
      nodes = sym (length_numbered (λ n x. node_row text d.items.now (vec_items c.args.measures.now.strings) (unwrap_or (width_at (vec_items c.args.measures.now.widths) n) 0) x.form) d.nodes.now) i;
    }
