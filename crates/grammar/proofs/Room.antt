-- What room for rows in tables tells of less room, and of tables one of which has changed. Assumes nothing.
use Rattle.std.proofs.Common.{ℕ, ◌≤◌, Vec, arith}
use Rattle.std.specs.declared.alloc.Global.{Global}
use Rattle.grammar.specs.declared.draft.Listed.{Listed}
use Rattle.grammar.specs.declared.draft.Terms.{Terms}
use Rattle.grammar.specs.declared.draft.Rows.{Rows}
use Rattle.grammar.specs.Room.{HasRoom, TermsRoom, RowsReserved, RowsRoom}

-- room that is enough for more is enough for less
pub terms_room_less : (limit more less : ℕ) (terms : Terms) → less ≤ more → TermsRoom limit more terms → TermsRoom limit less terms
terms_room_less limit more less terms h r = record { nodes = (omega (arith, r.nodes.0), r.nodes.1); digits = (omega (arith, r.digits.0), r.digits.1) }

pub rows_room_less : (limit more less : ℕ) (rows : Rows) → less ≤ more → RowsRoom limit more rows → RowsRoom limit less rows
rows_room_less limit more less rows h r = record {
  items = (omega (arith, r.items.0), r.items.1);
  steps = (omega (arith, r.steps.0), r.steps.1);
  statements = (omega (arith, r.statements.0), r.statements.1);
  targets = (omega (arith, r.targets.0), r.targets.1);
  exits = (omega (arith, r.exits.0), r.exits.1);
  resets = (omega (arith, r.resets.0), r.resets.1);
  terms = terms_room_less limit more less rows.terms h r.terms;
}

-- tables that have room have their memory
pub rows_reserved : (limit more : ℕ) (rows : Rows) → RowsRoom limit more rows → RowsReserved limit rows
rows_reserved limit more rows r = record {
  items = r.items.1;
  steps = r.steps.1;
  statements = r.statements.1;
  targets = r.targets.1;
  exits = r.exits.1;
  resets = r.resets.1;
  terms = record { nodes = r.terms.nodes.1; digits = r.terms.digits.1 };
}

-- the tables of expressions with more rows, and the others as they were
pub with_terms_room : (limit more less : ℕ) (rows : Rows) (terms : Terms) → less ≤ more → RowsRoom limit more rows → TermsRoom limit less terms → RowsRoom limit less (record { items = rows.items; steps = rows.steps; statements = rows.statements; targets = rows.targets; exits = rows.exits; resets = rows.resets; terms = terms })
with_terms_room limit more less rows terms h r t =
    let s = rows_room_less limit more less rows h r in
    record { items = s.items; steps = s.steps; statements = s.statements; targets = s.targets; exits = s.exits; resets = s.resets; terms = t }

-- the resets with more rows, and the other tables as they were
pub with_resets_room : (limit more less : ℕ) (rows : Rows) (resets : Vec Listed Global) → less ≤ more → RowsRoom limit more rows → HasRoom limit less resets → RowsRoom limit less (record { items = rows.items; steps = rows.steps; statements = rows.statements; targets = rows.targets; exits = rows.exits; resets = resets; terms = rows.terms })
with_resets_room limit more less rows resets h r t =
    let s = rows_room_less limit more less rows h r in
    record { items = s.items; steps = s.steps; statements = s.statements; targets = s.targets; exits = s.exits; resets = t; terms = s.terms }
