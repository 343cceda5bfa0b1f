-- What the rows of a usable database say of the numbers in a target. Assumes nothing.
use Rattle.std.proofs.Common.{ℕ, ◌+◌, ◌<◌, ◌≤◌, length, get_or, subst, arith}
use Rattle.database.specs.declared.rows.TargetRow.{TargetRow}
use Rattle.database.specs.Rows.{Database, no_target, target}
use Rattle.control.specs.Points.{target_bits, offset}
use Rattle.control.specs.Usable.{Usable}
use Rattle.settling.proofs.UsableRows.{row_is}

-- its statement and its symbol are rows, and its bits are those of a symbol
pub record Bounded (x : TargetRow) : Type 0 where
  pub first_statement : 1 ≤ x.statement
  pub last_statement : x.statement ≤ 256
  pub first_symbol : 1 ≤ x.symbol
  pub last_symbol : x.symbol ≤ 64
  pub forward : x.first ≤ x.last
  pub within : x.last < 32

module _ (d : Database) (u : Usable d) (i : ℕ) (h : i < length d.targets) where
  row_bounded : Bounded (target d (i + 1))
  row_bounded =
      let t = u.targets (i + 1) (omega arith, omega arith) in
      let row = t.row in
      let names = t.names in
      let statements = u.few_statements in
      let symbols = u.few_symbols in
      let width = (u.symbols (target d (i + 1)).symbol t.names).width.1 in
      record {
        first_statement = row.0;
        last_statement = omega (arith, row.1);
        first_symbol = names.0;
        last_symbol = omega (arith, names.1);
        forward = t.forward;
        within = omega (arith, t.within);
      }

  pub bounded : Bounded (get_or d.targets i no_target)
  bounded = subst Bounded (row_is no_target d.targets i) row_bounded

  -- a target takes bits of a value that has 32 at most
  pub takes_few : offset d (i + 1) + target_bits d (i + 1) ≤ 32
  takes_few =
      let t = u.targets (i + 1) (omega arith, omega arith) in
      let value = (u.statements (target d (i + 1)).statement t.row).value in
      let width = (u.nodes _ value).width.1 in
      omega (arith, t.part, width)
