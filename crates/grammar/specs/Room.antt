-- Room for rows in tables that have their memory already. Assumes nothing.
use Rattle.std.specs.Prelude.{ℕ, ◌+◌, ◌≤◌, Vec, vec_len, vec_capacity}
use Rattle.grammar.specs.declared.draft.Terms.{Terms}
use Rattle.grammar.specs.declared.draft.Rows.{Rows}

-- a table has memory for so many rows
abbrev pub Reserved : {A H : Type 0} → ℕ → Vec A H → Type 0
Reserved limit table = limit ≤ vec_capacity table

-- and so many rows more do not pass them
abbrev pub HasRoom : {A H : Type 0} → ℕ → ℕ → Vec A H → Type 0
HasRoom limit more table = (vec_len table + more ≤ limit) × Reserved limit table

-- the same of the tables of expressions, and of all tables
pub record TermsReserved (limit : ℕ) (terms : Terms) : Type 0 where
  pub nodes : Reserved limit terms.nodes
  pub digits : Reserved limit terms.digits

pub record TermsRoom (limit more : ℕ) (terms : Terms) : Type 0 where
  pub nodes : HasRoom limit more terms.nodes
  pub digits : HasRoom limit more terms.digits

pub record RowsReserved (limit : ℕ) (rows : Rows) : Type 0 where
  pub items : Reserved limit rows.items
  pub steps : Reserved limit rows.steps
  pub statements : Reserved limit rows.statements
  pub targets : Reserved limit rows.targets
  pub exits : Reserved limit rows.exits
  pub resets : Reserved limit rows.resets
  pub terms : TermsReserved limit rows.terms

pub record RowsRoom (limit more : ℕ) (rows : Rows) : Type 0 where
  pub items : HasRoom limit more rows.items
  pub steps : HasRoom limit more rows.steps
  pub statements : HasRoom limit more rows.statements
  pub targets : HasRoom limit more rows.targets
  pub exits : HasRoom limit more rows.exits
  pub resets : HasRoom limit more rows.resets
  pub terms : TermsRoom limit more rows.terms
