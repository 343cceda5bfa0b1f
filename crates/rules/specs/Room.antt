-- Memory for what is measured. Assumes nothing.
use Rattle.std.specs.Prelude.{◌≡◌, ℕ, ◌≤◌, [], length, vec_items}
use Rattle.grammar.specs.Drafts.{DraftLists}
use Rattle.rules.specs.declared.measures.Measures.{Measures}
use Rattle.grammar.specs.Room.{Reserved}

-- nothing is measured yet
pub record NothingMeasured (m : Measures) : Type 0 where
  pub sides : vec_items m.sides ≡ []
  pub strings : vec_items m.strings ≡ []
  pub widths : vec_items m.widths ≡ []
  pub counts : vec_items m.counts ≡ []

-- there is memory for so many rows of each
pub record MeasuresReserved (limit : ℕ) (m : Measures) : Type 0 where
  pub sides : Reserved limit m.sides
  pub strings : Reserved limit m.strings
  pub widths : Reserved limit m.widths
  pub counts : Reserved limit m.counts

-- a draft has no more rows than so many of what is measured
pub record FewMeasured (limit : ℕ) (d : DraftLists) : Type 0 where
  pub targets : length d.rows.targets ≤ limit
  pub digits : length d.rows.terms.digits ≤ limit
  pub nodes : length d.rows.terms.nodes ≤ limit
  pub exits : length d.rows.exits ≤ limit
