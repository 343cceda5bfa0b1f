-- How the rows of a database lie. Assumes nothing.
use Rattle.std.specs.Prelude.{length}
use Rattle.database.specs.Rows.{Database}
use Rattle.database.specs.Soundness.{StepsLaid, TargetsLaid}

-- statements, exits and nodes are those of the steps, in their order
abbrev pub StepsInOrder : Database → Type 0
StepsInOrder d = StepsLaid d 1 d.steps d.statements d.exits 0 (length d.nodes)

-- targets are those of the statements, in their order, and their sides are sound
abbrev pub TargetsInOrder : Database → Type 0
TargetsInOrder d = TargetsLaid d 1 d.statements d.targets
