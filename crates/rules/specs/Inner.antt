-- What private functions promise. Assumes nothing.
use Rattle.rules.specs.declared.nodes.Facts.{Facts}
use Rattle.rules.specs.Nodes.{Known}

-- what nodes are judged by, as lists
abbrev pub known_by : Facts → Known
known_by f = record { text = f.text.now; items = f.items.now; sides = f.sides.now; strings = f.strings.now }
