-- The databases of the texts. Assumes nothing.
use Rattle.std.proofs.Common.{[], ◌∷◌}
use Rattle.database.specs.Rows.{Database}
use Rattle.text.specs.Worked.{symbol_of, step_of, statement_of, target_of, exit_of, name_of, constant_of, operator_of}

abbrev pub one_input_database : Database
one_input_database = record {
  symbols = symbol_of 1 1 21 1 ∷ symbol_of 2 1 33 1 ∷ [];
  steps = step_of 2 0 1 ∷ [];
  statements = statement_of 1 1 0 3 ∷ [];
  targets = target_of 1 2 0 0 ∷ [];
  exits = exit_of 1 1 ∷ [];
  nodes = name_of 1 0 0 1 ∷ name_of 1 0 0 1 ∷ operator_of 6 1 2 1 ∷ [];
}

abbrev pub together_database : Database
together_database = record {
  symbols = symbol_of 3 2 22 1 ∷ [];
  steps = step_of 2 0 1 ∷ step_of 2 0 1 ∷ [];
  statements = statement_of 1 2 0 1 ∷ statement_of 2 2 0 2 ∷ [];
  targets = target_of 1 1 0 1 ∷ target_of 2 1 0 1 ∷ [];
  exits = exit_of 1 1 ∷ exit_of 2 2 ∷ [];
  nodes = constant_of 2 1 ∷ constant_of 2 2 ∷ [];
}

abbrev pub swapped_database : Database
swapped_database = record {
  symbols = symbol_of 3 1 22 1 ∷ symbol_of 3 1 25 1 ∷ [];
  steps = step_of 2 0 1 ∷ [];
  statements = statement_of 1 2 0 1 ∷ statement_of 1 2 0 2 ∷ [];
  targets = target_of 1 1 0 0 ∷ target_of 2 2 0 0 ∷ [];
  exits = exit_of 1 1 ∷ [];
  nodes = name_of 2 0 0 1 ∷ name_of 1 0 0 1 ∷ [];
}

abbrev pub forked_database : Database
forked_database = record {
  symbols = symbol_of 1 1 22 1 ∷ symbol_of 1 1 25 1 ∷ [];
  steps = step_of 3 3 1 ∷ step_of 4 0 0 ∷ step_of 4 0 0 ∷ step_of 4 0 0 ∷ [];
  statements = [];
  targets = [];
  exits = exit_of 1 3 ∷ exit_of 1 4 ∷ [];
  nodes = name_of 1 0 0 1 ∷ name_of 2 0 0 1 ∷ operator_of 3 1 2 2 ∷ [];
}

abbrev pub kept_database : Database
kept_database = record {
  symbols = symbol_of 1 2 22 1 ∷ symbol_of 3 2 36 1 ∷ [];
  steps = step_of 2 0 1 ∷ step_of 2 0 0 ∷ [];
  statements = statement_of 1 2 0 1 ∷ statement_of 2 2 0 2 ∷ [];
  targets = target_of 1 2 1 1 ∷ target_of 2 2 0 1 ∷ [];
  exits = exit_of 1 2 ∷ exit_of 2 1 ∷ [];
  nodes = name_of 1 0 0 1 ∷ name_of 1 0 1 2 ∷ [];
}

abbrev pub doubted_database : Database
doubted_database = record {
  symbols = symbol_of 1 1 23 1 ∷ symbol_of 1 3 26 1 ∷ symbol_of 3 3 40 1 ∷ [];
  steps = step_of 2 0 1 ∷ [];
  statements = statement_of 1 2 1 2 ∷ [];
  targets = target_of 1 3 0 2 ∷ [];
  exits = exit_of 1 1 ∷ [];
  nodes = name_of 1 0 0 1 ∷ name_of 2 0 2 3 ∷ [];
}

abbrev pub bussed_database : Database
bussed_database = record {
  symbols = symbol_of 1 1 21 1 ∷ symbol_of 2 1 33 1 ∷ symbol_of 4 1 43 1 ∷ symbol_of 4 1 46 1 ∷ [];
  steps = step_of 1 0 1 ∷ step_of 2 0 0 ∷ [];
  statements = statement_of 1 1 0 1 ∷ statement_of 0 1 0 3 ∷ statement_of 0 1 0 4 ∷ [];
  targets = target_of 1 3 0 0 ∷ target_of 2 4 0 0 ∷ target_of 3 2 0 0 ∷ [];
  exits = exit_of 2 1 ∷ [];
  nodes = name_of 1 0 0 1 ∷ name_of 3 0 0 1 ∷ operator_of 7 2 0 1 ∷ name_of 4 0 0 1 ∷ [];
}
