-- What the texts say, computed from their bytes. Assumes nothing.
use Rattle.std.proofs.Common.{◌≡◌, ℕ, ◌≤◌, List, length, Option, Some, None, refl, arith}
use Rattle.words.specs.declared.token.Token.{Token}
use Rattle.grammar.specs.Rules.{unit}
use Rattle.grammar.specs.Drafts.{draft_of}
use Rattle.grammar.specs.Reading.{read, read_with, read_part, read_many, read_series}
use Rattle.grammar.specs.Promise.{deepest}
use Rattle.drafts.specs.Parsed.{longest_text}
use Rattle.database.specs.Rows.{Database}
use Rattle.database.specs.Saying.{database_of}
use Rattle.text.specs.Promise.{Says}
use Rattle.text.proofs.Lexing.{lex}
use Rattle.text.proofs.Computed.{OutSays, says}
use Rattle.worked_runs.specs.Cases.{one_input, together, swapped, forked, kept, doubted, bussed}
use Rattle.worked_runs.proofs.Databases.{one_input_database, together_database, swapped_database, forked_database, kept_database, doubted_database, bussed_database}

-- the words found are those of a module that says the database
abbrev WordsSay : List ℕ → Database → Option (List Token) → Type 0
WordsSay text database None = ⊥
WordsSay text database (Some tokens) = OutSays text database (read deepest unit tokens)

words_say : (text : List ℕ) (database : Database) (words : Option (List Token)) → length text ≤ longest_text → lex 90 0 text ≡ words → WordsSay text database words → Says text database
words_say text database None short e h = absurd h
words_say text database (Some tokens) short e h = says 90 text tokens database short e h

text_says : (text : List ℕ) (database : Database) → length text ≤ longest_text → WordsSay text database (lex 90 0 text) → Says text database
text_says text database short h = words_say text database (lex 90 0 text) short refl h

pub one_input_says : Says one_input one_input_database
unfolding read read_with read_part read_many read_series draft_of database_of
one_input_says = text_says one_input one_input_database (omega arith) (refl, refl)

pub together_says : Says together.text together_database
unfolding read read_with read_part read_many read_series draft_of database_of
together_says = text_says together.text together_database (omega arith) (refl, refl)

pub swapped_says : Says swapped.text swapped_database
unfolding read read_with read_part read_many read_series draft_of database_of
swapped_says = text_says swapped.text swapped_database (omega arith) (refl, refl)

pub forked_says : Says forked.text forked_database
unfolding read read_with read_part read_many read_series draft_of database_of
forked_says = text_says forked.text forked_database (omega arith) (refl, refl)

pub kept_says : Says kept.text kept_database
unfolding read read_with read_part read_many read_series draft_of database_of
kept_says = text_says kept.text kept_database (omega arith) (refl, refl)

pub doubted_says : Says doubted.text doubted_database
unfolding read read_with read_part read_many read_series draft_of database_of
doubted_says = text_says doubted.text doubted_database (omega arith) (refl, refl)

pub bussed_says : Says bussed.text bussed_database
unfolding read read_with read_part read_many read_series draft_of database_of
bussed_says = text_says bussed.text bussed_database (omega arith) (refl, refl)
