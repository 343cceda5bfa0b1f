-- What a text says, computed. Assumes nothing.
use Rattle.std.proofs.Common.{◌≡◌, ℕ, ◌≤◌, List, [], ◌∷◌, length, Some, sym, refl}
use Rattle.words.specs.declared.token.Token.{Token}
use Rattle.words.specs.Spelling.{Spelled}
use Rattle.grammar.specs.Rules.{unit}
use Rattle.grammar.specs.Trees.{Tree}
use Rattle.grammar.specs.Drafts.{draft_of}
use Rattle.grammar.specs.Reading.{Out, got, wrong, deep, read}
use Rattle.grammar.specs.Promise.{deepest}
use Rattle.drafts.specs.Parsed.{longest_text}
use Rattle.drafts.proofs.Words.{whole_module}
use Rattle.rules.specs.Faults.{faults}
use Rattle.database.specs.Rows.{Database}
use Rattle.database.specs.Saying.{database_of}
use Rattle.text.specs.Promise.{Says}
use Rattle.text.proofs.Lexing.{lex, spelled}

-- the module read has no fault, and says the database
abbrev pub OutSays : List ℕ → Database → Out (Tree unit) → Type 0
OutSays text database (got t []) = (faults text (draft_of t) ≡ []) × (database_of text (draft_of t) ≡ database)
OutSays text database (got t (w ∷ ws)) = ⊥
OutSays text database (wrong ws) = ⊥
OutSays text database (deep ws) = ⊥

says_by : (text : List ℕ) (tokens : List Token) (database : Database) → length text ≤ longest_text → Spelled text tokens → (o : Out (Tree unit)) → read deepest unit tokens ≡ o → OutSays text database o → Says text database
says_by text tokens database short s (got t []) e h = record { draft = draft_of t; drafted = record { short = short; tokens = tokens; spelled = s; are = whole_module tokens t (draft_of t) e refl }; faultless = h.0; rows = sym h.1 }
says_by text tokens database short s (got t (w ∷ ws)) e h = absurd h
says_by text tokens database short s (wrong ws) e h = absurd h
says_by text tokens database short s (deep ws) e h = absurd h

pub says : (n : ℕ) (text : List ℕ) (tokens : List Token) (database : Database) → length text ≤ longest_text → lex n 0 text ≡ Some tokens → OutSays text database (read deepest unit tokens) → Says text database
says n text tokens database short e h = says_by text tokens database short (spelled n text tokens e) (read deepest unit tokens) refl h
