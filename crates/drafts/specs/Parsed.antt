-- What is promised of reading a text. Assumes nothing.
use Rattle.std.specs.Prelude.{◌≡◌, ℕ, ◌<◌, ◌≤◌, List, [], ◌∷◌, length}
use Rattle.words.specs.declared.token.Token.{Token}
use Rattle.words.specs.Spelling.{Spelled, Misspelled}
use Rattle.grammar.specs.Rules.{unit}
use Rattle.grammar.specs.Trees.{Tree, words, depth}
use Rattle.grammar.specs.Drafts.{DraftLists, draft_of}
use Rattle.grammar.specs.Promise.{deepest, FirstWrong, FirstDeep}
use Rattle.drafts.specs.declared.faults.DraftFault.{DraftFault}
use Rattle.drafts.specs.declared.faults.DraftFault.TheVariants.{OutOfMemory, LongText, Word, Unexpected, TooDeep}

-- how many bytes a text has at most
abbrev pub longest_text : ℕ
longest_text = 16384

-- the place of the first of these words or, where none is left, the text's length
abbrev pub front_place : ℕ → List Token → ℕ
front_place n [] = n
front_place n (w ∷ ws) = w.place

-- The words are those of a module that nests at most 16 deep, and the draft is that module's. No other module has these words.
pub record IsDraft (tokens : List Token) (draft : DraftLists) : Type 0 where
  pub tree : Tree unit
  pub shallow : depth tree ≤ deepest
  pub same : words tree ≡ tokens
  pub drafted : draft ≡ draft_of tree
  pub only : (other : Tree unit) → words other ≡ tokens → other ≡ tree

-- the words go wrong at that place of a text of so many bytes
pub record StopsAt (Stops : List Token → List Token → Type 0) (tokens : List Token) (bytes place : ℕ) : Type 0 where
  pub rest : List Token
  pub stops : Stops tokens rest
  pub there : place ≡ front_place bytes rest

-- a text that is not too long has words, and they are so
pub record HasWords (text : List ℕ) (Are : List Token → Type 0) : Type 0 where
  pub short : length text ≤ longest_text
  pub tokens : List Token
  pub spelled : Spelled text tokens
  pub are : Are tokens

-- the text is a module's, and the draft is that module's
abbrev pub Drafted : List ℕ → DraftLists → Type 0
Drafted text draft = HasWords text (λ tokens. IsDraft tokens draft)

-- no table of a draft has more than so many rows
pub record FewRows (limit : ℕ) (d : DraftLists) : Type 0 where
  pub items : length d.rows.items ≤ limit
  pub steps : length d.rows.steps ≤ limit
  pub statements : length d.rows.statements ≤ limit
  pub targets : length d.rows.targets ≤ limit
  pub exits : length d.rows.exits ≤ limit
  pub resets : length d.rows.resets ≤ limit
  pub nodes : length d.rows.terms.nodes ≤ limit
  pub digits : length d.rows.terms.digits ≤ limit

-- Why a text is refused: it is too long; or a word is wrong, the first one of the text; or its words are no module's. Never for want
-- of memory.
abbrev pub Undrafted : List ℕ → DraftFault → Type 0
Undrafted text OutOfMemory = ⊥
Undrafted text LongText = longest_text < length text
Undrafted text (Word fault) = (length text ≤ longest_text) × Misspelled text fault
Undrafted text (Unexpected place) = HasWords text (λ tokens. StopsAt FirstWrong tokens (length text) place)
Undrafted text (TooDeep place) = HasWords text (λ tokens. StopsAt FirstDeep tokens (length text) place)
