-- What a reader of words answers. Assumes nothing.
use Rattle.std.specs.Prelude.{◌≡◌, ℕ, ◌+◌, List, [], length, Option, Some, None, Result, Ok, Err}
use Rattle.words.specs.declared.token.Token.{Token}
use Rattle.words.specs.declared.reader.Word.{Word}
use Rattle.words.specs.declared.faults.WordFault.{WordFault}
use Rattle.words.specs.Spelling.{Separators, FirstWord, FirstWordWrong}

-- the part of a text that is still to be read, and the place of its first byte
pub record Unread : Type 0 where
  pub place : ℕ
  pub rest : List ℕ

-- the word as the grammar sees it
abbrev pub token_of : Word → Token
token_of w = record { kind = w.kind; place = w.place }

-- the word is the first of what was unread, bytes and all, and what is unread now follows it
pub record ReadsWord (before : Unread) (word : Word) (after : Unread) : Type 0 where
  pub first : FirstWord before.place before.rest (token_of word)
  pub bytes : first.bytes ≡ word.text.now
  pub rest : first.rest ≡ after.rest
  pub place : after.place ≡ word.place + length word.text.now

-- What a reader answers, by what was unread and what is unread now: no word, for only separators are left, and nothing then; the first word;
-- or what is wrong with it, and then the reader stays.
abbrev pub Reads : Unread → Result (Option Word) WordFault → Unread → Type 0
Reads before (Ok None) after = Separators before.rest × (after.rest ≡ []) × (after.place ≡ before.place + length before.rest)
Reads before (Ok (Some word)) after = ReadsWord before word after
Reads before (Err fault) after = FirstWordWrong before.place before.rest fault × (after ≡ before)
