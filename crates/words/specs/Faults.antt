-- What the user is told of a wrong word, and what finding the words of a text answers. Assumes nothing.
use Rattle.std.specs.Prelude.{ℕ, List}
use Rattle.fault.specs.declared.Layer.TheVariants.{Text}
use Rattle.fault.specs.declared.Refusal.{Refusal}
use Rattle.words.specs.declared.faults.WordFault.{WordFault}
use Rattle.words.specs.declared.faults.WordFault.TheVariants.{NoWord, LongName, LargeInteger}
use Rattle.words.specs.declared.faults.TokensFault.{TokensFault}
use Rattle.words.specs.declared.faults.TokensFault.TheVariants.{OutOfMemory, Word}
use Rattle.words.specs.Spelling.{Misspelled}

-- number, place and layer of each case
abbrev pub word_told : WordFault → Refusal
word_told (NoWord p) = record { number = 3; place = p; layer = Text }
word_told (LongName p) = record { number = 4; place = p; layer = Text }
word_told (LargeInteger p) = record { number = 5; place = p; layer = Text }

-- why a text has no words; for want of memory they may not be found in any
abbrev pub NoTokens : List ℕ → TokensFault → Type 0
NoTokens text (Word fault) = Misspelled text fault
NoTokens text OutOfMemory = Unit {0}
