-- The lines printed of an accepted text are short. Assumes nothing.
use Rattle.std.proofs.Common.{◌≡◌, ℕ, zero, suc, ◌+◌, ◌*◌, ◌≤◌, List, [], ◌∷◌, ◌++◌, map, length, get_or, take, drop, All, sym, refl, ap, ◌∙◌, subst, ⊎_elim, arith}
use Rattle.std.specs.List.{flat_map}
use Rattle.std.proofs.lemmas.Bool.{cases_lt}
use Rattle.std.proofs.lemmas.List.{length-append, length-map, length-take, get_or_past}
use Rattle.std.proofs.lemmas.List.Elements.{All-map}
use Rattle.words.specs.Spelling.{longest_name}
use Rattle.grammar.specs.declared.draft.Class.{Class}
use Rattle.grammar.specs.declared.draft.Class.TheVariants.{Output, Memory, Bus}
use Rattle.grammar.specs.Drafts.{DraftLists}
use Rattle.drafts.specs.Parsed.{Drafted}
use Rattle.database.specs.declared.rows.SymbolRow.{SymbolRow}
use Rattle.database.specs.Rows.{Database, no_symbol, symbol}
use Rattle.database.specs.Saying.{symbol_row, symbol_rows, database_of}
use Rattle.database.specs.Soundness.{Sound}
use Rattle.soundness.proofs.Lists.{unnumbered}
use Rattle.soundness.proofs.Sound.{accepted_are_sound}
use Rattle.text.specs.Promise.{Says}
use Rattle.control.specs.Points.{symbols_of}
use Rattle.settling.proofs.UsableDatabases.{sound_is_usable}
use Rattle.lines.specs.Lines.{upper, symbol_name, names_of, printed_names, printed_letters, class_words, step_word}
use Rattle.lines.specs.NameLines.{steps_end}
use Rattle.lines.specs.NameLines.{printed_classes}
use Rattle.control.specs.Letters.{Letters}
use Rattle.lines.specs.Cursors.{spaced_behind}
use Rattle.lines.proofs.SpacedWords.{behind_append, line_parts, printed_parts}
use Rattle.lines.proofs.ValueRows.{few_symbols}
use Rattle.lines.proofs.ValuePrints.{few_letters}
use Rattle.fitting.specs.Laws.{NamesFit, LettersFit}
use Rattle.fitting.proofs.ShortNames.{names_short}

-- a symbol has a short name
abbrev ShortSymbol : SymbolRow → Type 0
ShortSymbol x = x.length ≤ longest_name

abbrev ShortSymbols : Database → Type 0
ShortSymbols d = (y : ℕ) → ShortSymbol (symbol d y)

-- each row has one, and so has the row of none
rows_short : (xs : List SymbolRow) → All ShortSymbol xs → (y : ℕ) → ShortSymbol (get_or (no_symbol ∷ xs) y no_symbol)
rows_short xs all zero = omega arith
rows_short xs all (suc k) =
    ⊎_elim (λ h. all k no_symbol h) (λ h. subst ShortSymbol (sym (get_or_past xs k no_symbol h)) (omega arith)) (cases_lt k (length xs))

symbols_short : (text : List ℕ) (d : DraftLists) → Drafted text d → ShortSymbols (database_of text d)
unfolding database_of
symbols_short text d g =
    let short = names_short text d g in
    let all : All ShortSymbol (map symbol_row d.rows.items) = All-map ShortSymbol symbol_row d.rows.items (λ k e l. short k e l) in
    rows_short (symbol_rows d) (subst (All ShortSymbol) (sym (unnumbered symbol_row d.rows.items)) all)

sound : (text : List ℕ) (d : Database) → Says text d → Sound (length text) d
sound text d s = subst (Sound (length text)) (sym s.rows) (accepted_are_sound text s.draft s.drafted s.faultless)

short : (text : List ℕ) (d : Database) → Says text d → ShortSymbols d
short text d s = subst ShortSymbols (sym s.rows) (symbols_short text s.draft s.drafted)

-- names with a space behind each
module _ (text : List ℕ) (d : Database) (names : ShortSymbols d) where
  name_short : (y : ℕ) → length (symbol_name text d y) ≤ longest_name
  name_short y =
      let x = symbol d y in
      let part = take x.length (drop x.place text) in
      omega (arith, length-map part upper, length-take x.length (drop x.place text), names y)

  closed_short : (ys : List ℕ) → length (spaced_behind (map (symbol_name text d) ys)) ≤ 21 * length ys
  closed_short [] = omega arith
  closed_short (y ∷ ys) = omega (arith, length-append (symbol_name text d y) (32 ∷ spaced_behind (map (symbol_name text d) ys)), name_short y, closed_short ys)

-- the words of each class stand one behind the other
module _ (words : Class → List (List ℕ)) where
  abbrev class_length : Class → ℕ
  class_length c = length (spaced_behind (words c))

  class_behind : (c : Class) (cs : List Class) → length (spaced_behind (flat_map words (c ∷ cs))) ≡ class_length c + length (spaced_behind (flat_map words cs))
  class_behind c cs = ap length (behind_append (words c) (flat_map words cs)) ∙ length-append (spaced_behind (words c)) (spaced_behind (flat_map words cs))

  parts_length : length (spaced_behind (flat_map words printed_classes)) ≡ class_length Memory + class_length Bus + class_length Output
  parts_length =
      let none : length (spaced_behind (flat_map words [])) ≡ 0 = refl in
      omega (arith, class_behind Memory (Bus ∷ Output ∷ []), class_behind Bus (Output ∷ []), class_behind Output [], none)

-- the line of names, and that of letters
names_length : (text : List ℕ) (d : Database) → length (printed_names text d) ≡ length (spaced_behind (flat_map (names_of text d) printed_classes)) + 6
names_length text d = ap length (printed_parts text d) ∙ length-append (spaced_behind (flat_map (names_of text d) printed_classes)) steps_end

letters_length : (d : Database) (w : Letters) → length (printed_letters d w) ≡ length (spaced_behind (flat_map (class_words d w) printed_classes)) + (length (step_word d w) + 1)
letters_length d w =
    let behind = spaced_behind (flat_map (class_words d w) printed_classes) in
    let whole = ap length (line_parts (class_words d w) (step_word d w)) ∙ length-append behind (step_word d w ++ 10 ∷ []) in
    omega (arith, whole, length-append (step_word d w) (10 ∷ []))

pub names_fit : NamesFit
names_fit text d s =
    let names = short text d s in
    let memory = closed_short text d names (symbols_of d Memory) in
    let buses = closed_short text d names (symbols_of d Bus) in
    let outputs = closed_short text d names (symbols_of d Output) in
    omega (arith, names_length text d, parts_length (names_of text d), memory, buses, outputs, few_symbols d, (sound text d s).few.symbols)

pub letters_fit : LettersFit
letters_fit text d w s =
    let few = few_letters d w (sound_is_usable (length text) d (sound text d s)) in
    omega (arith, letters_length d w, parts_length (class_words d w), few.symbols, few.memory, few.buses, few.outputs, few.steps)
