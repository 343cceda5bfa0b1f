-- Words with spaces between. Assumes nothing.
use Rattle.std.proofs.Common.{◌≡◌, ℕ, List, [], ◌∷◌, ◌++◌, ap, sym, refl, ◌∙◌}
use Rattle.std.proofs.lemmas.List.{append_assoc, append-nil}
use Rattle.std.specs.List.{flat_map}
use Rattle.grammar.specs.declared.draft.Class.{Class}
use Rattle.grammar.specs.declared.draft.Class.TheVariants.{Output, Memory, Bus}
use Rattle.database.specs.Rows.{Database}
use Rattle.lines.specs.Cursors.{spaced_behind}
use Rattle.lines.specs.Lines.{with_spaces, line_of, names_of, printed_names, steps_word}
use Rattle.lines.specs.NameLines.{opened, printed_classes, steps_end}

pub behind_append : (xs ys : List (List ℕ)) → spaced_behind (xs ++ ys) ≡ spaced_behind xs ++ spaced_behind ys
behind_append [] ys = refl
behind_append (x ∷ xs) ys = ap (λ t. x ++ 32 ∷ t) (behind_append xs ys) ∙ sym (append_assoc x (32 ∷ spaced_behind xs) (spaced_behind ys))

-- a word behind others
behind_last : (xs : List (List ℕ)) (y : List ℕ) → with_spaces (xs ++ y ∷ []) ≡ spaced_behind xs ++ y
behind_last [] y = refl
behind_last (x ∷ []) y = sym (append_assoc x (32 ∷ []) y)
behind_last (x ∷ z ∷ xs) y = ap (λ t. x ++ 32 ∷ t) (behind_last (z ∷ xs) y) ∙ sym (append_assoc x (32 ∷ spaced_behind (z ∷ xs)) y)

opened_later : (x : List ℕ) (xs : List (List ℕ)) → x ++ opened (32 ∷ []) xs ≡ with_spaces (x ∷ xs)
opened_later x [] = append-nil x
opened_later x (y ∷ ys) = ap (λ t. x ++ 32 ∷ t) (opened_later y ys)

-- nothing before the first
pub opened_first : (xs : List (List ℕ)) → opened [] xs ≡ with_spaces xs
opened_first [] = refl
opened_first (x ∷ xs) = opened_later x xs

-- the names of a class, and then those of others
pub behind_class : (text : List ℕ) (d : Database) (c : Class) (cs : List Class) → spaced_behind (flat_map (names_of text d) (c ∷ cs)) ≡ spaced_behind (names_of text d c) ++ spaced_behind (flat_map (names_of text d) cs)
behind_class text d c cs = behind_append (names_of text d c) (flat_map (names_of text d) cs)

-- a printed line, class by class
pub line_parts : (words : Class → List (List ℕ)) (last : List ℕ) → line_of (words Memory ++ words Bus ++ words Output ++ last ∷ []) ≡ spaced_behind (flat_map words printed_classes) ++ (last ++ 10 ∷ [])
line_parts words last =
    let memory = words Memory in
    let buses = words Bus in
    let outputs = words Output in
    ap (λ t. t ++ 10 ∷ []) (behind_last (memory ++ buses ++ outputs) last)
    ∙ append_assoc (spaced_behind (memory ++ buses ++ outputs)) last (10 ∷ [])
    ∙ ap (λ t. spaced_behind t ++ (last ++ 10 ∷ [])) (append_assoc memory buses outputs ∙ ap (λ t. memory ++ (buses ++ t)) (sym (append-nil outputs)))

-- that of the names
pub printed_parts : (text : List ℕ) (d : Database) → printed_names text d ≡ spaced_behind (flat_map (names_of text d) printed_classes) ++ steps_end
printed_parts text d = line_parts (names_of text d) steps_word
