-- Names, and which symbol they name. Assumes nothing.
use Rattle.std.specs.Prelude.{ℕ, ◌+◌, Bool, cond, List, [], ◌∷◌, map, take, drop, Option, Some, None, option_map}
use Rattle.std.specs.Str.{bytes_eq}
use Rattle.std.specs.Char.{to_ascii_lowercase}
use Rattle.grammar.specs.declared.draft.Name.{Name}
use Rattle.grammar.specs.declared.draft.Item.{Item}

-- the part of a text that a name is
abbrev pub name_bytes : List ℕ → Name → List ℕ
name_bytes text n = take n.len (drop n.place text)

-- the same bytes: in which case a letter is written makes no difference
abbrev pub alike : List ℕ → List ℕ → Bool
alike a b = bytes_eq (map to_ascii_lowercase a) (map to_ascii_lowercase b)

abbrev pub same_name : List ℕ → Name → Name → Bool
same_name text m n = alike (name_bytes text m) (name_bytes text n)

-- the first item of that name, counted from 0
abbrev pub index_of : List ℕ → Name → List Item → Option ℕ
index_of text n [] = None
index_of text n (x ∷ xs) = cond (same_name text x.name n) (Some 0) (option_map (λ k. 1 + k) (index_of text n xs))
