-- Where a place stands in a text, for a person. Assumes nothing.
use Rattle.std.specs.Prelude.{◌≡◌, ℕ, ◌+◌, ◌-◌, ◌<◌, ◌≤◌, min, cond, ◌&&◌, ◌||◌, nat_le, List, [], ◌∷◌, ◌++◌, map, take, drop, length, get_or, ◌==◌, count_by}
use Rattle.explain.specs.declared.spot.Spot.{Spot}

-- no byte of the text from one place up to another ends a line
abbrev pub OneLine : List ℕ → ℕ → ℕ → Type 0
OneLine text from to = (i : ℕ) → from ≤ i → i < to → ¬ (get_or text i 0 ≡ 10)

-- The lines and columns of a text count from 1; byte 10 ends a line. A place behind the text is its end.
pub record SpotOf (text : List ℕ) (place : ℕ) (s : Spot) : Type 0 where
  pub within : s.place ≡ min place (length text)
  pub line : s.line ≡ count_by (λ b. b == 10) (take s.place text) + 1
  pub column : s.column ≡ s.place - s.start + 1
  pub start_before : s.start ≤ s.place
  pub begins : 1 ≤ s.start → get_or text (s.start - 1) 0 ≡ 10
  pub before : OneLine text s.start s.place
  pub end_behind : s.place ≤ s.end
  pub end_within : s.end ≤ length text
  pub behind : OneLine text s.place s.end
  pub ends : s.end < length text → get_or text s.end 0 ≡ 10

-- the bytes of a text from one place up to another
abbrev pub part : List ℕ → ℕ → ℕ → List ℕ
part text from to = take (to - from) (drop from text)

-- how a byte is shown: a tab and what can be printed as it is, and anything else as a question mark
abbrev pub shown : ℕ → ℕ
shown b = cond (b == 9 || (nat_le 32 b && nat_le b 126)) b 63

-- what stands below a byte: a tab below a tab, else a space
abbrev pub below : ℕ → ℕ
below b = cond (b == 9) 9 32

-- the line of a place, as it is shown; and what stands below it, a caret under the place
abbrev pub line_bytes : List ℕ → Spot → List ℕ
line_bytes text s = map shown (part text s.start s.end)

abbrev pub caret_bytes : List ℕ → Spot → List ℕ
caret_bytes text s = map below (part text s.start s.place) ++ 94 ∷ []
