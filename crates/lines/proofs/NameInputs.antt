-- A line compared with the inputs' names, one after the other. Assumes nothing.
use Rattle.std.proofs.Common.{◌≡◌, ◌↔◌, ℕ, List, [], ◌∷◌, ◌++◌, map, ap, sym, ◌∙◌, arith}
use Rattle.std.proofs.lemmas.Bool.Decides.{nat_tests}
use Rattle.std.proofs.lemmas.List.{append_assoc, append_cancel_left}
use Rattle.grammar.specs.declared.draft.Class.TheVariants.{Input}
use Rattle.database.specs.Rows.{Database}
use Rattle.lines.specs.Lines.{upper, names_of, NamesInputs}
use Rattle.lines.specs.NameLines.{opened, GoesOn}
use Rattle.lines.proofs.SpacedWords.{opened_first}

-- what is left of a line names what is left of the names
abbrev pub Left : List ℕ → List ℕ → List (List ℕ) → Type 0
Left rest space names = map upper rest ≡ opened (map upper space) names ++ 10 ∷ []

-- at first all is left
pub all_left : (text : List ℕ) (d : Database) (line : List ℕ) → NamesInputs text d line ↔ Left line [] (names_of text d Input)
all_left text d line =
    let same = ap (λ t. t ++ 10 ∷ []) (opened_first (names_of text d Input)) in
    (λ e. e ∙ sym same, λ e. e ∙ same)

module _ (Whole : Type 0) (rest space name : List ℕ) (names more : List (List ℕ)) (are : names ≡ map upper name ∷ more) where
  -- the space, the name, and the names behind
  abbrev behind : List ℕ
  behind = opened (32 ∷ []) more ++ 10 ∷ []

  parts : opened (map upper space) names ++ 10 ∷ [] ≡ map upper space ++ (map upper name ++ behind)
  parts =
      ap (λ ns. opened (map upper space) ns ++ 10 ∷ []) are
      ∙ append_assoc (map upper space) (map upper name ++ opened (32 ∷ []) more) (10 ∷ [])
      ∙ ap (λ t. map upper space ++ t) (append_assoc (map upper name) (opened (32 ∷ []) more) (10 ∷ []))

  -- there is no space before the name
  pub no_space : (Whole → Left rest space names) → ((t : List ℕ) → GoesOn rest space t → ⊥) → Whole → ⊥
  no_space left lacks whole = lacks (map upper name ++ behind) (left whole ∙ parts)

  -- or a space and no name
  pub no_name : (named : List ℕ) → (Whole → Left rest space names) → GoesOn rest space (map upper named) → ((t : List ℕ) → GoesOn named name t → ⊥) → Whole → ⊥
  no_name named left spaced lacks whole = lacks behind (append_cancel_left (map upper space) (map upper named) (map upper name ++ behind) (sym spaced ∙ left whole ∙ parts))

  -- or both
  pub name_passed : (named next : List ℕ) → (Whole ↔ Left rest space names) → GoesOn rest space (map upper named) → GoesOn named name (map upper next) → Whole ↔ Left next (32 ∷ []) more
  name_passed named next left spaced is =
      let whole : map upper rest ≡ map upper space ++ (map upper name ++ map upper next) = spaced ∙ ap (λ t. map upper space ++ t) is in (
        λ w.
            let same = sym whole ∙ left.0 w ∙ parts in
            append_cancel_left (map upper name) (map upper next) behind (append_cancel_left (map upper space) (map upper name ++ map upper next) (map upper name ++ behind) same),
        λ e. left.1 (whole ∙ ap (λ t. map upper space ++ (map upper name ++ t)) e ∙ sym parts),
      )

-- the end of a line is alike in both cases
ends : (b : ℕ) → upper b ≡ 10 → b ≡ 10
ends b e = grind (arith, nat_tests)

pub line_ends : (rest : List ℕ) → (map upper rest ≡ 10 ∷ []) ↔ (rest ≡ 10 ∷ [])
line_ends [] = (λ e. cc, λ e. cc)
line_ends (b ∷ []) = (λ e. let first : upper b ≡ 10 = cc in ap (λ x. x ∷ []) (ends b first), λ e. ap (map upper) e)
line_ends (b ∷ x ∷ xs) = (λ e. cc, λ e. cc)
