-- Lists with a comma between: the loop that reads them, and the rows that it leaves. Assumes nothing.
use Rattle.std.proofs.Common.{◌≡◌, ℕ, ◌<◌, Bool, true, false, List, [], ◌∷◌, ◌++◌, length, Some, None, Ok, map, refl, sym, ap, ◌∙◌, append_assoc, arith}
use Rattle.words.specs.declared.token.Sign.TheVariants.{Comma}
use Rattle.words.specs.declared.token.Token.{Token}
use Rattle.grammar.specs.declared.draft.Listed.{Listed}
use Rattle.grammar.specs.declared.draft.Exit.{Exit}
use Rattle.grammar.specs.Rules.{Rule, mark, integer, ref, many, ◌then◌}
use Rattle.grammar.specs.Sorts.{sort, starts}
use Rattle.grammar.specs.Trees.{Tree, mark_at, both, end, more}
use Rattle.grammar.specs.Reading.{got, read}
use Rattle.grammar.specs.Drafts.{RowLists, with_exits, listed_at, more_listed, exit_at, more_targets}
use Rattle.cursor.specs.declared.stop.Stop.{Stop}
use Rattle.cursor.specs.Told.{Stopped, Wrote}
use Rattle.cursor.proofs.Steps.{Goes, goes_turn, goes_end, goes_stop, starts_then}
use Rattle.statements.specs.Parts.{one_exit, next_exit_rows, next_target_rows, exits_written}

-- a comma is a word
long : (ws : List Token) → starts (mark Comma) (sort ws) ≡ true → 0 < length ws
long [] e = absurd (cc)
long (w ∷ ws) e = omega arith

-- a loop that reads {, b} as long as a comma comes
module _ (n : ℕ) (b : Rule) {D : Type 0} (emit : Tree (many (mark Comma then b)) → D → D) (put : Tree (mark Comma then b) → D → D) (ws₀ : List Token) (d₀ : D) where
  -- the next word is looked at
  module _ (ws : List Token) (d : D) (g : Goes n (mark Comma then b) emit put ws₀ d₀ ws d) (q : Bool) (at : q ≡ starts (mark Comma) (sort ws)) where
    begins : (x : Bool) → q ≡ x → starts (mark Comma then b) (sort ws) ≡ x
    begins x h = starts_then (mark Comma) b (sort ws) refl ∙ (sym at ∙ h)

    pub commas_turn : ((t : Tree (mark Comma then b)) (u : Tree (many (mark Comma then b))) (d : D) → emit (more t u) d ≡ emit u (put t d)) → q ≡ true → (us : List Token) (d' : D) → Wrote {V = Unit {0}} (read n (mark Comma then b) ws) put d (Ok tt) us d' → length us < length ws → Goes n (mark Comma then b) emit put ws₀ d₀ us d'
    commas_turn law h us d' (t, p, e) less = goes_turn n (mark Comma then b) emit put ws₀ d₀ law ws d g (begins true h) t us p less d' e

    pub commas_end : ((d : D) → emit end d ≡ d) → q ≡ false → (u : Tree (many (mark Comma then b))) × (read n (many (mark Comma then b)) ws₀ ≡ got u ws) × (d ≡ emit u d₀)
    commas_end law h = goes_end n (mark Comma then b) emit put ws₀ d₀ law ws d g (begins false h)

    pub commas_stop : q ≡ true → (e : Stop) (rest : List Token) → Stopped (read n (mark Comma then b) ws) e rest → Stopped (read n (many (mark Comma then b)) ws₀) e rest
    commas_stop h e rest x = goes_stop n (mark Comma then b) emit put ws₀ d₀ ws d g (begins true h) (long ws (sym at ∙ h)) e rest x

-- targets
pub targets_turn : (t : Tree (mark Comma then ref)) (u : Tree (many (mark Comma then ref))) (d : RowLists) → more_targets (more t u) d ≡ more_targets u (next_target_rows t d)
targets_turn (both (mark_at p) r) u d = refl

-- exits of the step s
abbrev pub more_exits : ℕ → Tree (many (mark Comma then integer)) → RowLists → RowLists
more_exits s end d = d
more_exits s (more t ts) d = more_exits s ts (next_exit_rows s t d)

map_more : {A B : Type 0} (f : A → B) (xs : List A) (x : A) → map f (xs ++ x ∷ []) ≡ map f xs ++ f x ∷ []
map_more f [] x = refl
map_more f (y ∷ xs) x = ap (λ l. f y ∷ l) (map_more f xs x)

more_exits_are : (s : ℕ) (is : Tree (many (mark Comma then integer))) (xs : List Exit) (ys : List Listed) (d : RowLists) → more_exits s is (with_exits d (xs ++ map (exit_at s) ys)) ≡ with_exits d (xs ++ map (exit_at s) (more_listed is ys))
more_exits_are s end xs ys d = refl
more_exits_are s (more (both (mark_at p) i) is) xs ys d =
    ap (λ l. more_exits s is (with_exits d l)) (append_assoc xs (map (exit_at s) ys) (exit_at s (listed_at (Some p) i) ∷ []) ∙ ap (λ l. xs ++ l) (sym (map_more (exit_at s) ys (listed_at (Some p) i))))
    ∙ more_exits_are s is xs (ys ++ listed_at (Some p) i ∷ []) d

pub exits_are : (s : ℕ) (i : Tree integer) (is : Tree (many (mark Comma then integer))) (d : RowLists) → more_exits s is (one_exit s None i d) ≡ exits_written s (both i is) d
exits_are s i is d = more_exits_are s is d.exits (listed_at None i ∷ []) d
