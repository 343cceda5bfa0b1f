-- The loop that reads {stmt ;} stmt | {stmt ;} branch. Assumes nothing.
use Rattle.std.proofs.Common.{◌≡◌, ℕ, suc, ◌-◌, ◌<◌, Bool, true, false, List, [], ◌∷◌, length, Ok, refl, sym, ap, ◌∙◌, arith}
use Rattle.std.proofs.lemmas.Bool.{cond-true, cond-false}
use Rattle.words.specs.declared.token.Sign.TheVariants.{Semicolon, Branch, LeftParen, RightParen}
use Rattle.words.specs.declared.token.Token.{Token}
use Rattle.grammar.specs.declared.draft.Leaving.TheVariants.{Next}
use Rattle.grammar.specs.Rules.{Rule, mark, ◌then◌, fork, series, integers, stmt, branch}
use Rattle.grammar.specs.Sorts.{sort, starts}
use Rattle.grammar.specs.Trees.{Tree, mark_at, last, closing, next}
use Rattle.grammar.specs.Reading.{Out, wrong, map_out, and_then, read_word, read_series, series_on, read_with, read}
use Rattle.grammar.specs.Drafts.{RowLists, stmt_rows, series_rows}
use Rattle.cursor.specs.declared.stop.Stop.{Stop}
use Rattle.cursor.specs.Told.{mark_place, Stopped, Told, Wrote, Gave}
use Rattle.cursor.proofs.Steps.{starts_then, stop_by}
use Rattle.statements.specs.Parts.{condition_branch}
use Rattle.statements.proofs.Steps.{On, join, got_on, stop_on}

abbrev pub statements : Rule
statements = series stmt Semicolon branch

-- what is behind the sign of a branch
abbrev behind : Rule
behind = mark LeftParen then fork (integers then mark RightParen) condition_branch

-- reading on with at most so many turns
pub on : ℕ → ℕ → List Token → Out (Tree statements)
unfolding read
on n f ws = read_series stmt Semicolon branch (read n stmt) (read n branch) f ws

module _ (n : ℕ) (ws : List Token) where
  on_whole : read n statements ws ≡ on n (suc (length ws)) ws
  unfolding read read_with on
  on_whole = refl

  on_branch : (f : ℕ) → starts branch (sort ws) ≡ true → on n (suc f) ws ≡ map_out closing (read n branch ws)
  unfolding on read_series
  on_branch f h = cond-true _ _ _ h

  on_statement : (f : ℕ) → starts branch (sort ws) ≡ false → on n (suc f) ws ≡ and_then (read n stmt ws) (λ t us. series_on stmt Semicolon branch (on n f) t us (read_word (mark Semicolon) us))
  unfolding on read_series
  on_statement f h = cond-false _ _ _ h

-- a sign that the next word is not
not_taken : (ws : List Token) → starts (mark Semicolon) (sort ws) ≡ false → read_word (mark Semicolon) ws ≡ wrong ws
not_taken [] h = refl
not_taken (w ∷ ws) h = grind arith

-- What the loop has come to in the step s, from the words ws₀ and the rows d₀ to ws and d: the whole comes to what
-- reading on comes to.
pub record Turns (n s : ℕ) (ws₀ : List Token) (d₀ : RowLists) (ws : List Token) (d : RowLists) : Type 0 where
  pub turns : ℕ
  pub enough : length ws < turns
  pub whole : Tree statements → Tree statements
  pub so_far : On (read n statements ws₀) whole (on n turns ws)
  pub rows : (t : Tree statements) → series_rows s (whole t) d₀ ≡ series_rows s t d

module _ (n s : ℕ) where
  pub turns_start : (ws : List Token) (d : RowLists) → Turns n s ws d ws d
  turns_start ws d = record {
    turns = suc (length ws);
    enough = omega arith;
    whole = λ t. t;
    so_far = record { is = grind (arith, on_whole n ws) };
    rows = λ t. refl;
  }

  module _ (ws₀ : List Token) (d₀ : RowLists) (ws : List Token) (d : RowLists) (g : Turns n s ws₀ d₀ ws d) (q : Bool) (at : q ≡ starts (mark Branch) (sort ws)) where
    begins : (x : Bool) → q ≡ x → starts branch (sort ws) ≡ x
    begins x h = starts_then (mark Branch) behind (sort ws) refl ∙ (sym at ∙ h)

    fuel : g.turns ≡ suc (g.turns - 1)
    fuel = let x = g.enough in omega arith

    pub turns_branch : q ≡ true → On (read n statements ws₀) (λ t. g.whole (closing t)) (read n branch ws)
    turns_branch h = join g.so_far (record { is = ap (λ f. on n f ws) fuel ∙ on_branch n ws (g.turns - 1) (begins true h) })

    -- what comes behind a statement
    abbrev go_on : Tree stmt → List Token → Out (Tree statements)
    go_on t us = series_on stmt Semicolon branch (on n (g.turns - 1)) t us (read_word (mark Semicolon) us)

    step : q ≡ false → on n g.turns ws ≡ and_then (read n stmt ws) go_on
    step h = ap (λ f. on n f ws) fuel ∙ on_statement n ws (g.turns - 1) (begins false h)

    -- a statement that is not read
    pub turns_stop : q ≡ false → (e : Stop) (rest : List Token) → Stopped (read n stmt ws) e rest → Stopped (read n statements ws₀) e rest
    turns_stop h e rest x =
        stop_on g.so_far e rest
        (stop_by (read n stmt ws) (on n g.turns ws) (λ us p. step h ∙ ap (λ o. and_then o go_on) p) (λ us p. step h ∙ ap (λ o. and_then o go_on) p) e rest x)

    module _ (h : q ≡ false) (us : List Token) (d' : RowLists) (w : Wrote {V = Unit {0}} (read n stmt ws) (stmt_rows s) d (Ok tt) us d') where
      after : on n g.turns ws ≡ go_on w.0 us
      after = step h ∙ ap (λ o. and_then o go_on) w.1

      -- the last statement
      pub turns_last : starts (mark Semicolon) (sort us) ≡ false → Gave (read n statements ws₀) (series_rows s) d₀ (Ok Next) us d'
      turns_last k =
          (g.whole (last w.0), got_on g.so_far (last w.0) us (after ∙ ap (series_on stmt Semicolon branch (on n (g.turns - 1)) w.0 us) (not_taken us k)), ap (λ d. (Next, d)) w.2 ∙ sym (g.rows (last w.0)))

      -- a statement and the sign behind it
      pub turns_turn : (p : ℕ) (vs : List Token) → Told (read_word (mark Semicolon) us) mark_place (Ok p) vs → length vs < length ws → Turns n s ws₀ d₀ vs d'
      turns_turn p vs (mark_at p', r, e) less = record {
        turns = g.turns - 1;
        enough = let x = g.enough in omega arith;
        whole = λ t. g.whole (next w.0 p' t);
        so_far = join g.so_far (record { is = after ∙ ap (series_on stmt Semicolon branch (on n (g.turns - 1)) w.0 us) r });
        rows = λ t. g.rows (next w.0 p' t) ∙ ap (series_rows s t) (sym w.2);
      }
