-- The longest front of a text whose bytes all pass a test. Assumes nothing.
use Rattle.std.proofs.Common.{◌≡◌, ℕ, ◌+◌, ◌≤◌, Bool, true, false, cond, List, [], ◌∷◌, length, take, drop, get_or, sym, refl, ◌∙◌, subst, true≢false, one-add, arith}
use Rattle.std.specs.List.{prefix_len}
use Rattle.words.specs.Spelling.{Every}
use Rattle.words.specs.Inner.{BytesBegin, Stops}

pub record Run (test : ℕ → Bool) (text : List ℕ) (n : ℕ) : Type 0 where
  pub within : n ≤ length text
  pub every : Every test (take n text)
  pub stops : Stops test (drop n text)

run_more : (test : ℕ → Bool) (x : ℕ) (xs : List ℕ) (n : ℕ) (t : Bool) → test x ≡ t → Run test xs n → Run test (x ∷ xs) (cond t (1 + n) 0)
run_more test x xs n true e r = subst (Run test (x ∷ xs)) (sym (one-add n)) (record { within = omega (arith, r.within); every = (e, r.every); stops = r.stops })
run_more test x xs n false e r = record { within = omega arith; every = tt; stops = e }

pub run : (test : ℕ → Bool) (text : List ℕ) → Run test text (prefix_len test text)
run test [] = record { within = omega arith; every = tt; stops = tt }
run test (x ∷ xs) = run_more test x xs (prefix_len test xs) (test x) refl (run test xs)

pub run_at : (test : ℕ → Bool) (text : List ℕ) (n : ℕ) → n ≡ prefix_len test text → Run test text n
run_at test text n e = subst (Run test text) (sym e) (run test text)

pub run_within : (test : ℕ → Bool) (text : List ℕ) → prefix_len test text ≤ length text
run_within test text = (run test text).within

-- a front that is no part of the run before it
pub begins_at : (test : ℕ → Bool) (text : List ℕ) → 1 ≤ length text → test (get_or text 0 0) ≡ true → BytesBegin test text
begins_at test [] l e = absurd (omega arith)
begins_at test (b ∷ bs) l e = e

pub begins_not : (test : ℕ → Bool) (text : List ℕ) → test (get_or text 0 0) ≡ false → BytesBegin test text → ⊥
begins_not test [] e h = h
begins_not test (b ∷ bs) e h = true≢false (sym h ∙ e)
