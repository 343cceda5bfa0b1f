-- Module texts whose runs are worked out. Assumes nothing.
use Rattle.std.specs.Prelude.{◌≡◌, ℕ, ◌+◌, false, cond, not, ◌==◌, List, [], ◌∷◌, ◌++◌, map, filter, length, codes}
use Rattle.level.specs.declared.letter.Letter.{Letter}
use Rattle.level.specs.declared.letter.Letter.TheVariants.{Zero, One, Unknown}
use Rattle.level.specs.Faults.{bench_refusal}
use Rattle.database.specs.Rows.{Database}
use Rattle.database.specs.Soundness.{Sound}
use Rattle.control.specs.Letters.{Letters}
use Rattle.control.specs.Runs.{LaneCall, open_with, drive, clock, reset, look, LaneAnswer, done, told, refused, Run}
use Rattle.text.specs.Promise.{Says}
use Rattle.text.specs.Worked.{lines, pace, strings}

-- a call, and what it answers
pub record Move : Type 0 where
  pub call : LaneCall
  pub answer : LaneAnswer

-- a call that is done
abbrev pub does : LaneCall → Move
does c = record { call = c; answer = done }

-- a call that is refused since it is amiss
abbrev pub refuses : LaneCall → Move
refuses c = record { call = c; answer = refused (bench_refusal 25) }

-- a look at a point, and its letter
abbrev pub sees : ℕ → Letter → Move
sees p x = record { call = look p; answer = told x }

-- the letter that a character shows: `0`, `1`, or else X
abbrev pub letter_at : ℕ → Letter
letter_at n = cond (n == 48) Zero (cond (n == 49) One Unknown)

-- the letters that a line shows; blanks only part them
abbrev pub letters : List ℕ → List Letter
letters line = map letter_at (filter (λ n. not (n == 32)) line)

-- drives of the inputs from a number on, one for each letter
abbrev pub drives_from : ℕ → List Letter → List Move
drives_from n [] = []
drives_from n (x ∷ xs) = does (drive n x) ∷ drives_from (n + 1) xs

-- looks at the points from a number on, one for each letter
abbrev pub sees_from : ℕ → List Letter → List Move
sees_from p [] = []
sees_from p (x ∷ xs) = sees p x ∷ sees_from (p + 1) xs

-- an opening with these letters of the registers
abbrev pub opening : List ℕ → List Move
opening line = does (open_with (letters line)) ∷ []

-- a drive of all inputs
abbrev pub inputs : List ℕ → List Move
inputs line = drives_from 0 (letters line)

-- a look at the points from a number on
abbrev pub points : ℕ → List ℕ → List Move
points p line = sees_from p (letters line)

-- a clock
abbrev pub clocking : List Move
clocking = does clock ∷ []

-- all inputs are driven, points are looked at, and there is a clock
abbrev pub round : List ℕ → ℕ → List ℕ → List Move
round driven p seen = inputs driven ++ points p seen ++ clocking

-- a text, and calls with their answers
pub record Case : Type 0 where
  pub text : List ℕ
  pub moves : List Move

-- A register that is loaded from an input while another is 1, and then shown: X's until it is loaded.
abbrev pub paced : Case
paced = record {
  text = pace;
  moves =
      opening (codes "XX") ++ round (codes "0 11") 3 (codes "XX 00 0 10")
      ++ round (codes "1 11") 3 (codes "XX 00 0 10")
      ++ round (codes "0 00") 3 (codes "11 11 1 01");
}

-- An input that is both sides of `@`.
abbrev pub one_input : List ℕ
one_input =
    lines (
    codes "MODULE: one. INPUTS: a. OUTPUTS: y. BODY SEQUENCE: clk."
    ∷ codes "1 y = a @ a; => (1)."
    ∷ codes "ENDSEQUENCE CONTROLRESET(1). END." ∷ [])

-- Its output is X where the input is X, though it is 0 where the input is known.
abbrev pub unknown_input : Case
unknown_input = record {
  text = one_input;
  moves = opening (codes "") ++ inputs (codes "X") ++ points 1 (codes "X 1") ++ inputs (codes "1") ++ points 1 (codes "0 1");
}

-- Calls that name an input or a point that there is not, or too many registers, are refused and change nothing.
abbrev pub refusals : Case
refusals = record {
  text = one_input;
  moves =
      opening (codes "") ++ inputs (codes "X") ++ refuses (drive 1 One) ∷ refuses (look 3) ∷ refuses (open_with (One ∷ []))
      ∷ points 0 (codes "X X 1");
}

-- Two steps that are active together load 01 and 10 into one register, which becomes 11.
abbrev pub together : Case
together = record {
  text =
      lines (
      codes "MODULE: both. MEMORY: r[2]. BODY SEQUENCE: clk."
      ∷ codes "1 r <= \\0,1\\; => (1)."
      ∷ codes "2 r <= \\1,0\\; => (2)."
      ∷ codes "ENDSEQUENCE CONTROLRESET(1, 2). END." ∷ []);
  moves = opening (codes "XX") ++ points 0 (codes "XX 11") ++ clocking ++ points 0 (codes "11 11");
}

-- Two registers swap, since all are loaded together.
abbrev pub swapped : Case
swapped = record {
  text =
      lines (
      codes "MODULE: swap. MEMORY: r; s. BODY SEQUENCE: clk."
      ∷ codes "1 r <= s; s <= r; => (1)."
      ∷ codes "ENDSEQUENCE CONTROLRESET(1). END." ∷ []);
  moves = opening (codes "10") ++ clocking ++ points 0 (codes "01 1");
}

-- A branch enters each step whose condition is 1, and the next step where none is; an X is passed on.
abbrev pub forked : Case
forked = record {
  text =
      lines (
      codes "MODULE: fork. INPUTS: a; b. BODY SEQUENCE: clk."
      ∷ codes "1 => (a, b)/(3, 4)."
      ∷ codes "2 DEADEND."
      ∷ codes "3 DEADEND."
      ∷ codes "4 DEADEND."
      ∷ codes "ENDSEQUENCE CONTROLRESET(1). END." ∷ []);
  moves =
      opening (codes "") ++ inputs (codes "11") ++ points 2 (codes "1000") ++ clocking ++ points 2 (codes "0011")
      ++ does reset ∷ inputs (codes "00") ++ clocking ++ points 2 (codes "0100")
      ++ does reset ∷ inputs (codes "X0") ++ clocking ++ points 2 (codes "0XX0");
}

-- Bit by bit, a side of one bit is repeated: `\1,1\ & \0\` is 00. NOT binds tighter than the comma: `^\1,0\,\1\` is 011.
abbrev pub stringed : Case
stringed = record {
  text = strings;
  moves = opening (codes "") ++ points 0 (codes "00 011 1");
}

-- A bit of a register that no active step loads keeps its letter.
abbrev pub kept : Case
kept = record {
  text =
      lines (
      codes "MODULE: keep. INPUTS: d[2]. MEMORY: r[2]. BODY SEQUENCE: clk."
      ∷ codes "1 r[1] <= d[0]; => (2)."
      ∷ codes "2 r <= d; => (1)."
      ∷ codes "ENDSEQUENCE CONTROLRESET(1). END." ∷ []);
  moves = opening (codes "X0") ++ round (codes "10") 2 (codes "X0 10") ++ round (codes "10") 2 (codes "X1 01") ++ points 2 (codes "10 10");
}

-- Where a register is loaded or not, by an X, a bit that is 0 and would get 0 stays 0, and others are X, also one that is 1 and would get 1.
abbrev pub doubted : Case
doubted = record {
  text =
      lines (
      codes "MODULE: doubt. INPUTS: a; d[3]. MEMORY: r[3]. BODY SEQUENCE: clk."
      ∷ codes "1 r * (a) <= d; => (1)."
      ∷ codes "ENDSEQUENCE CONTROLRESET(1). END." ∷ []);
  moves = opening (codes "011") ++ inputs (codes "X 010") ++ clocking ++ points 4 (codes "0XX 1");
}

-- A bus that no active step drives is 0; what stands behind CONTROLRESET is always driven; a step with no branch goes to the next.
abbrev pub bussed : Case
bussed = record {
  text =
      lines (
      codes "MODULE: bus. INPUTS: a. OUTPUTS: y. BUSES: b; c. BODY SEQUENCE: clk."
      ∷ codes "1 b = a."
      ∷ codes "2 => (1)."
      ∷ codes "ENDSEQUENCE CONTROLRESET(1); c = ^b; y = c. END." ∷ []);
  moves = opening (codes "") ++ round (codes "1") 1 (codes "1 0 0 10") ++ points 1 (codes "0 1 1 01");
}

-- the cases above
abbrev pub cases : List Case
cases =
    paced ∷ unknown_input ∷ refusals ∷ together ∷ swapped ∷ forked ∷ stringed ∷ kept ∷ doubted ∷ bussed ∷ []

-- the calls of a case
abbrev pub calls : Case → List LaneCall
calls c = map (λ m. m.call) c.moves

-- their answers
abbrev pub answers : Case → List LaneAnswer
answers c = map (λ m. m.answer) c.moves

-- what is held at first
abbrev pub nothing_known : Letters
nothing_known p = Unknown

-- The text says a database, on which the calls get these answers, and no others.
pub record Plays (c : Case) : Type 0 where
  pub database : Database
  pub says : Says c.text database
  pub sound : Sound (length c.text) database
  pub left : Letters
  pub run : Run database false nothing_known (calls c) (answers c) left
  pub alone : (others : List LaneAnswer) (u : Letters) → Run database false nothing_known (calls c) others u → others ≡ answers c
