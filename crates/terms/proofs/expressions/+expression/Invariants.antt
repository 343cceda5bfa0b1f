use Rattle.std.proofs.Common.{ℕ, ◌+◌, ◌*◌, ◌≤◌, length}
use Rattle.grammar.specs.Drafts.{term_lists}
use Rattle.grammar.specs.Room.{TermsRoom}
use Rattle.terms.proofs.Levels.{Along, commas, ors, xors, ands}
use Rattle.terms.proofs.expressions.+expression.Given as goal

abbrev pub decreases-group : goal.decreases-group
decreases-group l = 8 * l.left

abbrev pub decreases-primary : goal.decreases-primary
decreases-primary l = 8 * l.left + 1

abbrev pub decreases-prefix : goal.decreases-prefix
decreases-prefix l = 8 * l.left + 2

abbrev pub decreases-and : goal.decreases-and
decreases-and l = 8 * l.left + 3

abbrev pub decreases-xor : goal.decreases-xor
decreases-xor l = 8 * l.left + 4

abbrev pub decreases-or : goal.decreases-or
decreases-or l = 8 * l.left + 5

abbrev pub decreases-expr : goal.decreases-expr
decreases-expr l = 8 * l.left + 6

abbrev pub invariant-expr-loop-place : goal.invariant-expr-loop-place
invariant-expr-loop-place l = record {
  goes : Along commas l.left l.driven l.initial.cursor (term_lists l.initial.terms) l.cursor (term_lists l.terms);
  behind : length l.cursor ≤ length l.initial.cursor;
  room : (limit slack : ℕ) → TermsRoom limit (length l.initial.cursor + slack) l.initial.terms → TermsRoom limit (length l.cursor + slack) l.terms;
}

abbrev pub decreases-expr-loop-place : goal.decreases-expr-loop-place
decreases-expr-loop-place l = length l.cursor

abbrev pub invariant-or-loop-place : goal.invariant-or-loop-place
invariant-or-loop-place l = record {
  goes : Along ors l.left l.driven l.initial.cursor (term_lists l.initial.terms) l.cursor (term_lists l.terms);
  behind : length l.cursor ≤ length l.initial.cursor;
  room : (limit slack : ℕ) → TermsRoom limit (length l.initial.cursor + slack) l.initial.terms → TermsRoom limit (length l.cursor + slack) l.terms;
}

abbrev pub decreases-or-loop-place : goal.decreases-or-loop-place
decreases-or-loop-place l = length l.cursor

abbrev pub invariant-xor-loop-place : goal.invariant-xor-loop-place
invariant-xor-loop-place l = record {
  goes : Along xors l.left l.driven l.initial.cursor (term_lists l.initial.terms) l.cursor (term_lists l.terms);
  behind : length l.cursor ≤ length l.initial.cursor;
  room : (limit slack : ℕ) → TermsRoom limit (length l.initial.cursor + slack) l.initial.terms → TermsRoom limit (length l.cursor + slack) l.terms;
}

abbrev pub decreases-xor-loop-place : goal.decreases-xor-loop-place
decreases-xor-loop-place l = length l.cursor

abbrev pub invariant-and-loop-place : goal.invariant-and-loop-place
invariant-and-loop-place l = record {
  goes : Along ands l.left l.driven l.initial.cursor (term_lists l.initial.terms) l.cursor (term_lists l.terms);
  behind : length l.cursor ≤ length l.initial.cursor;
  room : (limit slack : ℕ) → TermsRoom limit (length l.initial.cursor + slack) l.initial.terms → TermsRoom limit (length l.cursor + slack) l.terms;
}

abbrev pub decreases-and-loop-place : goal.decreases-and-loop-place
decreases-and-loop-place l = length l.cursor
