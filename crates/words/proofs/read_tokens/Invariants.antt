use Rattle.std.proofs.Common.{◌+◌, ◌≤◌, length, vec_items, vec_len, vec_capacity}
use Rattle.words.specs.Spelling.{BeginsWith}
use Rattle.words.proofs.read_tokens.Given as goal

abbrev pub invariant-loop-kind : goal.invariant-loop-kind
invariant-loop-kind l =
    BeginsWith 0 l.text (vec_items l.tokens) l.words.place l.words.rest
    × (vec_len l.tokens + length l.words.rest ≤ length l.text)
    × (vec_capacity l.initial.tokens ≤ vec_capacity l.tokens)

abbrev pub decreases-loop-kind : goal.decreases-loop-kind
decreases-loop-kind l = length l.words.rest
