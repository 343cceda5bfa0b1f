-- How many integers the list of an exit has is at most how many exits there are. Assumes nothing.
use Rattle.std.proofs.Common.{ℕ, ◌+◌, ◌≤◌, List, [], ◌∷◌, ◌++◌, length, IfSome, Some, None, Option, sym, subst, arith}
use Rattle.std.proofs.lemmas.List.{length_push}
use Rattle.grammar.specs.declared.draft.Step.{Step}
use Rattle.grammar.specs.declared.draft.Exit.{Exit}
use Rattle.least.specs.declared.rule.RuleFault.{RuleFault}
use Rattle.least.specs.Each.{grown_after, last_of}
use Rattle.least.proofs.Lists.{last_push}
use Rattle.symbols.specs.Widths.{unless_faulty}
use Rattle.rules.specs.Steps.{exit_faults, count_up_to, exit_count, counts}

-- the last of the counts is at most as many as they are
abbrev pub Few : List (Option ℕ) → Type 0
Few rows = IfSome (last_of None rows) (λ n. n ≤ length rows)

-- one row more
few_push : (rows : List (Option ℕ)) (count : Option ℕ) → IfSome count (λ n. n ≤ length rows + 1) → Few (rows ++ count ∷ [])
few_push rows None h = subst (λ last. IfSome last (λ n. n ≤ length (rows ++ None ∷ []))) (sym (last_push None rows None)) tt
few_push rows (Some n) h = subst (λ last. IfSome last (λ m. m ≤ length (rows ++ Some n ∷ []))) (sym (last_push None rows (Some n))) (omega (arith, length_push rows (Some n)))

unless_few : (faults : List RuleFault) (count : Option ℕ) (limit : ℕ) → IfSome count (λ n. n ≤ limit) → IfSome (unless_faulty faults count) (λ n. n ≤ limit)
unless_few [] count limit h = h
unless_few (f ∷ fs) count limit h = tt

one_more : (comma last : Option ℕ) (limit : ℕ) → IfSome last (λ n. n ≤ limit) → IfSome (count_up_to comma last) (λ n. n ≤ limit + 1)
one_more None last limit h = omega arith
one_more (Some place) None limit h = tt
one_more (Some place) (Some n) limit h = omega arith

few_grown : (steps : List Step) (rows : List (Option ℕ)) (exits : List Exit) → Few rows → Few (grown_after (exit_count steps) rows exits)
few_grown steps rows [] h = h
few_grown steps rows (e ∷ es) h =
    few_grown steps (rows ++ exit_count steps rows e ∷ []) es
    (few_push rows (exit_count steps rows e) (unless_few (exit_faults steps (length rows) e) (count_up_to e.entered.comma (last_of None rows)) (length rows + 1) (one_more e.entered.comma (last_of None rows) (length rows) h)))

pub counts_few : (steps : List Step) (exits : List Exit) → Few (counts steps exits)
counts_few steps exits = few_grown steps [] exits tt
