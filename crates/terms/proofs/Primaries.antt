-- A primary is read by its first word. Assumes nothing.
use Rattle.std.proofs.Common.{◌≡◌, ℕ, true, false, List, Option, Result, sym, refl, ◌∙◌}
use Rattle.words.specs.declared.token.Token.{Token}
use Rattle.words.specs.declared.token.Sign.TheVariants.{Backslash, Dollar}
use Rattle.grammar.specs.Rules.{group, mark, name, integer, ◌then◌, maybe, either, part, integers, ref, primary}
use Rattle.grammar.specs.Sorts.{sort, starts}
use Rattle.grammar.specs.Trees.{right}
use Rattle.grammar.specs.Reading.{read}
use Rattle.grammar.specs.Drafts.{TermLists, primary_rows}
use Rattle.cursor.specs.declared.stop.Stop.{Stop}
use Rattle.cursor.specs.Told.{Wrote}
use Rattle.cursor.proofs.Steps.{starts_then}
use Rattle.cursor.proofs.MoreSteps.{wrote_left, wrote_right}
use Rattle.terms.specs.Subscripts.{subscript_rule}
use Rattle.terms.specs.Expressions.{bits_rows, string_rule, string_rows, sized_rule, sized_rows, group_rows}

module _ {V : Type 0} (n : ℕ) (k : Option ℕ) (ws : List Token) (before : TermLists) (r : Result V Stop) (rest : List Token) (after : TermLists) where
  -- a name
  pub wrote_bits : true ≡ starts name (sort ws) → Wrote (read n ref ws) (λ t. bits_rows t k) before r rest after → Wrote (read n primary ws) (λ t. primary_rows t k) before r rest after
  wrote_bits s = wrote_left n ref _ (λ t. primary_rows t k) ws before r rest after (starts_then name (maybe subscript_rule) _ refl ∙ sym s)

  -- no name
  module _ (no_name : false ≡ starts name (sort ws)) where
    other : Wrote (read n (either string_rule (either sized_rule (part group))) ws) (λ t. primary_rows (right t) k) before r rest after → Wrote (read n primary ws) (λ t. primary_rows t k) before r rest after
    other = wrote_right n ref _ (λ t. primary_rows t k) ws before r rest after (starts_then name (maybe subscript_rule) _ refl ∙ sym no_name)

    pub wrote_string : true ≡ starts (mark Backslash) (sort ws) → Wrote (read n string_rule ws) (λ t. string_rows t k) before r rest after → Wrote (read n primary ws) (λ t. primary_rows t k) before r rest after
    wrote_string s h = other (wrote_left n string_rule _ (λ t. primary_rows (right t) k) ws before r rest after (starts_then (mark Backslash) (integers then mark Backslash) _ refl ∙ sym s) h)

    -- no bit string
    module _ (no_string : false ≡ starts (mark Backslash) (sort ws)) where
      constant : Wrote (read n (either sized_rule (part group)) ws) (λ t. primary_rows (right (right t)) k) before r rest after → Wrote (read n primary ws) (λ t. primary_rows t k) before r rest after
      constant h = other (wrote_right n string_rule _ (λ t. primary_rows (right t) k) ws before r rest after (starts_then (mark Backslash) (integers then mark Backslash) _ refl ∙ sym no_string) h)

      pub wrote_sized : true ≡ starts integer (sort ws) → Wrote (read n sized_rule ws) (λ t. sized_rows t k) before r rest after → Wrote (read n primary ws) (λ t. primary_rows t k) before r rest after
      wrote_sized s h = constant (wrote_left n sized_rule _ (λ t. primary_rows (right (right t)) k) ws before r rest after (starts_then integer (mark Dollar then integer) _ refl ∙ sym s) h)

      pub wrote_group : false ≡ starts integer (sort ws) → Wrote (read n (part group) ws) (λ t. group_rows t k) before r rest after → Wrote (read n primary ws) (λ t. primary_rows t k) before r rest after
      wrote_group s h = constant (wrote_right n sized_rule _ (λ t. primary_rows (right (right t)) k) ws before r rest after (starts_then integer (mark Dollar then integer) _ refl ∙ sym s) h)
