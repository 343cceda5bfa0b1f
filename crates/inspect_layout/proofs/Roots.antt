-- Expressions one behind the other, and where they end. Assumes nothing.
use Rattle.std.proofs.Common.{◌≡◌, ℕ, List, [], ◌∷◌, ◌++◌, Option, Some, None, refl, sym, ◌∙◌, subst, append_assoc}
use Rattle.database.specs.declared.rows.StatementRow.{StatementRow}
use Rattle.database.specs.Expressions.{Shape, Expressions}
use Rattle.database.specs.Soundness.{root, statement_roots}
use Rattle.inspect_layout.specs.Inner.{EndsAt}

module _ (sh : List Shape) where
  -- they end in one way
  pub one_end : (a b c : ℕ) (xs : List ℕ) → Expressions sh a xs b → Expressions sh a xs c → b ≡ c
  one_end a b c [] p q = sym p ∙ q
  one_end a b c (x ∷ xs) p q = one_end x b c xs p.1 q.1

  join : (a b c : ℕ) (xs ys : List ℕ) → Expressions sh a xs b → Expressions sh b ys c → Expressions sh a (xs ++ ys) c
  join a b c [] ys p q = subst (λ n. Expressions sh n ys c) (sym p) q
  join a b c (x ∷ xs) ys p q = (p.0, join x b c xs ys p.1 q)

  part : (a c : ℕ) (xs ys : List ℕ) → Expressions sh a (xs ++ ys) c → (b : ℕ) × Expressions sh a xs b × Expressions sh b ys c
  part a c [] ys p = (a, refl, p)
  part a c (x ∷ xs) ys p = let (b, q, r) = part x c xs ys p.1 in (b, (p.0, q), r)

  -- some, and then others
  pub ends_early : (a : ℕ) (xs ys : List ℕ) → EndsAt sh a xs None → EndsAt sh a (xs ++ ys) None
  ends_early a xs ys p end q = let (b, r, s) = part a end xs ys q in p b r

  refutes : (a b : ℕ) (xs ys : List ℕ) → Expressions sh a xs b → EndsAt sh b ys None → EndsAt sh a (xs ++ ys) None
  refutes a b xs ys p q end r = let (c, s, t) = part a end xs ys r in q end (subst (λ n. Expressions sh n ys end) (one_end a c b xs s p) t)

  pub ends_then : (a b : ℕ) (o : Option ℕ) (xs ys : List ℕ) → Expressions sh a xs b → EndsAt sh b ys o → EndsAt sh a (xs ++ ys) o
  ends_then a b None xs ys p q = refutes a b xs ys p q
  ends_then a b (Some c) xs ys p q = join a b c xs ys p q

  -- of statements, the first and the others
  statement_first : (a : ℕ) (s : StatementRow) (ss : List StatementRow) (o : Option ℕ) → EndsAt sh a ((root s.condition ++ s.value ∷ []) ++ statement_roots ss) o → EndsAt sh a (statement_roots (s ∷ ss)) o
  statement_first a s ss o = subst (λ xs. EndsAt sh a xs o) (append_assoc (root s.condition) (s.value ∷ []) (statement_roots ss))

  pub statement_early : (a : ℕ) (s : StatementRow) (ss : List StatementRow) → EndsAt sh a (root s.condition ++ s.value ∷ []) None → EndsAt sh a (statement_roots (s ∷ ss)) None
  statement_early a s ss p = statement_first a s ss None (ends_early a (root s.condition ++ s.value ∷ []) (statement_roots ss) p)

  pub statement_then : (a b : ℕ) (s : StatementRow) (ss : List StatementRow) (o : Option ℕ) → EndsAt sh a (root s.condition ++ s.value ∷ []) (Some b) → EndsAt sh b (statement_roots ss) o → EndsAt sh a (statement_roots (s ∷ ss)) o
  statement_then a b s ss o p q = statement_first a s ss o (ends_then a b o (root s.condition ++ s.value ∷ []) (statement_roots ss) p q)
