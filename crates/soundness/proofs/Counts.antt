-- How many integers the list of a branch has, in a draft without faults. Assumes nothing.
use Rattle.std.proofs.Common.{◌≡◌, ℕ, suc, ◌+◌, List, [], ◌∷◌, ◌++◌, length, fold, Option, Some, None, IsSome, All, refl, ap, ◌∙◌, subst, arith}
use Rattle.std.proofs.lemmas.List.Elements.{All-head, All-tail}
use Rattle.grammar.specs.declared.draft.Exit.{Exit}
use Rattle.grammar.specs.Drafts.{DraftLists}
use Rattle.least.specs.Each.{last_of}
use Rattle.symbols.specs.Widths.{width_at}
use Rattle.rules.specs.Steps.{exit_faults, exit_count, count_up_to, counts, exits_faults}
use Rattle.rules.specs.Faults.{exit_counts, faults}
use Rattle.soundness.specs.Layout.{ListLaid}
use Rattle.soundness.proofs.Nil.{width_kept, length_grown}
use Rattle.soundness.proofs.Lists.{nil_between, runs}
use Rattle.soundness.proofs.Few.{faultless}

abbrev count_next : Option ℕ → Exit → Option ℕ
count_next before e = count_up_to e.entered.comma before

count_more : (comma : Option ℕ) (k : ℕ) → IsSome comma → count_up_to comma (Some k) ≡ Some (k + 1)
count_more None k h = cc
count_more (Some place) k h = refl

-- integers behind commas
count_rest : (k : ℕ) (es : List Exit) → All (λ x. IsSome x.entered.comma) es → fold count_next (Some k) es ≡ Some (k + length es)
count_rest k [] h = ap Some (let z : k ≡ k + 0 = omega arith in z)
count_rest k (e ∷ es) h =
    ap (λ o. fold count_next o es) (count_more e.entered.comma k (All-head (λ x. IsSome x.entered.comma) e es h))
    ∙ count_rest (k + 1) es (All-tail (λ x. IsSome x.entered.comma) e es h) ∙ ap Some (let z : k + 1 + length es ≡ k + suc (length es) = omega arith in z)

count_list : (n : ℕ) (before : Option ℕ) (es : List Exit) → ListLaid n es → fold count_next before es ≡ Some (length es)
count_list n before [] h = absurd h
count_list n before (e ∷ es) h =
    ap (λ c. fold count_next (count_up_to c before) es) h.1 ∙ count_rest 1 es (λ k d l. (h.2 k d l).1) ∙ ap Some (let z : 1 + length es ≡ suc (length es) = omega arith in z)

module _ (text : List ℕ) (d : DraftLists) (none : faults text d ≡ []) where
  count_goes : (front : List Exit) (x : Exit) (rest : List Exit) → d.rows.exits ≡ front ++ x ∷ rest →
      exit_count d.rows.steps (counts d.rows.steps front) x ≡ count_next (last_of None (counts d.rows.steps front)) x
  count_goes front x rest e =
      let before = counts d.rows.steps front in
      let here : exit_faults d.rows.steps (length front) x ≡ [] =
      nil_between (λ before e. exit_faults d.rows.steps (length before) e) [] front x rest (subst (λ xs. exits_faults d.rows.steps xs ≡ []) e (faultless text d none).exits) in
      width_kept (exit_faults d.rows.steps (length before) x) (count_next (last_of None before) x)
      (ap (λ n. exit_faults d.rows.steps n x) (length_grown (exit_count d.rows.steps) front) ∙ here)

  -- up to its last integer the list of a branch has all of them
  pub counted : (n : ℕ) (front own more : List Exit) → d.rows.exits ≡ front ++ (own ++ more) → ListLaid n own → (last : ℕ) → last ≡ length front + length own →
      width_at (exit_counts d) last ≡ Some (length own)
  counted n front own more e h last l =
      runs None (exit_count d.rows.steps) count_next d.rows.exits count_goes front own more e last l ∙ count_list n (last_of None (counts d.rows.steps front)) own h
