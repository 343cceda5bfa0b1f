-- What reading a rule and a whole text of words comes to, and that words have one tree. Assumes nothing.
use Rattle.std.proofs.Common.{◌≡◌, ℕ, ◌≤◌, true, false, List, [], ◌∷◌, ◌++◌, sym, refl, ap, ◌∙◌, inl, inr, append_assoc, append-nil, arith, length-append}
use Rattle.words.specs.declared.token.Token.{Token}
use Rattle.grammar.specs.Rules.{Rule, integers, ref, expr, conn, step, unit}
use Rattle.grammar.specs.Sorts.{end_sort, sort}
use Rattle.grammar.specs.Trees.{Tree, words, depth}
use Rattle.grammar.specs.Reading.{Out, got, wrong, deep, read}
use Rattle.grammar.specs.Promise.{deepest, BeginsWithin, GoesOn, GoesOnWithin, OpensNesting}
use Rattle.grammar.specs.Laws.{Front, Whole, Unambiguous, RuleLaws, GrammarLaws}
use Rattle.grammar.proofs.Checks.{continues, shallow, ok, Ok, ok_sound}
use Rattle.grammar.proofs.Shapes.{sample}
use Rattle.grammar.proofs.Steps.{Hit, Viable, Goes, Done, Reads}
use Rattle.grammar.proofs.Reading.{reads}

-- a rule that the end of the text does not continue, and under which something does not nest
module _ (r : Rule) (k : Ok r) (free : continues r end_sort ≡ false) (flat : shallow r ≡ true) where
  hit : (t : Tree r) (us on rest : List Token) → words t ≡ us ++ on → sort on ≡ sort rest → Hit r (words t) us rest
  hit t us on rest e h = record { after = []; on = on; free = free; same = append-nil (words t) ∙ e; meets = h }

  begun : (n : ℕ) (us : List Token) → Viable n r us → BeginsWithin n r us
  begun n us (inl e) = let (t, d) = sample r flat in (words t, (t, omega arith, ap (λ l. l ++ words t) (sym e)))
  begun n us (inr (t, vs, e, d)) = (vs, (t, d, e))

  -- what goes on with the first word of rest, or at the end of the text is us
  continued : (us rest : List Token) → GoesOn r us rest → (t : Tree r) × Hit r (words t) us rest
  continued us [] (n, (t, d, e)) = (t, hit t us [] [] (e ∙ sym (append-nil us)) refl)
  continued us (w ∷ rest) (n, (vs, (t, d, e))) = (t, hit t us (w ∷ vs) (w ∷ rest) (e ∙ append_assoc us (w ∷ []) vs) refl)

  continued_within : (n : ℕ) (us rest : List Token) → GoesOnWithin n r us rest → (t : Tree r) × (depth t ≤ n) × Hit r (words t) us rest
  continued_within n us [] (t, d, e) = (t, d, hit t us [] [] (e ∙ sym (append-nil us)) refl)
  continued_within n us (w ∷ rest) (vs, (t, d, e)) = (t, d, hit t us (w ∷ vs) (w ∷ rest) (e ∙ append_assoc us (w ∷ []) vs) refl)

  goes_on : (us rest : List Token) → Goes true r us rest → GoesOn r us rest
  goes_on us [] g = absurd g
  goes_on us (w ∷ rest) (o, t, vs, e) = (depth t, (vs, (t, omega arith, e)))

  opened : (us rest : List Token) → Goes true r us rest → OpensNesting rest
  opened us [] g = absurd g
  opened us (w ∷ rest) g = g.0

  -- a tree is read and a word is left: nothing goes on with it
  stops_behind : (n : ℕ) (ws rest : List Token) (t : Tree r) (w : Token) → Done n r ws t (w ∷ rest) → GoesOn r (words t) (w ∷ rest) → ⊥
  stops_behind n ws rest t w x (m, (vs, (u, d, e))) = let y = append_assoc (words t) (w ∷ []) vs in let z = x.only u (hit u (words t) (w ∷ vs) (w ∷ rest) (e ∙ y) refl) in grind (arith, length-append {A = Token})

  front_of : (n : ℕ) (ws : List Token) (o : Out (Tree r)) → Reads n r ws o → Front n r ws o
  front_of n ws (got t []) x = (sym (x.whole ∙ append-nil (words t)), x.within)
  front_of n ws (got t (w ∷ rest)) x = (sym x.whole, x.within, stops_behind n ws rest t w x)
  front_of n ws (wrong rest) x = record { before = x.before; whole = x.whole; right = begun n x.before x.right; stops = λ y. let (t, h) = continued x.before rest y in x.stops t tt h }
  front_of n ws (deep rest) x = record { before = x.before; whole = x.whole; right = begun n x.before x.right; opens = opened x.before rest x.goes; stops = λ y. let (t, d, h) = continued_within n x.before rest y in x.stops t d h; goes = goes_on x.before rest x.goes }

  -- two trees of the same words are the one that is read
  same_tree : (t u : Tree r) → words t ≡ words u → (o : Out (Tree r)) → Reads (depth t) r (words t) o → t ≡ u
  same_tree t u e (got v rest) x =
      x.only t (hit t (words v) rest rest x.whole refl) ∙
      sym (x.only u (hit u (words v) rest rest (sym e ∙ x.whole) refl))
  same_tree t u e (wrong rest) x = absurd (x.stops t tt (hit t x.before rest rest x.whole refl))
  same_tree t u e (deep rest) x = absurd (x.stops t (omega arith) (hit t x.before rest rest x.whole refl))

  rule_laws : RuleLaws r
  rule_laws = (λ n ws. front_of n ws (read n r ws) (reads n r k ws), λ t u e. same_tree t u e (read (depth t) r (words t)) (reads (depth t) r k (words t)))

-- the tests of the rule, by computation
laws_of : (r : Rule) → ok r ≡ true → continues r end_sort ≡ false → shallow r ≡ true → RuleLaws r
laws_of r k free flat = rule_laws r (ok_sound r k) free flat

unit_laws : RuleLaws unit
unit_laws = laws_of unit refl refl refl

-- of a whole text no word may be left
whole_of : (ws : List Token) (o : Out (Tree unit)) → Front deepest unit ws o → Whole ws o
whole_of ws (got t []) x = x
whole_of ws (got t (w ∷ rest)) (e, d, stops) = record { before = words t; whole = sym e; right = ([], (t, d, sym (append-nil (words t)))); stops = stops }
whole_of ws (wrong rest) x = x
whole_of ws (deep rest) x = x

pub reads_whole : (ws : List Token) → Whole ws (read deepest unit ws)
reads_whole ws = whole_of ws (read deepest unit ws) (unit_laws.0 deepest ws)

pub unambiguous : Unambiguous unit
unambiguous = unit_laws.1

pub grammar_laws_lem : GrammarLaws
grammar_laws_lem = (reads_whole, unit_laws, laws_of step refl refl refl, laws_of conn refl refl refl, laws_of expr refl refl refl, laws_of ref refl refl refl, laws_of integers refl refl refl)
