-- Every rule is read rightly. Assumes nothing.
use Rattle.std.proofs.Common.{◌≡◌, ℕ, zero, suc, ◌<◌, ◌≤◌, max, Bool, true, false, cond, if◌then◌else◌, ◌||◌, eqb, Some, None, List, [], ◌∷◌, ◌++◌, length, drop, sym, refl, ap, ◌∙◌, subst, inl, append_assoc, append-nil, arith, length-append}
use mathlib.Core.Path.{fun_ext}
use mathlib.Core.Bool.{or-false}
use Rattle.std.proofs.lemmas.Bool.{both_ways, eqb-true, and_parts, and_right, or_parts, or_from, not_from_false}
use Rattle.words.specs.declared.token.Sign.{Sign}
use Rattle.words.specs.declared.token.Sign.TheVariants.{Dollar}
use Rattle.words.specs.declared.token.Kind.{Kind}
use Rattle.words.specs.declared.token.Kind.TheVariants.{Mark}
use Rattle.words.specs.declared.token.Token.{Token}
use Rattle.grammar.specs.Rules.{Part, Rule, mark, ◌then◌, maybe, many, either, fork, series, part, inside}
use Rattle.grammar.specs.Sorts.{integer_sort, sign_sort, end_sort, kind_sort, sort, second, nullable, starts, opens}
use Rattle.grammar.specs.Trees.{word_of, Tree, words, depth, mark_at, keyword_at, name_at, integer_at, both, none, some, end, more, left, right, one, other, last, closing, next, nested}
use Rattle.grammar.specs.Reading.{Out, got, wrong, deep, and_then, map_out, IsWord, word_out, read_word, read_many, series_on, read_series, plain, read_with, read_part, read}
use Rattle.grammar.proofs.Checks.{continues, single, pairs, begins, Apart, Implies, Ok, word_ok, word_not_nullable, word_no_end, ok_inside, inside_begins, inside_closes, opens_no_end, opens_by}
use Rattle.grammar.proofs.Shapes.{shape, first_word, two_words, Leaf, leaf, sample, begun}
use Rattle.grammar.proofs.Steps.{Hit, hit_sort, hit_second, Goes, Fails, Done, Reads, Only, Comes, alike, seqs}

-- fewer words are left behind a tree
shorter : {r : Rule} (t : Tree r) → Ok r → nullable r ≡ false → (ws rest : List Token) → ws ≡ words t ++ rest → length rest < length ws
shorter t k z ws rest e = let s = shape t k in let x = length-append (words t) rest in grind arith

-- a tree that agrees with ws in its first word begins as ws does
starts_hit : {a r : Rule} {ts us rest : List Token} (t : Tree a) → Ok a → nullable a ≡ false → (ws vs : List Token) → ws ≡ us ++ rest → ts ≡ words t ++ vs → Hit r ts us rest → starts a (sort ws) ≡ true
starts_hit {a} t k z ws vs e s h = let x = append_assoc (words t) vs h.after in let y = hit_sort ws e h in let q = first_word a (words t) (vs ++ h.after) (shape t k) in grind arith

-- nothing under the rule begins with the next word
refused : {r : Rule} (n : ℕ) (ws : List Token) → Ok r → nullable r ≡ false → starts r (sort ws) ≡ false → Fails false n r ws ws
refused {r} n ws k z e = record {
  before = [];
  whole = refl;
  right = inl refl;
  stops = λ u w h. both_ways (starts r (sort ws)) e (starts_hit u k z ws [] refl (sym (append-nil (words u))) h);
  goes = tt;
}

-- single words are told apart by their kinds and places
same_word : {r : Rule} → IsWord r → (t u : Tree r) (vs us : List Token) → words t ++ vs ≡ words u ++ us → t ≡ u
unfolding words
same_word w (mark_at p) (mark_at q) vs us e = grind arith
same_word w (keyword_at p) (keyword_at q) vs us e = grind arith
same_word w (name_at p n) (name_at q m) vs us e = grind arith
same_word w (integer_at p n) (integer_at q m) vs us e = grind arith
same_word w _ u vs us e = absurd w

leaf_reads : {r : Rule} (n : ℕ) → IsWord r → (k : Kind) (p : ℕ) (ws : List Token) (o : Out (Tree r)) → Leaf r k p ws o → Reads n r (word_of k p ∷ ws) o
leaf_reads n i k p ws (got t rest) l = record { whole = rw (l.0, l.1); within = omega (arith, l.2); only = λ u h. same_word i u t h.after h.on h.same }
leaf_reads {r} n i k p ws (wrong rest) l = rw l.0 (refused n (word_of k p ∷ ws) (word_ok r i) (word_not_nullable r i) l.1)
leaf_reads n i k p ws (deep rest) l = absurd l

word_reads : (n : ℕ) (r : Rule) → IsWord r → (ws : List Token) → Reads n r ws (read_word r ws)
word_reads n r i [] = refused n [] (word_ok r i) (word_not_nullable r i) (word_no_end r i)
word_reads n r i (w ∷ ws) = leaf_reads n i w.kind w.place ws _ (leaf r i w.kind w.place ws)

-- what cannot continue a and then b
behind_of : (a : Rule) {b : Rule} (y : Tree b) → Ok b → Apart (continues a) (starts b) → (after : List Token) → (nullable b ≡ true → continues a (sort after) ≡ false) → continues a (sort (words y ++ after)) ≡ false
behind_of a {b} y k apart after f = let x = first_word b (words y) after (shape y k) in grind (arith, apart)

then_reads : {a b : Rule} (n : ℕ) (ws : List Token) → Ok (a then b) → (o : Out (Tree a)) → Reads n a ws o → (k : List Token → Out (Tree b)) → ((t : Tree a) (rest : List Token) → ws ≡ words t ++ rest → Reads n b rest (k rest)) → Reads n (a then b) ws (and_then o (λ t us. map_out (both t) (k us)))
unfolding words depth
then_reads {a} {b} n ws (ka, (kb, (apart, flat))) o x k f =
    let (z, d) = sample b flat in
    seqs n ws both (λ x y. refl) (λ x y. refl) z d
    (λ y after e. let p = or_parts (continues b (sort after)) _ e in (behind_of a y kb apart after (λ q. grind arith), p.0))
    split (λ t. k) o x f
  where
    split : (us rest : List Token) → ws ≡ us ++ rest → (u : Tree (a then b)) → Hit (a then b) (words u) us rest → (x : Tree a) × (y : Tree b) × (u ≡ both x y)
    split us rest e (both x y) h = (x, y, refl)

maybe_reads : {a : Rule} (n : ℕ) (ws : List Token) → Ok (maybe a) → (o : Out (Tree a)) → Reads n a ws o → (c : Bool) → starts a (sort ws) ≡ c → Reads n (maybe a) ws (cond c (map_out some o) (got none ws))
unfolding words depth
maybe_reads {a} n ws (k, z) o x true c = alike n n ws some (λ t. refl) (λ t. refl) (λ m f. (or_parts _ _ f).1) back o x
  where
    back : Comes {r = maybe a} n ws some
    back us rest e _ none h = absurd (both_ways (starts a (sort ws)) (rw (hit_sort ws e h) at (or_parts (starts a (sort h.after)) _ h.free).0) c)
    back us rest e _ (some v) h = (v, refl)
maybe_reads {a} n ws (k, z) o x false c = record { whole = refl; within = omega arith; only = only }
  where
    only : (u : Tree (maybe a)) → Hit (maybe a) (words u) [] ws → u ≡ none
    only none h = refl
    only (some v) h = absurd (both_ways (starts a (sort ws)) c (starts_hit v k z ws [] refl (sym (append-nil (words v))) h))

module _ {a : Rule} (n : ℕ) (k : Ok (many a)) (f : List Token → Out (Tree a)) (each : (ws : List Token) → Reads n a ws (f ws)) where
  many_end : (ws : List Token) → starts a (sort ws) ≡ false → Done n (many a) ws end ws
  unfolding words depth
  many_end ws c = record { whole = refl; within = omega arith; only = only }
    where
      only : (u : Tree (many a)) → Hit (many a) (words u) [] ws → u ≡ end
      only end h = refl
      only (more v u) h = absurd (both_ways (starts a (sort ws)) c (starts_hit v k.0 k.1.0 ws (words u) refl refl h))

  many_step : (m : ℕ) (ws : List Token) → length ws ≤ suc m → ((us : List Token) → length us ≤ m → Reads n (many a) us (read_many a f m us)) → (c : Bool) → starts a (sort ws) ≡ c → Reads n (many a) ws (cond c (and_then (f ws) (λ t us. map_out (more t) (read_many a f m us))) (got end ws))
  unfolding words depth
  many_step m ws l on true c =
      seqs n ws more (λ x y. refl) (λ x y. refl) end refl
      (λ y after e. (behind_of a y k k.1.1.1 after (λ _. (or_parts _ _ e).1), e))
      split (λ t. read_many a f m) (f ws) (each ws) (λ t rest e. on rest (let x = shorter t k.0 k.1.0 ws rest e in omega arith))
    where
      split : (us rest : List Token) → ws ≡ us ++ rest → (u : Tree (many a)) → Hit (many a) (words u) us rest → (x : Tree a) × (y : Tree (many a)) × (u ≡ more x y)
      split us rest e end h = absurd (both_ways (starts a (sort ws)) (rw (hit_sort ws e h) at (or_parts (starts a (sort h.after)) _ h.free).0) c)
      split us rest e (more x y) h = (x, y, refl)
  many_step m ws l on false c = many_end ws c

  pub many_reads : (m : ℕ) (ws : List Token) → length ws ≤ m → Reads n (many a) ws (read_many a f m ws)
  unfolding read_many
  many_reads zero ws l = many_end ws (let none = k.1.1.0 in grind arith)
  many_reads (suc m) ws l = many_step m ws l (many_reads m) (starts a (sort ws)) refl

either_reads : {a b : Rule} (n : ℕ) (ws : List Token) → Ok (either a b) → (o : Out (Tree a)) → Reads n a ws o → (q : Out (Tree b)) → Reads n b ws q → (c : Bool) → starts a (sort ws) ≡ c → Reads n (either a b) ws (cond c (map_out left o) (map_out right q))
unfolding words depth
either_reads {a} {b} n ws k o x q y true c = alike n n ws left (λ t. refl) (λ t. refl) (λ m f. (or_parts _ _ f).0) back o x
  where
    back : Comes {r = either a b} n ws left
    back us rest e _ (left v) h = (v, refl)
    back us rest e _ (right v) h = absurd (both_ways (starts a (sort ws)) (k.1.1.1.1 ws (starts_hit v k.1.0 k.1.1.1.0 ws [] e (sym (append-nil (words v))) h)) c)
either_reads {a} {b} n ws k o x q y false c = alike n n ws right (λ t. refl) (λ t. refl) (λ m f. (or_parts _ _ f).1) back q y
  where
    back : Comes {r = either a b} n ws right
    back us rest e _ (left v) h = absurd (both_ways (starts a (sort ws)) c (starts_hit v k.0 k.1.1.0 ws [] e (sym (append-nil (words v))) h))
    back us rest e _ (right v) h = (v, refl)

-- two words that begin no a: what agrees with them is no a, since reading a b that may begin with the first passes it
no_pair : {a r : Rule} (b : Rule) (n : ℕ) (ws us rest : List Token) → begins b integer_sort ≡ true → continues b end_sort ≡ false → sort ws ≡ integer_sort → ws ≡ us ++ rest → Only n b us rest → (v : Tree a) → Ok a → nullable a ≡ false → single a integer_sort ≡ false → pairs a integer_sort (second ws) ≡ false → Hit r (words v) us rest → ⊥
no_pair b n ws [] [] x y i e only v k z s p h = grind arith
no_pair b n ws [] (w ∷ rest) x y i e only v k z s p h =
    let (t, vs, f, d) = begun b w (rw (sym i ∙ ap sort e) at x) in
    let g = only t (omega arith) (record { after = []; on = w ∷ vs; free = y; same = append-nil (words t) ∙ f; meets = refl }) in
    grind arith
no_pair {a} b n ws (w ∷ us) rest x y i e only v k z s p h =
    let q = two_words a (words v) h.after (shape v k) z in grind (arith, hit_sort ws e h, hit_second w us ws e h)

second_sort : (ws : List Token) → second ws ≡ sort (drop 1 ws)
second_sort ws = grind arith

no_dollar : (b : Rule) (ws : List Token) → Implies (pairs b integer_sort) (λ n. eqb n (sign_sort Dollar)) → plain ws ≡ true → pairs b integer_sort (second ws) ≡ false
no_dollar b ws f c = let x = f (drop 1 ws) in grind (arith, second_sort ws)

dollar : (a : Rule) (ws : List Token) → pairs a integer_sort (sign_sort Dollar) ≡ false → plain ws ≡ false → eqb (sort ws) integer_sort ≡ true → pairs a integer_sort (second ws) ≡ false
dollar a ws p c i = grind (arith, eqb-true)

fork_reads : {a b : Rule} (n : ℕ) (ws : List Token) → Ok (fork a b) → (o : Out (Tree a)) → Reads n a ws o → (q : Out (Tree b)) → Reads n b ws q → (c : Bool) → plain ws ≡ c → Reads n (fork a b) ws (cond c (map_out one o) (map_out other q))
unfolding words depth
fork_reads {a} {b} n ws (ka, (kb, (za, (zb, (int, (sa, (pa, (sb, (pb, (ba, (bb, (ca, cb)))))))))))) o x q y true c = alike n n ws one (λ t. refl) (λ t. refl) (λ m f. (or_parts _ _ f).0) back o x
  where
    back : Comes {r = fork a b} n ws one
    back us rest e _ (one v) h = (v, refl)
    back us rest e only (other v) h = absurd (no_pair a n ws us rest ba ca (eqb-true (sort ws) integer_sort (and_parts _ _ c).0) e only v kb zb sb (no_dollar b ws pb c) h)
fork_reads {a} {b} n ws (ka, (kb, (za, (zb, (int, (sa, (pa, (sb, (pb, (ba, (bb, (ca, cb)))))))))))) o x q y false c = alike n n ws other (λ t. refl) (λ t. refl) (λ m f. (or_parts _ _ f).1) back q y
  where
    back : Comes {r = fork a b} n ws other
    back us rest e only (one v) h =
        let i = int ws (starts_hit v ka za ws [] e (sym (append-nil (words v))) h) in
        absurd (no_pair b n ws us rest bb cb (eqb-true (sort ws) integer_sort i) e only v ka za sa (dollar a ws pa c i) h)
    back us rest e _ (other v) h = (v, refl)

-- what follows an a of a series: nothing, or its sign and the series' rest
abbrev onward : Rule → Sign → Rule → Rule
onward a s b = mark s then series a s b

link : {a b : Rule} {s : Sign} → Tree a → Tree (maybe (onward a s b)) → Tree (series a s b)
link t none = last t
link t (some (both (mark_at p) u)) = next t p u

link_words : {a b : Rule} {s : Sign} (t : Tree a) (u : Tree (maybe (onward a s b))) → words (link t u) ≡ words t ++ words u
unfolding link words
link_words t none = sym (append-nil (words t))
link_words t (some (both (mark_at p) u)) = refl

link_depth : {a b : Rule} {s : Sign} (t : Tree a) (u : Tree (maybe (onward a s b))) → depth (link t u) ≡ max (depth t) (depth u)
unfolding link depth
link_depth t none = omega arith
link_depth t (some (both (mark_at p) u)) = omega arith

module _ (a : Rule) (s : Sign) (b : Rule) (n : ℕ) (k : Ok (series a s b)) (f : List Token → Out (Tree a)) (each : (ws : List Token) → Reads n a ws (f ws)) (g : List Token → Out (Tree b)) (each_b : (ws : List Token) → Reads n b ws (g ws)) where
  -- the same reading as of a rule `maybe`
  onwards : (List Token → Out (Tree (series a s b))) → List Token → Bool → Out (Tree (mark s)) → Out (Tree (maybe (onward a s b)))
  onwards go us c o = cond c (map_out some (and_then o (λ m vs. map_out (both m) (go vs)))) (got none us)

  on_word : (go : List Token → Out (Tree (series a s b))) (t : Tree a) (p : ℕ) (w : Token) (us : List Token) (c : Bool) → let o = word_out (if c then Some (mark_at {s = s} p) else None) w us in series_on a s b go t (w ∷ us) o ≡ map_out (link t) (onwards go (w ∷ us) (c || false) o)
  unfolding onwards link
  on_word go t p w us c = grind arith

  as_onwards : (go : List Token → Out (Tree (series a s b))) (t : Tree a) (us : List Token) → series_on a s b go t us (read_word (mark s) us) ≡ map_out (link t) (onwards go us (starts (onward a s b) (sort us)) (read_word (mark s) us))
  unfolding onwards link
  as_onwards go t [] = rw (word_no_end (mark s) tt)
  as_onwards go t (w ∷ us) = on_word go t w.place w us (eqb (kind_sort w.kind) (sign_sort s))

  ok_onward : Ok (onward a s b)
  ok_onward = (tt, (k, (λ ws e. refl, k.1.1.1.1.1.1)))

  -- reading on with at most m signs
  module _ (m : ℕ) (ws : List Token) (l : length ws ≤ m) (on : (us : List Token) → length us < m → Reads n (series a s b) us (read_series a s b f g m us)) where
    onwards_reads : (t : Tree a) (us : List Token) → ws ≡ words t ++ us → Reads n (maybe (onward a s b)) us (onwards (read_series a s b f g m) us (starts (onward a s b) (sort us)) (read_word (mark s) us))
    unfolding onwards
    onwards_reads t us e =
        maybe_reads n us (ok_onward, refl) (and_then (read_word (mark s) us) (λ q vs. map_out (both q) (read_series a s b f g m vs)))
        (then_reads n us ok_onward (read_word (mark s) us) (word_reads n (mark s) tt us) (read_series a s b f g m)
        (λ q vs d. on vs (let x = shorter t k.0 k.1.1.0 ws us e in let y = shorter q tt refl us vs d in omega arith)))
        (starts (onward a s b) (sort us)) refl

    series_step : (c : Bool) → starts b (sort ws) ≡ c → Reads n (series a s b) ws (cond c (map_out closing (g ws)) (and_then (f ws) (λ t us. series_on a s b (read_series a s b f g m) t us (read_word (mark s) us))))
    unfolding words depth link
    series_step true c = alike n n ws closing (λ t. refl) (λ t. refl) (λ x e. (or_parts (continues a (sort x)) (continues b (sort x)) (or_parts (eqb (sort x) (sign_sort s)) _ e).1).1) back (g ws) (each_b ws)
      where
        no_a : (us rest vs : List Token) → ws ≡ us ++ rest → (v : Tree a) → Hit (series a s b) (words v ++ vs) us rest → ⊥
        no_a us rest vs e v h = both_ways (starts a (sort ws)) (k.1.1.1.1.0 ws c) (starts_hit v k.0 k.1.1.0 ws vs e refl h)

        back : Comes {r = series a s b} n ws closing
        back us rest e _ (last v) h = absurd (no_a us rest [] e v (rw append-nil h))
        back us rest e _ (closing v) h = (v, refl)
        back us rest e _ (next v p u) h = absurd (no_a us rest (word_of (Mark s) p ∷ words u) e v h)
    series_step false c =
        subst (Reads n (series a s b) ws) (sym (ap (and_then (f ws)) (fun_ext (λ t. fun_ext (λ us. as_onwards (read_series a s b f g m) t us)))))
        (seqs n ws link link_words link_depth none refl
        (λ y after e.
        let p = or_parts (eqb (sort after) (sign_sort s)) (continues a (sort after) || continues b (sort after)) e in
        (behind_of a y (ok_onward, refl) (λ us d. rw (eqb-true (sort us) (sign_sort s) (sym (or-false _) ∙ d)) k.1.1.1.1.1.0) after (λ _. (or_parts _ _ p.1).0), search (or_from, and_right)))
        split (λ t us. onwards (read_series a s b f g m) us (starts (onward a s b) (sort us)) (read_word (mark s) us)) (f ws) (each ws) onwards_reads)
      where
        split : (us rest : List Token) → ws ≡ us ++ rest → (u : Tree (series a s b)) → Hit (series a s b) (words u) us rest → (x : Tree a) × (y : Tree (maybe (onward a s b))) × (u ≡ link x y)
        split us rest e (last v) h = (v, none, refl)
        split us rest e (closing v) h = absurd (both_ways (starts b (sort ws)) c (starts_hit v k.1.0 k.1.1.1.0 ws [] e (sym (append-nil (words v))) h))
        split us rest e (next v p u) h = (v, some (both (mark_at p) u), refl)

  pub series_reads : (m : ℕ) (ws : List Token) → length ws < m → Reads n (series a s b) ws (read_series a s b f g m ws)
  unfolding read_series
  series_reads zero ws l = absurd (omega arith)
  series_reads (suc m) ws l = series_step m ws (omega arith) (series_reads m) (starts b (sort ws)) refl

-- a rule, where its nesting parts are read rightly
module _ (n : ℕ) (inner : (p : Part) → List Token → Out (Tree (part p))) (each : (p : Part) (ws : List Token) → Reads n (part p) ws (inner p ws)) where
  pub rule_reads : (r : Rule) → Ok r → (ws : List Token) → Reads n r ws (read_with inner r ws)
  unfolding read_with
  rule_reads (a then b) k ws = then_reads n ws k (read_with inner a ws) (rule_reads a k.0 ws) (read_with inner b) (λ t rest e. rule_reads b k.1.0 rest)
  rule_reads (maybe a) k ws = maybe_reads n ws k (read_with inner a ws) (rule_reads a k.0 ws) (starts a (sort ws)) refl
  rule_reads (many a) k ws = many_reads n k (read_with inner a) (rule_reads a k.0) (length ws) ws (omega arith)
  rule_reads (either a b) k ws = either_reads n ws k (read_with inner a ws) (rule_reads a k.0 ws) (read_with inner b ws) (rule_reads b k.1.0 ws) (starts a (sort ws)) refl
  rule_reads (fork a b) k ws = fork_reads n ws k (read_with inner a ws) (rule_reads a k.0 ws) (read_with inner b ws) (rule_reads b k.1.0 ws) (plain ws) refl
  rule_reads (series a s b) k ws = series_reads a s b n k (read_with inner a) (rule_reads a k.0) (read_with inner b) (rule_reads b k.1.0) (suc (length ws)) ws (omega arith)
  rule_reads (part p) k ws = each p ws
  rule_reads r k ws = word_reads n r tt ws

-- a nesting part where no nesting is left
part_none : (p : Part) (ws : List Token) (c : Bool) → opens p (sort ws) ≡ c → Reads 0 (part p) ws (cond c (deep ws) (wrong ws))
unfolding words depth
part_none p ws false c = refused 0 ws tt refl c
part_none p ws true c = record { before = []; whole = refl; right = inl refl; stops = stops; goes = goes ws c }
  where
    stops : (u : Tree (part p)) → depth u ≤ 0 → Hit (part p) (words u) [] ws → ⊥
    stops (nested p t) d h = omega arith

    goes : (us : List Token) → opens p (sort us) ≡ true → Goes true (part p) [] us
    goes [] e = both_ways (opens p end_sort) (opens_no_end p) e
    goes (w ∷ us) e = let (t, vs, x, y) = begun (inside p) w (inside_begins p (w ∷ us) e) in (opens_by p w.kind e, nested p t, vs, x)

part_more : (n : ℕ) (p : Part) (ws : List Token) (o : Out (Tree (inside p))) → Reads n (inside p) ws o → (c : Bool) → opens p (sort ws) ≡ c → Reads (suc n) (part p) ws (cond c (map_out (nested p) o) (wrong ws))
unfolding words depth
part_more n p ws o x false c = refused (suc n) ws tt refl c
part_more n p ws o x true c = alike n (suc n) ws (nested p) (λ t. refl) (λ t. omega arith) (λ after e. inside_closes p after (not_from_false _ e)) back o x
  where
    back : Comes n ws (nested p)
    back us rest e _ (nested p v) h = (v, refl)

part_reads : (n : ℕ) (p : Part) (ws : List Token) → Reads n (part p) ws (read_part n p ws)
unfolding read_part
part_reads zero p ws = part_none p ws (opens p (sort ws)) refl
part_reads (suc n) p ws = part_more n p ws (read_with (read_part n) (inside p) ws) (rule_reads n (read_part n) (part_reads n) (inside p) (ok_inside p) ws) (opens p (sort ws)) refl

pub reads : (n : ℕ) (r : Rule) → Ok r → (ws : List Token) → Reads n r ws (read n r ws)
unfolding read
reads n r k ws = rule_reads n (read_part n) (part_reads n) r k ws
