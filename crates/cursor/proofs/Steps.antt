-- How what a rule comes to follows from what its parts come to, for the readers of parts of a module. Assumes nothing.
use Rattle.std.proofs.Common.{◌≡◌, ℕ, suc, ◌-◌, ◌<◌, ◌≤◌, true, false, List, length, sym, refl, ap, ◌∙◌, arith}
use Rattle.std.proofs.lemmas.Bool.{cond-true, cond-false}
use Rattle.words.specs.declared.token.Token.{Token}
use Rattle.grammar.specs.Rules.{Part, Rule, mark, keyword, name, integer, ◌then◌, maybe, many, either, fork, part, inside}
use Rattle.grammar.specs.Sorts.{sort, starts, nullable, opens}
use Rattle.grammar.specs.Trees.{Tree, both, none, some, end, more, left, right, one, other, nested}
use Rattle.grammar.specs.Reading.{Out, got, wrong, deep, and_then, map_out, IsWord, read_word, read_many, plain, read_with, read_part, read}
use Rattle.cursor.specs.declared.stop.Stop.{Stop}
use Rattle.cursor.specs.Told.{Stopped}

-- where each refusal of o is one of q
pub stop_by : {A B : Type 0} (o : Out A) (q : Out B) → ((ws : List Token) → o ≡ wrong ws → q ≡ wrong ws) → ((ws : List Token) → o ≡ deep ws → q ≡ deep ws) → (e : Stop) (rest : List Token) → Stopped o e rest → Stopped q e rest
stop_by o q f g e rest h = grind arith

stop_as : {A : Type 0} (o q : Out A) → q ≡ o → (e : Stop) (rest : List Token) → Stopped o e rest → Stopped q e rest
stop_as o q eq e rest h = rw eq h

stop_map : {A B : Type 0} (f : A → B) (o : Out A) → (e : Stop) (rest : List Token) → Stopped o e rest → Stopped (map_out f o) e rest
stop_map f o e rest h = grind arith

stop_first : {A B : Type 0} (o : Out A) (f : A → List Token → Out B) → (e : Stop) (rest : List Token) → Stopped o e rest → Stopped (and_then o f) e rest
stop_first o f e rest h = grind arith

-- single words are read alike however deep
module _ (n : ℕ) where
  pub word_is : (r : Rule) → IsWord r → (ws : List Token) → read n r ws ≡ read_word r ws
  unfolding read read_with
  word_is (mark s) w ws = refl
  word_is (keyword k) w ws = refl
  word_is name w ws = refl
  word_is integer w ws = refl
  word_is _ w ws = absurd w

  -- a then b
  module _ (a b : Rule) (ws : List Token) where
    pub then_got : (t : Tree a) (us : List Token) (u : Tree b) (vs : List Token) → read n a ws ≡ got t us → read n b us ≡ got u vs → read n (a then b) ws ≡ got (both t u) vs
    unfolding read read_with
    then_got t us u vs p q = ap (λ o. and_then o (λ t us. map_out (both t) (read_with (read_part n) b us))) p ∙ ap (map_out (both t)) q

    pub then_stop : (e : Stop) (rest : List Token) → Stopped (read n a ws) e rest → Stopped (read n (a then b) ws) e rest
    unfolding read read_with
    then_stop e rest h = stop_first (read_with (read_part n) a ws) (λ t us. map_out (both t) (read_with (read_part n) b us)) e rest h

    pub then_stop_second : (t : Tree a) (us : List Token) → read n a ws ≡ got t us → (e : Stop) (rest : List Token) → Stopped (read n b us) e rest → Stopped (read n (a then b) ws) e rest
    unfolding read read_with
    then_stop_second t us p e rest h =
        stop_as (map_out (both t) (read_with (read_part n) b us)) _ (ap (λ o. and_then o (λ t us. map_out (both t) (read_with (read_part n) b us))) p) e rest
        (stop_map (both t) (read_with (read_part n) b us) e rest h)

  -- maybe a
  module _ (a : Rule) (ws : List Token) where
    pub maybe_none : starts a (sort ws) ≡ false → read n (maybe a) ws ≡ got none ws
    unfolding read read_with
    maybe_none s = cond-false _ _ _ s

    pub maybe_some : starts a (sort ws) ≡ true → (t : Tree a) (us : List Token) → read n a ws ≡ got t us → read n (maybe a) ws ≡ got (some t) us
    unfolding read read_with
    maybe_some s t us p = cond-true _ _ _ s ∙ ap (map_out some) p

    pub maybe_stop : starts a (sort ws) ≡ true → (e : Stop) (rest : List Token) → Stopped (read n a ws) e rest → Stopped (read n (maybe a) ws) e rest
    unfolding read read_with
    maybe_stop s e rest h = stop_as (map_out some (read_with (read_part n) a ws)) _ (cond-true _ _ _ s) e rest (stop_map some (read_with (read_part n) a ws) e rest h)

  -- a | b, told apart by the first word or by the first two
  module _ (a b : Rule) (ws : List Token) where
    pub left_got : starts a (sort ws) ≡ true → (t : Tree a) (us : List Token) → read n a ws ≡ got t us → read n (either a b) ws ≡ got (left t) us
    unfolding read read_with
    left_got s t us p = cond-true _ _ _ s ∙ ap (map_out left) p

    pub left_stop : starts a (sort ws) ≡ true → (e : Stop) (rest : List Token) → Stopped (read n a ws) e rest → Stopped (read n (either a b) ws) e rest
    unfolding read read_with
    left_stop s e rest h = stop_as (map_out left (read_with (read_part n) a ws)) _ (cond-true _ _ _ s) e rest (stop_map left (read_with (read_part n) a ws) e rest h)

    pub right_got : starts a (sort ws) ≡ false → (t : Tree b) (us : List Token) → read n b ws ≡ got t us → read n (either a b) ws ≡ got (right t) us
    unfolding read read_with
    right_got s t us p = cond-false _ _ _ s ∙ ap (map_out right) p

    pub right_stop : starts a (sort ws) ≡ false → (e : Stop) (rest : List Token) → Stopped (read n b ws) e rest → Stopped (read n (either a b) ws) e rest
    unfolding read read_with
    right_stop s e rest h = stop_as (map_out right (read_with (read_part n) b ws)) _ (cond-false _ _ _ s) e rest (stop_map right (read_with (read_part n) b ws) e rest h)

    pub one_got : plain ws ≡ true → (t : Tree a) (us : List Token) → read n a ws ≡ got t us → read n (fork a b) ws ≡ got (one t) us
    unfolding read read_with
    one_got s t us p = cond-true _ _ _ s ∙ ap (map_out one) p

    pub one_stop : plain ws ≡ true → (e : Stop) (rest : List Token) → Stopped (read n a ws) e rest → Stopped (read n (fork a b) ws) e rest
    unfolding read read_with
    one_stop s e rest h = stop_as (map_out one (read_with (read_part n) a ws)) _ (cond-true _ _ _ s) e rest (stop_map one (read_with (read_part n) a ws) e rest h)

    pub other_got : plain ws ≡ false → (t : Tree b) (us : List Token) → read n b ws ≡ got t us → read n (fork a b) ws ≡ got (other t) us
    unfolding read read_with
    other_got s t us p = cond-false _ _ _ s ∙ ap (map_out other) p

    pub other_stop : plain ws ≡ false → (e : Stop) (rest : List Token) → Stopped (read n b ws) e rest → Stopped (read n (fork a b) ws) e rest
    unfolding read read_with
    other_stop s e rest h = stop_as (map_out other (read_with (read_part n) b ws)) _ (cond-false _ _ _ s) e rest (stop_map other (read_with (read_part n) b ws) e rest h)

  -- {a}: one turn of a loop that reads an a as long as one begins. `on` reads on with at most so many turns.
  pub on : (a : Rule) → ℕ → List Token → Out (Tree (many a))
  unfolding read
  on a f ws = read_many a (read n a) f ws

  module _ (a : Rule) where
    pub many_is : (ws : List Token) → read n (many a) ws ≡ on a (length ws) ws
    unfolding read read_with on
    many_is ws = refl

    pub on_end : (f : ℕ) (ws : List Token) → starts a (sort ws) ≡ false → on a f ws ≡ got end ws
    unfolding on read_many
    on_end f ws s = grind arith

    pub on_more : (f : ℕ) (ws : List Token) → starts a (sort ws) ≡ true → (t : Tree a) (us : List Token) → read n a ws ≡ got t us → on a (suc f) ws ≡ map_out (more t) (on a f us)
    unfolding on read_many read
    on_more f ws s t us p = cond-true _ _ _ s ∙ ap (λ o. and_then o (λ t us. map_out (more t) (read_many a (read_with (read_part n) a) f us))) p

    pub on_stop : (f : ℕ) (ws : List Token) → starts a (sort ws) ≡ true → (e : Stop) (rest : List Token) → Stopped (read n a ws) e rest → Stopped (on a (suc f) ws) e rest
    unfolding on read_many read
    on_stop f ws s e rest h =
        stop_as (and_then (read_with (read_part n) a ws) (λ t us. map_out (more t) (read_many a (read_with (read_part n) a) f us))) _ (cond-true _ _ _ s) e rest
        (stop_first (read_with (read_part n) a ws) (λ t us. map_out (more t) (read_many a (read_with (read_part n) a) f us)) e rest h)

    -- What the loop has come to, from the words ws₀ and the rows d₀ to ws and d: whatever reading on from here comes
    -- to, the whole comes to as well. `emit` makes the rows of the whole, `put` those of one a.
    module _ {D : Type 0} (emit : Tree (many a) → D → D) (put : Tree a → D → D) (ws₀ : List Token) (d₀ : D) where
      abbrev pub Goes : List Token → D → Type 0
      Goes ws d =
          (f : ℕ) × (length ws ≤ f)
          × ((t : Tree (many a)) (us : List Token) → on a f ws ≡ got t us → (u : Tree (many a)) × (read n (many a) ws₀ ≡ got u us) × (emit u d₀ ≡ emit t d))
          × ((e : Stop) (rest : List Token) → Stopped (on a f ws) e rest → Stopped (read n (many a) ws₀) e rest)

      pub goes_start : Goes ws₀ d₀
      goes_start = (length ws₀, omega arith, λ t us p. (t, many_is ws₀ ∙ p, refl), λ e rest h. stop_as (on a (length ws₀) ws₀) _ (many_is ws₀) e rest h)

      pub goes_turn : ((t : Tree a) (u : Tree (many a)) (d : D) → emit (more t u) d ≡ emit u (put t d)) → (ws : List Token) (d : D) → Goes ws d → starts a (sort ws) ≡ true → (t : Tree a) (us : List Token) → read n a ws ≡ got t us → length us < length ws → (d' : D) → d' ≡ put t d → Goes us d'
      goes_turn law ws d g s t us p less d' q =
          let fuel : g.0 ≡ suc (g.0 - 1) = omega (arith, g.1) in
          let turn : on a g.0 ws ≡ map_out (more t) (on a (g.0 - 1) us) = ap (λ f. on a f ws) fuel ∙ on_more (g.0 - 1) ws s t us p in (
            g.0 - 1,
            omega (arith, g.1),
            λ u vs r.
                let whole = g.2 (more t u) vs (turn ∙ ap (map_out (more t)) r) in
                (whole.0, whole.1, whole.2 ∙ law t u d ∙ ap (emit u) (sym q)),
            λ e rest h. g.3 e rest (stop_as (map_out (more t) (on a (g.0 - 1) us)) _ turn e rest (stop_map (more t) (on a (g.0 - 1) us) e rest h)),
          )

      pub goes_end : ((d : D) → emit end d ≡ d) → (ws : List Token) (d : D) → Goes ws d → starts a (sort ws) ≡ false → (u : Tree (many a)) × (read n (many a) ws₀ ≡ got u ws) × (d ≡ emit u d₀)
      goes_end law ws d g s = let whole = g.2 end ws (on_end g.0 ws s) in (whole.0, whole.1, sym (whole.2 ∙ law d))

      pub goes_stop : (ws : List Token) (d : D) → Goes ws d → starts a (sort ws) ≡ true → 0 < length ws → (e : Stop) (rest : List Token) → Stopped (read n a ws) e rest → Stopped (read n (many a) ws₀) e rest
      goes_stop ws d g s long e rest h =
          let fuel : g.0 ≡ suc (g.0 - 1) = omega (arith, g.1) in
          g.3 e rest (stop_as (on a (suc (g.0 - 1)) ws) _ (ap (λ f. on a f ws) fuel) e rest (on_stop (g.0 - 1) ws s e rest h))

-- the first word tells whether a then b begins, where a is never empty
pub starts_then : (a b : Rule) (k : ℕ) → nullable a ≡ false → starts (a then b) k ≡ starts a k
starts_then a b k e = grind arith

-- a nesting part
module _ (p : Part) (ws : List Token) where
  pub part_got : (n : ℕ) → opens p (sort ws) ≡ true → (t : Tree (inside p)) (us : List Token) → read n (inside p) ws ≡ got t us → read (suc n) (part p) ws ≡ got (nested p t) us
  unfolding read read_with read_part
  part_got n s t us q = cond-true _ _ _ s ∙ ap (map_out (nested p)) q

  pub part_stop : (n : ℕ) → opens p (sort ws) ≡ true → (e : Stop) (rest : List Token) → Stopped (read n (inside p) ws) e rest → Stopped (read (suc n) (part p) ws) e rest
  unfolding read read_with read_part
  part_stop n s e rest h = stop_as (map_out (nested p) (read_with (read_part n) (inside p) ws)) _ (cond-true _ _ _ s) e rest (stop_map (nested p) (read_with (read_part n) (inside p) ws) e rest h)

  pub part_deep : opens p (sort ws) ≡ true → read 0 (part p) ws ≡ deep ws
  unfolding read read_with read_part
  part_deep s = cond-true _ _ _ s

  pub part_wrong : (n : ℕ) → opens p (sort ws) ≡ false → read n (part p) ws ≡ wrong ws
  unfolding read read_with read_part
  part_wrong n s = grind arith
