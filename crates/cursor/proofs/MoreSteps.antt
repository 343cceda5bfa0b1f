-- What taking a sign tells of a choice, of a list of parts that the sign parts, and of a nesting part, for the readers of expressions. Assumes nothing.
use Rattle.std.proofs.Common.{◌≡◌, ℕ, ◌+◌, ◌<◌, true, false, List, length, Result, Ok, Err, MatchResult, sym, ap, ◌∙◌, add-one, arith}
use Rattle.words.specs.declared.token.Sign.{Sign}
use Rattle.words.specs.declared.token.Token.{Token}
use Rattle.grammar.specs.Rules.{Part, Rule, mark, ◌then◌, many, either, part, inside}
use Rattle.grammar.specs.Sorts.{sort, starts, opens}
use Rattle.grammar.specs.Trees.{Tree, both, end, more, left, right, nested}
use Rattle.grammar.specs.Reading.{Out, got, wrong, IsWord, read_word, read}
use Rattle.cursor.specs.declared.stop.Stop.{Stop}
use Rattle.cursor.specs.declared.stop.Stop.TheVariants.{Unexpected, TooDeep, OutOfMemory}
use Rattle.cursor.specs.Told.{Stopped, Wrote}
use Rattle.cursor.proofs.Steps.{word_is, then_got, then_stop_second, left_got, left_stop, right_got, right_stop, Goes, goes_turn, goes_end, goes_stop, part_got, part_stop, part_deep}

-- a single word that is taken is read, and one that is missing is where reading stops
module _ (n : ℕ) (r : Rule) (w : IsWord r) (ws : List Token) where
  pub word_got : (t : Tree r) (us : List Token) → read_word r ws ≡ got t us → read n r ws ≡ got t us
  word_got t us e = word_is n r w ws ∙ e

  pub word_stop : (e : Stop) (rest : List Token) → Stopped (read_word r ws) e rest → Stopped (read n r ws) e rest
  word_stop e rest h = rw (word_is n r w ws) h

-- a reader whose last call can fail for want of memory alone
pub wrote_last : {A V D P : Type 0} (o : Out A) (f : A → D → D) (before : D) (rest : List Token) (after : D) → (P → (t : A) × (o ≡ got t rest) × (after ≡ f t before)) → (r : Result V Stop) → MatchResult r (λ _. P) (λ e. e ≡ OutOfMemory) → Wrote o f before r rest after
wrote_last o f before rest after g (Ok v) h = g h
wrote_last o f before rest after g (Err e) h = rw h tt

-- a reader of a | b that calls the reader of a, or that of b
wrote_as : {A B V D : Type 0} (o : Out A) (q : Out B) (wrap : A → B) (g : B → D → D) (before : D) (rest : List Token) (after : D) → ((t : A) → o ≡ got t rest → q ≡ got (wrap t) rest) → ((e : Stop) → Stopped o e rest → Stopped q e rest) → (r : Result V Stop) → Wrote o (λ t. g (wrap t)) before r rest after → Wrote q g before r rest after
wrote_as o q wrap g before rest after goes stops (Ok v) (t, e, x) = (wrap t, goes t e, x)
wrote_as o q wrap g before rest after goes stops (Err e) h = stops e h

module _ {V D : Type 0} (n : ℕ) (a b : Rule) (g : Tree (either a b) → D → D) (ws : List Token) (before : D) (r : Result V Stop) (rest : List Token) (after : D) where
  pub wrote_left : starts a (sort ws) ≡ true → Wrote (read n a ws) (λ t. g (left t)) before r rest after → Wrote (read n (either a b) ws) g before r rest after
  wrote_left s = wrote_as (read n a ws) (read n (either a b) ws) left g before rest after (λ t e. left_got n a b ws s t rest e) (λ e h. left_stop n a b ws s e rest h) r

  pub wrote_right : starts a (sort ws) ≡ false → Wrote (read n b ws) (λ t. g (right t)) before r rest after → Wrote (read n (either a b) ws) g before r rest after
  wrote_right s = wrote_as (read n b ws) (read n (either a b) ws) right g before rest after (λ t e. right_got n a b ws s t rest e) (λ e h. right_stop n a b ws s e rest h) r

-- a sign is taken exactly where it is the next word; where it is not, nothing is passed
pub sign_taken : (s : Sign) (ws : List Token) (m : Tree (mark s)) (us : List Token) → read_word (mark s) ws ≡ got m us → (starts (mark s) (sort ws) ≡ true) × (length us < length ws)
sign_taken s ws m us e = grind arith

pub sign_missing : (s : Sign) (ws rest : List Token) → read_word (mark s) ws ≡ wrong rest → (starts (mark s) (sort ws) ≡ false) × (rest ≡ ws)
sign_missing s ws rest e = grind arith

pub sign_passed_by : (s : Sign) (ws rest : List Token) (e : Stop) → e ≡ Unexpected → Stopped (read_word (mark s) ws) e rest → (starts (mark s) (sort ws) ≡ false) × (rest ≡ ws)
sign_passed_by s ws rest e stops h = sign_missing s ws rest (rw stops at h)

-- s | b, where it is tried whether an s can be taken
module _ (n : ℕ) (s : Sign) (b : Rule) (ws us : List Token) where
  pub sign_got : (m : Tree (mark s)) → read_word (mark s) ws ≡ got m us → read n (either (mark s) b) ws ≡ got (left m) us
  sign_got m e = left_got n (mark s) b ws (sign_taken s ws m us e).0 m us (word_got n (mark s) tt ws m us e)

  module _ (d : Stop) (stops : d ≡ Unexpected) (missing : Stopped (read_word (mark s) ws) d us) where
    pub no_sign_got : (t : Tree b) (vs : List Token) → read n b us ≡ got t vs → read n (either (mark s) b) ws ≡ got (right t) vs
    no_sign_got t vs h =
        let x = sign_passed_by s ws us d stops missing in
        right_got n (mark s) b ws x.0 t vs (ap (read n b) (sym x.1) ∙ h)

    pub no_sign_stop : (e : Stop) (rest : List Token) → Stopped (read n b us) e rest → Stopped (read n (either (mark s) b) ws) e rest
    no_sign_stop e rest h =
        let x = sign_passed_by s ws us d stops missing in
        right_stop n (mark s) b ws x.0 e rest (rw x.1 at h)

-- {s a}: one turn of a loop that reads an a as long as it takes an s
module _ (n : ℕ) (s : Sign) (a : Rule) {D : Type 0} (emit : Tree (many (mark s then a)) → D → D) (put : Tree (mark s then a) → D → D) (ws₀ : List Token) (d₀ : D) where
  module _ (ws : List Token) (d : D) (goes : Goes n (mark s then a) emit put ws₀ d₀ ws d) where
    -- the sign is there
    module _ (m : Tree (mark s)) (us : List Token) (taken : read_word (mark s) ws ≡ got m us) where
      pub list_turn : ((t : Tree (mark s then a)) (u : Tree (many (mark s then a))) (d : D) → emit (more t u) d ≡ emit u (put t d)) → (t : Tree a) (vs : List Token) → read n a us ≡ got t vs → length vs < length us → (d' : D) → d' ≡ put (both m t) d → Goes n (mark s then a) emit put ws₀ d₀ vs d'
      list_turn law t vs p less d' q =
          goes_turn n (mark s then a) emit put ws₀ d₀ law ws d goes (grind (arith, sign_taken)) (both m t) vs
          (then_got n (mark s) a ws m us t vs (word_got n (mark s) tt ws m us taken) p)
          (let x = sign_taken s ws m us taken in omega arith) d' q

      pub list_stop : (e : Stop) (rest : List Token) → Stopped (read n a us) e rest → Stopped (read n (many (mark s then a)) ws₀) e rest
      list_stop e rest h =
          goes_stop n (mark s then a) emit put ws₀ d₀ ws d goes (grind (arith, sign_taken))
          (let x = sign_taken s ws m us taken in omega arith) e rest
          (then_stop_second n (mark s) a ws m us (word_got n (mark s) tt ws m us taken) e rest h)

    -- the sign is not there
    pub list_end : ((d : D) → emit end d ≡ d) → (e : Stop) → e ≡ Unexpected → (rest : List Token) → Stopped (read_word (mark s) ws) e rest → (u : Tree (many (mark s then a))) × (read n (many (mark s then a)) ws₀ ≡ got u rest) × (d ≡ emit u d₀)
    list_end law e stops rest missing =
        let x = sign_passed_by s ws rest e stops missing in
        let whole = goes_end n (mark s then a) emit put ws₀ d₀ law ws d goes (grind arith) in
        (whole.0, whole.1 ∙ ap (got whole.0) (sym x.1), whole.2)

-- a nesting part, where m nestings are left
module _ (p : Part) (ws : List Token) (m : ℕ) (begins : opens p (sort ws) ≡ true) where
  -- and n within it
  module _ (n : ℕ) (more_left : m ≡ n + 1) where
    pub nested_got : (t : Tree (inside p)) (us : List Token) → read n (inside p) ws ≡ got t us → read m (part p) ws ≡ got (nested p t) us
    nested_got t us h = rw (more_left, add-one) (part_got p ws n begins t us h)

    pub nested_stop : (e : Stop) (rest : List Token) → Stopped (read n (inside p) ws) e rest → Stopped (read m (part p) ws) e rest
    nested_stop e rest h = rw (more_left, add-one) (part_stop p ws n begins e rest h)

  -- none is left
  pub nested_deep : (e : Stop) → (e ≡ TooDeep) × (m ≡ 0) → Stopped (read m (part p) ws) e ws
  nested_deep e h = rw (h.0, h.1) (part_deep p ws begins)
