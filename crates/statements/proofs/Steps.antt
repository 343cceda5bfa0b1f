-- How what a rule comes to follows from what the cursor and the readers of its parts tell. Assumes nothing.
use Rattle.std.proofs.Common.{◌≡◌, ℕ, Bool, true, false, List, Ok, Err, Result, refl, sym, ap, ◌∙◌, arith}
use Rattle.std.proofs.lemmas.Bool.{cond-true, cond-false}
use Rattle.words.specs.declared.token.Sign.{Sign}
use Rattle.words.specs.declared.token.Token.{Token}
use Rattle.grammar.specs.Rules.{Rule, mark, ◌then◌, either, fork}
use Rattle.grammar.specs.Sorts.{sort, starts}
use Rattle.grammar.specs.Trees.{Tree, mark_at, both, left, right, other}
use Rattle.grammar.specs.Reading.{Out, got, wrong, deep, map_out, read_word, plain, read_with, read}
use Rattle.cursor.specs.declared.stop.Stop.{Stop}
use Rattle.cursor.specs.Told.{mark_place, Stopped, Told, Wrote, Gave}
use Rattle.cursor.proofs.Steps.{stop_by, word_is, starts_then}
use Rattle.cursor.proofs.Reading.{reading}

-- a sign says its place
pub mark_is : {s : Sign} (t : Tree (mark s)) → mark_at (mark_place t) ≡ t
mark_is (mark_at p) = refl

pub mark_got : (s : Sign) (ws us : List Token) (t : Tree (mark s)) → read_word (mark s) ws ≡ got t us → t ≡ mark_at (mark_place t)
mark_got s ws us t e = sym (mark_is t)

-- what a rule comes to; where a `?` stops, this tells that the rule stops there
pub ruleset steps = (reading, mark_got)

-- what is read, and h of it, from what h of the whole comes to
pub was_read : {A D : Type 0} (o : Out A) (h : A → D) (after : D) (rest : List Token) → map_out h o ≡ got after rest → (t : A) × (o ≡ got t rest) × (after ≡ h t)
was_read (got t us) h after rest e = (t, cc, cc)
was_read (wrong us) h after rest e = absurd (cc)
was_read (deep us) h after rest e = absurd (cc)

-- o is what q comes to, with k made of what is read
pub record On {A C : Type 0} (o : Out C) (k : A → C) (q : Out A) : Type 0 where
  pub is : o ≡ map_out k q

map_map : {A B C : Type 0} (k : B → C) (j : A → B) (o : Out A) → map_out k (map_out j o) ≡ map_out (λ t. k (j t)) o
map_map k j (got t ws) = refl
map_map k j (wrong ws) = refl
map_map k j (deep ws) = refl

pub join : {A B C : Type 0} {o : Out C} {k : B → C} {p : Out B} {j : A → B} {q : Out A} → On o k p → On p j q → On o (λ t. k (j t)) q
join {k = k} {j = j} {q = q} x y = record { is = x.is ∙ (ap (map_out k) y.is ∙ map_map k j q) }

pub got_on : {A C : Type 0} {o : Out C} {k : A → C} {q : Out A} → On o k q → (t : A) (ws : List Token) → q ≡ got t ws → o ≡ got (k t) ws
got_on {k = k} x t ws p = x.is ∙ ap (map_out k) p

pub stop_on : {A C : Type 0} {o : Out C} {k : A → C} {q : Out A} → On o k q → (e : Stop) (rest : List Token) → Stopped q e rest → Stopped o e rest
stop_on {o = o} {k = k} {q = q} x e rest h = stop_by q o (λ ws p. x.is ∙ ap (map_out k) p) (λ ws p. x.is ∙ ap (map_out k) p) e rest h

-- a last call whose answer is handed on
module _ {A C D V : Type 0} {o : Out C} {k : A → C} {q : Out A} (x : On o k q) (d₀ d₁ d₂ : D) (rest : List Token) where
  pub wrote_on : (f : C → D → D) (g : A → D → D) → ((t : A) → f (k t) d₀ ≡ g t d₁) → (r : Result V Stop) → Wrote q g d₁ r rest d₂ → Wrote o f d₀ r rest d₂
  wrote_on f g law (Ok v) (t, p, e) = (k t, got_on x t rest p, e ∙ sym (law t))
  wrote_on f g law (Err e) h = stop_on x e rest h

  pub gave_on : (f : C → D → V × D) (g : A → D → V × D) → ((t : A) → f (k t) d₀ ≡ g t d₁) → (r : Result V Stop) → Gave q g d₁ r rest d₂ → Gave o f d₀ r rest d₂
  gave_on f g law (Ok v) (t, p, e) = (k t, got_on x t rest p, e ∙ sym (law t))
  gave_on f g law (Err e) h = stop_on x e rest h

-- single words
module _ (n : ℕ) where
  sign_got : (s : Sign) (ws : List Token) (p : ℕ) (us : List Token) → Told (read_word (mark s) ws) mark_place (Ok p) us → read n (mark s) ws ≡ got (mark_at p) us
  sign_got s ws p us (t, q, e) = word_is n (mark s) tt ws ∙ (q ∙ ap (λ u. got u us) (sym (mark_is t) ∙ ap mark_at (sym e)))

  -- behind the first part, and where the next words tell which way to go
  module _ (a b : Rule) (ws : List Token) where
    pub on_part : (t : Tree a) (us : List Token) → read n a ws ≡ got t us → On (read n (a then b) ws) (both t) (read n b us)
    unfolding read read_with
    on_part t us p = record { is = grind (arith, p) }

    pub on_left : starts a (sort ws) ≡ true → On (read n (either a b) ws) left (read n a ws)
    unfolding read read_with
    on_left s = record { is = cond-true _ _ _ s }

    pub on_right : starts a (sort ws) ≡ false → On (read n (either a b) ws) right (read n b ws)
    unfolding read read_with
    on_right s = record { is = cond-false _ _ _ s }

    pub on_other : plain ws ≡ false → On (read n (fork a b) ws) other (read n b ws)
    unfolding read read_with
    on_other s = record { is = cond-false _ _ _ s }

  pub on_sign : (s : Sign) (b : Rule) (ws : List Token) (p : ℕ) (us : List Token) → Told (read_word (mark s) ws) mark_place (Ok p) us → On (read n (mark s then b) ws) (both (mark_at p)) (read n b us)
  on_sign s b ws p us t = on_part (mark s) b ws (mark_at p) us (sign_got s ws p us t)

  -- the sign that is asked for is the first of the left part
  module _ (s : Sign) (r b : Rule) (ws : List Token) (q : Bool) (at : q ≡ starts (mark s) (sort ws)) where
    begins : (x : Bool) → q ≡ x → starts (mark s then r) (sort ws) ≡ x
    begins x h = starts_then (mark s) r (sort ws) refl ∙ (sym at ∙ h)

    pub at_sign : q ≡ true → On (read n (either (mark s then r) b) ws) left (read n (mark s then r) ws)
    at_sign h = on_left (mark s then r) b ws (begins true h)

    pub not_at_sign : q ≡ false → On (read n (either (mark s then r) b) ws) right (read n b ws)
    not_at_sign h = on_right (mark s then r) b ws (begins false h)
