-- The first words of a tree, and trees that begin with a given word. Assumes nothing.
use Rattle.std.proofs.Common.{◌≡◌, ℕ, Bool, true, false, if◌then◌else◌, Some, None, eqb-true, ◌⊎◌, List, [], ◌∷◌, ◌++◌, append-nil, refl, ap, inl, inr, arith}
use Rattle.std.proofs.lemmas.Bool.{false≢true, eq-eqb, ne_eqb, and_parts, or_cases}
use Rattle.words.specs.declared.token.Sign.{Sign}
use Rattle.words.specs.declared.token.Kind.{Kind}
use Rattle.words.specs.declared.token.Kind.TheVariants.{Reserved, Mark}
use Rattle.words.specs.declared.token.Token.{Token}
use Rattle.grammar.specs.Rules.{Part, Rule, mark, keyword, name, integer, ◌then◌, maybe, many, either, fork, series, part, inside}
use Rattle.grammar.specs.Sorts.{kind_sort, sort, second, nullable, starts}
use Rattle.grammar.specs.Trees.{word_of, Tree, words, depth, mark_at, keyword_at, name_at, integer_at, both, none, some, end, more, left, right, one, other, last, closing, next, nested}
use Rattle.grammar.specs.Reading.{Out, got, wrong, deep, IsWord, word_out, read_word}
use Rattle.grammar.proofs.Checks.{single, pairs, shallow, begins, Ok, is_mark, is_keyword, ok_inside, inside_opens, inside_none}

-- what the tests of a rule say of a tree's words
abbrev pub Shape : Rule → List Token → Type 0
Shape r [] = nullable r ≡ true
Shape r (w ∷ []) = (starts r (kind_sort w.kind) ≡ true) × (single r (kind_sort w.kind) ≡ true)
Shape r (w ∷ v ∷ ws) = (starts r (kind_sort w.kind) ≡ true) × (pairs r (kind_sort w.kind) (kind_sort v.kind) ≡ true)

then_shape : (a b : Rule) (ws us : List Token) → Shape a ws → Shape b us → Shape (a then b) (ws ++ us)
then_shape a b ws us s t = grind arith

maybe_shape : (a : Rule) (ws : List Token) → Shape a ws → Shape (maybe a) ws
maybe_shape a ws s = grind arith

many_shape : (a : Rule) (ws us : List Token) → Shape a ws → Shape (many a) us → Shape (many a) (ws ++ us)
many_shape a ws us s t = grind arith

either_shape : (a b : Rule) (ws : List Token) → Shape a ws ⊎ Shape b ws → Shape (either a b) ws
either_shape a b ws s = grind arith

fork_shape : (a b : Rule) (ws : List Token) → Shape a ws ⊎ Shape b ws → Shape (fork a b) ws
fork_shape a b ws s = grind arith

series_shape : (a : Rule) (s : Sign) (b : Rule) (ws : List Token) → Shape a ws ⊎ Shape b ws → Shape (series a s b) ws
series_shape a s b ws h = grind arith

next_shape : (a : Rule) (s : Sign) (b : Rule) (p : ℕ) (ws us : List Token) → nullable a ≡ false → Shape a ws → Shape (series a s b) us → Shape (series a s b) (ws ++ word_of (Mark s) p ∷ us)
next_shape a s b p ws us z h t = grind (arith, eq-eqb)

nested_shape : (p : Part) (ws : List Token) → Shape (inside p) ws → Shape (part p) ws
nested_shape p ws s = grind (arith, inside_none, inside_opens p ws)

pub shape : {r : Rule} (t : Tree r) → Ok r → Shape r (words t)
unfolding words
shape (mark_at p) k = (eq-eqb _ _ refl, eq-eqb _ _ refl)
shape (keyword_at p) k = (eq-eqb _ _ refl, eq-eqb _ _ refl)
shape (name_at p n) k = (refl, refl)
shape (integer_at p v) k = (refl, refl)
shape (both {a = a} {b = b} t u) k = then_shape a b (words t) (words u) (shape t k.0) (shape u k.1.0)
shape none k = refl
shape (some {a = a} t) k = maybe_shape a (words t) (shape t k.0)
shape end k = refl
shape (more {a = a} t u) k = many_shape a (words t) (words u) (shape t k.0) (shape u k)
shape (left {a = a} {b = b} t) k = either_shape a b (words t) (inl (shape t k.0))
shape (right {a = a} {b = b} t) k = either_shape a b (words t) (inr (shape t k.1.0))
shape (one {a = a} {b = b} t) k = fork_shape a b (words t) (inl (shape t k.0))
shape (other {a = a} {b = b} t) k = fork_shape a b (words t) (inr (shape t k.1.0))
shape (last {a = a} {b = b} {s = s} t) k = series_shape a s b (words t) (inl (shape t k.0))
shape (closing {a = a} {b = b} {s = s} t) k = series_shape a s b (words t) (inr (shape t k.1.0))
shape (next {a = a} {b = b} {s = s} t p u) k = next_shape a s b p (words t) (words u) k.1.1.0 (shape t k.0) (shape u k)
shape (nested p t) k = nested_shape p (words t) (shape t (ok_inside p))

-- the first word, and where there is none
pub first_word : (r : Rule) (ws after : List Token) → Shape r ws → (starts r (sort (ws ++ after)) ≡ true) ⊎ ((ws ≡ []) × (nullable r ≡ true))
first_word r ws after s = grind arith

-- the first two words
pub two_words : (r : Rule) (ws after : List Token) → Shape r ws → nullable r ≡ false → (single r (sort (ws ++ after)) ≡ true) ⊎ (pairs r (sort (ws ++ after)) (second (ws ++ after)) ≡ true)
two_words r ws after s z = grind arith

-- what a single word reads as
abbrev pub Leaf : (r : Rule) → Kind → ℕ → List Token → Out (Tree r) → Type 0
Leaf r k p ws (got t rest) = (rest ≡ ws) × (words t ≡ word_of k p ∷ []) × (depth t ≡ 0) × (starts r (kind_sort k) ≡ true)
Leaf r k p ws (wrong rest) = (rest ≡ word_of k p ∷ ws) × (starts r (kind_sort k) ≡ false)
Leaf r k p ws (deep rest) = ⊥

told : (r : Rule) (k l : Kind) (p : ℕ) (ws : List Token) (t : Tree r) (b : Bool) → words t ≡ word_of l p ∷ [] → depth t ≡ 0 → starts r (kind_sort k) ≡ b → (b ≡ true → k ≡ l) → Leaf r k p ws (word_out (if b then Some t else None) (word_of k p) ws)
told r k l p ws t b x y z w = grind arith

pub leaf : (r : Rule) → IsWord r → (k : Kind) (p : ℕ) (ws : List Token) → Leaf r k p ws (read_word r (word_of k p ∷ ws))
unfolding words depth
leaf (mark s) e k p ws = told (mark s) k (Mark s) p ws (mark_at p) _ refl refl refl (λ x. is_mark s k (eqb-true _ _ x))
leaf (keyword c) e k p ws = told (keyword c) k (Reserved c) p ws (keyword_at p) _ refl refl refl (λ x. is_keyword c k (eqb-true _ _ x))
leaf name e k p ws = grind (arith, ne_eqb)
leaf integer e k p ws = grind (arith, ne_eqb)
leaf _ e k p ws = absurd e

-- a tree that does not nest
pub sample : (r : Rule) → shallow r ≡ true → (t : Tree r) × (depth t ≡ 0)
unfolding depth
sample (mark s) e = (mark_at 0, refl)
sample (keyword k) e = (keyword_at 0, refl)
sample name e = (name_at 0 0, refl)
sample integer e = (integer_at 0 0, refl)
sample (a then b) e =
    let (t, x) = sample a (and_parts (shallow a) (shallow b) e).0 in
    let (u, y) = sample b (and_parts (shallow a) (shallow b) e).1 in
    (both t u, omega arith)
sample (maybe a) e = (none, refl)
sample (many a) e = (end, refl)
sample (either a b) e = elim (or_cases (shallow a) (shallow b) e) [ inl x ↦ (left (sample a x).0, (sample a x).1) | inr x ↦ (right (sample b x).0, (sample b x).1) ]
sample (fork a b) e = elim (or_cases (shallow a) (shallow b) e) [ inl x ↦ (one (sample a x).0, (sample a x).1) | inr x ↦ (other (sample b x).0, (sample b x).1) ]
sample (series a s b) e = elim (or_cases (shallow a) (shallow b) e) [ inl x ↦ (last (sample a x).0, (sample a x).1) | inr x ↦ (closing (sample b x).0, (sample b x).1) ]
sample (part p) e = absurd (false≢true e)

-- a tree that does not nest and begins with that word
abbrev pub Begun : Rule → Token → Type 0
Begun r w = (t : Tree r) × (vs : List Token) × (words t ≡ w ∷ vs) × (depth t ≡ 0)

word_begun : (r : Rule) → IsWord r → (w : Token) → starts r (kind_sort w.kind) ≡ true → Begun r w
word_begun r i w e = grind (arith, leaf r i w.kind w.place [])

begun_by : {a r : Rule} {w : Token} (f : Tree a → Tree r) → ((t : Tree a) → (words (f t) ≡ words t) × (depth (f t) ≡ depth t)) → Begun a w → Begun r w
begun_by f same b = grind arith

pub begun : (r : Rule) (w : Token) → begins r (kind_sort w.kind) ≡ true → Begun r w
unfolding words depth
begun (a then b) w e =
    let h = and_parts (begins a (kind_sort w.kind)) (shallow b) e in
    let (t, vs, x, y) = begun a w h.0 in
    let (u, z) = sample b h.1 in
    (both t u, vs ++ words u, ap (λ l. l ++ words u) x, omega arith)
begun (maybe a) w e = begun_by some (λ t. (refl, refl)) (begun a w e)
begun (many a) w e = begun_by (λ t. more t end) (λ t. (append-nil (words t), omega arith)) (begun a w e)
begun (either a b) w e = elim (or_cases _ _ e) [ inl h ↦ begun_by left (λ t. (refl, refl)) (begun a w h) | inr h ↦ begun_by right (λ t. (refl, refl)) (begun b w h) ]
begun (fork a b) w e = elim (or_cases _ _ e) [ inl h ↦ begun_by one (λ t. (refl, refl)) (begun a w h) | inr h ↦ begun_by other (λ t. (refl, refl)) (begun b w h) ]
begun (series a s b) w e = elim (or_cases _ _ e) [ inl h ↦ begun_by last (λ t. (refl, refl)) (begun a w h) | inr h ↦ begun_by closing (λ t. (refl, refl)) (begun b w h) ]
begun (part p) w e = absurd (false≢true e)
begun r w e = word_begun r tt w e
