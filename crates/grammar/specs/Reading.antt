-- How a rule is read from the front of a list of words, by the next word and at a fork by the next two.
-- The contracts of the single readers cite it. What it comes to, Laws says in the words of Promise, which does not rest on it. Assumes nothing.
use Rattle.std.specs.Prelude.{ℕ, zero, suc, Bool, cond, if◌then◌else◌, not, ◌&&◌, List, [], ◌∷◌, length, ◌==◌, Option, Some, None}
use Rattle.words.specs.declared.token.Sign.{Sign}
use Rattle.words.specs.declared.token.Sign.TheVariants.{Dollar}
use Rattle.words.specs.declared.token.Kind.{Kind}
use Rattle.words.specs.declared.token.Kind.TheVariants.{Name, Integer}
use Rattle.words.specs.declared.token.Token.{Token}
use Rattle.grammar.specs.Rules.{Part, Rule, mark, keyword, name, integer, ◌then◌, maybe, many, either, fork, series, part, inside}
use Rattle.grammar.specs.Sorts.{integer_sort, keyword_sort, sign_sort, kind_sort, sort, second, starts, opens}
use Rattle.grammar.specs.Trees.{Tree, mark_at, keyword_at, name_at, integer_at, both, none, some, end, more, left, right, one, other, last, closing, next, nested}

-- what reading comes to: a tree and the words left; or the words left where the first of them continues nothing, or nests too deep
pub data Out (A : Type 0) : Type 0 where
  got : A → List Token → Out A
  wrong : List Token → Out A
  deep : List Token → Out A

-- go on with what was read
abbrev pub and_then : {A B : Type 0} → Out A → (A → List Token → Out B) → Out B
and_then (got t ws) f = f t ws
and_then (wrong ws) f = wrong ws
and_then (deep ws) f = deep ws

abbrev pub map_out : {A B : Type 0} → (A → B) → Out A → Out B
map_out f (got t ws) = got (f t) ws
map_out f (wrong ws) = wrong ws
map_out f (deep ws) = deep ws

-- a rule that asks for a single word
abbrev pub IsWord : Rule → Type 0
IsWord (mark s) = Unit {0}
IsWord (keyword k) = Unit {0}
IsWord name = Unit {0}
IsWord integer = Unit {0}
IsWord _ = ⊥

-- the tree of a name, of an integer, by its place
abbrev pub name_tree : ℕ → Kind → Option (Tree name)
name_tree p (Name n) = Some (name_at p n)
name_tree p _ = None

abbrev pub integer_tree : ℕ → Kind → Option (Tree integer)
integer_tree p (Integer v) = Some (integer_at p v)
integer_tree p _ = None

-- the tree of the word, where the rule asks for a single word and this is such a word
abbrev pub word_tree : (r : Rule) → Token → Option (Tree r)
word_tree (mark s) w = if kind_sort w.kind == sign_sort s then Some (mark_at w.place) else None
word_tree (keyword k) w = if kind_sort w.kind == keyword_sort k then Some (keyword_at w.place) else None
word_tree name w = name_tree w.place w.kind
word_tree integer w = integer_tree w.place w.kind
word_tree _ w = None

-- a single word: it is passed where it has a tree, and continues nothing where it has none
abbrev pub word_out : {A : Type 0} → Option A → Token → List Token → Out A
word_out (Some t) w ws = got t ws
word_out None w ws = wrong (w ∷ ws)

abbrev pub read_word : (r : Rule) → List Token → Out (Tree r)
read_word r [] = wrong []
read_word r (w ∷ ws) = word_out (word_tree r w) w ws

-- {a}, at most so many times: as long as the next word begins an a
unfoldable pub read_many : (a : Rule) → (List Token → Out (Tree a)) → ℕ → List Token → Out (Tree (many a))
read_many a f zero ws = got end ws
read_many a f (suc n) ws = cond (starts a (sort ws)) (and_then (f ws) (λ t us. map_out (more t) (read_many a f n us))) (got end ws)

-- {a s} a | {a s} b, with at most so many signs
abbrev pub series_on : (a : Rule) (s : Sign) (b : Rule) → (List Token → Out (Tree (series a s b))) → Tree a → List Token → Out (Tree (mark s)) → Out (Tree (series a s b))
series_on a s b go t us (got (mark_at p) vs) = map_out (next t p) (go vs)
series_on a s b go t us (wrong vs) = got (last t) us
series_on a s b go t us (deep vs) = got (last t) us

unfoldable pub read_series : (a : Rule) (s : Sign) (b : Rule) → (List Token → Out (Tree a)) → (List Token → Out (Tree b)) → ℕ → List Token → Out (Tree (series a s b))
read_series a s b f g zero ws = wrong ws
read_series a s b f g (suc n) ws =
    cond (starts b (sort ws)) (map_out closing (g ws))
    (and_then (f ws) (λ t us. series_on a s b (read_series a s b f g n) t us (read_word (mark s) us)))

-- at a fork: an integer with no $ behind it
abbrev pub plain : List Token → Bool
plain ws = sort ws == integer_sort && not (second ws == sign_sort Dollar)

-- a rule, where its nesting parts are read by `inner`
unfoldable pub read_with : ((p : Part) → List Token → Out (Tree (part p))) → (r : Rule) → List Token → Out (Tree r)
read_with inner (mark s) ws = read_word (mark s) ws
read_with inner (keyword k) ws = read_word (keyword k) ws
read_with inner name ws = read_word name ws
read_with inner integer ws = read_word integer ws
read_with inner (a then b) ws = and_then (read_with inner a ws) (λ t us. map_out (both t) (read_with inner b us))
read_with inner (maybe a) ws = cond (starts a (sort ws)) (map_out some (read_with inner a ws)) (got none ws)
read_with inner (many a) ws = read_many a (read_with inner a) (length ws) ws
read_with inner (either a b) ws = cond (starts a (sort ws)) (map_out left (read_with inner a ws)) (map_out right (read_with inner b ws))
read_with inner (fork a b) ws = cond (plain ws) (map_out one (read_with inner a ws)) (map_out other (read_with inner b ws))
read_with inner (series a s b) ws = read_series a s b (read_with inner a) (read_with inner b) (suc (length ws)) ws
read_with inner (part p) ws = inner p ws

-- a nesting part, with so much nesting left
unfoldable pub read_part : ℕ → (p : Part) → List Token → Out (Tree (part p))
read_part zero p ws = cond (opens p (sort ws)) (deep ws) (wrong ws)
read_part (suc n) p ws = cond (opens p (sort ws)) (map_out (nested p) (read_with (read_part n) (inside p) ws)) (wrong ws)

-- a rule, with so much nesting left
unfoldable pub read : ℕ → (r : Rule) → List Token → Out (Tree r)
read n r ws = read_with (read_part n) r ws
