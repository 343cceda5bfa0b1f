-- The names that a draft declares are parts of its text, one behind the other. Assumes nothing.
use Rattle.std.proofs.Common.{◌≡◌, ℕ, ◌+◌, ◌≤◌, List, [], ◌∷◌, ◌++◌, length, sym, ap, subst, length-append, arith}
use Rattle.words.specs.declared.token.Kind.{Kind}
use Rattle.words.specs.declared.token.Kind.TheVariants.{Reserved, Name, Integer, Mark}
use Rattle.words.specs.declared.token.Sign.TheVariants.{Semicolon}
use Rattle.words.specs.declared.token.Token.{Token}
use Rattle.words.specs.Spelling.{Says, Lettered, BeginsWith, Spelled}
use Rattle.grammar.specs.declared.draft.Class.{Class}
use Rattle.grammar.specs.declared.draft.Item.{Item}
use Rattle.grammar.specs.Rules.{Rule, mark, item, many, ◌then◌, decl, unit}
use Rattle.grammar.specs.Trees.{Tree, name_at, both, end, more, words}
use Rattle.grammar.specs.Drafts.{RowLists, DraftLists, with_item, item_of, more_items, class_of, decl_rows, more_decls, no_rows, draft_of}
use Rattle.drafts.specs.Parsed.{Drafted}
use Rattle.soundness.specs.Layout.{NamesWithin}
use Rattle.soundness.proofs.Rows.{declared, body_items}

-- how many bytes a name has; those of other words are not counted here
abbrev name_length : Kind → ℕ
name_length (Reserved k) = 0
name_length (Name n) = n
name_length (Integer v) = 0
name_length (Mark s) = 0

-- no name is empty
abbrev NotEmpty : Kind → Type 0
NotEmpty (Reserved k) = Unit {0}
NotEmpty (Name n) = 1 ≤ n
NotEmpty (Integer v) = Unit {0}
NotEmpty (Mark s) = Unit {0}

-- words stand in order from one place of a text up to another, and each behind the whole of a name before it
abbrev WordsWithin : ℕ → ℕ → List Token → Type 0
WordsWithin from to [] = from ≤ to
WordsWithin from to (w ∷ ws) = (from ≤ w.place) × NotEmpty w.kind × WordsWithin (w.place + name_length w.kind) to ws

words_between : (from to : ℕ) (ws : List Token) → WordsWithin from to ws → from ≤ to
words_between from to [] h = h
words_between from to (w ∷ ws) h = let z = words_between (w.place + name_length w.kind) to ws h.2 in omega (arith, h.0)

words_before : (before from to : ℕ) (ws : List Token) → before ≤ from → WordsWithin from to ws → WordsWithin before to ws
words_before before from to [] l h = omega (arith, h)
words_before before from to (w ∷ ws) l h = (omega (arith, h.0), h.1, h.2)

-- what the bytes of a word say of its length
lettered_long : (bytes : List ℕ) → Lettered bytes → 1 ≤ length bytes
lettered_long [] h = absurd h
lettered_long (b ∷ bs) h = omega arith

not_empty : (bytes : List ℕ) (k : Kind) → Says bytes k → NotEmpty k
not_empty bytes (Reserved k) says = tt
not_empty bytes (Name n) says = let z = lettered_long bytes says.0 in omega (arith, says.2)
not_empty bytes (Integer v) says = tt
not_empty bytes (Mark s) says = tt

name_long : (bytes : List ℕ) (k : Kind) → Says bytes k → name_length k ≤ length bytes
name_long bytes (Reserved k) says = omega arith
name_long bytes (Name n) says = omega (arith, says.2)
name_long bytes (Integer v) says = omega arith
name_long bytes (Mark s) says = omega arith

-- the words that a text begins with, up to where the rest of it begins
begun_within : (p : ℕ) (text : List ℕ) (ws : List Token) (q : ℕ) (rest : List ℕ) → BeginsWith p text ws q rest → WordsWithin p q ws
begun_within p text [] q rest h = omega (arith, h.0)
begun_within p text (w ∷ ws) q rest (f, g) =
    let long = name_long f.bytes w.kind f.says in
    (omega (arith, f.there), not_empty f.bytes w.kind f.says, words_before (w.place + name_length w.kind) (w.place + length f.bytes) q ws (omega arith) (begun_within (w.place + length f.bytes) f.rest ws q rest g))

begun_long : (p : ℕ) (text : List ℕ) (ws : List Token) (q : ℕ) (rest : List ℕ) → BeginsWith p text ws q rest → q + length rest ≡ p + length text
begun_long p text [] q rest h = let z : length rest ≡ length text = ap length h.1 in omega (arith, h.0)
begun_long p text (w ∷ ws) q rest (f, g) =
    let z : length text ≡ length (f.gap ++ (f.bytes ++ f.rest)) = ap length f.parted in
    omega (arith, f.there, length-append f.gap (f.bytes ++ f.rest), length-append f.bytes f.rest, begun_long (w.place + length f.bytes) f.rest ws q rest g)

-- the words of a text end within it
spelled_ends : (text : List ℕ) (ws : List Token) (s : Spelled text ws) → s.place ≤ length text
spelled_ends text ws s = omega (arith, begun_long 0 text ws s.place s.tail s.words)

-- where the words of two lists part
record Parted (from to : ℕ) (ws vs : List Token) : Type 0 where
  place : ℕ
  first : WordsWithin from place ws
  second : WordsWithin place to vs

parted : (from to : ℕ) (ws vs : List Token) → WordsWithin from to (ws ++ vs) → Parted from to ws vs
parted from to [] vs h = record { place = from; first = omega arith; second = h }
parted from to (w ∷ ws) vs h =
    let z = parted (w.place + name_length w.kind) to ws vs h.2 in
    record { place = z.place; first = (h.0, h.1, z.first); second = z.second }

-- a later end for names, and one more name behind them
names_up_to : (from before to : ℕ) (xs : List Item) → before ≤ to → NamesWithin from before xs → NamesWithin from to xs
names_up_to from before to [] l h = omega (arith, h)
names_up_to from before to (x ∷ xs) l h = (h.0, h.1, names_up_to (x.name.place + x.name.len) before to xs l h.2)

names_push : (from before to : ℕ) (xs : List Item) (x : Item) → NamesWithin from before xs → before ≤ x.name.place → 1 ≤ x.name.len → x.name.place + x.name.len ≤ to → NamesWithin from to (xs ++ x ∷ [])
names_push from before to [] x h a b c = (omega (arith, h), b, c)
names_push from before to (y ∷ xs) x h a b c = (h.0, h.1, names_push (y.name.place + y.name.len) before to xs x h.2 a b c)

-- the words of a tree
abbrev Within : {r : Rule} → ℕ → ℕ → Tree r → Type 0
Within from to t = WordsWithin from to (words t)

two : {a b : Rule} (from to : ℕ) (t : Tree a) (u : Tree b) → Within from to (both t u) → Parted from to (words t) (words u)
unfolding words
two from to t u h = parted from to (words t) (words u) h

several : {a : Rule} (from to : ℕ) (t : Tree a) (ts : Tree (many a)) → Within from to (more t ts) → Parted from to (words t) (words ts)
unfolding words
several from to t ts h = parted from to (words t) (words ts) h

none_left : (a : Rule) (from to : ℕ) → Within from to (end {a = a}) → from ≤ to
unfolding words
none_left a from to h = h

-- Where the names that stand already end before a part of the text, those with its own end behind that part.
item_named : (c : Class) (t : Tree item) (xs : List Item) (from to : ℕ) → Within from to t → NamesWithin 0 from xs → NamesWithin 0 to (xs ++ item_of c t ∷ [])
unfolding words
item_named c (both (name_at p n) w) xs from to h g =
    names_push 0 from to xs (item_of c (both (name_at p n) w)) g h.0 h.1 (words_between (p + n) to (words w) h.2)

more_named : (c : Class) (is : Tree (many (mark Semicolon then item))) (d : RowLists) (from to : ℕ) → Within from to is → NamesWithin 0 from d.items → NamesWithin 0 to (more_items c is d).items
more_named c end d from to h g = names_up_to 0 from to d.items (none_left _ from to h) g
more_named c (more (both p i) is) d from to h g =
    let a = several from to (both p i) is h in
    let b = two from a.place p i a.first in
    let start = names_up_to 0 from b.place d.items (words_between from b.place (words p) b.first) g in
    more_named c is (with_item d (item_of c i)) a.place to a.second (item_named c i d.items b.place a.place b.second start)

decl_named : (t : Tree decl) (d : RowLists) (from to : ℕ) → Within from to t → NamesWithin 0 from d.items → NamesWithin 0 to (decl_rows t d).items
decl_named (both c (both p (both (both i is) q))) d from to h g =
    let w₁ = two from to c (both p (both (both i is) q)) h in
    let w₂ = two w₁.place to p (both (both i is) q) w₁.second in
    let w₃ = two w₂.place to (both i is) q w₂.second in
    let w₄ = two w₂.place w₃.place i is w₃.first in
    let start = names_up_to 0 from w₂.place d.items (let z = words_between from w₁.place (words c) w₁.first in let y = words_between w₁.place w₂.place (words p) w₂.first in omega arith) g in
    let one = item_named (class_of c) i d.items w₂.place w₄.place w₄.first start in
    let all = more_named (class_of c) is (with_item d (item_of (class_of c) i)) w₄.place w₃.place w₄.second one in
    names_up_to 0 w₃.place to _ (words_between w₃.place to (words q) w₃.second) all

decls_named : (ts : Tree (many decl)) (d : RowLists) (from to : ℕ) → Within from to ts → NamesWithin 0 from d.items → NamesWithin 0 to (more_decls ts d).items
decls_named end d from to h g = names_up_to 0 from to d.items (none_left _ from to h) g
decls_named (more t ts) d from to h g =
    let a = several from to t ts h in
    decls_named ts (decl_rows t d) a.place to a.second (decl_named t d from a.place a.first g)

unit_named : (t : Tree unit) (to : ℕ) → Within 0 to t → NamesWithin 0 to (draft_of t).rows.items
unfolding draft_of
unit_named (both a (both b (both n (both c (both d (both ds (both e (both f (both g (both k (both h (both s (both ss (both i (both j (both l (both is (both m (both cs z))))))))))))))))))) to w =
    let w₁ = two 0 to a _ w in
    let w₂ = two w₁.place to b _ w₁.second in
    let w₃ = two w₂.place to n _ w₂.second in
    let w₄ = two w₃.place to c _ w₃.second in
    let w₅ = two w₄.place to d _ w₄.second in
    let w₆ = two w₅.place to ds _ w₅.second in
    let one = decl_named d no_rows w₄.place w₅.place w₅.first (omega arith) in
    let all = decls_named ds (decl_rows d no_rows) w₅.place w₆.place w₆.first one in
    let rest = words_between w₆.place to _ w₆.second in
    subst (NamesWithin 0 to) (sym (body_items s ss is cs (more_decls ds (decl_rows d no_rows)) (declared d ds))) (names_up_to 0 w₆.place to _ rest all)

pub names_within : (text : List ℕ) (d : DraftLists) → Drafted text d → NamesWithin 0 (length text) d.rows.items
names_within text d g =
    let s = g.spelled in
    let begun = begun_within 0 text g.tokens s.place s.tail s.words in
    let those = subst (WordsWithin 0 s.place) (sym g.are.same) begun in
    let named = names_up_to 0 s.place (length text) _ (spelled_ends text g.tokens s) (unit_named g.are.tree s.place those) in
    subst (λ (x : DraftLists). NamesWithin 0 (length text) x.rows.items) (sym g.are.drafted) named
