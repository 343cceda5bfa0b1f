-- The names that a draft declares are short. Assumes nothing.
use Rattle.std.proofs.Common.{ℕ, ◌+◌, ◌≤◌, List, [], ◌∷◌, ◌++◌, length, All, sym, subst}
use Rattle.std.proofs.lemmas.List.Elements.{All-nil, All-cons, All-append}
use Rattle.words.specs.declared.token.Kind.{Kind}
use Rattle.words.specs.declared.token.Kind.TheVariants.{Reserved, Name, Integer, Mark}
use Rattle.words.specs.declared.token.Sign.TheVariants.{Semicolon}
use Rattle.words.specs.declared.token.Token.{Token}
use Rattle.words.specs.Spelling.{Says, BeginsWith, longest_name}
use Rattle.grammar.specs.declared.draft.Class.{Class}
use Rattle.grammar.specs.declared.draft.Item.{Item}
use Rattle.grammar.specs.Rules.{Rule, mark, item, many, ◌then◌, decl, unit}
use Rattle.grammar.specs.Trees.{Tree, name_at, both, end, more, words}
use Rattle.grammar.specs.Drafts.{RowLists, DraftLists, with_item, item_of, more_items, class_of, decl_rows, more_decls, no_rows, draft_of}
use Rattle.drafts.specs.Parsed.{Drafted}
use Rattle.soundness.proofs.Rows.{declared, body_items}

-- a name is short; other words may be long
abbrev ShortWord : Kind → Type 0
ShortWord (Reserved k) = Unit {0}
ShortWord (Name n) = n ≤ longest_name
ShortWord (Integer v) = Unit {0}
ShortWord (Mark s) = Unit {0}

abbrev ShortWords : List Token → Type 0
ShortWords [] = Unit {0}
ShortWords (w ∷ ws) = ShortWord w.kind × ShortWords ws

-- what the bytes of a word say of its length
word_short : (bytes : List ℕ) (k : Kind) → Says bytes k → ShortWord k
word_short bytes (Reserved k) says = tt
word_short bytes (Name n) says = says.3
word_short bytes (Integer v) says = tt
word_short bytes (Mark s) says = tt

begun_short : (p : ℕ) (text : List ℕ) (ws : List Token) (q : ℕ) (rest : List ℕ) → BeginsWith p text ws q rest → ShortWords ws
begun_short p text [] q rest h = tt
begun_short p text (w ∷ ws) q rest (f, g) = (word_short f.bytes w.kind f.says, begun_short (w.place + length f.bytes) f.rest ws q rest g)

-- the words of two lists
short_parts : (ws vs : List Token) → ShortWords (ws ++ vs) → ShortWords ws × ShortWords vs
short_parts [] vs h = (tt, h)
short_parts (w ∷ ws) vs h = let z = short_parts ws vs h.1 in ((h.0, z.0), z.1)

-- the words of a tree
abbrev Short : {r : Rule} → Tree r → Type 0
Short t = ShortWords (words t)

two : {a b : Rule} (t : Tree a) (u : Tree b) → Short (both t u) → Short t × Short u
unfolding words
two t u h = short_parts (words t) (words u) h

several : {a : Rule} (t : Tree a) (ts : Tree (many a)) → Short (more t ts) → Short t × Short ts
unfolding words
several t ts h = short_parts (words t) (words ts) h

-- an item has a short name
abbrev pub ShortName : Item → Type 0
ShortName x = x.name.len ≤ longest_name

item_short : (c : Class) (t : Tree item) (xs : List Item) → Short t → All ShortName xs → All ShortName (xs ++ item_of c t ∷ [])
unfolding words
item_short c (both (name_at p n) w) xs h g =
    let x = item_of c (both (name_at p n) w) in
    All-append ShortName xs (x ∷ []) g (All-cons ShortName x [] h.0 (All-nil ShortName))

more_short : (c : Class) (is : Tree (many (mark Semicolon then item))) (d : RowLists) → Short is → All ShortName d.items → All ShortName (more_items c is d).items
more_short c end d h g = g
more_short c (more (both p i) is) d h g =
    let a = several (both p i) is h in
    let b = two p i a.0 in
    more_short c is (with_item d (item_of c i)) a.1 (item_short c i d.items b.1 g)

decl_short : (t : Tree decl) (d : RowLists) → Short t → All ShortName d.items → All ShortName (decl_rows t d).items
decl_short (both c (both p (both (both i is) q))) d h g =
    let a = two c (both p (both (both i is) q)) h in
    let b = two p (both (both i is) q) a.1 in
    let e = two (both i is) q b.1 in
    let f = two i is e.0 in
    more_short (class_of c) is (with_item d (item_of (class_of c) i)) f.1 (item_short (class_of c) i d.items f.0 g)

decls_short : (ts : Tree (many decl)) (d : RowLists) → Short ts → All ShortName d.items → All ShortName (more_decls ts d).items
decls_short end d h g = g
decls_short (more t ts) d h g =
    let a = several t ts h in
    decls_short ts (decl_rows t d) a.1 (decl_short t d a.0 g)

unit_short : (t : Tree unit) → Short t → All ShortName (draft_of t).rows.items
unfolding draft_of
unit_short (both a (both b (both n (both c (both d (both ds (both e (both f (both g (both k (both h (both s (both ss (both i (both j (both l (both is (both m (both cs z))))))))))))))))))) w =
    let w₁ = two a _ w in
    let w₂ = two b _ w₁.1 in
    let w₃ = two n _ w₂.1 in
    let w₄ = two c _ w₃.1 in
    let w₅ = two d _ w₄.1 in
    let w₆ = two ds _ w₅.1 in
    let one = decl_short d no_rows w₅.0 (All-nil ShortName) in
    let all = decls_short ds (decl_rows d no_rows) w₆.0 one in
    subst (All ShortName) (sym (body_items s ss is cs (more_decls ds (decl_rows d no_rows)) (declared d ds))) all

-- no name of a draft is longer than 20 bytes
pub names_short : (text : List ℕ) (d : DraftLists) → Drafted text d → All ShortName d.rows.items
names_short text d g =
    let s = g.spelled in
    let begun = begun_short 0 text g.tokens s.place s.tail s.words in
    let those = subst ShortWords (sym g.are.same) begun in
    subst (λ (x : DraftLists). All ShortName x.rows.items) (sym g.are.drafted) (unit_short g.are.tree those)
