-- A word and what stands behind it, and a turn of a loop in rows. Assumes nothing.
use Rattle.std.proofs.Common.{◌≡◌, ℕ, List, refl, ◌∙◌}
use Rattle.words.specs.declared.token.Sign.TheVariants.{Semicolon}
use Rattle.words.specs.declared.token.Token.{Token}
use Rattle.grammar.specs.Rules.{Rule, mark, ◌then◌, many, item, conn}
use Rattle.grammar.specs.Trees.{Tree, both, more}
use Rattle.grammar.specs.declared.draft.Class.{Class}
use Rattle.grammar.specs.Drafts.{RowLists, more_items, conn_rows, more_conns}
use Rattle.parse.specs.Parts.{item_row, behind}
use Rattle.grammar.specs.Reading.{got, IsWord, read_word, read}
use Rattle.cursor.proofs.Steps.{word_is, then_got}

-- a word and what stands behind it
pub word_then : (n : ℕ) (a b : Rule) → IsWord a → (ws : List Token) (t : Tree a) (us : List Token) (u : Tree b) (vs : List Token) → read_word a ws ≡ got t us → read n b us ≡ got u vs → read n (a then b) ws ≡ got (both t u) vs
word_then n a b w ws t us u vs p q = then_got n a b ws t us u vs (word_is n a w ws ∙ p) q

pub pair_is : {A B : Type 0} {a c : A} {b d : B} → a ≡ c → b ≡ d → ◌≡◌ {A = A × B} (a, b) (c, d)
pair_is p q = cc

-- one turn of a loop, in rows
pub more_conns-more : (t : Tree (mark Semicolon then conn)) (u : Tree (many (mark Semicolon then conn))) (d : RowLists) → more_conns (more t u) d ≡ more_conns u (behind conn_rows t d)
more_conns-more (both p c) u d = refl

pub more_items-more : (c : Class) (t : Tree (mark Semicolon then item)) (u : Tree (many (mark Semicolon then item))) (d : RowLists) → more_items c (more t u) d ≡ more_items c u (behind (item_row c) t d)
more_items-more c (both p i) u d = refl
