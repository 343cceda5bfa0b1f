-- How a reference is made of its parts. Assumes nothing.
use Rattle.std.proofs.Common.{◌≡◌, ℕ, Option, refl}
use Rattle.words.specs.declared.token.Sign.TheVariants.{Colon, LeftBracket, RightBracket}
use Rattle.grammar.specs.declared.draft.Name.{Name}
use Rattle.grammar.specs.declared.draft.Number.{Number}
use Rattle.grammar.specs.declared.draft.Subscript.{Subscript}
use Rattle.grammar.specs.Rules.{mark, name, integer, ◌then◌, maybe}
use Rattle.grammar.specs.Trees.{Tree, mark_at, both, none, some}
use Rattle.grammar.specs.Drafts.{name_of, number_of, subscript_of, ref_of}
use Rattle.cursor.specs.Told.{mark_place}
use Rattle.terms.specs.Subscripts.{subscript_rule, last_of, maybe_subscript}

pub subscript_is : (m : Tree (mark LeftBracket)) (i : Tree integer) (q : Tree (maybe (mark Colon then integer))) (b : Tree (mark RightBracket)) (place : ℕ) (first : Number) (last : ℕ) → place ≡ mark_place m → first ≡ number_of i → last ≡ last_of q first.value → record { place = place; first = first.value; last = last } ≡ subscript_of (both m (both i (both q b)))
subscript_is (mark_at p) i none b place first last e f g = rw (g, f, e) refl
subscript_is (mark_at p) i (some (both c j)) b place first last e f g = rw (g, f, e) refl

pub ref_is : (n : Tree name) (q : Tree (maybe subscript_rule)) (name : Name) (subscript : Option Subscript) → name ≡ name_of n → subscript ≡ maybe_subscript q → record { name = name; subscript = subscript } ≡ ref_of (both n q)
ref_is n none x s e f = rw (e, f) refl
ref_is n (some t) x s e f = rw (e, f) refl
