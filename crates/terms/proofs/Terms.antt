-- Which rows the parts of an expression make. Assumes nothing.
use Rattle.std.proofs.Common.{◌≡◌, ℕ, List, length, Option, Some, None, refl, arith}
use Rattle.words.specs.declared.token.Sign.TheVariants.{Backslash, Dollar, Not as NotSign, AndReduce, OrReduce, XorReduce}
use Rattle.grammar.specs.declared.draft.Listed.{Listed}
use Rattle.grammar.specs.declared.draft.Number.{Number}
use Rattle.grammar.specs.declared.draft.Reference.{Reference}
use Rattle.grammar.specs.declared.draft.Form.TheVariants.{Bits, Literal, Sized}
use Rattle.grammar.specs.declared.draft.Form.{Form}
use Rattle.grammar.specs.declared.draft.Gate.TheVariants.{And, Or, Xor}
use Rattle.grammar.specs.Rules.{mark, integer, ref, integers, prefix_sign}
use Rattle.grammar.specs.Trees.{Tree, mark_at, both, left, right}
use Rattle.grammar.specs.Drafts.{TermLists, number_of, ref_of, listed, with_node, with_digits, node_at, root, under}
use Rattle.cursor.specs.Told.{mark_place}
use Rattle.terms.specs.Expressions.{bits_rows, string_rows, sized_rows, sign_of, form_of}
use Rattle.terms.specs.declared.expressions.PrefixSign.{PrefixSign}

pub bits_is : (t : Tree ref) (k : Option ℕ) (r : Reference) → r ≡ ref_of t → (before after : TermLists) → after ≡ with_node before (node_at r.name.place k (Bits r)) → after ≡ bits_rows t k before
bits_is t k r e before after h = grind arith

pub string_is : (m : Tree (mark Backslash)) (is : Tree integers) (b : Tree (mark Backslash)) (k : Option ℕ) (p l : ℕ) (xs : List Listed) (before after : TermLists) → p ≡ mark_place m → xs ≡ listed is before.digits → l ≡ length xs → after ≡ with_node (with_digits before xs) (node_at p k (Literal l)) → after ≡ string_rows (both m (both is b)) k before
string_is (mark_at q) is b k p l xs before after e f g h = rw (h, g, f, e) refl

pub sized_is : (i : Tree integer) (d : Tree (mark Dollar)) (j : Tree integer) (k : Option ℕ) (x y : Number) → x ≡ number_of i → y ≡ number_of j → (before after : TermLists) → after ≡ with_node before (node_at x.place k (Sized x y)) → after ≡ sized_rows (both i (both d j)) k before
sized_is i d j k x y e f before after h = rw (h, e, f) refl

pub not_is : (m : Tree (mark NotSign)) (p : ℕ) → p ≡ mark_place m → record { place = p; gate = None } ≡ sign_of (left m)
not_is (mark_at q) p e = rw e refl

pub and_reduce_is : (m : Tree (mark AndReduce)) (p : ℕ) → p ≡ mark_place m → record { place = p; gate = Some And } ≡ sign_of (right (left m))
and_reduce_is (mark_at q) p e = rw e refl

pub or_reduce_is : (m : Tree (mark OrReduce)) (p : ℕ) → p ≡ mark_place m → record { place = p; gate = Some Or } ≡ sign_of (right (right (left m)))
or_reduce_is (mark_at q) p e = rw e refl

pub xor_reduce_is : (m : Tree (mark XorReduce)) (p : ℕ) → p ≡ mark_place m → record { place = p; gate = Some Xor } ≡ sign_of (right (right (right m)))
xor_reduce_is (mark_at q) p e = rw e refl

pub under_is : (s : Tree prefix_sign) (k : Option ℕ) (x : PrefixSign) → x ≡ sign_of s → (form : Form) (operand : ℕ) (mid rows after : TermLists) → form ≡ form_of x operand → operand ≡ root mid → mid ≡ rows → after ≡ with_node mid (node_at x.place k form) → after ≡ under s k rows
under_is (left (mark_at p)) k x e form operand mid rows after f o m h = rw (h, f, o, m, e) refl
under_is (right (left (mark_at p))) k x e form operand mid rows after f o m h = rw (h, f, o, m, e) refl
under_is (right (right (left (mark_at p)))) k x e form operand mid rows after f o m h = rw (h, f, o, m, e) refl
under_is (right (right (right (mark_at p)))) k x e form operand mid rows after f o m h = rw (h, f, o, m, e) refl
