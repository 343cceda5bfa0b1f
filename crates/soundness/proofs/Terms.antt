-- How the rows of an expression lie behind those that stand. Assumes nothing.
use Rattle.std.proofs.Common.{◌≡◌, ℕ, zero, suc, ◌+◌, ◌<◌, ◌≤◌, List, [], ◌∷◌, ◌++◌, length, get_or, Option, Some, None, IsSome, map, refl, sym, ap, ◌∙◌, subst, append_assoc, append-nil, length-append, add-one, arith}
use Rattle.std.specs.Prelude.{All}
use Rattle.std.proofs.lemmas.List.{length-map, map-append, get_or_append_left}
use Rattle.std.proofs.lemmas.List.Elements.{All-nil, All-cons, All-append, All-push, All-head, All-tail}
use Rattle.words.specs.declared.token.Sign.TheVariants.{Comma, And, Or, Xor}
use Rattle.grammar.specs.declared.draft.Gate.TheVariants.{And as AndGate, Or as OrGate, Xor as XorGate}
use Rattle.grammar.specs.declared.draft.Form.{Form}
use Rattle.grammar.specs.declared.draft.Form.TheVariants.{Bits, Literal, Sized, Comma as CommaForm, Join, Not as NotForm, Reduce}
use Rattle.grammar.specs.declared.draft.Node.{Node}
use Rattle.grammar.specs.declared.draft.Listed.{Listed}
use Rattle.grammar.specs.Rules.{mark, integer, integers, group, signed, many, ◌then◌, primary, prefix_sign, prefix, and, xor, or, expr}
use Rattle.grammar.specs.Trees.{Tree, mark_at, both, end, more, left, right, nested}
use Rattle.grammar.specs.Drafts.{TermLists, with_node, with_digits, listed_at, more_listed, listed, root, node_at, digit_rows, joined, under, literal_at, ref_of, number_of, expr_rows, more_ors, or_rows, more_xors, xor_rows, more_ands, and_rows, more_prefixes, prefix_rows, primary_rows}
use Rattle.least.specs.Each.{row_at}
use Rattle.database.specs.Expressions.{Shape, shape, no_shape, shape_at, Expression, leaf, unary, binary}
use Rattle.soundness.specs.Layout.{node_shape, form_shape, driven_at, SideLaid, FirstPlain, LiteralThere}

-- a row that is there stays where more rows follow
row_kept : {A : Type 0} (absent : A) (xs ys : List A) (n : ℕ) → n ≤ length xs → row_at absent (xs ++ ys) n ≡ row_at absent xs n
row_kept absent xs ys n h = get_or_append_left (absent ∷ xs) ys absent n (omega arith)

-- the last row
row_last : {A : Type 0} (absent x : A) (xs : List A) → row_at absent (xs ++ x ∷ []) (length xs + 1) ≡ x
row_last {A = A} absent x xs = rw add-one (seam xs)
  where
    seam : (ys : List A) → get_or (ys ++ x ∷ []) (length ys) absent ≡ x
    seam [] = refl
    seam (y ∷ ys) = seam ys

-- a row with a shape is there
shape_within : (shapes : List Shape) (n k a b : ℕ) → get_or shapes n no_shape ≡ shape k a b → n < length shapes
shape_within [] n k a b e = let z : None ≡ Some k = ap (λ (s : Shape). s.operands) e in absurd (cc)
shape_within (x ∷ xs) zero k a b e = omega arith
shape_within (x ∷ xs) (suc n) k a b e = let h = shape_within xs n k a b e in omega arith

shape_there : (shapes : List Shape) (n k a b : ℕ) → shape_at shapes n ≡ shape k a b → n ≤ length shapes
shape_there shapes n k a b e = let h = shape_within (no_shape ∷ shapes) n k a b e in omega arith

shape_kept : (shapes others : List Shape) (n k a b : ℕ) → shape_at shapes n ≡ shape k a b → shape_at (shapes ++ others) n ≡ shape k a b
shape_kept shapes others n k a b e = row_kept no_shape shapes others n (shape_there shapes n k a b e) ∙ e

-- an expression stays one where more rows follow
expression_kept : (shapes others : List Shape) {before root : ℕ} → Expression shapes before root → Expression (shapes ++ others) before root
expression_kept shapes others (leaf e s) = leaf e (shape_kept shapes others _ _ _ _ s)
expression_kept shapes others (unary a e s x) = unary a e (shape_kept shapes others _ _ _ _ s) (expression_kept shapes others x)
expression_kept shapes others (binary a b e s x y) = binary a b e (shape_kept shapes others _ _ _ _ s) (expression_kept shapes others x) (expression_kept shapes others y)

-- its root is a row
root_there : (shapes : List Shape) {before root : ℕ} → Expression shapes before root → root ≤ length shapes
root_there shapes (leaf e s) = shape_there shapes _ _ _ _ s
root_there shapes (unary a e s x) = shape_there shapes _ _ _ _ s
root_there shapes (binary a b e s x y) = shape_there shapes _ _ _ _ s

nodes_kept : (nodes others : List Node) (before root : ℕ) → Expression (map node_shape nodes) before root → Expression (map node_shape (nodes ++ others)) before root
nodes_kept nodes others before root x = rw map-append (expression_kept (map node_shape nodes) (map node_shape others) x)

pub side_kept : (nodes others : List Node) (driven : Option ℕ) (before root : ℕ) → SideLaid nodes driven before root → SideLaid (nodes ++ others) driven before root
side_kept nodes others driven before root x =
    let there : root ≤ length (map node_shape nodes) = root_there (map node_shape nodes) x.expression in
    let rows : root ≤ length nodes = omega (arith, length-map nodes node_shape) in
    record {
      expression = nodes_kept nodes others before root x.expression;
      drives = λ n h k.
          let same = row_kept None (map (λ (y : Node). y.driven) nodes) (map (λ (y : Node). y.driven) others) n (omega (arith, length-map nodes (λ (y : Node). y.driven))) in
          ap (λ (ds : List (Option ℕ)). row_at None ds n) (map-append (λ (y : Node). y.driven) nodes others) ∙ (same ∙ x.drives n h k);
    }

-- the rows behind the first ones
drives_at : (driven absent : Option ℕ) (new : List Node) → All (λ x. x.driven ≡ driven) new → (n : ℕ) → n < length new → get_or (map (λ x. x.driven) new) n absent ≡ driven
drives_at driven absent [] h n less = absurd (omega arith)
drives_at driven absent (x ∷ xs) h zero less = All-head (λ (y : Node). y.driven ≡ driven) x xs h
drives_at driven absent (x ∷ xs) h (suc n) less = drives_at driven absent xs (All-tail (λ (y : Node). y.driven ≡ driven) x xs h) n (omega arith)

drives_behind : (driven absent head : Option ℕ) (old new : List Node) → All (λ x. x.driven ≡ driven) new → (n : ℕ) → length old < n → n ≤ length (old ++ new) → get_or (head ∷ map (λ x. x.driven) (old ++ new)) n absent ≡ driven
drives_behind driven absent head [] new h zero less most = absurd (omega arith)
drives_behind driven absent head [] new h (suc n) less most = drives_at driven absent new h n (omega arith)
drives_behind driven absent head (o ∷ os) new h zero less most = absurd (omega arith)
drives_behind driven absent head (o ∷ os) new h (suc n) less most = drives_behind driven absent o.driven os new h n (omega arith) (omega arith)

-- The rows of one expression were put behind those that stood, all with that last target; the integers and the bit strings keep what
-- is asked of them.
pub record Grown (driven : Option ℕ) (old new : TermLists) : Type 0 where
  pub more : List Node
  pub nodes : new.nodes ≡ old.nodes ++ more
  pub drives : All (λ x. x.driven ≡ driven) more
  pub expression : Expression (map node_shape new.nodes) (root old) (root new)
  pub plain : FirstPlain old.digits → FirstPlain new.digits
  pub literals : All (λ x. LiteralThere old.digits x.form) old.nodes → All (λ x. LiteralThere new.digits x.form) new.nodes

pub grown_side : (driven : Option ℕ) (old new : TermLists) → Grown driven old new → SideLaid new.nodes driven (root old) (root new)
grown_side driven old new g = record {
  expression = g.expression;
  drives = λ n h k.
      let there : n ≤ length (old.nodes ++ g.more) = rw (← g.nodes) k in
      subst (λ (xs : List Node). driven_at xs n ≡ driven) (sym g.nodes) (drives_behind driven None None old.nodes g.more g.drives n h there);
}

-- the root of the last node
root_more : (d : TermLists) (x : Node) → root (with_node d x) ≡ root d + 1
root_more d x = length-append d.nodes (x ∷ [])

last_shape : (xs : List Node) (x : Node) → shape_at (map node_shape (xs ++ x ∷ [])) (length (xs ++ x ∷ [])) ≡ node_shape x
last_shape xs x =
    let long : length (xs ++ x ∷ []) ≡ length (map node_shape xs) + 1 = length-append xs (x ∷ []) ∙ ap (λ (n : ℕ). n + 1) (sym (length-map xs node_shape)) in
    rw (map-append, long) (row_last no_shape (node_shape x) (map node_shape xs))

-- a leaf
leaf_grown : (k : Option ℕ) (d : TermLists) (digits : List Listed) (p : ℕ) (f : Form) → form_shape f ≡ shape 0 0 0 → (FirstPlain d.digits → FirstPlain digits) → ((g : Form) → LiteralThere d.digits g → LiteralThere digits g) → LiteralThere digits f → Grown k d (with_node (with_digits d digits) (node_at p k f))
leaf_grown k d digits p f is plain keeps there = record {
  more = node_at p k f ∷ [];
  nodes = refl;
  drives = All-cons (λ (x : Node). x.driven ≡ k) (node_at p k f) [] refl (All-nil (λ (x : Node). x.driven ≡ k));
  expression = leaf (root_more d (node_at p k f)) (last_shape d.nodes (node_at p k f) ∙ is);
  plain = plain;
  literals = λ h. All-push (λ (x : Node). LiteralThere digits x.form) d.nodes (node_at p k f) (λ i y less. keeps (get_or d.nodes i y).form (h i y less)) there;
}

-- a node over the last term
over_grown : (k : Option ℕ) (old d : TermLists) (p : ℕ) (f : Form) → form_shape f ≡ shape 1 (root d) 0 → ((digits : List Listed) → LiteralThere digits f) → Grown k old d → Grown k old (with_node d (node_at p k f))
over_grown k old d p f is there g =
    let x = node_at p k f in record {
      more = g.more ++ x ∷ [];
      nodes = ap (λ (xs : List Node). xs ++ x ∷ []) g.nodes ∙ append_assoc old.nodes g.more (x ∷ []);
      drives = All-push (λ (y : Node). y.driven ≡ k) g.more x g.drives refl;
      expression = unary (root d) (root_more d x) (last_shape d.nodes x ∙ is) (nodes_kept d.nodes (x ∷ []) (root old) (root d) g.expression);
      plain = g.plain;
      literals = λ h. All-push (λ (y : Node). LiteralThere d.digits y.form) d.nodes x (g.literals h) (there d.digits);
    }

-- a node over two terms
joined_grown : (k : Option ℕ) (old before d : TermLists) (p : ℕ) (form : ℕ → ℕ → Form) → ((a b : ℕ) → form_shape (form a b) ≡ shape 2 a b) → ((digits : List Listed) (a b : ℕ) → LiteralThere digits (form a b)) → Grown k old before → Grown k before d → Grown k old (joined p k form before d)
joined_grown k old before d p form is there g h =
    let x = node_at p k (form (root before) (root d)) in
    let first : Expression (map node_shape d.nodes) (root old) (root before) =
    subst (λ (xs : List Node). Expression (map node_shape xs) (root old) (root before)) (sym h.nodes) (nodes_kept before.nodes h.more (root old) (root before) g.expression) in
    record {
      more = g.more ++ (h.more ++ x ∷ []);
      nodes = ap (λ (xs : List Node). xs ++ x ∷ []) (h.nodes ∙ ap (λ (xs : List Node). xs ++ h.more) g.nodes) ∙ (append_assoc (old.nodes ++ g.more) h.more (x ∷ []) ∙ append_assoc old.nodes g.more (h.more ++ x ∷ []));
      drives = All-append (λ (y : Node). y.driven ≡ k) g.more (h.more ++ x ∷ []) g.drives (All-push (λ (y : Node). y.driven ≡ k) h.more x h.drives refl);
      expression = binary (root before) (root d) (root_more d x) (last_shape d.nodes x ∙ is (root before) (root d)) (nodes_kept d.nodes (x ∷ []) (root old) (root before) first) (nodes_kept d.nodes (x ∷ []) (root before) (root d) h.expression);
      plain = λ q. h.plain (g.plain q);
      literals = λ q. All-push (λ (y : Node). LiteralThere d.digits y.form) d.nodes x (h.literals (g.literals q)) (there d.digits (root before) (root d));
    }

-- lists of integers: the first has no comma before it, the others have one
pub more_listed_are : (is : Tree (many (mark Comma then integer))) (xs : List Listed) → (ys : List Listed) × (more_listed is xs ≡ xs ++ ys) × All (λ x. IsSome x.comma) ys
more_listed_are end xs = ([], sym (append-nil xs), All-nil (λ (x : Listed). IsSome x.comma))
more_listed_are (more (both (mark_at p) i) is) xs =
    let z = more_listed_are is (xs ++ listed_at (Some p) i ∷ []) in
    (listed_at (Some p) i ∷ z.0, z.1 ∙ append_assoc xs (listed_at (Some p) i ∷ []) z.0, All-cons (λ (x : Listed). IsSome x.comma) (listed_at (Some p) i) z.0 refl z.2)

pub listed_are : (is : Tree integers) (xs : List Listed) → (x : Listed) × (ys : List Listed) × (listed is xs ≡ xs ++ x ∷ ys) × (x.comma ≡ None) × All (λ y. IsSome y.comma) ys
listed_are (both i is) xs =
    let z = more_listed_are is (xs ++ listed_at None i ∷ []) in
    (listed_at None i, z.0, z.1 ∙ append_assoc xs (listed_at None i ∷ []) z.0, refl, z.2)

first_plain : (xs : List Listed) (x : Listed) (ys : List Listed) → x.comma ≡ None → FirstPlain xs → FirstPlain (xs ++ x ∷ ys)
first_plain [] x ys e h = e
first_plain (z ∷ zs) x ys e h = h

literal_kept : (xs ys : List Listed) (f : Form) → LiteralThere xs f → LiteralThere (xs ++ ys) f
literal_kept xs ys (Bits r) h = tt
literal_kept xs ys (Literal n) h = (h.0, omega (arith, length-append xs ys))
literal_kept xs ys (Sized n m) h = tt
literal_kept xs ys (CommaForm a b) h = tt
literal_kept xs ys (Join g a b) h = tt
literal_kept xs ys (NotForm a) h = tt
literal_kept xs ys (Reduce g a) h = tt

string_grown : (k : Option ℕ) (d : TermLists) (p : ℕ) (is : Tree integers) → Grown k d (literal_at p k (digit_rows is d))
string_grown k d p is =
    let z = listed_are is d.digits in
    let long : length (listed is d.digits) ≡ length d.digits + length (z.0 ∷ z.1) = ap length z.2 ∙ length-append d.digits (z.0 ∷ z.1) in
    leaf_grown k d (listed is d.digits) p (Literal (length (listed is d.digits))) refl
    (λ h. subst FirstPlain (sym z.2) (first_plain d.digits z.0 z.1 z.3 h))
    (λ g h. subst (λ (xs : List Listed). LiteralThere xs g) (sym z.2) (literal_kept d.digits (z.0 ∷ z.1) g h))
    (omega arith, omega arith)

-- a leaf that is no bit string
plain_leaf : (k : Option ℕ) (d : TermLists) (p : ℕ) (f : Form) → form_shape f ≡ shape 0 0 0 → LiteralThere d.digits f → Grown k d (with_node d (node_at p k f))
plain_leaf k d p f is there = leaf_grown k d d.digits p f is (λ h. h) (λ g h. h) there

under_grown : (s : Tree prefix_sign) (k : Option ℕ) (old d : TermLists) → Grown k old d → Grown k old (under s k d)
under_grown (left (mark_at p)) k old d g = over_grown k old d p (NotForm (root d)) refl (λ xs. tt) g
under_grown (right (left (mark_at p))) k old d g = over_grown k old d p (Reduce AndGate (root d)) refl (λ xs. tt) g
under_grown (right (right (left (mark_at p)))) k old d g = over_grown k old d p (Reduce OrGate (root d)) refl (λ xs. tt) g
under_grown (right (right (right (mark_at p)))) k old d g = over_grown k old d p (Reduce XorGate (root d)) refl (λ xs. tt) g

-- an expression's rows
mutual
  pub expr_grown : (t : Tree expr) (k : Option ℕ) (d : TermLists) → Grown k d (expr_rows t k d)
  expr_grown (both a bs) k d = more_ors_grown bs k d (or_rows a k d) (or_grown a k d)

  more_ors_grown : (t : Tree (many (mark Comma then or))) (k : Option ℕ) (old d : TermLists) → Grown k old d → Grown k old (more_ors t k d)
  more_ors_grown end k old d g = g
  more_ors_grown (more (both (mark_at p) a) bs) k old d g = more_ors_grown bs k old (joined p k CommaForm d (or_rows a k d)) (joined_grown k old d (or_rows a k d) p CommaForm (λ x y. refl) (λ xs x y. tt) g (or_grown a k d))

  or_grown : (t : Tree or) (k : Option ℕ) (d : TermLists) → Grown k d (or_rows t k d)
  or_grown (both a bs) k d = more_xors_grown bs k d (xor_rows a k d) (xor_grown a k d)

  more_xors_grown : (t : Tree (many (mark Or then xor))) (k : Option ℕ) (old d : TermLists) → Grown k old d → Grown k old (more_xors t k d)
  more_xors_grown end k old d g = g
  more_xors_grown (more (both (mark_at p) a) bs) k old d g = more_xors_grown bs k old (joined p k (Join OrGate) d (xor_rows a k d)) (joined_grown k old d (xor_rows a k d) p (Join OrGate) (λ x y. refl) (λ xs x y. tt) g (xor_grown a k d))

  xor_grown : (t : Tree xor) (k : Option ℕ) (d : TermLists) → Grown k d (xor_rows t k d)
  xor_grown (both a bs) k d = more_ands_grown bs k d (and_rows a k d) (and_grown a k d)

  more_ands_grown : (t : Tree (many (mark Xor then and))) (k : Option ℕ) (old d : TermLists) → Grown k old d → Grown k old (more_ands t k d)
  more_ands_grown end k old d g = g
  more_ands_grown (more (both (mark_at p) a) bs) k old d g = more_ands_grown bs k old (joined p k (Join XorGate) d (and_rows a k d)) (joined_grown k old d (and_rows a k d) p (Join XorGate) (λ x y. refl) (λ xs x y. tt) g (and_grown a k d))

  and_grown : (t : Tree and) (k : Option ℕ) (d : TermLists) → Grown k d (and_rows t k d)
  and_grown (both a bs) k d = more_prefixes_grown bs k d (prefix_rows a k d) (prefix_grown a k d)

  more_prefixes_grown : (t : Tree (many (mark And then prefix))) (k : Option ℕ) (old d : TermLists) → Grown k old d → Grown k old (more_prefixes t k d)
  more_prefixes_grown end k old d g = g
  more_prefixes_grown (more (both (mark_at p) a) bs) k old d g = more_prefixes_grown bs k old (joined p k (Join AndGate) d (prefix_rows a k d)) (joined_grown k old d (prefix_rows a k d) p (Join AndGate) (λ x y. refl) (λ xs x y. tt) g (prefix_grown a k d))

  prefix_grown : (t : Tree prefix) (k : Option ℕ) (d : TermLists) → Grown k d (prefix_rows t k d)
  prefix_grown (left (nested signed (both s a))) k d = under_grown s k d (prefix_rows a k d) (prefix_grown a k d)
  prefix_grown (right a) k d = primary_grown a k d

  primary_grown : (t : Tree primary) (k : Option ℕ) (d : TermLists) → Grown k d (primary_rows t k d)
  primary_grown (left r) k d = plain_leaf k d (ref_of r).name.place (Bits (ref_of r)) refl tt
  primary_grown (right (left (both (mark_at p) (both is q)))) k d = string_grown k d p is
  primary_grown (right (right (left (both n (both s m))))) k d = plain_leaf k d (number_of n).place (Sized (number_of n) (number_of m)) refl tt
  primary_grown (right (right (right (nested group (both p (both a q)))))) k d = expr_grown a k d
