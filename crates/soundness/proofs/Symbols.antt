-- The symbols of a draft without faults, and the bits that its names stand for. Assumes nothing.
use Rattle.std.proofs.Common.{◌≡◌, ℕ, suc, ◌+◌, ◌-◌, ◌<◌, ◌≤◌, Bool, true, false, cond, not, is_some, nat_le, nat_lt, ◌&&◌, ◌||◌, option_map, List, [], ◌∷◌, ◌++◌, length, get_or, map, Option, Some, None, IsSome, All, sum_by, sym, refl, ap, ◌∙◌, subst, subst₂, arith}
use Rattle.std.proofs.lemmas.Bool.{not-false, cond-true}
use Rattle.std.proofs.lemmas.Bool.Decides.{nat_tests}
use Rattle.std.proofs.lemmas.List.{append_assoc, append-nil}
use Rattle.std.proofs.lemmas.List.Sums.{sum_by_push, sum_by-cons}
use Rattle.std.proofs.lemmas.List.Elements.{All-head, All-tail, All-map}
use Rattle.grammar.specs.declared.draft.Class.{Class}
use Rattle.grammar.specs.declared.draft.Class.TheVariants.{Input, Output, Memory, Bus}
use Rattle.grammar.specs.declared.draft.Number.{Number}
use Rattle.grammar.specs.declared.draft.Item.{Item}
use Rattle.grammar.specs.declared.draft.Name.{Name}
use Rattle.grammar.specs.declared.draft.Subscript.{Subscript}
use Rattle.grammar.specs.declared.draft.Reference.{Reference}
use Rattle.grammar.specs.Drafts.{DraftLists}
use Rattle.least.specs.declared.rule.Rule.TheVariants.{OutOfRange, Overflow, Undeclared, BusOrder, OffEnds}
use Rattle.least.specs.Order.{fault_if}
use Rattle.least.specs.Each.{each_after, IsRow}
use Rattle.symbols.specs.declared.references.Standing.{Standing}
use Rattle.symbols.specs.Names.{index_of, same_name}
use Rattle.symbols.specs.Items.{is_width, written, declared_bits, width_faults, too_many_bits, redeclared, overflows, item_faults, most_symbols, most_bits, most_declared_bits}
use Rattle.symbols.specs.References.{may_stand, item_at, standing_at, symbol_at, symbol_width, bus_of, is_late, subscript_faults, bits_width, reference_faults}
use Rattle.database.specs.Codes.{class_of, class_code}
use Rattle.database.specs.declared.rows.SymbolRow.{SymbolRow}
use Rattle.database.specs.Rows.{Database, no_symbol, symbol}
use Rattle.database.specs.Saying.{symbol_row, symbol_rows, symbol_number, first_bit, last_bit, database_of}
use Rattle.database.specs.Soundness.{IsWidth, SymbolSound, ClassStands, NamesBits}
use Rattle.rules.specs.Faults.{faults}
use Rattle.soundness.specs.Layout.{NamesWithin}
use Rattle.soundness.proofs.Nil.{nil_left, nil_right, test_false, length_numbered, row_numbered, row_next}
use Rattle.soundness.proofs.Lists.{all_without, each_row, unnumbered}
use Rattle.soundness.proofs.Few.{faultless}
use Rattle.soundness.proofs.Ordered.{names_inside, names_in_order}

-- a width in an item is one
right_width : (w : Option Number) → width_faults w ≡ [] → is_width (written w) ≡ true
right_width None e = refl
right_width (Some n) e = not-false (is_width n.value) (test_false (not (is_width n.value)) n.place OutOfRange e)

pub is_width_is : (n : ℕ) → is_width n ≡ true → IsWidth n
is_width_is n e = let both : (1 ≤ n) × (n ≤ most_bits) = (grind (arith, nat_tests), grind (arith, nat_tests)) in both

class_is : (c : Class) → class_of (class_code c) ≡ Some c
class_is Input = refl
class_is Output = refl
class_is Memory = refl
class_is Bus = refl

class_there : (c : Class) → IsSome (class_of (class_code c))
class_there c = rw class_is refl

-- the parts of an item's faults
record ItemRight (before : List Item) (x : Item) : Type 0 where
  width : is_width (written x.width) ≡ true
  bits : too_many_bits before x ≡ []

item_right : (text : List ℕ) (before : List Item) (x : Item) → item_faults text before x ≡ [] → ItemRight before x
item_right text before x e =
    let a = redeclared text before x.name in
    let b = width_faults x.width in
    let c = overflows (length before) most_symbols x.name.place in
    let n2 = nil_left (a ++ b ++ c) (too_many_bits before x) e in
    record { width = right_width x.width (nil_right a b (nil_left (a ++ b) c n2)); bits = nil_right (a ++ b ++ c) (too_many_bits before x) e }

-- the declared bits never pass the limit
bits_more : (s b place : ℕ) → s ≤ most_declared_bits → fault_if (nat_le s most_declared_bits && nat_lt most_declared_bits (s + b)) place Overflow ≡ [] → s + b ≤ most_declared_bits
bits_more s b place h e =
    let t = test_false (nat_le s most_declared_bits && nat_lt most_declared_bits (s + b)) place Overflow e in
    grind (arith, nat_tests)

module _ (text : List ℕ) where
  bits_after : (done xs : List Item) → each_after (item_faults text) done xs ≡ [] → sum_by declared_bits done ≤ most_declared_bits → sum_by declared_bits (done ++ xs) ≤ most_declared_bits
  bits_after done [] e h = rw append-nil h
  bits_after done (x ∷ xs) e h =
      let here = item_right text done x (nil_left (item_faults text done x) (each_after (item_faults text) (done ++ x ∷ []) xs) e) in
      let more : sum_by declared_bits (done ++ x ∷ []) ≤ most_declared_bits = rw (sum_by_push declared_bits done x) (bits_more (sum_by declared_bits done) (declared_bits x) x.name.place h here.bits) in
      subst (λ l. sum_by declared_bits l ≤ most_declared_bits) (append_assoc done (x ∷ []) xs)
      (bits_after (done ++ x ∷ []) xs (nil_right (item_faults text done x) (each_after (item_faults text) (done ++ x ∷ []) xs) e) more)

declared_written : (x : Item) → is_width (written x.width) ≡ true → declared_bits x ≡ written x.width
declared_written x e = cond-true (is_width (written x.width)) (written x.width) 0 e

sum_same : {A : Type 0} (f g : A → ℕ) (xs : List A) → All (λ x. f x ≡ g x) xs → sum_by f xs ≡ sum_by g xs
sum_same f g [] a = refl
sum_same f g (x ∷ xs) a =
    let e = All-head (λ x. f x ≡ g x) x xs a in
    let i = sum_same f g xs (All-tail (λ x. f x ≡ g x) x xs a) in
    sum_by-cons f x xs ∙ (let z : f x + sum_by f xs ≡ g x + sum_by g xs = omega arith in z) ∙ sym (sum_by-cons g x xs)

sum_map : {A B : Type 0} (f : B → ℕ) (g : A → B) (xs : List A) → sum_by f (map g xs) ≡ sum_by (λ x. f (g x)) xs
sum_map f g [] = refl
sum_map f g (x ∷ xs) = sum_by-cons f (g x) (map g xs) ∙ ap (λ n. f (g x) + n) (sum_map f g xs) ∙ sym (sum_by-cons (λ x. f (g x)) x xs)

-- where a name is found
found_within : (text : List ℕ) (n : Name) (xs : List Item) (k : ℕ) → index_of text n xs ≡ Some k → k < length xs
found_within text n [] k e = cc
found_within text n (x ∷ xs) k e = within (same_name text x.name n) (index_of text n xs) e (λ j f. found_within text n xs j f)
  where
    within : (same : Bool) (later : Option ℕ) → cond same (Some 0) (option_map (λ j. 1 + j) later) ≡ Some k → ((j : ℕ) → later ≡ Some j → j < length xs) → k < suc (length xs)
    within true later f more = let z : 0 ≡ k = cc in omega arith
    within false None f more = cc
    within false (Some j) f more = let z : 1 + j ≡ k = cc in let l = more j refl in omega arith

-- the first item of a name that may stand there
record Found (items : List Item) (s : Standing) (found : Option ℕ) : Type 0 where
  index : ℕ
  is : found ≡ Some index
  within : index < length items
  stands : may_stand s (item_at items index).class ≡ true

found_by : (items : List Item) (s : Standing) (k : ℕ) (may : Bool) → k < length items → may_stand s (item_at items k).class ≡ may → is_some (cond may (Some k) None) ≡ true → Found items s (cond may (Some k) None)
found_by items s k true h e i = record { index = k; is = refl; within = h; stands = e }
found_by items s k false h e i = cc

found_at : (text : List ℕ) (items : List Item) (s : Standing) (n : Name) (o : Option ℕ) → index_of text n items ≡ o → is_some (standing_at items s o) ≡ true → Found items s (standing_at items s o)
found_at text items s n None e i = cc
found_at text items s n (Some k) e i = found_by items s k (may_stand s (item_at items k).class) (found_within text n items k e) refl i

-- the bits of a name lie in a width
record BitsWithin (w : ℕ) (width : Option ℕ) (sub : Option Subscript) : Type 0 where
  forward : first_bit sub ≤ last_bit width sub
  within : last_bit width sub < w
  wide : bits_width width sub ≡ Some (last_bit width sub - first_bit sub + 1)

bits_within : (w : ℕ) → 1 ≤ w → (sub : Option Subscript) → subscript_faults (Some w) sub ≡ [] → BitsWithin w (Some w) sub
bits_within w h None e = record { forward = omega arith; within = omega arith; wide = ap Some (let z : w ≡ w - 1 - 0 + 1 = omega arith in z) }
bits_within w h (Some s) e =
    let t = test_false (nat_lt s.last s.first || nat_le w s.last) s.place OffEnds e in
    record { forward = grind (arith, nat_tests); within = grind (arith, nat_tests); wide = refl }

-- the name of a symbol ends before the other's begins
abbrev InOrder : SymbolRow → SymbolRow → Type 0
InOrder x y = x.place + x.length ≤ y.place

abbrev no_item : Item
no_item = record { class = Input; name = record { place = 0; len = 0 }; width = None }

-- a reference without faults names bits of a symbol
pub record Named (d : Database) (items : List Item) (s : Standing) (found : Option ℕ) (sub : Option Subscript) : Type 0 where
  pub index : ℕ
  pub is : found ≡ Some index
  pub class : class_of (symbol d (symbol_number found)).class ≡ Some (item_at items index).class
  pub bits : NamesBits d s (symbol_number found) (first_bit sub) (last_bit (symbol_width items found) sub)
  pub fits : IsWidth (symbol d (symbol_number found)).width
  pub width : bits_width (symbol_width items found) sub ≡ Some (last_bit (symbol_width items found) sub - first_bit sub + 1)

module _ (text : List ℕ) (d : DraftLists) (none : faults text d ≡ []) where
  items_right : All (λ x. is_width (written x.width) ≡ true) d.rows.items
  items_right = all_without (item_faults text) (λ x. is_width (written x.width) ≡ true) (λ before x e. (item_right text before x e).width) d.rows.items (faultless text d none).items

  pub symbols_sound : NamesWithin 0 (length text) d.rows.items → (n : ℕ) → IsRow (database_of text d).symbols n → SymbolSound (length text) (symbol (database_of text d) n)
  unfolding database_of
  symbols_sound within n h =
      let all : All (SymbolSound (length text)) (map symbol_row d.rows.items) =
      All-map (SymbolSound (length text)) symbol_row d.rows.items (λ k e l. record {
        class = class_there (get_or d.rows.items k e).class;
        width = is_width_is _ (items_right k e l);
        named = (names_inside 0 (length text) d.rows.items within k e l).0;
        name = (names_inside 0 (length text) d.rows.items within k e l).1;
      }) in
      each_row (SymbolSound (length text)) no_symbol (symbol_rows d) (subst (All (SymbolSound (length text))) (sym (unnumbered symbol_row d.rows.items)) all) n h

  pub bits_few : sum_by (λ x. x.width) (database_of text d).symbols ≤ most_declared_bits
  unfolding database_of
  bits_few =
      let e : sum_by (λ x. x.width) (symbol_rows d) ≡ sum_by declared_bits d.rows.items =
      ap (sum_by (λ x. x.width)) (unnumbered symbol_row d.rows.items) ∙ sum_map (λ x. x.width) symbol_row d.rows.items
      ∙ sum_same (λ x. written x.width) declared_bits d.rows.items (λ k e l. sym (declared_written (get_or d.rows.items k e) (items_right k e l))) in
      rw e (bits_after text [] d.rows.items (faultless text d none).items (omega arith))

  symbol_is : (k : ℕ) → k < length d.rows.items → symbol (database_of text d) (k + 1) ≡ symbol_row (item_at d.rows.items k)
  unfolding database_of
  symbol_is k h = row_numbered (λ n x. symbol_row x) d.rows.items (k + 1) no_item no_symbol (omega arith, omega arith) ∙ ap symbol_row (row_next no_item d.rows.items (k + 1) (omega arith) ∙ ap (λ n. get_or d.rows.items n no_item) (let z : k + 1 - 1 ≡ k = omega arith in z))

  in_order_at : NamesWithin 0 (length text) d.rows.items → (k : ℕ) → k + 1 < length d.rows.items → InOrder (symbol (database_of text d) (k + 1)) (symbol (database_of text d) (k + 1 + 1))
  in_order_at within k h =
      subst₂ InOrder (sym (symbol_is k (omega arith))) (sym (symbol_is (k + 1) h)) (names_in_order 0 (length text) d.rows.items no_item within k h)

  pub symbols_in_order : NamesWithin 0 (length text) d.rows.items → (n : ℕ) → IsRow (database_of text d).symbols n → IsRow (database_of text d).symbols (n + 1)
      → (symbol (database_of text d) n).place + (symbol (database_of text d) n).length ≤ (symbol (database_of text d) (n + 1)).place
  unfolding database_of
  symbols_in_order within n h g =
      let many = length_numbered (λ n y. symbol_row y) d.rows.items in
      let e : n - 1 + 1 ≡ n = omega (arith, h.0) in
      subst (λ m. InOrder (symbol (database_of text d) m) (symbol (database_of text d) (m + 1))) e (in_order_at within (n - 1) (omega (arith, many, h.0, g.1)))

  named_by : (s : Standing) (k : ℕ) → k < length d.rows.items → may_stand s (item_at d.rows.items k).class ≡ true → (sub : Option Subscript) → subscript_faults (symbol_width d.rows.items (Some k)) sub ≡ [] → Named (database_of text d) d.rows.items s (Some k) sub
  unfolding database_of
  named_by s k h m sub e =
      let x : Item = item_at d.rows.items k in
      let w : ℕ = written x.width in
      let right : is_width w ≡ true = items_right k no_item h in
      let wide : symbol_width d.rows.items (Some k) ≡ Some w = cond-true (is_width w) (Some w) None right in
      let bits : BitsWithin w (symbol_width d.rows.items (Some k)) sub =
      subst (λ o. BitsWithin w o sub) (sym wide) (bits_within w (is_width_is w right).0 sub (subst (λ o. subscript_faults o sub ≡ []) wide e)) in
      let row : symbol (database_of text d) (k + 1) ≡ symbol_row x = symbol_is k h in
      let class : class_of (symbol (database_of text d) (k + 1)).class ≡ Some x.class = ap (λ y. class_of y.class) row ∙ class_is x.class in
      let many = length_numbered (λ n y. symbol_row y) d.rows.items in
      record {
        index = k;
        is = refl;
        class = class;
        bits = record {
          there = (omega arith, omega arith);
          stands = subst (ClassStands s) (sym class) m;
          forward = bits.forward;
          within = subst (λ n. last_bit (symbol_width d.rows.items (Some k)) sub < n) (sym (ap (λ y. y.width) row)) bits.within;
        };
        fits = subst IsWidth (sym (ap (λ y. y.width) row)) (is_width_is w right);
        width = bits.wide;
      }

  -- a reference where no fault was found
  pub named : (s : Standing) (first : Option ℕ) (r : Reference) → reference_faults text d.rows.items s first r ≡ [] → Named (database_of text d) d.rows.items s (symbol_at text d.rows.items s r.name) r.subscript
  named s first r e =
      let o : Option ℕ = symbol_at text d.rows.items s r.name in
      let a = fault_if (not (is_some o)) r.name.place Undeclared in
      let b = fault_if (is_late first (bus_of d.rows.items o)) r.name.place BusOrder in
      let c = subscript_faults (symbol_width d.rows.items o) r.subscript in
      let there : is_some o ≡ true = not-false (is_some o) (test_false (not (is_some o)) r.name.place Undeclared (nil_left a b (nil_left (a ++ b) c e))) in
      let f : Found d.rows.items s o = found_at text d.rows.items s r.name (index_of text r.name d.rows.items) refl there in
      subst (λ p. Named (database_of text d) d.rows.items s p r.subscript) (sym f.is)
      (named_by s f.index f.within f.stands r.subscript (subst (λ p. subscript_faults (symbol_width d.rows.items p) r.subscript ≡ []) f.is (nil_right (a ++ b) c e)))
