-- Nodes of a draft without faults: their widths, and their rows. Assumes nothing.
use Rattle.std.proofs.Common.{◌≡◌, ℕ, zero, suc, ◌+◌, ◌-◌, ◌%◌, ◌^◌, ◌<◌, ◌≤◌, ◌⊎◌, inl, inr, max, Bool, true, false, not, is_some, ◌||◌, ◌==◌, List, [], ◌++◌, length, take, map, Option, Some, None, option_map, unwrap_or, nat_le, sym, refl, ap, ap₂, ◌∙◌, subst, subst₂, ⊎_elim, pow_pos, mod-lt, arith}
use Rattle.std.proofs.lemmas.Bool.{cases_eq, not-false, cond-true}
use Rattle.std.proofs.lemmas.List.Elements.{All-get_or}
use Rattle.grammar.specs.declared.draft.Gate.{Gate}
use Rattle.grammar.specs.declared.draft.Gate.TheVariants.{And, Or, Xor}
use Rattle.grammar.specs.declared.draft.Class.{Class}
use Rattle.grammar.specs.declared.draft.Class.TheVariants.{Bus}
use Rattle.grammar.specs.declared.draft.Item.{Item}
use Rattle.grammar.specs.declared.draft.Form.{Form}
use Rattle.grammar.specs.declared.draft.Form.TheVariants.{Bits, Literal, Sized, Comma, Join, Not, Reduce}
use Rattle.grammar.specs.declared.draft.Node.{Node}
use Rattle.grammar.specs.declared.draft.Reference.{Reference}
use Rattle.grammar.specs.declared.draft.Subscript.{Subscript}
use Rattle.grammar.specs.Drafts.{DraftLists}
use Rattle.least.specs.declared.rule.Rule.TheVariants.{Undeclared, BusOrder}
use Rattle.least.specs.declared.rule.RuleFault.{RuleFault}
use Rattle.least.specs.Order.{fault_if}
use Rattle.least.specs.Each.{row_at, IsRow}
use Rattle.symbols.specs.declared.references.Standing.{Standing}
use Rattle.symbols.specs.declared.references.Standing.TheVariants.{Read}
use Rattle.symbols.specs.Items.{is_width, overflows}
use Rattle.symbols.specs.Widths.{disagree, unlike, width_at}
use Rattle.symbols.specs.References.{symbol_at, symbol_width, is_bus, item_at, bus_of, is_late, bits_width, subscript_faults, reference_faults}
use Rattle.rules.specs.declared.measures.BitString.{BitString}
use Rattle.rules.specs.Targets.{no_side}
use Rattle.rules.specs.Strings.{strings, string_at}
use Rattle.rules.specs.Nodes.{first_bus, form_faults, form_width, node_faults, node_width, most_nodes}
use Rattle.rules.specs.Faults.{known, node_widths, faults}
use Rattle.database.specs.Rows.{Database, no_node, symbol, node}
use Rattle.database.specs.Saying.{gate_sign, reduce_sign, operator_row, node_row, symbol_number, first_bit, last_bit, database_of}
use Rattle.database.specs.declared.codes.NodeSign.{NodeSign}
use Rattle.database.specs.declared.codes.NodeSign.TheVariants.{Name}
use Rattle.database.specs.Soundness.{IsWidth, NodeSound, Joins, Reads, named, left, right, IsBus}
use Rattle.database.specs.Codes.{class_of, sign_of, sign_code}
use Rattle.soundness.specs.Layout.{Laid, LiteralThere, SideLaid, node_shape, form_shape}
use Rattle.soundness.proofs.Nil.{nil_left, nil_right, test_false, width_kept, length_numbered, row_grown, row_numbered, nil_grown, row_taken, row_next, row_mapped, same_row}
use Rattle.soundness.proofs.Widths.{HasWidth, some_same, not_wide, both_widths}
use Rattle.soundness.proofs.Strings.{StringFits, string_fits}
use Rattle.soundness.proofs.Operands.{empty_node, OperandsBefore, operands_before, Behind, Within, expression_within, shape_of}
use Rattle.soundness.proofs.Few.{Faultless, faultless}
use Rattle.soundness.proofs.Places.{expression_order}
use Rattle.soundness.proofs.Symbols.{is_width_is, Named, named as named_bits}
use Rattle.soundness.proofs.StatementRows.{width_row}

-- two sides that may be joined
like : (place : ℕ) (a b : Option ℕ) (m n : ℕ) → a ≡ Some m → b ≡ Some n → disagree unlike place a b ≡ [] → (m ≡ n) ⊎ ((m ≡ 1) ⊎ (n ≡ 1))
like place a b m n p q e =
    let f : not (m == n || m == 1 || n == 1) ≡ false = test_false (unlike m n) place _ (ap₂ (disagree unlike place) (sym p) (sym q) ∙ e) in
    let t : (m == n || m == 1 || n == 1) ≡ true = not-false _ f in
    ⊎_elim (λ x. inl x)
    (λ x. ⊎_elim (λ y. inr (inl y)) (λ y. ⊎_elim (λ z. inr (inr z)) (λ z. absurd (grind arith)) (cases_eq n 1)) (cases_eq m 1))
    (cases_eq m n)

-- something holds of each operand of a form
abbrev Operands : (ℕ → Type 0) → Form → Type 0
Operands P (Bits r) = Unit {0}
Operands P (Literal i) = Unit {0}
Operands P (Sized n m) = Unit {0}
Operands P (Comma a b) = P a × P b
Operands P (Join g a b) = P a × P b
Operands P (Not a) = P a
Operands P (Reduce g a) = P a

operands_from : (P : ℕ → Type 0) (n : ℕ) → ((a : ℕ) → 1 ≤ a → a < n → P a) → (f : Form) → OperandsBefore n f → Operands P f
operands_from P n p (Bits r) o = tt
operands_from P n p (Literal i) o = tt
operands_from P n p (Sized w m) o = tt
operands_from P n p (Comma a b) o = (p a o.0 o.1, p b o.2 o.3)
operands_from P n p (Join g a b) o = (p a o.0 o.1, p b o.2 o.3)
operands_from P n p (Not a) o = p a o.0 o.1
operands_from P n p (Reduce g a) o = p a o.0 o.1

-- the bits that a name stands for are a width
bits_wide : (db : Database) (items : List Item) (s : Standing) (found : Option ℕ) (sub : Option Subscript) → Named db items s found sub → HasWidth (bits_width (symbol_width items found) sub)
bits_wide db items s found sub x =
    let first : ℕ = first_bit sub in
    let last : ℕ = last_bit (symbol_width items found) sub in
    let w : ℕ = (symbol db (symbol_number found)).width in
    let most : w ≤ 32 = x.fits.1 in
    let forward : first ≤ last = x.bits.forward in
    let within : last < w = x.bits.within in
    record { bits = last - first + 1; is = x.width; fits = (omega arith, omega arith) }

-- a bus that is read is not too late
in_order : (text : List ℕ) (items : List Item) (s : Standing) (first : Option ℕ) (r : Reference) → reference_faults text items s first r ≡ []
    → is_late first (bus_of items (symbol_at text items s r.name)) ≡ false
in_order text items s first r e =
    let o : Option ℕ = symbol_at text items s r.name in
    let a : List RuleFault = fault_if (not (is_some o)) r.name.place Undeclared in
    let b : List RuleFault = fault_if (is_late first (bus_of items o)) r.name.place BusOrder in
    test_false _ r.name.place BusOrder (nil_right a b (nil_left (a ++ b) (subscript_faults (symbol_width items o) r.subscript) e))

-- a form without faults has a width, if its operands have
module _ (text : List ℕ) (d : DraftLists) (none : faults text d ≡ []) (ws : List (Option ℕ)) (x : Node) where
  reference_named : (r : Reference) → form_faults (known text d) ws x (Bits r) ≡ []
      → Named (database_of text d) d.rows.items Read (symbol_at text d.rows.items Read r.name) r.subscript
  reference_named r e = named_bits text d none Read (first_bus (known text d).sides x.driven) r e

  form_wide : (f : Form) → form_faults (known text d) ws x f ≡ [] → ((i : ℕ) → f ≡ Literal i → HasWidth (string_at (strings d.rows.terms.digits) i).width)
      → Operands (λ a. HasWidth (width_at ws a)) f → HasWidth (form_width (known text d) ws f)
  form_wide (Bits r) e s o = bits_wide (database_of text d) d.rows.items Read (symbol_at text d.rows.items Read r.name) r.subscript (reference_named r e)
  form_wide (Literal i) e s o = s i refl
  form_wide (Sized n m) e s o = record { bits = n.value; is = refl; fits = is_width_is n.value (not-false (is_width n.value) (test_false _ _ _ e)) }
  form_wide (Comma a b) e s (p, q) =
      let most : p.bits + q.bits ≤ 32 = not_wide x.place (width_at ws a) (width_at ws b) p.bits q.bits p.is q.is e in
      let one : 1 ≤ p.bits = p.fits.0 in
      let fits : IsWidth (p.bits + q.bits) = (omega arith, most) in
      record { bits = p.bits + q.bits; is = both_widths ◌+◌ (width_at ws a) (width_at ws b) p.bits q.bits p.is q.is; fits = fits }
  form_wide (Join g a b) e s (p, q) =
      let some : 1 ≤ p.bits = p.fits.0 in
      let p32 : p.bits ≤ 32 = p.fits.1 in
      let q32 : q.bits ≤ 32 = q.fits.1 in
      let fits : IsWidth (max p.bits q.bits) = (omega arith, omega arith) in
      record { bits = max p.bits q.bits; is = both_widths max (width_at ws a) (width_at ws b) p.bits q.bits p.is q.is; fits = fits }
  form_wide (Not a) e s p = p
  form_wide (Reduce g a) e s p = record { bits = 1; is = ap (option_map (λ _. 1)) p.is; fits = (omega arith, omega arith) }

-- an operand has one width as the rules and as the rows have it
record Operand (db : Database) (ws : List (Option ℕ)) (a : ℕ) : Type 0 where
  bits : ℕ
  is : width_at ws a ≡ Some bits
  fits : IsWidth bits
  row : (node db a).width ≡ bits

gate_sound : (db : Database) (g : Gate) (a b w : ℕ) → IsWidth w → Joins (node db a).width (node db b).width w → NodeSound db (operator_row (gate_sign g) a b w)
gate_sound db And a b w fits j = record { width = fits; kept = (((refl, refl, refl), refl), j) }
gate_sound db Or a b w fits j = record { width = fits; kept = (((refl, refl, refl), refl), j) }
gate_sound db Xor a b w fits j = record { width = fits; kept = (((refl, refl, refl), refl), j) }

reduce_sound : (db : Database) (g : Gate) (a w : ℕ) → IsWidth w → w ≡ 1 → NodeSound db (operator_row (reduce_sign g) a 0 w)
reduce_sound db And a w fits one = record { width = fits; kept = (((refl, refl, refl), refl), one) }
reduce_sound db Or a w fits one = record { width = fits; kept = (((refl, refl, refl), refl), one) }
reduce_sound db Xor a w fits one = record { width = fits; kept = (((refl, refl, refl), refl), one) }

-- a form without faults has a sound row
module _ (text : List ℕ) (d : DraftLists) (none : faults text d ≡ []) (ws : List (Option ℕ)) (x : Node) (w : ℕ) (fits : IsWidth w) where
  form_sound : (f : Form) → form_faults (known text d) ws x f ≡ [] → ((i : ℕ) → f ≡ Literal i → StringFits (string_at (strings d.rows.terms.digits) i))
      → Operands (Operand (database_of text d) ws) f → form_width (known text d) ws f ≡ Some w
      → NodeSound (database_of text d) (node_row text d.rows.items (strings d.rows.terms.digits) w f)
  form_sound (Bits r) e s o k =
      let y = reference_named text d none ws x r e in
      record { width = fits; kept = (y.bits, some_same _ _ (sym k ∙ y.width), refl) }
  form_sound (Literal i) e s o k =
      let y = s i refl in
      let z : y.bits ≡ w = some_same y.bits w (sym y.width ∙ k) in
      record { width = fits; kept = ((refl, refl, refl), subst (λ n. (string_at (strings d.rows.terms.digits) i).value < 2 ^ n) z y.value) }
  form_sound (Sized n m) e s o k =
      let z : n.value ≡ w = some_same n.value w k in
      record { width = fits; kept = ((refl, refl, refl), subst (λ v. m.value % 2 ^ n.value < 2 ^ v) z (mod-lt m.value (pow_pos n.value))) }
  form_sound (Comma a b) e s (p, q) k =
      let z : p.bits + q.bits ≡ w = some_same (p.bits + q.bits) w (sym (both_widths ◌+◌ (width_at ws a) (width_at ws b) p.bits q.bits p.is q.is) ∙ k) in
      let v : w ≡ (node (database_of text d) a).width + (node (database_of text d) b).width = sym z ∙ ap₂ (λ m n. m + n) (sym p.row) (sym q.row) in
      record { width = fits; kept = (((refl, refl, refl), refl), v) }
  form_sound (Join g a b) e s (p, q) k =
      let z : max p.bits q.bits ≡ w = some_same (max p.bits q.bits) w (sym (both_widths max (width_at ws a) (width_at ws b) p.bits q.bits p.is q.is) ∙ k) in
      let c : (p.bits ≡ q.bits) ⊎ ((p.bits ≡ 1) ⊎ (q.bits ≡ 1)) = like x.place (width_at ws a) (width_at ws b) p.bits q.bits p.is q.is e in
      gate_sound (database_of text d) g a b w fits (subst₂ (λ m n. Joins m n w) (sym p.row) (sym q.row) (c, sym z))
  form_sound (Not a) e s p k =
      let z : p.bits ≡ w = some_same p.bits w (sym p.is ∙ k) in
      record { width = fits; kept = (((refl, refl, refl), refl), sym z ∙ sym p.row) }
  form_sound (Reduce g a) e s p k = reduce_sound (database_of text d) g a w fits (some_same w 1 (sym k ∙ ap (option_map (λ _. 1)) p.is))

-- the operands' columns are those of the node's shape
left_is : (text : List ℕ) (items : List Item) (ss : List BitString) (w : ℕ) (f : Form) → (node_row text items ss w f).left ≡ (form_shape f).left
left_is text items ss w (Bits r) = refl
left_is text items ss w (Literal i) = refl
left_is text items ss w (Sized n m) = refl
left_is text items ss w (Comma a b) = refl
left_is text items ss w (Join g a b) = refl
left_is text items ss w (Not a) = refl
left_is text items ss w (Reduce g a) = refl

right_is : (text : List ℕ) (items : List Item) (ss : List BitString) (w : ℕ) (f : Form) → (node_row text items ss w f).right ≡ (form_shape f).right
right_is text items ss w (Bits r) = refl
right_is text items ss w (Literal i) = refl
right_is text items ss w (Sized n m) = refl
right_is text items ss w (Comma a b) = refl
right_is text items ss w (Join g a b) = refl
right_is text items ss w (Not a) = refl
right_is text items ss w (Reduce g a) = refl

-- only references are names: a sign's code tells
abbrev code_of : Option NodeSign → ℕ
code_of None = 0
code_of (Some s) = sign_code s

gate_no_name : (g : Gate) → sign_of (sign_code (gate_sign g)) ≡ Some Name → ⊥
gate_no_name And e = let z : ◌≡◌ {A = ℕ} 4 1 = ap code_of e in omega arith
gate_no_name Or e = let z : ◌≡◌ {A = ℕ} 5 1 = ap code_of e in omega arith
gate_no_name Xor e = let z : ◌≡◌ {A = ℕ} 6 1 = ap code_of e in omega arith

reduce_no_name : (g : Gate) → sign_of (sign_code (reduce_sign g)) ≡ Some Name → ⊥
reduce_no_name And e = let z : ◌≡◌ {A = ℕ} 8 1 = ap code_of e in omega arith
reduce_no_name Or e = let z : ◌≡◌ {A = ℕ} 9 1 = ap code_of e in omega arith
reduce_no_name Xor e = let z : ◌≡◌ {A = ℕ} 10 1 = ap code_of e in omega arith

abbrev is_some_bus : Option Class → Bool
is_some_bus None = false
is_some_bus (Some c) = is_bus c

-- a bus that is read in order is not behind the first that is driven
module _ (text : List ℕ) (d : DraftLists) (none : faults text d ≡ []) (ws : List (Option ℕ)) (x : Node) (k first : ℕ)
    (drives : x.driven ≡ Some k) (bus : (row_at no_side (known text d).sides k).bus ≡ Some first) where
  bits_order : (r : Reference) → form_faults (known text d) ws x (Bits r) ≡ [] → (y : ℕ) → symbol_number (symbol_at text d.rows.items Read r.name) ≡ y
      → IsBus (database_of text d) y → y ≤ first
  bits_order r e y n b =
      let z = reference_named text d none ws x r e in
      let i : ℕ = z.index in
      let o : Option ℕ = symbol_at text d.rows.items Read r.name in
      let s : i + 1 ≡ y = ap symbol_number (sym z.is) ∙ n in
      let c : Some (item_at d.rows.items i).class ≡ Some Bus = sym z.class ∙ ap (λ m. class_of (symbol (database_of text d) m).class) n ∙ b in
      let own : bus_of d.rows.items o ≡ Some i = ap (bus_of d.rows.items) z.is ∙ cond-true (is_bus (item_at d.rows.items i).class) (Some i) None (ap is_some_bus c) in
      let f : first_bus (known text d).sides x.driven ≡ Some first = ap (first_bus (known text d).sides) drives ∙ bus in
      let l : nat_le first i ≡ false = ap₂ is_late (sym f) (sym own) ∙ in_order text d.rows.items Read (first_bus (known text d).sides x.driven) r e in
      let m : i < first = grind arith in
      omega arith

  form_order : (w : ℕ) (f : Form) → form_faults (known text d) ws x f ≡ []
      → sign_of (node_row text d.rows.items (strings d.rows.terms.digits) w f).sign ≡ Some Name
      → (y : ℕ) → (node_row text d.rows.items (strings d.rows.terms.digits) w f).symbol ≡ y → IsBus (database_of text d) y → y ≤ first
  form_order w (Bits r) e s y n b = bits_order r e y n b
  form_order w (Literal i) e s y n b = absurd (let z : ◌≡◌ {A = ℕ} 2 1 = ap code_of s in omega arith)
  form_order w (Sized m v) e s y n b = absurd (let z : ◌≡◌ {A = ℕ} 2 1 = ap code_of s in omega arith)
  form_order w (Comma i j) e s y n b = absurd (let z : ◌≡◌ {A = ℕ} 3 1 = ap code_of s in omega arith)
  form_order w (Join g i j) e s y n b = absurd (gate_no_name g s)
  form_order w (Not i) e s y n b = absurd (let z : ◌≡◌ {A = ℕ} 7 1 = ap code_of s in omega arith)
  form_order w (Reduce g i) e s y n b = absurd (reduce_no_name g s)

-- what is read at a row is read at a row that is there
reads_row : (db : Database) (n y : ℕ) → Reads db n y → IsRow db.nodes n
reads_row db n y (named r s e) = r
reads_row db n y (left r x) = r
reads_row db n y (right r x) = r

module _ (text : List ℕ) (d : DraftLists) (laid : Laid d.rows) (none : faults text d ≡ []) where
  clean : Faultless text d
  clean = faultless text d none

  -- the form of the node in a row, and the widths of the nodes before it
  abbrev pub form_at : ℕ → Form
  form_at n = (row_at empty_node d.rows.terms.nodes n).form

  abbrev seen_at : ℕ → List (Option ℕ)
  seen_at n = take (n - 1) (node_widths text d)

  nothing_at : (n : ℕ) → IsRow d.rows.terms.nodes n → node_faults (known text d) (seen_at n) (row_at empty_node d.rows.terms.nodes n) ≡ []
  nothing_at n h = nil_grown (node_faults (known text d)) (node_width (known text d)) d.rows.terms.nodes n empty_node h clean.nodes

  form_nothing : (n : ℕ) → IsRow d.rows.terms.nodes n → form_faults (known text d) (seen_at n) (row_at empty_node d.rows.terms.nodes n) (form_at n) ≡ []
  form_nothing n h =
      let x : Node = row_at empty_node d.rows.terms.nodes n in
      nil_left (form_faults (known text d) (seen_at n) x x.form) (overflows (length (seen_at n)) most_nodes x.place) (nothing_at n h)

  width_is : (n : ℕ) → IsRow d.rows.terms.nodes n → width_at (node_widths text d) n ≡ form_width (known text d) (seen_at n) (form_at n)
  width_is n h =
      row_grown (node_width (known text d)) d.rows.terms.nodes n empty_node None h
      ∙ width_kept (node_faults (known text d) (seen_at n) (row_at empty_node d.rows.terms.nodes n)) (form_width (known text d) (seen_at n) (form_at n)) (nothing_at n h)

  -- a bit string of a literal
  literal_there : (f : Form) → LiteralThere d.rows.terms.digits f → (i : ℕ) → f ≡ Literal i → IsRow d.rows.terms.digits i
  literal_there f l i e = subst (LiteralThere d.rows.terms.digits) e l

  literal_at : (n : ℕ) → IsRow d.rows.terms.nodes n → LiteralThere d.rows.terms.digits (form_at n)
  literal_at n h =
      let one : 1 ≤ n = h.0 in
      let most : n ≤ length d.rows.terms.nodes = h.1 in
      subst (λ x. LiteralThere d.rows.terms.digits x.form) (sym (row_next empty_node d.rows.terms.nodes n one))
      (All-get_or (λ x. LiteralThere d.rows.terms.digits x.form) d.rows.terms.nodes (n - 1) empty_node (omega arith) laid.literals)

  literal_fits : (n : ℕ) → IsRow d.rows.terms.nodes n → (i : ℕ) → form_at n ≡ Literal i → StringFits (string_at (strings d.rows.terms.digits) i)
  literal_fits n h i e = string_fits d.rows.terms.digits laid.digits clean.digits i (literal_there (form_at n) (literal_at n h) i e)

  -- each node has a width
  wide_up_to : (m n : ℕ) → n ≤ m → IsRow d.rows.terms.nodes n → HasWidth (width_at (node_widths text d) n)
  wide_up_to zero n le h = absurd (let a = h.0 in omega arith)
  wide_up_to (suc m) n le h =
      let most : n ≤ length d.rows.terms.nodes = h.1 in
      let P : ℕ → Type 0 = λ a. HasWidth (width_at (seen_at n) a) in
      let before : (a : ℕ) → 1 ≤ a → a < n → P a =
      λ a g l. subst HasWidth (sym (row_taken None (node_widths text d) (n - 1) a (omega arith))) (wide_up_to m a (omega arith) (g, omega arith)) in
      let w : HasWidth (form_width (known text d) (seen_at n) (form_at n)) =
      form_wide text d none (seen_at n) (row_at empty_node d.rows.terms.nodes n) (form_at n) (form_nothing n h)
      (λ i e. let s = literal_fits n h i e in record { bits = s.bits; is = s.width; fits = s.fits })
      (operands_from P n before (form_at n) (operands_before d.rows laid n h)) in
      subst HasWidth (sym (width_is n h)) w

  pub has_width : (n : ℕ) → IsRow d.rows.terms.nodes n → HasWidth (width_at (node_widths text d) n)
  has_width n h = wide_up_to n n (omega arith) h

  pub widths_there : (n : ℕ) → IsRow d.rows.terms.nodes n → (w : ℕ) × (width_at (node_widths text d) n ≡ Some w) × IsWidth w
  widths_there n h = let w = has_width n h in (w.bits, w.is, w.fits)

  -- the row of a node
  pub node_is : (n w : ℕ) → IsRow d.rows.terms.nodes n → width_at (node_widths text d) n ≡ Some w
      → node (database_of text d) n ≡ node_row text d.rows.items (strings d.rows.terms.digits) w (form_at n)
  unfolding database_of
  node_is n w h e =
      row_numbered (λ n x. node_row text d.rows.items (strings d.rows.terms.digits) (unwrap_or (width_at (node_widths text d) n) 0) x.form) d.rows.terms.nodes n empty_node no_node h
      ∙ ap (λ o. node_row text d.rows.items (strings d.rows.terms.digits) (unwrap_or o 0) (form_at n)) e

  pub nodes_many : length (database_of text d).nodes ≡ length d.rows.terms.nodes
  unfolding database_of
  nodes_many = length_numbered (λ n x. node_row text d.rows.items (strings d.rows.terms.digits) (unwrap_or (width_at (node_widths text d) n) 0) x.form) d.rows.terms.nodes

  pub node_wide : (n w : ℕ) → IsRow d.rows.terms.nodes n → width_at (node_widths text d) n ≡ Some w → (node (database_of text d) n).width ≡ w
  node_wide n w h e = some_same _ _ (sym (width_row text d none widths_there n h) ∙ e)

  -- an operand, as the rules and as the rows have it
  operand : (n : ℕ) → IsRow d.rows.terms.nodes n → (a : ℕ) → 1 ≤ a → a < n → Operand (database_of text d) (seen_at n) a
  operand n h a g l =
      let most : n ≤ length d.rows.terms.nodes = h.1 in
      let w = has_width a (g, omega arith) in
      record {
        bits = w.bits;
        is = row_taken None (node_widths text d) (n - 1) a (omega arith) ∙ w.is;
        fits = w.fits;
        row = node_wide a w.bits (g, omega arith) w.is;
      }

  pub nodes_sound : (n : ℕ) → IsRow (database_of text d).nodes n → NodeSound (database_of text d) (node (database_of text d) n)
  nodes_sound n r =
      let h : IsRow d.rows.terms.nodes n = same_row (database_of text d).nodes d.rows.terms.nodes n nodes_many r in
      let w = has_width n h in
      let s : NodeSound (database_of text d) (node_row text d.rows.items (strings d.rows.terms.digits) w.bits (form_at n)) =
      form_sound text d none (seen_at n) (row_at empty_node d.rows.terms.nodes n) w.bits w.fits (form_at n) (form_nothing n h) (literal_fits n h)
      (operands_from (Operand (database_of text d) (seen_at n)) n (operand n h) (form_at n) (operands_before d.rows laid n h))
      (sym (width_is n h) ∙ w.is) in
      subst (NodeSound (database_of text d)) (sym (node_is n w.bits h w.is)) s

  -- what the value of a statement that drives a bus reads
  module _ (k before root : ℕ) (side : SideLaid d.rows.terms.nodes (Some k) before root) (first : ℕ) (bus : (row_at no_side (known text d).sides k).bus ≡ Some first) where
    same_rows : (n : ℕ) → IsRow (database_of text d).nodes n → IsRow d.rows.terms.nodes n
    same_rows n r = same_row (database_of text d).nodes d.rows.terms.nodes n nodes_many r

    within : Within (map node_shape d.rows.terms.nodes) before root
    within = expression_within (map node_shape d.rows.terms.nodes) before root side.expression

    behind_at : (n : ℕ) → IsRow d.rows.terms.nodes n → before < n → n ≤ root → Behind before n (form_shape (form_at n))
    behind_at n h g l = subst (Behind before n) (shape_of d.rows.terms.nodes n h) (within.rows n g l)

    left_at : (n : ℕ) → IsRow d.rows.terms.nodes n → (node (database_of text d) n).left ≡ (form_shape (form_at n)).left
    left_at n h = let w = has_width n h in ap (λ x. x.left) (node_is n w.bits h w.is) ∙ left_is text d.rows.items (strings d.rows.terms.digits) w.bits (form_at n)

    right_at : (n : ℕ) → IsRow d.rows.terms.nodes n → (node (database_of text d) n).right ≡ (form_shape (form_at n)).right
    right_at n h = let w = has_width n h in ap (λ x. x.right) (node_is n w.bits h w.is) ∙ right_is text d.rows.items (strings d.rows.terms.digits) w.bits (form_at n)

    driven_is : (n : ℕ) → IsRow d.rows.terms.nodes n → before < n → n ≤ root → (row_at empty_node d.rows.terms.nodes n).driven ≡ Some k
    driven_is n h g l = sym (row_mapped (λ x. x.driven) d.rows.terms.nodes n empty_node None h) ∙ side.drives n g l

    named_order : (n : ℕ) → IsRow d.rows.terms.nodes n → before < n → n ≤ root → sign_of (node (database_of text d) n).sign ≡ Some Name
        → (y : ℕ) → (node (database_of text d) n).symbol ≡ y → IsBus (database_of text d) y → y ≤ first
    named_order n h g l s y e b =
        let w = has_width n h in
        let i = node_is n w.bits h w.is in
        form_order text d none (seen_at n) (row_at empty_node d.rows.terms.nodes n) k first (driven_is n h g l) bus w.bits (form_at n) (form_nothing n h)
        (ap (λ x. sign_of x.sign) (sym i) ∙ s) y (ap (λ x. x.symbol) (sym i) ∙ e) b

    read_order : (n y : ℕ) → before < n → n ≤ root → Reads (database_of text d) n y → IsBus (database_of text d) y → y ≤ first
    read_order n y g l (named r s e) b = named_order n (same_rows n r) g l s y e b
    read_order n y g l (left r x) b =
        let h : IsRow d.rows.terms.nodes n = same_rows n r in
        let one : 1 ≤ (node (database_of text d) n).left = (reads_row (database_of text d) (node (database_of text d) n).left y x).0 in
        let e : (node (database_of text d) n).left ≡ (form_shape (form_at n)).left = left_at n h in
        let o = (behind_at n h g l).left (subst (λ m. 1 ≤ m) e one) in
        let o0 : before < (form_shape (form_at n)).left = o.0 in
        let o1 : (form_shape (form_at n)).left < n = o.1 in
        read_order (node (database_of text d) n).left y (omega arith) (omega arith) x b
    read_order n y g l (right r x) b =
        let h : IsRow d.rows.terms.nodes n = same_rows n r in
        let one : 1 ≤ (node (database_of text d) n).right = (reads_row (database_of text d) (node (database_of text d) n).right y x).0 in
        let e : (node (database_of text d) n).right ≡ (form_shape (form_at n)).right = right_at n h in
        let o = (behind_at n h g l).right (subst (λ m. 1 ≤ m) e one) in
        let o0 : before < (form_shape (form_at n)).right = o.0 in
        let o1 : (form_shape (form_at n)).right < n = o.1 in
        read_order (node (database_of text d) n).right y (omega arith) (omega arith) x b

  pub order : (k before root : ℕ) → SideLaid d.rows.terms.nodes (Some k) before root → (y : ℕ) → Reads (database_of text d) root y → IsBus (database_of text d) y
      → (first : ℕ) → (row_at no_side (known text d).sides k).bus ≡ Some first → y ≤ first
  order k before root side y x b first bus = read_order k before root side first bus root y (expression_order side.expression) (omega arith) x b
