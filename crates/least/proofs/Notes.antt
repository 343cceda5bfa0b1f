-- Faults noted after one another, and by loops that go over a list from the front. Assumes nothing.
use Rattle.std.proofs.Common.{◌≡◌, ℕ, ◌+◌, ◌-◌, ◌<◌, ◌≤◌, Bool, true, false, cond, List, [], ◌∷◌, ◌++◌, length, get_or, take, Some, None, Option, sym, refl, ap, ◌∙◌, true≢false, arith}
use Rattle.std.proofs.lemmas.Bool.{cond-false}
use Rattle.std.proofs.lemmas.Bool.Decides.{nat_tests}
use Rattle.std.proofs.lemmas.List.{length-take-le}
use Rattle.least.specs.declared.rule.Rule.{Rule}
use Rattle.least.specs.declared.rule.Rule.TheVariants.{Redeclared, OutOfRange, Undeclared, OffEnds, Widths, StepInteger, BusOrder, LastStep, Overflow}
use Rattle.least.specs.declared.rule.RuleFault.{RuleFault}
use Rattle.least.specs.declared.least.Least.{Least}
use Rattle.least.specs.Each.{each, grown}
use Rattle.least.specs.Order.{rule_number, before, lesser, least, fault_at, fault_if, tells, Notes}
use Rattle.least.proofs.Lists.{each_more, each_all, grown_more}

pub none_right : (f : Option RuleFault) → lesser f None ≡ f
none_right None = refl
none_right (Some f) = refl

pub assoc : (f g h : Option RuleFault) → lesser (lesser f g) h ≡ lesser f (lesser g h)
assoc None g h = refl
assoc (Some f) None h = refl
assoc (Some f) (Some g) None = none_right (lesser (Some f) (Some g))
assoc (Some f) (Some g) (Some h) = grind (arith, nat_tests)

pub least_append : (xs ys : List RuleFault) → least (xs ++ ys) ≡ lesser (least xs) (least ys)
least_append [] ys = refl
least_append (x ∷ xs) ys = ap (lesser (Some x)) (least_append xs ys) ∙ sym (assoc (Some x) (least xs) (least ys))

-- what was noted after what was noted
pub noted : (start : Option RuleFault) (xs ys : List RuleFault) → lesser (lesser start (least xs)) (least ys) ≡ lesser start (least (xs ++ ys))
noted start xs ys = assoc start (least xs) (least ys) ∙ ap (lesser start) (sym (least_append xs ys))

pub notes_none : (a : Least) → Notes a [] a
notes_none a = record { is = sym (none_right a.fault) }

-- some faults, and then others
pub then : {a b c : Least} {xs ys : List RuleFault} → Notes a xs b → Notes b ys c → Notes a (xs ++ ys) c
then {a} {b} {c} {xs} {ys} p q = record { is = q.is ∙ ap (λ o. lesser o (least ys)) p.is ∙ noted a.fault xs ys }

-- the same faults by another name
pub notes_as : {a b : Least} {xs : List RuleFault} (ys : List RuleFault) → xs ≡ ys → Notes a xs b → Notes a ys b
notes_as {a} {b} {xs} ys e p = record { is = p.is ∙ ap (λ fs. lesser a.fault (least fs)) e }

-- the same test by another name
pub by_test : {a b : Least} (t u : Bool) (place : ℕ) (rule : Rule) → t ≡ u → Notes a (fault_if t place rule) b → Notes a (fault_if u place rule) b
by_test t u place rule e h = notes_as (fault_if u place rule) (ap (λ s. fault_if s place rule) e) h

-- one element more of a list that is judged from the front: the turn of a loop, and its end
pub each_turn : {A : Type 0} (f : List A → A → List RuleFault) (xs : List A) (i : ℕ) (d : A) → i < length xs → {a b c : Least} → Notes a (each f (take i xs)) b → Notes b (f (take (i - 0) xs) (get_or xs i d)) c → Notes a (each f (take (i + 1) xs)) c
each_turn f xs i d h p q =
    let z : i - 0 ≡ i = omega arith in
    notes_as _ (ap (λ n. each f (take i xs) ++ f (take n xs) (get_or xs i d)) z ∙ sym (each_more f xs i d h)) (then p q)

pub each_end : {A : Type 0} (f : List A → A → List RuleFault) (xs : List A) (i : ℕ) → length xs ≤ i → {a b : Least} → Notes a (each f (take i xs)) b → Notes a (each f xs) b
each_end f xs i h p = notes_as _ (each_all f xs i h) p

-- a pass over a list that also grows a list of answers: its faults go by the answers before. The turn of both
module _ {A B : Type 0} (F : List B → A → List RuleFault) (w : List B → A → B) (xs : List A) (i : ℕ) (d : A) (h : i < length xs) (ws : List B) (so_far : ws ≡ grown w (take i xs)) where
  pub pass_notes : {a b c : Least} → Notes a (each (λ before x. F (grown w before) x) (take i xs)) b → Notes b (F ws (get_or xs i d)) c → Notes a (each (λ before x. F (grown w before) x) (take (i + 1) xs)) c
  pass_notes p q =
      notes_as _ (ap (λ us. each (λ before x. F (grown w before) x) (take i xs) ++ F us (get_or xs i d)) so_far ∙ sym (each_more (λ before x. F (grown w before) x) xs i d h)) (then p q)

  pub pass_grows : (y : B) (us : List B) → us ≡ ws ++ y ∷ [] → y ≡ w ws (get_or xs i d) → us ≡ grown w (take (i + 1) xs)
  pass_grows y us e f = e ∙ (λ j. so_far j ++ (f ∙ ap (λ v. w v (get_or xs i d)) so_far) j ∷ []) ∙ sym (grown_more w xs i d h)

-- a pass whose faults go by the number of rows before, or by nothing before
pub rows_turn : {A : Type 0} (F : ℕ → A → List RuleFault) (xs : List A) (i : ℕ) (d : A) → i < length xs → {a b c : Least} → Notes a (each (λ before x. F (length before) x) (take i xs)) b → Notes b (F i (get_or xs i d)) c → Notes a (each (λ before x. F (length before) x) (take (i + 1) xs)) c
rows_turn F xs i d h p q =
    notes_as _ (ap (λ n. each (λ before x. F (length before) x) (take i xs) ++ F n (get_or xs i d)) (sym (length-take-le i xs (omega arith))) ∙ sym (each_more (λ before x. F (length before) x) xs i d h)) (then p q)

-- faults of the same place and number are the same
abbrev rule_of : ℕ → Rule
rule_of n = get_or (Redeclared ∷ OutOfRange ∷ Undeclared ∷ OffEnds ∷ Widths ∷ StepInteger ∷ BusOrder ∷ LastStep ∷ []) (n - 8) Overflow

rule_again : (r : Rule) → rule_of (rule_number r) ≡ r
rule_again Redeclared = refl
rule_again OutOfRange = refl
rule_again Undeclared = refl
rule_again OffEnds = refl
rule_again Widths = refl
rule_again StepInteger = refl
rule_again BusOrder = refl
rule_again LastStep = refl
rule_again Overflow = refl

pub same_rule : (r s : Rule) → rule_number r ≡ rule_number s → r ≡ s
same_rule r s e = sym (rule_again r) ∙ ap rule_of e ∙ rule_again s

pub same_fault : (f g : RuleFault) → f.place ≡ g.place → rule_number f.rule ≡ rule_number g.rule → f ≡ g
same_fault f g p n = let r = same_rule f.rule g.rule n in λ i. record { place = p i; rule = r i }

-- neither of two stands before the other only where they are the same
pub tie : (f g : RuleFault) → before f g ≡ false → before g f ≡ false → f ≡ g
tie f g h k =
    let p : f.place ≡ g.place = grind (arith, nat_tests) in
    let n : rule_number f.rule ≡ rule_number g.rule = grind (arith, nat_tests) in
    same_fault f g p n

-- a fault that would not be told makes no difference
untold_by : (f : Option RuleFault) (t : Bool) (fault : RuleFault) → tells f fault ≡ false → f ≡ lesser f (least (cond t (fault ∷ []) []))
untold_by None t fault e = absurd (true≢false e)
untold_by (Some g) false fault e = refl
untold_by (Some g) true fault e = sym (cond-false (before fault g) (Some fault) (Some g) e)

pub untold : (a : Least) (t : Bool) (place : ℕ) (rule : Rule) → tells a.fault (fault_at place rule) ≡ false → Notes a (fault_if t place rule) a
untold a t place rule e = record { is = untold_by a.fault t (fault_at place rule) e }
