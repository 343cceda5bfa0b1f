-- The least of a list is one of it, none stands before it, and it is the only one. Assumes nothing.
use Rattle.std.proofs.Common.{◌≡◌, true, false, List, [], ◌∷◌, length, Some, None, Option, sym, refl, ap, ◌∙◌, subst, ⊎_elim, arith}
use Rattle.std.specs.List.{All, Contains}
use Rattle.std.proofs.lemmas.Bool.{cond-true, cond-false, cases_Bool}
use Rattle.std.proofs.lemmas.Bool.Decides.{nat_tests}
use Rattle.std.proofs.lemmas.List.Elements.{All-nil, All-cons, All-weaker, All-contains, Contains-get_or, Contains-append_right}
use Rattle.least.specs.declared.rule.RuleFault.{RuleFault}
use Rattle.least.specs.Order.{before, lesser, least, IsLeast}
use Rattle.least.proofs.Notes.{tie}
use Rattle.least.specs.Laws.{LeastIs, OneLeast, LeastLaws}

-- the order of faults
itself : (f : RuleFault) → before f f ≡ false
itself f = grind (arith, nat_tests)

one_way : (f g : RuleFault) → before f g ≡ true → before g f ≡ false
one_way f g h = grind (arith, nat_tests)

chain : (x h g : RuleFault) → before x h ≡ false → before h g ≡ false → before x g ≡ false
chain x h g a b = grind (arith, nat_tests)

some_none : (f : RuleFault) → Some f ≡ None → ⊥
some_none f e = cc

never : (f : RuleFault) (o : Option RuleFault) → lesser (Some f) o ≡ None → ⊥
never f None e = some_none f e
never f (Some g) e =
    ⊎_elim (λ t. some_none g (sym (cond-true (before g f) (Some g) (Some f) t) ∙ e)) (λ t. some_none f (sym (cond-false (before g f) (Some g) (Some f) t) ∙ e)) (cases_Bool (before g f))

-- only the empty list has no least
pub least_none : (fs : List RuleFault) → least fs ≡ None → fs ≡ []
least_none [] e = refl
least_none (f ∷ fs) e = absurd (never f (least fs) e)

some_same : (f g : RuleFault) → Some f ≡ Some g → f ≡ g
some_same f g e = cc

head_least : (g : RuleFault) (gs : List RuleFault) → All (λ x. before x g ≡ false) gs → IsLeast (g ∷ gs) g
head_least g gs a = record { among = Contains-get_or (g ∷ gs) 0 g (omega arith); first = All-cons (λ x. before x g ≡ false) g gs (itself g) a }

tail_least : (g h : RuleFault) (gs : List RuleFault) → before h g ≡ true → IsLeast gs h → IsLeast (g ∷ gs) h
tail_least g h gs t i = record { among = Contains-append_right (g ∷ []) gs h i.among; first = All-cons (λ x. before x h ≡ false) g gs (one_way h g t) i.first }

least_by : (g : RuleFault) (gs : List RuleFault) (f : RuleFault) (o : Option RuleFault) → ((h : RuleFault) → least gs ≡ Some h → IsLeast gs h) → least gs ≡ o → lesser (Some g) o ≡ Some f → IsLeast (g ∷ gs) f
least_by g gs f None rest n e =
    let s : IsLeast (g ∷ gs) g = head_least g gs (subst (All (λ x. before x g ≡ false)) (sym (least_none gs n)) (All-nil (λ x. before x g ≡ false))) in
    subst (IsLeast (g ∷ gs)) (some_same g f e) s
least_by g gs f (Some h) rest n e =
    ⊎_elim
    (λ t. subst (IsLeast (g ∷ gs)) (some_same h f (sym (cond-true (before h g) (Some h) (Some g) t) ∙ e)) (tail_least g h gs t (rest h n)))
    (λ t. subst (IsLeast (g ∷ gs)) (some_same g f (sym (cond-false (before h g) (Some h) (Some g) t) ∙ e))
    (head_least g gs (All-weaker (λ x. before x h ≡ false) (λ x. before x g ≡ false) (λ x a. chain x h g a t) gs (rest h n).first)))
    (cases_Bool (before h g))

-- what is told of a list is its least
pub least_some : (fs : List RuleFault) (f : RuleFault) → least fs ≡ Some f → IsLeast fs f
least_some [] f e = absurd (some_none f (sym e))
least_some (g ∷ gs) f e = least_by g gs f (least gs) (least_some gs) refl e

-- a list has one least at most
pub one_least : OneLeast
one_least fs f g a b = tie f g (All-contains (λ x. before x g ≡ false) fs f b.first a.among) (All-contains (λ x. before x f ≡ false) fs g a.first b.among)

not_in_none : (fs : List RuleFault) (f : RuleFault) → Contains fs f → fs ≡ [] → ⊥
not_in_none fs f c e = absurd (omega (arith, c.1, ap length e))

told_by : (fs : List RuleFault) (f : RuleFault) (o : Option RuleFault) → least fs ≡ o → IsLeast fs f → o ≡ Some f
told_by fs f None e i = absurd (not_in_none fs f i.among (least_none fs e))
told_by fs f (Some g) e i = ap Some (one_least fs g f (least_some fs g e) i)

-- the least of a list is told
pub least_told : (fs : List RuleFault) (f : RuleFault) → IsLeast fs f → least fs ≡ Some f
least_told fs f i = told_by fs f (least fs) refl i

least_is : LeastIs
least_is fs = ((λ f. (least_some fs f, least_told fs f)), (least_none fs, λ e. ap least e))

pub least_laws_lem : LeastLaws
least_laws_lem = (least_is, one_least)
