-- That each text has one answer. Assumes nothing.
use Rattle.std.proofs.Common.{◌≡◌, ◌⊎◌, ℕ, ◌≤◌, List, [], ◌∷◌, ◌++◌, length, sym, refl, ap, ◌∙◌, subst, inl, inr, append_assoc, append-nil, arith}
use Rattle.words.specs.declared.token.Token.{Token}
use Rattle.words.specs.Spelling.{Spelled}
use Rattle.words.proofs.Laws.{one_spelling, one_misspelling, not_both}
use Rattle.words.proofs.Total.{some_reading}
use Rattle.grammar.specs.Rules.{unit}
use Rattle.grammar.specs.Trees.{Tree, words, depth}
use Rattle.grammar.specs.Drafts.{DraftLists, draft_of}
use Rattle.grammar.specs.Reading.{Out, got, wrong, deep, read}
use Rattle.grammar.specs.Promise.{deepest, Begins, Continues, ContinuesWithin, FirstWrong, FirstDeep}
use Rattle.drafts.specs.declared.faults.DraftFault.{DraftFault}
use Rattle.drafts.specs.declared.faults.DraftFault.TheVariants.{OutOfMemory, LongText, Word, Unexpected, TooDeep}
use Rattle.drafts.specs.Parsed.{front_place, longest_text, Drafted, Undrafted}
use Rattle.cursor.specs.declared.stop.Stop.TheVariants.{Unexpected as Wrong, TooDeep as Deep}
use Rattle.std.proofs.lemmas.Bool.{cases_lt}
use Rattle.drafts.proofs.Words.{whole_module, left_over, stopped}
use Rattle.drafts.specs.Laws.{SomeAnswer, OneDraft, OneFault, NotBoth, DraftLaws}

-- of two fronts of one list each is the other, or has words more than the other
data Fronts (a x b y : List Token) : Type 0 where
  equal : a ≡ b → x ≡ y → Fronts a x b y
  shorter : (w : Token) (more : List Token) → b ≡ a ++ w ∷ more → x ≡ w ∷ (more ++ y) → Fronts a x b y
  longer : (w : Token) (more : List Token) → a ≡ b ++ w ∷ more → y ≡ w ∷ (more ++ x) → Fronts a x b y

fronts_under : (v w : Token) (a x b y : List Token) → v ≡ w → Fronts a x b y → Fronts (v ∷ a) x (w ∷ b) y
fronts_under v w a x b y p (equal e f) = equal (cc) f
fronts_under v w a x b y p (shorter z more e f) = shorter z more (cc) f
fronts_under v w a x b y p (longer z more e f) = longer z more (cc) f

fronts : (a x b y : List Token) → a ++ x ≡ b ++ y → Fronts a x b y
fronts [] x [] y e = equal refl e
fronts [] x (w ∷ b) y e = shorter w b refl e
fronts (v ∷ a) x [] y e = longer v a refl (sym e)
fronts (v ∷ a) x (w ∷ b) y e = fronts_under v w a x b y (cc) (fronts a x b y (cc))

-- Modules that nest at most 16 deep stop at rest, whether or not deeper ones go on.
record Halts (tokens rest : List Token) : Type 0 where
  before : List Token
  whole : tokens ≡ before ++ rest
  right : Begins deepest before
  stops : ContinuesWithin before rest → ⊥

-- a module goes on, where one that nests at most 16 deep does
continues : (before rest : List Token) → ContinuesWithin before rest → Continues before rest
continues before [] c = (deepest, c)
continues before (w ∷ rest) c = (deepest, c)

abbrev wrong_halts : (tokens rest : List Token) → FirstWrong tokens rest → Halts tokens rest
wrong_halts tokens rest f = record { before = f.before; whole = f.whole; right = f.right; stops = λ c. f.stops (continues f.before rest c) }

abbrev deep_halts : (tokens rest : List Token) → FirstDeep tokens rest → Halts tokens rest
deep_halts tokens rest f = record { before = f.before; whole = f.whole; right = f.right; stops = f.stops }

-- a module begins with the first of some words that it begins with
begins_less : (a b more : List Token) (w : Token) → b ≡ a ++ w ∷ more → Begins deepest b → Begins deepest (a ++ w ∷ [])
begins_less a b more w e (vs, (t, d, same)) = (more ++ vs, (t, d, same ∙ ap (λ l. l ++ vs) e ∙ simp append_assoc))

-- modules stop at one place of a list of words
one_halt : (tokens x y : List Token) (h : Halts tokens x) (k : Halts tokens y) → (h.before ≡ k.before) × (x ≡ y)
one_halt tokens x y h k =
    elim (fronts h.before x k.before y (sym h.whole ∙ k.whole)) [
      | equal p q ↦ (p, q)
      | shorter w more p q ↦ absurd (h.stops (subst (ContinuesWithin h.before) (sym q) (begins_less h.before k.before more w p k.right)))
      | longer w more p q ↦ absurd (k.stops (subst (ContinuesWithin k.before) (sym q) (begins_less k.before h.before more w p h.right)))
    ]

-- they do not stop where a module that nests at most 16 deep has all the words
goes_on : (tokens before rest : List Token) (t : Tree unit) → depth t ≤ deepest → words t ≡ tokens → tokens ≡ before ++ rest → ContinuesWithin before rest
goes_on tokens before [] t d e f = (t, d, e ∙ f ∙ append-nil before)
goes_on tokens before (w ∷ rest) t d e f = (rest, (t, d, e ∙ f ∙ sym (append_assoc before (w ∷ []) rest)))

-- a first wrong word is no seventeenth nesting
not_wrong_and_deep : (tokens x y : List Token) → FirstWrong tokens x → FirstDeep tokens y → ⊥
not_wrong_and_deep tokens x y f g =
    let (p, q) = one_halt tokens x y (wrong_halts tokens x f) (deep_halts tokens y g) in
    let goes : Continues f.before x = subst (λ l. Continues l x) (sym p) (subst (Continues g.before) (sym q) g.goes) in
    f.stops goes

-- the words of a text stop at that place
record Stopped (text : List ℕ) (place : ℕ) : Type 0 where
  tokens : List Token
  spelled : Spelled text tokens
  rest : List Token
  halts : Halts tokens rest
  there : place ≡ front_place (length text) rest

wrong_stopped : (text : List ℕ) (place : ℕ) → Undrafted text (Unexpected place) → Stopped text place
wrong_stopped text place r = record { tokens = r.tokens; spelled = r.spelled; rest = r.are.rest; halts = wrong_halts r.tokens r.are.rest r.are.stops; there = r.are.there }

deep_stopped : (text : List ℕ) (place : ℕ) → Undrafted text (TooDeep place) → Stopped text place
deep_stopped text place r = record { tokens = r.tokens; spelled = r.spelled; rest = r.are.rest; halts = deep_halts r.tokens r.are.rest r.are.stops; there = r.are.there }

one_place : (text : List ℕ) (p q : ℕ) → Stopped text p → Stopped text q → p ≡ q
one_place text p q s t =
    let e = one_spelling text t.tokens s.tokens t.spelled s.spelled in
    let (_, same) = one_halt s.tokens s.rest t.rest s.halts (subst (λ l. Halts l t.rest) e t.halts) in
    s.there ∙ ap (front_place (length text)) same ∙ sym t.there

not_both_stopped : (text : List ℕ) (p q : ℕ) → Undrafted text (Unexpected p) → Undrafted text (TooDeep q) → ⊥
not_both_stopped text p q r s =
    let e = one_spelling text s.tokens r.tokens s.spelled r.spelled in
    not_wrong_and_deep r.tokens r.are.rest s.are.rest r.are.stops (subst (λ l. FirstDeep l s.are.rest) e s.are.stops)

not_stopped : (text : List ℕ) (draft : DraftLists) (place : ℕ) → Drafted text draft → Stopped text place → ⊥
not_stopped text draft place a s =
    let e = one_spelling text a.tokens s.tokens a.spelled s.spelled in
    s.halts.stops (goes_on s.tokens s.halts.before s.rest a.are.tree a.are.shallow (a.are.same ∙ e) s.halts.whole)

-- the text has a fault
abbrev Faulty : List ℕ → Type 0
Faulty text = (fault : DraftFault) × Undrafted text fault

-- the words of a text are a module's, or they stop
answer : (text : List ℕ) (tokens : List Token) → length text ≤ longest_text → Spelled text tokens → (o : Out (Tree unit)) → read deepest unit tokens ≡ o → ((draft : DraftLists) × Drafted text draft) ⊎ Faulty text
answer text tokens short spelled (got t []) e = inl (draft_of t, record { short = short; tokens = tokens; spelled = spelled; are = whole_module tokens t (draft_of t) e refl })
answer text tokens short spelled (got t (w ∷ rest)) e = inr (Unexpected w.place, record { short = short; tokens = tokens; spelled = spelled; are = left_over tokens (w ∷ rest) (length text) t (omega arith) e })
answer text tokens short spelled (wrong rest) e = inr (Unexpected (front_place (length text) rest), record { short = short; tokens = tokens; spelled = spelled; are = stopped tokens rest (length text) Wrong e })
answer text tokens short spelled (deep rest) e = inr (TooDeep (front_place (length text) rest), record { short = short; tokens = tokens; spelled = spelled; are = stopped tokens rest (length text) Deep e })

pub some_answer : SomeAnswer
some_answer text = elim (cases_lt longest_text (length text)) [
  | inl long ↦ inr (LongText, long)
  | inr short ↦ elim (some_reading text) [
    | inl (tokens, spelled) ↦ answer text tokens short spelled (read deepest unit tokens) refl
    | inr (fault, misspelled) ↦ inr (Word fault, (short, misspelled))
  ]
]

pub one_draft : OneDraft
one_draft text draft other a b =
    let e = one_spelling text a.tokens b.tokens a.spelled b.spelled in
    let same = b.are.only a.are.tree (a.are.same ∙ e) in
    a.are.drafted ∙ ap draft_of same ∙ sym b.are.drafted

pub one_fault : OneFault
one_fault text OutOfMemory other a b = absurd a
one_fault text fault OutOfMemory a b = absurd b
one_fault text LongText LongText a b = refl
one_fault text LongText (Word g) a b = absurd (omega (arith, b.0))
one_fault text LongText (Unexpected q) a b = absurd (omega (arith, b.short))
one_fault text LongText (TooDeep q) a b = absurd (omega (arith, b.short))
one_fault text (Word f) LongText a b = absurd (omega (arith, a.0))
one_fault text (Word f) (Word g) a b = ap Word (one_misspelling text f g a.1 b.1)
one_fault text (Word f) (Unexpected q) a b = absurd (not_both text b.tokens f b.spelled a.1)
one_fault text (Word f) (TooDeep q) a b = absurd (not_both text b.tokens f b.spelled a.1)
one_fault text (Unexpected p) LongText a b = absurd (omega (arith, a.short))
one_fault text (Unexpected p) (Word g) a b = absurd (not_both text a.tokens g a.spelled b.1)
one_fault text (Unexpected p) (Unexpected q) a b = ap Unexpected (one_place text p q (wrong_stopped text p a) (wrong_stopped text q b))
one_fault text (Unexpected p) (TooDeep q) a b = absurd (not_both_stopped text p q a b)
one_fault text (TooDeep p) LongText a b = absurd (omega (arith, a.short))
one_fault text (TooDeep p) (Word g) a b = absurd (not_both text a.tokens g a.spelled b.1)
one_fault text (TooDeep p) (Unexpected q) a b = absurd (not_both_stopped text q p b a)
one_fault text (TooDeep p) (TooDeep q) a b = ap TooDeep (one_place text p q (deep_stopped text p a) (deep_stopped text q b))

pub not_accepted_and_refused : NotBoth
not_accepted_and_refused text draft OutOfMemory a r = absurd r
not_accepted_and_refused text draft LongText a r = absurd (omega (arith, a.short))
not_accepted_and_refused text draft (Word f) a r = absurd (not_both text a.tokens f a.spelled r.1)
not_accepted_and_refused text draft (Unexpected p) a r = absurd (not_stopped text draft p a (wrong_stopped text p r))
not_accepted_and_refused text draft (TooDeep p) a r = absurd (not_stopped text draft p a (deep_stopped text p r))

pub draft_laws_lem : DraftLaws
draft_laws_lem = (some_answer, one_draft, one_fault, not_accepted_and_refused)
