-- That each text has one answer. Assumes nothing.
use Rattle.std.proofs.Common.{◌≡◌, ◌⊎◌, ℕ, List, [], length, Option, Some, None, false, inl, inr, sym, refl, ap, ◌∙◌, subst, arith}
use Rattle.grammar.specs.Drafts.{DraftLists}
use Rattle.drafts.specs.Parsed.{Drafted}
use Rattle.least.specs.declared.rule.RuleFault.{RuleFault}
use Rattle.least.specs.Order.{least, IsLeast}
use Rattle.least.proofs.Leasts.{least_none, least_some, one_least}
use Rattle.rules.specs.Faults.{faults}
use Rattle.database.specs.Rows.{Database}
use Rattle.database.specs.Saying.{database_of}
use Rattle.drafts.proofs.Laws.{some_answer, one_draft, one_fault, not_accepted_and_refused}
use Rattle.text.specs.declared.faults.ReadFault.{ReadFault}
use Rattle.text.specs.declared.faults.ReadFault.TheVariants.{OutOfMemory, ShortTable, Draft, Rule}
use Rattle.text.specs.Promise.{Says, Breaks, Refused}
use Rattle.text.specs.Laws.{SomeAnswer, OneDatabase, OneFault, NotBoth, ReadLaws}

-- a text says a database, or has a fault
abbrev Answered : List ℕ → Type 0
Answered text = ((database : Database) × Says text database) ⊎ ((fault : ReadFault) × Refused false text fault)

-- of a draft, its faults tell which
judged : (text : List ℕ) (draft : DraftLists) → Drafted text draft → (told : Option RuleFault) → least (faults text draft) ≡ told → Answered text
judged text draft drafted None e =
    inl (database_of text draft, record { draft = draft; drafted = drafted; faultless = least_none (faults text draft) e; rows = refl })
judged text draft drafted (Some fault) e =
    inr (Rule fault, (refl, record { draft = draft; drafted = drafted; least = least_some (faults text draft) fault e }))

pub some_database : SomeAnswer
some_database text = elim (some_answer text) [
  | inl (draft, drafted) ↦ judged text draft drafted (least (faults text draft)) refl
  | inr (fault, undrafted) ↦ inr (Draft fault, (refl, undrafted))
]

pub one_database : OneDatabase
one_database text database other a b =
    a.rows ∙ ap (database_of text) (one_draft text a.draft b.draft a.drafted b.drafted) ∙ sym b.rows

-- a text breaks one rule first
one_broken : (text : List ℕ) (fault other : RuleFault) → Breaks text fault → Breaks text other → fault ≡ other
one_broken text fault other a b =
    let e = one_draft text b.draft a.draft b.drafted a.drafted in
    one_least (faults text a.draft) fault other a.least (subst (λ d. IsLeast (faults text d) other) e b.least)

pub one_refusal : OneFault
one_refusal short text OutOfMemory other a b = absurd a
one_refusal short text fault OutOfMemory a b = absurd b
one_refusal short text ShortTable ShortTable a b = refl
one_refusal short text ShortTable (Draft g) a (b, _) = absurd (cc)
one_refusal short text ShortTable (Rule g) a (b, _) = absurd (cc)
one_refusal short text (Draft f) ShortTable (a, _) b = absurd (cc)
one_refusal short text (Draft f) (Draft g) (_, a) (_, b) = ap Draft (one_fault text f g a b)
one_refusal short text (Draft f) (Rule g) (_, a) (_, b) = absurd (not_accepted_and_refused text b.draft f b.drafted a)
one_refusal short text (Rule f) ShortTable (a, _) b = absurd (cc)
one_refusal short text (Rule f) (Draft g) (_, a) (_, b) = absurd (not_accepted_and_refused text a.draft g a.drafted b)
one_refusal short text (Rule f) (Rule g) (_, a) (_, b) = ap Rule (one_broken text f g a b)

-- a text that says a database breaks no rule
not_broken : (text : List ℕ) (database : Database) (fault : RuleFault) → Says text database → Breaks text fault → ⊥
not_broken text database fault a b =
    let e = one_draft text b.draft a.draft b.drafted a.drafted in
    let none : faults text b.draft ≡ [] = ap (faults text) e ∙ a.faultless in
    omega (arith, b.least.among.1, ap length none)

pub not_said_and_refused : NotBoth
not_said_and_refused text database OutOfMemory a b = absurd b
not_said_and_refused text database ShortTable a b = absurd (cc)
not_said_and_refused text database (Draft f) a (_, b) = not_accepted_and_refused text a.draft f a.drafted b
not_said_and_refused text database (Rule f) a (_, b) = not_broken text database f a b

pub read_laws_lem : ReadLaws
read_laws_lem = (some_database, one_database, one_refusal, not_said_and_refused)
