-- The targets of a draft without faults. Assumes nothing.
use Rattle.std.proofs.Common.{◌≡◌, ℕ, ◌+◌, ◌≤◌, List, [], ◌∷◌, ◌++◌, length, get_or, map, Some, None, IsSome, All, sym, ap, ◌∙◌, subst, arith}
use Rattle.std.proofs.lemmas.List.Elements.{All-nil, All-cons, All-append, All-same, All-weaker, All-map}
use Rattle.grammar.specs.declared.draft.Statement.{Statement}
use Rattle.grammar.specs.declared.draft.StatementKind.TheVariants.{Connection}
use Rattle.grammar.specs.declared.draft.Target.{Target}
use Rattle.grammar.specs.Drafts.{DraftLists}
use Rattle.least.specs.Each.{row_at, IsRow}
use Rattle.symbols.specs.References.{symbol_at, reference_faults}
use Rattle.rules.specs.Targets.{standing_by, target_standing, own_faults, target_faults, sides}
use Rattle.rules.specs.Faults.{faults}
use Rattle.database.specs.Codes.{statement_kind}
use Rattle.database.specs.Rows.{no_statement, no_target, statement, target}
use Rattle.database.specs.Saying.{statement_row, target_row, target_rows, database_of}
use Rattle.database.specs.Soundness.{TargetBy, TargetSound, NamesBits}
use Rattle.soundness.specs.Layout.{OwnTargets, DraftTargetsLaid, Laid}
use Rattle.soundness.proofs.Nil.{nil_left, row_numbered, row_mapped}
use Rattle.soundness.proofs.Lists.{all_without, each_row, unnumbered}
use Rattle.soundness.proofs.Few.{faultless}
use Rattle.soundness.proofs.Symbols.{Named, named}
use Rattle.soundness.proofs.StatementRows.{statement_kind_is}

-- the targets of a statement name it
pub own_targets : (n : ℕ) (ts : List Target) → OwnTargets n ts → All (λ t. t.statement ≡ n) ts
own_targets n [] h = absurd h
own_targets n (t ∷ ts) h = All-cons (λ x. x.statement ≡ n) t ts h.0 (All-weaker (λ x. (x.statement ≡ n) × IsSome x.comma) (λ x. x.statement ≡ n) (λ x p. p.0) ts h.2)

-- the statements of targets are there
abbrev TargetStands : ℕ → Target → Type 0
TargetStands statements t = (1 ≤ t.statement) × (t.statement ≤ statements)

targets_stand : (total n : ℕ) (ss : List Statement) (ts : List Target) (passed : ℕ) → 1 ≤ n → n + length ss ≡ total + 1 → DraftTargetsLaid n ss ts passed → All (TargetStands total) ts
targets_stand total n [] ts passed one many h = All-same (TargetStands total) ts [] h (All-nil (TargetStands total))
targets_stand total n (s ∷ ss) ts passed one many (own, others, p, mine, last, rest) =
    All-same (TargetStands total) ts (own ++ others) p
    (All-append (TargetStands total) own others
    (λ k d l. let e = own_targets n own mine k d l in (omega arith, omega arith))
    (targets_stand total (n + 1) ss others (passed + length own) (omega arith) (omega arith) rest))

abbrev no_draft_statement : Statement
no_draft_statement = record { place = 0; step = None; kind = Connection; last_target = 0; condition = None; sign = 0; value = 0 }

-- a target's name stands for bits of a symbol
abbrev pub TargetNamed : List ℕ → DraftLists → Target → Type 0
TargetNamed text d t =
    Named (database_of text d) d.rows.items (target_standing d.rows.statements t) (symbol_at text d.rows.items (target_standing d.rows.statements t) t.reference.name) t.reference.subscript

module _ (text : List ℕ) (d : DraftLists) (none : faults text d ≡ []) where
  pub targets_right : All (λ t. reference_faults text d.rows.items (target_standing d.rows.statements t) None t.reference ≡ []) d.rows.targets
  targets_right =
      all_without (λ before t. target_faults text d.rows.items d.rows.statements (sides text d.rows.items d.rows.statements before) t)
      (λ t. reference_faults text d.rows.items (target_standing d.rows.statements t) None t.reference ≡ [])
      (λ before t e.
      nil_left (reference_faults text d.rows.items (target_standing d.rows.statements t) None t.reference) _
      (nil_left (own_faults text d.rows.items d.rows.statements (length (sides text d.rows.items d.rows.statements before)) t) _ e))
      d.rows.targets (faultless text d none).targets

  pub targets_named : All (TargetNamed text d) d.rows.targets
  targets_named = λ k e l. let t : Target = get_or d.rows.targets k e in named text d none (target_standing d.rows.statements t) None t.reference (targets_right k e l)

  target_sound : (t : Target) → IsRow d.rows.statements t.statement → TargetNamed text d t → TargetSound (database_of text d) (target_row text d.rows.items d.rows.statements t)
  unfolding database_of
  target_sound t there name =
      let s : Statement = row_at no_draft_statement d.rows.statements t.statement in
      let row = row_numbered (λ n x. statement_row x) d.rows.statements t.statement no_draft_statement no_statement there in
      let kind : statement_kind (statement (database_of text d) t.statement).kind ≡ Some s.kind = ap (λ x. statement_kind x.kind) row ∙ statement_kind_is s.kind in
      let stands : target_standing d.rows.statements t ≡ standing_by s.kind = ap standing_by (row_mapped (λ x. x.kind) d.rows.statements t.statement no_draft_statement Connection there) in
      let x = target_row text d.rows.items d.rows.statements t in
      subst (λ o. TargetBy o (database_of text d) x) (sym kind) (subst (λ st. NamesBits (database_of text d) st x.symbol x.first x.last) stands name.bits)

  pub targets_sound : Laid d.rows → (n : ℕ) → IsRow (database_of text d).targets n → TargetSound (database_of text d) (target (database_of text d) n)
  unfolding database_of
  targets_sound laid n h =
      let there = targets_stand (length d.rows.statements) 1 d.rows.statements d.rows.targets 0 (omega arith) (omega arith) laid.targets in
      let all : All (TargetSound (database_of text d)) (map (target_row text d.rows.items d.rows.statements) d.rows.targets) =
      All-map (TargetSound (database_of text d)) (target_row text d.rows.items d.rows.statements) d.rows.targets (λ k e l. target_sound (get_or d.rows.targets k e) (there k e l) (targets_named k e l)) in
      each_row (TargetSound (database_of text d)) no_target (target_rows text d) (subst (All (TargetSound (database_of text d))) (sym (unnumbered (target_row text d.rows.items d.rows.statements) d.rows.targets)) all) n h
