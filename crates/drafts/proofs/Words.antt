-- What reading the words of a text as a module tells of them. Assumes nothing.
use Rattle.std.proofs.Common.{◌≡◌, ℕ, ◌≤◌, ◌<◌, List, [], ◌∷◌, length, sym, refl, ap, ◌∙◌, subst, arith}
use Rattle.words.specs.declared.token.Token.{Token}
use Rattle.grammar.specs.Rules.{unit}
use Rattle.grammar.specs.Trees.{Tree}
use Rattle.grammar.specs.Drafts.{RowLists, DraftLists, no_rows, draft_of}
use Rattle.grammar.specs.declared.draft.Heading.{Heading}
use Rattle.parse.specs.Parts.{unit_given}
use Rattle.parse.proofs.Drafts.{draft_is}
use Rattle.grammar.specs.Reading.{Out, got, wrong, deep, read}
use Rattle.grammar.specs.Promise.{deepest}
use Rattle.grammar.specs.Laws.{Whole}
use Rattle.grammar.proofs.Laws.{reads_whole, unambiguous}
use Rattle.cursor.specs.declared.stop.Stop.{Stop}
use Rattle.cursor.specs.declared.stop.Stop.TheVariants.{Unexpected as Wrong, TooDeep as Deep, OutOfMemory as NoMemory}
use Rattle.cursor.specs.Told.{Stopped}
use Rattle.drafts.specs.declared.faults.DraftFault.TheVariants.{Unexpected}
use Rattle.drafts.specs.Parsed.{front_place, IsDraft}
use Rattle.drafts.specs.Inner.{IsStopped, stop_fault}

-- what reading comes to, the law says of the words
whole : (tokens : List Token) (o : Out (Tree unit)) → read deepest unit tokens ≡ o → Whole tokens o
whole tokens o e = subst (Whole tokens) e (reads_whole tokens)

-- all words are read
pub whole_module : (tokens : List Token) (t : Tree unit) (draft : DraftLists) → read deepest unit tokens ≡ got t [] → draft ≡ draft_of t → IsDraft tokens draft
whole_module tokens t draft e d =
    let w = whole tokens (got t []) e in record {
      tree = t;
      shallow = w.1;
      same = w.0;
      drafted = d;
      only = λ other same. unambiguous other t (same ∙ sym w.0);
    }

draft_made : (t : Tree unit) (heading : Heading) (rows before : RowLists) → ◌≡◌ {A = Heading × RowLists} (heading, rows) (unit_given t before) → before ≡ no_rows → ◌≡◌ {A = DraftLists} (record { heading = heading; rows = rows }) (draft_of t)
draft_made t heading rows before p q =
    let made : ◌≡◌ {A = Heading × RowLists} (heading, rows) (unit_given t no_rows) = p ∙ ap (unit_given t) q in
    ap (λ (x : Heading × RowLists). let d : DraftLists = record { heading = x.0; rows = x.1 } in d) made ∙ draft_is t

pub accepted : (tokens rest : List Token) (t : Tree unit) (heading : Heading) (rows before : RowLists) → length rest < 1 → read deepest unit tokens ≡ got t rest → ◌≡◌ {A = Heading × RowLists} (heading, rows) (unit_given t before) → before ≡ no_rows → IsDraft tokens (record { heading = heading; rows = rows })
accepted tokens (w ∷ rest) t heading rows before none e p q = absurd (omega arith)
accepted tokens [] t heading rows before none e p q = whole_module tokens t (record { heading = heading; rows = rows }) e (draft_made t heading rows before p q)

-- words are left behind a module
pub left_over : (tokens rest : List Token) (n : ℕ) (t : Tree unit) → 1 ≤ length rest → read deepest unit tokens ≡ got t rest → IsStopped tokens n (Unexpected (front_place n rest))
left_over tokens [] n t more e = absurd (omega arith)
left_over tokens (w ∷ rest) n t more e = record { rest = w ∷ rest; stops = whole tokens (got t (w ∷ rest)) e; there = refl }

-- reading stops
pub stopped : (tokens rest : List Token) (n : ℕ) (stop : Stop) → Stopped (read deepest unit tokens) stop rest → IsStopped tokens n (stop_fault stop (front_place n rest))
stopped tokens rest n Wrong e = record { rest = rest; stops = whole tokens (wrong rest) e; there = refl }
stopped tokens rest n Deep e = record { rest = rest; stops = whole tokens (deep rest) e; there = refl }
stopped tokens rest n NoMemory e = tt
