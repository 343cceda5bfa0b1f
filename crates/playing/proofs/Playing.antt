-- Rows that were read are taken, and what is played on them is played on the text. Assumes nothing.
use Rattle.std.proofs.Common.{◌≡◌, ℕ, List, length, Result, Ok, Err, IfErr, IsOk, refl, sym, subst}
use Rattle.level.specs.declared.Level.{Ghosts}
use Rattle.database.specs.declared.tables.Counts.{Counts}
use Rattle.database.specs.Rows.{Database}
use Rattle.database.specs.Tables.{TableLists}
use Rattle.database.specs.Soundness.{Sound}
use Rattle.text.specs.Promise.{Reads}
use Rattle.control.specs.declared.calls.Call.{Call}
use Rattle.control.specs.declared.calls.Answer.{Answer}
use Rattle.control.specs.Databases.{Hold}
use Rattle.control.specs.Levels.{OnlyIn, HeldRow, WorkRow}
use Rattle.engine.specs.Promise.{Held, Played}
use Rattle.playing.specs.Promise.{database_in, PlaysText}
use Rattle.playing.proofs.Holding.{holding, held_is_read}

module _ (text : List ℕ) (counts : Counts) (old new : TableLists) (rows : Database) (read : Reads text counts old new) (lent : rows ≡ database_in new) where
  -- what refuses only rows that hold no sound database does not refuse them
  pub taken : {A E : Type 0} (Told : E → Type 0) (r : Result A E) → IfErr r (λ e. Told e × ((d : Database) → Sound (length text) d → Hold d rows → ⊥)) → IsOk r
  taken Told (Ok engine) refused = refl
  taken Told (Err e) refused =
      absurd (refused.1 read.database read.sound (subst (Hold read.database) (sym lent) (holding read.database old new read.holds)))

  pub plays : {X : Type 0} (G : Ghosts X) (d : Database) (calls : List (Call X)) (answers : List (Answer X)) (before behind : Held X) → Sound (length text) d → Hold d rows → Played G d calls answers before behind → OnlyIn (HeldRow d) before.held behind.held → OnlyIn (WorkRow d) before.work behind.work → PlaysText G text calls answers old new before behind
  plays G d calls answers before behind sound held played held_rows work_rows =
      let same : d ≡ read.database = held_is_read (length text) read.database d old new read.sound read.holds sound (subst (Hold d) lent held) in
      record {
        counts = counts;
        read = read;
        played = subst (λ x. Played G x calls answers before behind) same played;
        held = subst (λ x. OnlyIn (HeldRow x) before.held behind.held) same held_rows;
        work = subst (λ x. OnlyIn (WorkRow x) before.work behind.work) same work_rows;
      }
