-- Inputs driven one after the other, and a line played. Assumes nothing.
use Rattle.std.proofs.Common.{◌≡◌, ℕ, ◌+◌, ◌<◌, ◌≤◌, Bool, false, not, ◌||◌, nat_lt, List, sym, refl, ap, ap₂, ◌∙◌, subst, ⊎_elim, arith}
use Rattle.std.proofs.lemmas.Bool.{cases_eq, lt-ltb, le-ltb, or_from}
use Rattle.level.specs.declared.letter.Letter.{Letter}
use Rattle.database.specs.Rows.{Database}
use Rattle.control.specs.Points.{input_bits}
use Rattle.control.specs.Letters.{Letters}
use Rattle.control.specs.Rules.{Settled, WasDriven, Clocked}
use Rattle.control.specs.Runs.{LaneCall, LaneAnswer, drive, is_amiss, refusal_by, Called, CalledBy, Done}
use Rattle.control.specs.Levels.{OnlyIn}
use Rattle.control.specs.Usable.{Usable}
use Rattle.settling.proofs.AgreeSame.{follows_same}
use Rattle.settling.proofs.AgreeTurns.{settled_related}
use Rattle.settling.proofs.Exists.{equal_respects}
use Rattle.settling.proofs.Points.{inputs_held, held_within, bits_few}
use Rattle.settling.proofs.RunsFacts.{point_facts}
use Rattle.lines.specs.Cursors.{Drives}
use Rattle.lines.specs.Lines.{PlaysLine}

-- there are few inputs
pub few_inputs : (d : Database) → Usable d → input_bits d ≤ 1024
few_inputs d u = omega (arith, inputs_held d, held_within d, bits_few d u)

-- tables that are long enough are not short
pub long_enough : (held work : ℕ) → 1088 ≤ held → 17472 ≤ work → nat_lt held 1088 || nat_lt work 17472 ≡ false
long_enough held work h w = or_from (nat_lt held 1088) (nat_lt work 17472) (le-ltb held 1088 h) (le-ltb work 17472 w)

-- a call that nothing is amiss with is done
call_done : (d : Database) (short : Bool) (h u : Letters) (c : LaneCall) (a : LaneAnswer) → short ≡ false → is_amiss d c ≡ false → Called d short h c a u → Done d h c a u
call_done d short h u c a long right called = subst (λ r. CalledBy r d h c a u) (ap₂ refusal_by long right) called

pub drive_done : (d : Database) (short : Bool) (h u : Letters) (n : ℕ) (x : Letter) (a : LaneAnswer) → short ≡ false → n < input_bits d → Called d short h (drive n x) a u → WasDriven n x h u
drive_done d short h u n x a long there called = (call_done d short h u (drive n x) a long (ap not (lt-ltb n (input_bits d) there)) called).1

-- one input more
pub drives_more : (n : ℕ) (x h u v : Letters) → Drives n x h u → WasDriven n (x n) u v → Drives (n + 1) x h v
drives_more n x h u v before one = record {
  inputs = λ p l. ⊎_elim (λ e. ap v e ∙ one.driven ∙ ap x (sym e)) (λ ne. one.others p ne ∙ before.inputs p (omega (arith, ne))) (cases_eq p n);
  kept = λ p l. one.others p (λ e. omega arith) ∙ before.kept p (omega arith);
}

-- where only rows in use changed, twice
pub only_in_twice : {X : Type 0} (InUse : ℕ → Type 0) (old mid new : List X) → OnlyIn InUse old mid → OnlyIn InUse mid new → OnlyIn InUse old new
only_in_twice InUse old mid new first second = record {
  length = second.length ∙ first.length;
  rows = λ r x unused. second.rows r x unused ∙ first.rows r x unused;
}

-- the letters that are settled are those of the clock
pub line_played : (d : Database) → Usable d → (x h v w u : Letters) → Drives (input_bits d) x h v → Settled d v w → Clocked d v u → PlaysLine d x h w u
line_played d usable x h v w u drives settled clocked = record {
  driven = v;
  inputs = drives.inputs;
  kept = drives.kept;
  settled = settled;
  follows =
      follows_same d usable (point_facts d) w clocked.letters
      (settled_related (λ a b. a ≡ b) equal_respects d usable (point_facts d) v v w clocked.letters (λ p l. refl) settled clocked.settled)
      v u clocked.follows;
}
