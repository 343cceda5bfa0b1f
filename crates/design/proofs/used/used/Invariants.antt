use Rattle.std.proofs.Common.{◌≡◌, ℕ, ◌<◌, ◌≤◌, length, get_or}
use Rattle.design.proofs.used.used.Given as goal

-- all rows from that length on are unused
abbrev pub invariant-loop-len : goal.invariant-loop-len
invariant-loop-len g l = record {
  within : l.len ≤ length l.table;
  unused : (k : ℕ) → l.len ≤ k → k < length l.table → get_or l.table k g.R.TableRow.unused ≡ g.R.TableRow.unused;
}

abbrev pub decreases-loop-len : goal.decreases-loop-len
decreases-loop-len g l = l.len
