-- The rows of a whole are those of its parts. Assumes nothing.
use Rattle.std.proofs.Common.{◌≡◌, ℕ, None, refl}
use Rattle.words.specs.declared.token.Sign.TheVariants.{LeftParen, Equal, Branch}
use Rattle.grammar.specs.declared.draft.StatementKind.TheVariants.{Connection}
use Rattle.grammar.specs.Rules.{mark, expr, targets, ◌then◌}
use Rattle.grammar.specs.Trees.{Tree, mark_at, both, left, right, other}
use Rattle.grammar.specs.Drafts.{RowLists, targets_place, target_rows, conn_rows, stmt_rows, branch_rows}
use Rattle.statements.specs.Parts.{assignment, condition_branch, assigned_rows, assignment_rows, condition_branch_rows}

pub conn_are : (ts : Tree targets) (u : Tree (mark Equal then expr)) (d : RowLists) → conn_rows (both ts u) d ≡ assigned_rows (targets_place ts) None Connection None u (target_rows ts d)
conn_are ts (both (mark_at q) e) d = refl

pub stmt_are : (s : ℕ) (ts : Tree targets) (u : Tree assignment) (d : RowLists) → stmt_rows s (both ts u) d ≡ assignment_rows (targets_place ts) s u (target_rows ts d)
stmt_are s ts (left (both (mark_at q) e)) d = refl
stmt_are s ts (right (left (both (mark_at q) e))) d = refl
stmt_are s ts (right (right (both (mark_at p) (both o (both c (both z (both (mark_at q) e))))))) d = refl

-- a branch with a condition
pub conditions_are : (s : ℕ) (b : Tree (mark Branch)) (o : Tree (mark LeftParen)) (t : Tree condition_branch) (d : RowLists) → branch_rows s (both b (both o (other t))) d ≡ condition_branch_rows s t d
conditions_are s b o (both c (both z (both (mark_at p) (both q (both is y))))) d = refl
