-- The rules and the rows of parts of a statement and of a step. Assumes nothing.
use Rattle.std.specs.Prelude.{ℕ, [], ◌∷◌, ◌++◌, length, Option, Some, None}
use Rattle.words.specs.declared.token.Sign.{Sign}
use Rattle.words.specs.declared.token.Sign.TheVariants.{Comma, LeftParen, RightParen, Slash, Star, Equal, Transfer as TransferSign}
use Rattle.grammar.specs.declared.draft.Condition.{Condition}
use Rattle.grammar.specs.declared.draft.StatementKind.{StatementKind}
use Rattle.grammar.specs.declared.draft.StatementKind.TheVariants.{Connection, Transfer}
use Rattle.grammar.specs.declared.draft.Leaving.TheVariants.{Conditions}
use Rattle.grammar.specs.Rules.{Rule, mark, integer, integers, ref, expr, either, ◌then◌}
use Rattle.grammar.specs.Trees.{Tree, mark_at, both, left, right}
use Rattle.grammar.specs.Drafts.{RowLists, with_target, with_exits, target_at, listed_at, exit_at, exit_rows, root, head_at, value_rows, condition_rows, condition_at, Left}

-- * (expr) <= expr
abbrev pub conditional : Rule
conditional = mark Star then mark LeftParen then expr then mark RightParen then mark TransferSign then expr

-- what stands behind the targets of a statement: = expr | <= expr | * (expr) <= expr
abbrev pub assignment : Rule
assignment = either (mark Equal then expr) (either (mark TransferSign then expr) conditional)

-- expr) / (list)
abbrev pub condition_branch : Rule
condition_branch = expr then mark RightParen then mark Slash then mark LeftParen then integers then mark RightParen

-- a comma and the target behind it
abbrev pub next_target_rows : Tree (mark Comma then ref) → RowLists → RowLists
next_target_rows (both (mark_at p) r) d = with_target d (target_at d (Some p) r)

-- a condition's node, and the rows with its nodes
abbrev pub condition_given : Tree expr → RowLists → ℕ × RowLists
condition_given e d = (root (condition_rows e d).terms, condition_rows e d)

-- a statement of which the place, the step, the kind and the condition are known
abbrev pub assigned_rows : ℕ → Option ℕ → StatementKind → Option Condition → {s : Sign} → Tree (mark s then expr) → RowLists → RowLists
assigned_rows p s k c (both (mark_at q) e) d = value_rows (head_at p s k c q) e d

-- statements of the step s at the place p
abbrev pub conditional_rows : ℕ → ℕ → Tree conditional → RowLists → RowLists
conditional_rows p s (both (mark_at q) (both o (both c (both z a)))) d =
    let after = condition_rows c d in
    assigned_rows p (Some s) Transfer (Some (condition_at q after)) a after

abbrev pub assignment_rows : ℕ → ℕ → Tree assignment → RowLists → RowLists
assignment_rows p s (left a) d = assigned_rows p (Some s) Connection None a d
assignment_rows p s (right (left a)) d = assigned_rows p (Some s) Transfer None a d
assignment_rows p s (right (right a)) d = conditional_rows p s a d

-- exits of the step s
abbrev pub one_exit : ℕ → Option ℕ → Tree integer → RowLists → RowLists
one_exit s c i d = with_exits d (d.exits ++ exit_at s (listed_at c i) ∷ [])

abbrev pub next_exit_rows : ℕ → Tree (mark Comma then integer) → RowLists → RowLists
next_exit_rows s (both (mark_at p) i) d = one_exit s (Some p) i d

abbrev pub exits_written : ℕ → Tree integers → RowLists → RowLists
exits_written s is d = with_exits d (exit_rows s is d.exits)

-- how the step s is left by a branch with a condition, and the rows with those of the branch
abbrev pub condition_branch_rows : ℕ → Tree condition_branch → RowLists → Left
condition_branch_rows s (both c (both z (both (mark_at p) (both q (both is y))))) d =
    let after = condition_rows c d in
    let all = exits_written s is after in
    (Conditions (condition_at p after) (length all.exits), all)
