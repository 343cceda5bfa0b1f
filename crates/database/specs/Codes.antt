-- The codes that stand in rows. Assumes nothing.
use Rattle.std.specs.Prelude.{◌≡◌, ◌↔◌, ℕ, Bool, cond, Option, Some, None, ◌==◌}
use Rattle.grammar.specs.declared.draft.Class.{Class}
use Rattle.grammar.specs.declared.draft.Class.TheVariants.{Input, Output, Memory, Bus}
use Rattle.grammar.specs.declared.draft.StatementKind.{StatementKind}
use Rattle.grammar.specs.declared.draft.StatementKind.TheVariants.{Connection, Transfer}
use Rattle.database.specs.declared.codes.StepKind.{StepKind}
use Rattle.database.specs.declared.codes.StepKind.TheVariants.{Next, Branch, Conditions, DeadEnd}
use Rattle.database.specs.declared.codes.NodeSign.{NodeSign}
use Rattle.database.specs.declared.codes.NodeSign.TheVariants.{Name, Constant, Comma, And, Or, Xor, Not, AndReduce, OrReduce, XorReduce}

-- classes of symbols
abbrev pub class_code : Class → ℕ
class_code Input = 1
class_code Output = 2
class_code Memory = 3
class_code Bus = 4

abbrev pub class_of : ℕ → Option Class
class_of n = cond (n == 1) (Some Input) (cond (n == 2) (Some Output) (cond (n == 3) (Some Memory) (cond (n == 4) (Some Bus) None)))

-- kinds of steps
abbrev pub step_code : StepKind → ℕ
step_code Next = 1
step_code Branch = 2
step_code Conditions = 3
step_code DeadEnd = 4

abbrev pub step_kind : ℕ → Option StepKind
step_kind n = cond (n == 1) (Some Next) (cond (n == 2) (Some Branch) (cond (n == 3) (Some Conditions) (cond (n == 4) (Some DeadEnd) None)))

-- kinds of statements
abbrev pub statement_code : StatementKind → ℕ
statement_code Connection = 1
statement_code Transfer = 2

abbrev pub statement_kind : ℕ → Option StatementKind
statement_kind n = cond (n == 1) (Some Connection) (cond (n == 2) (Some Transfer) None)

-- signs of nodes
abbrev pub sign_code : NodeSign → ℕ
sign_code Name = 1
sign_code Constant = 2
sign_code Comma = 3
sign_code And = 4
sign_code Or = 5
sign_code Xor = 6
sign_code Not = 7
sign_code AndReduce = 8
sign_code OrReduce = 9
sign_code XorReduce = 10

abbrev pub sign_of : ℕ → Option NodeSign
sign_of n =
    cond (n == 1) (Some Name) (cond (n == 2) (Some Constant) (cond (n == 3) (Some Comma)
    (cond (n == 4) (Some And) (cond (n == 5) (Some Or) (cond (n == 6) (Some Xor) (cond (n == 7) (Some Not)
    (cond (n == 8) (Some AndReduce) (cond (n == 9) (Some OrReduce) (cond (n == 10) (Some XorReduce) None)))))))))

-- a mark is 1 or 0
abbrev pub mark : Bool → ℕ
mark b = cond b 1 0

-- A number is read as what it is the code of, and as nothing else.
abbrev pub ReadsBack : {A : Type 0} → (A → ℕ) → (ℕ → Option A) → Type 0
ReadsBack code read = (n : ℕ) (x : _) → (read n ≡ Some x) ↔ (n ≡ code x)

pub record CodeLaws : Type 0 where
  pub classes : ReadsBack class_code class_of
  pub steps : ReadsBack step_code step_kind
  pub statements : ReadsBack statement_code statement_kind
  pub signs : ReadsBack sign_code sign_of
