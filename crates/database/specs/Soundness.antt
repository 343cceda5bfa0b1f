-- Which rows can be relied on, whether or not some text says them. Assumes nothing.
use Rattle.std.specs.Prelude.{◌≡◌, ◌⊎◌, ℕ, ◌+◌, ◌-◌, ◌^◌, ◌<◌, ◌≤◌, max, true, cond, ◌==◌, List, [], ◌∷◌, ◌++◌, length, Option, Some, None, IsSome, sum_by, All, Contains}
use Rattle.grammar.specs.declared.draft.Class.{Class}
use Rattle.grammar.specs.declared.draft.Class.TheVariants.{Bus}
use Rattle.grammar.specs.declared.draft.StatementKind.{StatementKind}
use Rattle.grammar.specs.declared.draft.StatementKind.TheVariants.{Connection, Transfer}
use Rattle.least.specs.Each.{IsRow}
use Rattle.symbols.specs.declared.references.Standing.{Standing}
use Rattle.symbols.specs.declared.references.Standing.TheVariants.{Read}
use Rattle.symbols.specs.Items.{most_bits, most_symbols, most_declared_bits}
use Rattle.symbols.specs.References.{may_stand}
use Rattle.rules.specs.Targets.{most_targets, standing_by}
use Rattle.rules.specs.Nodes.{most_nodes}
use Rattle.rules.specs.Steps.{most_steps, most_statements, most_exits}
use Rattle.database.specs.declared.codes.StepKind.{StepKind}
use Rattle.database.specs.declared.codes.StepKind.TheVariants.{Next, Branch, Conditions, DeadEnd}
use Rattle.database.specs.declared.codes.NodeSign.{NodeSign}
use Rattle.database.specs.declared.codes.NodeSign.TheVariants.{Name, Constant, Comma, And, Or, Xor, Not, AndReduce, OrReduce, XorReduce}
use Rattle.database.specs.declared.rows.SymbolRow.{SymbolRow}
use Rattle.database.specs.declared.rows.StepRow.{StepRow}
use Rattle.database.specs.declared.rows.StatementRow.{StatementRow}
use Rattle.database.specs.declared.rows.TargetRow.{TargetRow}
use Rattle.database.specs.declared.rows.ExitRow.{ExitRow}
use Rattle.database.specs.declared.rows.NodeRow.{NodeRow}
use Rattle.database.specs.Codes.{class_of, step_kind, statement_kind, sign_of}
use Rattle.database.specs.Rows.{Database, symbol, step, statement, target, exit, node}
use Rattle.database.specs.Expressions.{Expressions, shapes}

-- 1 to 32 bits
abbrev pub IsWidth : ℕ → Type 0
IsWidth n = (1 ≤ n) × (n ≤ most_bits)

-- no table holds more rows than its size
pub record Few (d : Database) : Type 0 where
  pub symbols : length d.symbols ≤ most_symbols
  pub steps : length d.steps ≤ most_steps
  pub statements : length d.statements ≤ most_statements
  pub targets : length d.targets ≤ most_targets
  pub exits : length d.exits ≤ most_exits
  pub nodes : length d.nodes ≤ most_nodes

-- a symbol has a class and a width, and its name is a part of a text of so many bytes, and not an empty one
pub record SymbolSound (bytes : ℕ) (x : SymbolRow) : Type 0 where
  pub class : IsSome (class_of x.class)
  pub width : IsWidth x.width
  pub named : 1 ≤ x.length
  pub name : x.place + x.length ≤ bytes

-- a name stands for a symbol of a class that can stand so, and for some of its bits
abbrev pub ClassStands : Standing → Option Class → Type 0
ClassStands s None = ⊥
ClassStands s (Some c) = may_stand s c ≡ true

pub record NamesBits (d : Database) (s : Standing) (number first last : ℕ) : Type 0 where
  pub there : IsRow d.symbols number
  pub stands : ClassStands s (class_of (symbol d number).class)
  pub forward : first ≤ last
  pub within : last < (symbol d number).width

-- a step is left in one of the four ways; only a branch with conditions has a node for them
abbrev pub LeavesBy : Option StepKind → ℕ → Type 0
LeavesBy None condition = ⊥
LeavesBy (Some Next) condition = condition ≡ 0
LeavesBy (Some Branch) condition = condition ≡ 0
LeavesBy (Some Conditions) condition = 1 ≤ condition
LeavesBy (Some DeadEnd) condition = condition ≡ 0

pub record StepSound (x : StepRow) : Type 0 where
  pub leaves : LeavesBy (step_kind x.kind) x.condition
  pub mark : x.reset ≤ 1

-- the last step is left by a branch without conditions, or not at all
abbrev pub Closes : Option StepKind → Type 0
Closes None = ⊥
Closes (Some Next) = ⊥
Closes (Some Branch) = Unit {0}
Closes (Some Conditions) = ⊥
Closes (Some DeadEnd) = Unit {0}

-- A connection has no condition. A transfer stands in a step, and a condition of it has one bit.
abbrev pub StatementBy : Option StatementKind → Database → StatementRow → Type 0
StatementBy None d s = ⊥
StatementBy (Some Connection) d s = s.condition ≡ 0
StatementBy (Some Transfer) d s = (1 ≤ s.step) × ((s.condition ≡ 0) ⊎ ((node d s.condition).width ≡ 1))

pub record StatementSound (d : Database) (s : StatementRow) : Type 0 where
  pub step : s.step ≤ length d.steps
  pub kind : StatementBy (statement_kind s.kind) d s

-- a target stands as the kind of its statement has it
abbrev pub TargetBy : Option StatementKind → Database → TargetRow → Type 0
TargetBy None d t = ⊥
TargetBy (Some k) d t = NamesBits d (standing_by k) t.symbol t.first t.last

abbrev pub TargetSound : Database → TargetRow → Type 0
TargetSound d t = TargetBy (statement_kind (statement d t.statement).kind) d t

-- both steps of an exit are there
pub record ExitSound (d : Database) (e : ExitRow) : Type 0 where
  pub left : IsRow d.steps e.left
  pub entered : IsRow d.steps e.entered

-- no name, and no value
abbrev pub NoName : NodeRow → Type 0
NoName x = (x.symbol ≡ 0) × (x.first ≡ 0) × (x.last ≡ 0)

abbrev pub Operator : NodeRow → Type 0
Operator x = NoName x × (x.value ≡ 0)

-- two sides are joined bit by bit
abbrev pub Joins : ℕ → ℕ → ℕ → Type 0
Joins a b width = ((a ≡ b) ⊎ ((a ≡ 1) ⊎ (b ≡ 1))) × (width ≡ max a b)

-- what a node of each sign keeps, by the widths of its operands
abbrev pub NodeBy : Option NodeSign → Database → NodeRow → ℕ → ℕ → Type 0
NodeBy None d x a b = ⊥
NodeBy (Some Name) d x a b = NamesBits d Read x.symbol x.first x.last × (x.width ≡ x.last - x.first + 1) × (x.value ≡ 0)
NodeBy (Some Constant) d x a b = NoName x × (x.value < 2 ^ x.width)
NodeBy (Some Comma) d x a b = Operator x × (x.width ≡ a + b)
NodeBy (Some And) d x a b = Operator x × Joins a b x.width
NodeBy (Some Or) d x a b = Operator x × Joins a b x.width
NodeBy (Some Xor) d x a b = Operator x × Joins a b x.width
NodeBy (Some Not) d x a b = Operator x × (x.width ≡ a)
NodeBy (Some AndReduce) d x a b = Operator x × (x.width ≡ 1)
NodeBy (Some OrReduce) d x a b = Operator x × (x.width ≡ 1)
NodeBy (Some XorReduce) d x a b = Operator x × (x.width ≡ 1)

pub record NodeSound (d : Database) (x : NodeRow) : Type 0 where
  pub width : IsWidth x.width
  pub kept : NodeBy (sign_of x.sign) d x (node d x.left).width (node d x.right).width

-- a node, or one below it, names the symbol
pub data Reads (d : Database) : ℕ → ℕ → Type 0 where
  named : {n y : ℕ} → IsRow d.nodes n → sign_of (node d n).sign ≡ Some Name → (node d n).symbol ≡ y → Reads d n y
  left : {n y : ℕ} → IsRow d.nodes n → Reads d (node d n).left y → Reads d n y
  right : {n y : ℕ} → IsRow d.nodes n → Reads d (node d n).right y → Reads d n y

abbrev pub IsBus : Database → ℕ → Type 0
IsBus d n = class_of (symbol d n).class ≡ Some Bus

abbrev pub target_width : TargetRow → ℕ
target_width t = t.last - t.first + 1

-- The targets of a statement. They are as wide as its value; and where one is a bus, the value reads only buses declared before it.
pub record SideSound (d : Database) (s : StatementRow) (targets : List TargetRow) : Type 0 where
  pub wide : sum_by target_width targets ≡ (node d s.value).width
  pub order : (t : TargetRow) → Contains targets t → IsBus d t.symbol → (y : ℕ) → Reads d s.value y → IsBus d y → y < t.symbol

-- the targets are those of the statements from that number on, in their order
abbrev pub TargetsLaid : Database → ℕ → List StatementRow → List TargetRow → Type 0
TargetsLaid d n [] targets = targets ≡ []
TargetsLaid d n (s ∷ ss) targets =
    (own : List TargetRow) × (others : List TargetRow) × (targets ≡ own ++ others)
    × All (λ t. t.statement ≡ n) own × SideSound d s own × TargetsLaid d (n + 1) ss others

-- how many exits a step has: as many as its conditions have bits, one or more of a branch without conditions, else none
abbrev pub HasExits : Option StepKind → Database → StepRow → ℕ → Type 0
HasExits None d x exits = ⊥
HasExits (Some Next) d x exits = exits ≡ 0
HasExits (Some Branch) d x exits = 1 ≤ exits
HasExits (Some Conditions) d x exits = exits ≡ (node d x.condition).width
HasExits (Some DeadEnd) d x exits = exits ≡ 0

-- the roots of the expressions of a statement, of some statements, of a step's own conditions, in the order of the text
abbrev pub root : ℕ → List ℕ
root n = cond (n == 0) [] (n ∷ [])

abbrev pub statement_roots : List StatementRow → List ℕ
statement_roots [] = []
statement_roots (s ∷ ss) = root s.condition ++ s.value ∷ statement_roots ss

-- The statements, the exits and the nodes are those of the steps from that number on, in their order: of each step its statements,
-- with the nodes of their conditions and values, then the nodes of its own conditions, and its exits. Behind all steps stand the
-- statements of none. The nodes are those behind `before`, up to `end`.
abbrev pub StepsLaid : Database → ℕ → List StepRow → List StatementRow → List ExitRow → ℕ → ℕ → Type 0
StepsLaid d n [] statements exits before end =
    All (λ s. s.step ≡ 0) statements × (exits ≡ []) × Expressions (shapes d) before (statement_roots statements) end
StepsLaid d n (x ∷ xs) statements exits before end =
    (own : List StatementRow) × (others : List StatementRow) × (statements ≡ own ++ others) × All (λ s. s.step ≡ n) own
    × (left : List ExitRow) × (more : List ExitRow) × (exits ≡ left ++ more) × All (λ e. e.left ≡ n) left × HasExits (step_kind x.kind) d x (length left)
    × (between : ℕ) × Expressions (shapes d) before (statement_roots own ++ root x.condition) between
    × StepsLaid d (n + 1) xs others more between end

-- The soundness of a database whose names are parts of a text of so many bytes: each code is one of those listed, each number in a
-- row names a row that is there, unused columns are 0; rows stand in the order of a text, the names of symbols one behind the other; each
-- node is used once and behind its operands; widths agree; and buses are read in order.
pub record Sound (bytes : ℕ) (d : Database) : Type 0 where
  pub few : Few d
  pub symbols : (n : ℕ) → IsRow d.symbols n → SymbolSound bytes (symbol d n)
  pub in_order : (n : ℕ) → IsRow d.symbols n → IsRow d.symbols (n + 1) → (symbol d n).place + (symbol d n).length ≤ (symbol d (n + 1)).place
  pub bits : sum_by (λ x. x.width) d.symbols ≤ most_declared_bits
  pub some_step : 1 ≤ length d.steps
  pub steps : (n : ℕ) → IsRow d.steps n → StepSound (step d n)
  pub closes : Closes (step_kind (step d (length d.steps)).kind)
  pub statements : (n : ℕ) → IsRow d.statements n → StatementSound d (statement d n)
  pub targets : (n : ℕ) → IsRow d.targets n → TargetSound d (target d n)
  pub exits : (n : ℕ) → IsRow d.exits n → ExitSound d (exit d n)
  pub nodes : (n : ℕ) → IsRow d.nodes n → NodeSound d (node d n)
  pub laid : StepsLaid d 1 d.steps d.statements d.exits 0 (length d.nodes)
  pub sides : TargetsLaid d 1 d.statements d.targets
