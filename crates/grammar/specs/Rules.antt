-- The grammar of a module. Assumes nothing.
use Rattle.words.specs.declared.token.Sign.{Sign}
use Rattle.words.specs.declared.token.Sign.TheVariants.{Dot, Colon, Semicolon, Comma, LeftParen, RightParen, LeftBracket, RightBracket, Slash, Backslash, Dollar, And, Or, Xor, Not, Star, Equal, Transfer, Branch, AndReduce, OrReduce, XorReduce}
use Rattle.words.specs.declared.token.Keyword.{Keyword}
use Rattle.words.specs.declared.token.Keyword.TheVariants.{Module, Inputs, Outputs, Memory, Buses, Body, Sequence, EndSequence, ControlReset, Null, DeadEnd, End}

infixr 20 ◌then◌
-- the two parts of an expression that nest one deeper
pub data Part : Type 0 where
  -- ( expr )
  group : Part
  -- a prefix sign with its operand
  signed : Part

-- what may stand in a place of the grammar
pub data Rule : Type 0 where
  -- that sign, that capital word, a name, an integer
  mark : Sign → Rule
  keyword : Keyword → Rule
  name : Rule
  integer : Rule
  -- one behind the other
  ◌then◌ : Rule → Rule → Rule
  -- a, or nothing
  maybe : Rule → Rule
  -- {a}: any number of times
  many : Rule → Rule
  -- a | b; the first word tells which
  either : Rule → Rule → Rule
  -- a | b; the first two words tell which
  fork : Rule → Rule → Rule
  -- {a s} a | {a s} b
  series : Rule → Sign → Rule → Rule
  -- a part that nests one deeper
  part : Part → Rule

-- a {s a}
abbrev pub list_of : Rule → Sign → Rule
list_of a s = a then many (mark s then a)

-- list: integer {, integer}
abbrev pub integers : Rule
integers = list_of integer Comma

-- item: name | name [integer]
abbrev pub item : Rule
item = name then maybe (mark LeftBracket then integer then mark RightBracket)

-- ref: item | name [integer : integer]
abbrev pub ref : Rule
ref = name then maybe (mark LeftBracket then integer then maybe (mark Colon then integer) then mark RightBracket)

-- primary: ref | \ list \ | integer $ integer | (expr)
abbrev pub primary : Rule
primary =
    either ref
    (either (mark Backslash then integers then mark Backslash)
    (either (integer then mark Dollar then integer)
    (part group)))

-- ^ | &/ | +/ | @/
abbrev pub prefix_sign : Rule
prefix_sign = either (mark Not) (either (mark AndReduce) (either (mark OrReduce) (mark XorReduce)))

-- prefix: {^ | &/ | +/ | @/} primary, each sign nesting what follows it
abbrev pub prefix : Rule
prefix = either (part signed) primary

-- and: prefix {& prefix}
abbrev pub and : Rule
and = list_of prefix And

-- xor: and {@ and}
abbrev pub xor : Rule
xor = list_of and Xor

-- or: xor {+ xor}
abbrev pub or : Rule
or = list_of xor Or

-- expr: or {, or}
abbrev pub expr : Rule
expr = list_of or Comma

-- what a nesting part consists of
abbrev pub inside : Part → Rule
inside group = mark LeftParen then expr then mark RightParen
inside signed = prefix_sign then prefix

-- targets: ref {, ref}
abbrev pub targets : Rule
targets = list_of ref Comma

-- conn: targets = expr
abbrev pub conn : Rule
conn = targets then mark Equal then expr

-- stmt: conn | targets <= expr | targets * (expr) <= expr
abbrev pub stmt : Rule
stmt =
    targets then
    either (mark Equal then expr)
    (either (mark Transfer then expr)
    (mark Star then mark LeftParen then expr then mark RightParen then mark Transfer then expr))

-- branch: => (list) | => (expr) / (list)
abbrev pub branch : Rule
branch =
    mark Branch then mark LeftParen then
    fork (integers then mark RightParen)
    (expr then mark RightParen then mark Slash then mark LeftParen then integers then mark RightParen)

-- action: NULL | DEADEND | {stmt ;} stmt | {stmt ;} branch
abbrev pub action : Rule
action = either (keyword Null) (either (keyword DeadEnd) (series stmt Semicolon branch))

-- step: integer action .
abbrev pub step : Rule
step = integer then action then mark Dot

-- class: INPUTS | OUTPUTS | MEMORY | BUSES
abbrev pub class : Rule
class = either (keyword Inputs) (either (keyword Outputs) (either (keyword Memory) (keyword Buses)))

-- decl: class : item {; item} .
abbrev pub decl : Rule
decl = class then mark Colon then list_of item Semicolon then mark Dot

-- module: MODULE : name . decl {decl} BODY SEQUENCE : name . step {step}
--   ENDSEQUENCE CONTROLRESET (list) {; conn} . END .
abbrev pub unit : Rule
unit =
    keyword Module then mark Colon then name then mark Dot then decl then many decl then
    keyword Body then keyword Sequence then mark Colon then name then mark Dot then step then many step then
    keyword EndSequence then keyword ControlReset then mark LeftParen then integers then mark RightParen then
    many (mark Semicolon then conn) then mark Dot then keyword End then mark Dot
