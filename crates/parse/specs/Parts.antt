-- What is left of the rule of a module from some place on, and the rows that it makes. The rule is one long chain of words and
-- parts, so that a reader of its rest from a place on reads something under a rule again. Assumes nothing.
use Rattle.words.specs.declared.token.Sign.{Sign}
use Rattle.words.specs.declared.token.Sign.TheVariants.{Dot, Colon, Semicolon, LeftParen, RightParen, LeftBracket, RightBracket}
use Rattle.words.specs.declared.token.Keyword.TheVariants.{Body, Sequence, EndSequence, ControlReset, End}
use Rattle.grammar.specs.declared.draft.Name.{Name}
use Rattle.grammar.specs.declared.draft.Heading.{Heading}
use Rattle.grammar.specs.declared.draft.Class.{Class}
use Rattle.grammar.specs.Rules.{Rule, mark, keyword, name, integer, ◌then◌, maybe, many, integers, item, conn, step, decl, unit}
use Rattle.grammar.specs.Trees.{Tree, both}
use Rattle.grammar.specs.Drafts.{RowLists, name_of, with_item, item_of, decl_rows, more_decls, step_rows, more_steps, reset_rows, more_conns}

-- the width of a symbol, where one is written
abbrev pub width : Rule
width = maybe (mark LeftBracket then integer then mark RightBracket)

-- an item, as a row behind those that stand already
abbrev pub item_row : Class → Tree item → RowLists → RowLists
item_row c i d = with_item d (item_of c i)

-- the rows of what stands behind a sign
abbrev pub behind : {a : Rule} {s : Sign} → (Tree a → RowLists → RowLists) → Tree (mark s then a) → RowLists → RowLists
behind f (both p t) d = f t d

-- from behind the list of CONTROLRESET on
abbrev pub closing : Rule
closing = many (mark Semicolon then conn) then mark Dot then keyword End then mark Dot

abbrev pub closing_rows : Tree closing → RowLists → RowLists
closing_rows (both cs z) d = more_conns cs d

-- from ENDSEQUENCE on
abbrev pub reset : Rule
reset = keyword EndSequence then keyword ControlReset then mark LeftParen then integers then mark RightParen then closing

abbrev pub reset_and_closing_rows : Tree reset → RowLists → RowLists
reset_and_closing_rows (both i (both j (both l (both is (both m rest))))) d = closing_rows rest (reset_rows is d)

-- from the first step on
abbrev pub control : Rule
control = step then many step then reset

abbrev pub control_rows : Tree control → RowLists → RowLists
control_rows (both s (both ss rest)) d = reset_and_closing_rows rest (more_steps ss (step_rows s d))

-- from BODY on, with the clock's name
abbrev pub body : Rule
body = keyword Body then keyword Sequence then mark Colon then name then mark Dot then control

abbrev pub body_given : Tree body → RowLists → Name × RowLists
body_given (both e (both f (both g (both k (both h rest))))) d = (name_of k, control_rows rest d)

-- from the first declaration on, with the clock's name
abbrev pub contents : Rule
contents = decl then many decl then body

abbrev pub contents_given : Tree contents → RowLists → Name × RowLists
contents_given (both c (both cs rest)) d = body_given rest (more_decls cs (decl_rows c d))

-- the whole module, with its names
abbrev pub unit_given : Tree unit → RowLists → Heading × RowLists
unit_given (both a (both b (both n (both c rest)))) d = (record { title = name_of n; clock = (contents_given rest d).0 }, (contents_given rest d).1)
