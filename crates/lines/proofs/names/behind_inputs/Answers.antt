use Rattle.std.proofs.Common.{◌↔◌, ◌+◌, ◌++◌, [], ◌∷◌, map, length, sym, ap, ◌∙◌, subst, arith}
use Rattle.grammar.specs.declared.draft.Class.TheVariants.{Input}
use Rattle.control.specs.Databases.{rows_of}
use Rattle.lines.specs.Lines.{NamesInputs, upper}
use Rattle.lines.specs.NameLines.{names_behind, opened}
use Rattle.lines.proofs.NameInputs.{Left, all_left, no_space, no_name, name_passed}
use Rattle.lines.proofs.NameRows.{none_left}
use Rattle.lines.proofs.names.behind_inputs.Goals as goal
use Rattle.lines.proofs.names.behind_inputs.Goals.{in-Some+in_ok-behind+in_ok-rest, in_default}

pub loop-index-init : goal.loop-index-init
loop-index-init c = all_left c.args.design.now.text.now (rows_of c.args.design.now.rows) c.args.line.now

pub returns-in_err-behind : goal.returns-in_err-behind
returns-in_err-behind c =
    let names = names_behind c.args.design.now.text.now (rows_of c.args.design.now.rows) Input in
    rw c.from_residual.ensures
    (no_space (NamesInputs c.args.design.now.text.now (rows_of c.args.design.now.rows) c.args.line.now) c.loop-index.rest.now c.loop-index.space.now c.in-Some.name.now (names c.loop-index.index) (names (c.loop-index.index + 1)) c.in-Some.ensures
    c.loop-index.invariant.0 c.in_err-behind.ensures)

pub returns-in_err-rest : goal.returns-in_err-rest
returns-in_err-rest c =
    let names = names_behind c.args.design.now.text.now (rows_of c.args.design.now.rows) Input in
    rw c.from_residual-in_err-rest.ensures
    (no_name (NamesInputs c.args.design.now.text.now (rows_of c.args.design.now.rows) c.args.line.now) c.loop-index.rest.now c.loop-index.space.now c.in-Some.name.now (names c.loop-index.index) (names (c.loop-index.index + 1)) c.in-Some.ensures
    c.in_ok-behind.field-0.now c.loop-index.invariant.0 c.in_ok-behind.ensures c.in_err-rest.ensures)

pub loop-index-preserved : goal.loop-index-preserved
loop-index-preserved c =
    let whole = NamesInputs c.args.design.now.text.now (rows_of c.args.design.now.rows) c.args.line.now in
    let names = names_behind c.args.design.now.text.now (rows_of c.args.design.now.rows) Input in
    let next = c.loop-index.index + 1 in
    elim c.match-name_in.branch [
      | in-Some+in_ok-behind+in_ok-rest w ↦
          let passed = name_passed whole c.loop-index.rest.now c.loop-index.space.now w.in-Some.name.now (names c.loop-index.index) (names next) w.in-Some.ensures
          w.in_ok-behind.field-0.now w.in_ok-rest.rest.now c.loop-index.invariant w.in_ok-behind.ensures w.in_ok-rest.ensures in
          rw (w.rest-is, w.space-is) passed
      | in_default w ↦ rw (w.rest-is, w.space-is) (subst (λ ns. whole ↔ Left c.loop-index.rest.now c.loop-index.space.now ns) w.in_default.ensures c.loop-index.invariant)
    ]

pub returns : goal.returns
returns c =
    let text = c.args.design.now.text.now in
    let rows = rows_of c.args.design.now.rows in
    let counted = ap (λ t. length t.symbols.now) c.rows.ensures in
    let left = ap (λ ns. opened (map upper c.loop-index.space.now) ns ++ 10 ∷ []) (none_left text rows Input c.loop-index.index (omega arith)) in
    (λ w. c.loop-index.invariant.0 w ∙ left, λ e. c.loop-index.invariant.1 (e ∙ sym left))
