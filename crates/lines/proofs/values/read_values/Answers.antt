use Rattle.std.proofs.Common.{◌≡◌, length, sym, ap, ◌∙◌, arith}
use Rattle.control.specs.Databases.{rows_of}
use Rattle.control.specs.Letters.{Letters}
use Rattle.lines.specs.Cursors.{from_list}
use Rattle.lines.specs.Lines.{value_line}
use Rattle.lines.proofs.ValueReads.{given, not_given}
use Rattle.lines.proofs.ValueLines.{input_read, input_passed, input_wrong, line_read, line_wrong}
use Rattle.lines.proofs.values.read_values.Goals as goal
use Rattle.lines.proofs.values.read_values.Goals.{then-is_of_class+in_ok-at, else-is_of_class}

pub returns-in_err-at-clause-wrong : goal.returns-in_err-at-clause-wrong
returns-in_err-at-clause-wrong c =
    let rows = ap (λ r. length r.symbols.now) c.rows.ensures in
    rw c.from_residual.ensures
    (input_wrong (rows_of c.args.design.now.rows) c.args.design.now.usable c.args.line.now c.loop-symbol.letters c.loop-symbol.symbol c.loop-symbol.at c.loop-symbol.invariant
    (omega arith, omega arith) (sym c.is_of_class.ensures ∙ c.if-is_of_class.true) c.in_err-at.ensures.wrong)

pub loop-symbol-preserved : goal.loop-symbol-preserved
loop-symbol-preserved c =
    let d = rows_of c.args.design.now.rows in
    let usable = c.args.design.now.usable in
    let line = c.args.line.now in
    let rows = ap (λ r. length r.symbols.now) c.rows.ensures in
    elim c.if-is_of_class.branch [
      | then-is_of_class+in_ok-at v ↦ rw (v.letters-is, v.at-is)
          (input_read d usable line c.loop-symbol.letters c.loop-symbol.symbol c.loop-symbol.at c.loop-symbol.invariant
          v.read_input.new.letters v.in_ok-at.at (omega arith, omega arith) (sym c.is_of_class.ensures ∙ v.if-is_of_class.true) v.read_input.ensures.kept v.in_ok-at.ensures.read)
      | else-is_of_class v ↦ rw (v.letters-is, v.at-is)
          (input_passed d usable line c.loop-symbol.letters c.loop-symbol.symbol c.loop-symbol.at c.loop-symbol.invariant
          (omega arith) (sym c.is_of_class.ensures ∙ v.if-is_of_class.false))
    ]

pub returns-clause-read : goal.returns-clause-read
returns-clause-read c =
    let d = rows_of c.args.design.now.rows in
    let line = c.args.line.now in
    let rows = ap (λ r. length r.symbols.now) c.rows.ensures in
    rw c.then_some.ensures
    (given c.ends_at.result c.loop-symbol.letters (λ letters. line ≡ value_line d (from_list letters))
    (λ ended. line_read d c.args.design.now.usable line c.loop-symbol.letters c.loop-symbol.symbol c.loop-symbol.at c.loop-symbol.invariant (omega arith) (c.ends_at.ensures.0 ended)))

pub returns-clause-wrong : goal.returns-clause-wrong
returns-clause-wrong c =
    let d = rows_of c.args.design.now.rows in
    let line = c.args.line.now in
    let rows = ap (λ r. length r.symbols.now) c.rows.ensures in
    rw c.then_some.ensures
    (not_given c.ends_at.result c.loop-symbol.letters ((x : Letters) → ¬ (line ≡ value_line d x))
    (λ more. line_wrong d c.args.design.now.usable line c.loop-symbol.letters c.loop-symbol.symbol c.loop-symbol.at c.loop-symbol.invariant (omega arith) (λ ended. more (c.ends_at.ensures.1 ended))))
