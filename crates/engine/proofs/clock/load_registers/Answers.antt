use Rattle.std.proofs.Common.{◌≡◌, ◌+◌, ◌-◌, sym, ap, ◌∙◌, subst, arith}
use Rattle.std.proofs.lemmas.Bool.{false≢true}
use Rattle.database.specs.Codes.{class_of}
use Rattle.database.specs.Rows.{symbol}
use Rattle.control.specs.Databases.{rows_of}
use Rattle.control.specs.Levels.{OnlyIn, HeldRow}
use Rattle.control.specs.Points.{rank_of}
use Rattle.engine.specs.Inner.{Loads, RegistersRight}
use Rattle.engine.proofs.NextRows.{only_then}
use Rattle.engine.proofs.NextLoads.{memory_rank, loads_register, loads_other}
use Rattle.engine.proofs.clock.load_registers.Goals as goal
use Rattle.engine.proofs.clock.load_registers.Goals.{then-eq, else-eq}

pub loop-symbol-preserved : goal.loop-symbol-preserved
loop-symbol-preserved g c =
    let d = rows_of c.args.design.now.rows in
    let work = c.args.work.now in
    let old = c.args.held.now in
    let now = c.loop-symbol.held in
    let y = c.loop-symbol.symbol in
    let h = c.loop-symbol.invariant in
    let class = c.class_of.ensures ∙ ap (λ x. class_of x.class) (c.symbol.ensures ∙ ap (λ rows. symbol (rows_of rows) y) c.rows-in-loop-symbol.ensures) in
    elim c.if-eq.branch [
      | then-eq w ↦
          subst (λ xs. Loads g.L.Level d work old xs (RegistersRight d (y + 1 - 1)) × OnlyIn (HeldRow d) old xs) (sym w.held-is)
          (loads_register g.L.Level d work old now w.load_register.new.held y (omega arith) h.0 w.load_register.ensures.loads, only_then h.1 w.load_register.ensures.kept)
      | else-eq w ↦
          let other : ¬ (rank_of d y ≡ 2) = λ rank. (let memory = class ∙ memory_rank _ rank in false≢true (sym w.if-eq.false ∙ (rw memory at c.eq.ensures))) in
          subst (λ xs. Loads g.L.Level d work old xs (RegistersRight d (y + 1 - 1)) × OnlyIn (HeldRow d) old xs) (sym w.held-is)
          (loads_other g.L.Level d work old now y (omega arith) other h.0, h.1)
    ]
