use Rattle.std.proofs.Common.{◌+◌, [], ◌∷◌, map, length, ap, sym, subst, ◌∙◌, arith}
use Rattle.std.proofs.lemmas.List.{length-map}
use Rattle.control.specs.Databases.{rows_of}
use Rattle.lines.specs.Cursors.{spaced_behind}
use Rattle.lines.specs.Lines.{upper, names_of}
use Rattle.lines.specs.NameLines.{names_behind, written_at}
use Rattle.lines.proofs.NameRows.{none_left}
use Rattle.lines.proofs.NameWrites.{Writing, all_written, part_written}
use Rattle.lines.proofs.names.put_names.Goals as goal
use Rattle.lines.proofs.names.put_names.Goals.{in-Some, in_default}

pub loop-index-preserved : goal.loop-index-preserved
loop-index-preserved c =
    let names = names_behind c.args.design.now.text.now (rows_of c.args.design.now.rows) c.args.class in
    let room = length c.args.output.now in
    let all = spaced_behind (names_of c.args.design.now.text.now (rows_of c.args.design.now.rows) c.args.class) in
    let end = c.args.at + length all in
    let done = written_at c.args.output.now c.args.at all in
    let more = spaced_behind (names (c.loop-index.index + 1)) in
    elim c.match-name_in.branch [
      | in-Some w ↦
          let name = map upper w.in-Some.name.now in
          let space = 32 ∷ [] in
          let left = subst (λ ns. Writing c.loop-index.output c.loop-index.end (spaced_behind ns) done end room) w.in-Some.ensures c.loop-index.invariant in
          let behind_name = w.put-end.ensures.end ∙ ap (λ n. c.loop-index.end + n) (sym (length-map w.in-Some.name.now upper)) in
          let named = part_written c.loop-index.output w.put-end.new.output c.loop-index.end w.put-end.result name (32 ∷ more) done end room c.requires left behind_name w.put-end.ensures.written in
          rw (w.output-is, w.end-is)
          (part_written w.put-end.new.output w.put-end-in-Some.new.output w.put-end.result w.put-end-in-Some.result space more done end room c.requires named w.put-end-in-Some.ensures.end w.put-end-in-Some.ensures.written)
      | in_default w ↦
          rw (w.output-is, w.end-is) (subst (λ ns. Writing c.loop-index.output c.loop-index.end (spaced_behind ns) done end room) w.in_default.ensures c.loop-index.invariant)
    ]

pub returns-clause-written : goal.returns-clause-written
returns-clause-written c =
    let text = c.args.design.now.text.now in
    let rows = rows_of c.args.design.now.rows in
    let counted = ap (λ t. length t.symbols.now) c.rows.ensures in
    (all_written c.loop-index.output c.loop-index.end _ _ _ _ (ap spaced_behind (none_left text rows c.args.class c.loop-index.index (omega arith))) c.loop-index.invariant).0

pub returns-clause-end : goal.returns-clause-end
returns-clause-end c =
    let text = c.args.design.now.text.now in
    let rows = rows_of c.args.design.now.rows in
    let counted = ap (λ t. length t.symbols.now) c.rows.ensures in
    (all_written c.loop-index.output c.loop-index.end _ _ _ _ (ap spaced_behind (none_left text rows c.args.class c.loop-index.index (omega arith))) c.loop-index.invariant).1
