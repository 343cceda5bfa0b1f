use Rattle.std.proofs.Common.{[], ◌∷◌, length, vec_items, ap, ◌∙◌, arith}
use Rattle.std.proofs.lemmas.Grind.{common_steps}
use Rattle.std.proofs.lemmas.List.{get_or_push, length_push}
use Rattle.level.specs.declared.letter.Letter.{Letter}
use Rattle.cells.specs.Read.{gate_letter}
use Rattle.cells.specs.Laws.{letters_length}
use Rattle.cells.proofs.Letters.{letters_push}
use Rattle.cells.proofs.Parts.{one_cell}
use Rattle.cells.proofs.part.PartCell.expand.Goals as goal

pub returns-clause-expanded : goal.returns-clause-expanded
returns-clause-expanded c =
    let cells = vec_items c.args.cells.now.list in
    let new = vec_items c.push.new.self.list in
    let part = c.args.part in
    let signal = c.push.result in
    record {
      more = part ∷ [];
      grown = c.push.ensures.items;
      few = omega (arith, one_cell part.kind);
      last = omega (arith, c.push.ensures.at, ap length c.push.ensures.items ∙ length_push cells part);
      sound = λ old n d h. grind (arith, common_steps, old n d);
      means = λ leaves.
          let e = letters_length gate_letter leaves cells [] in
          grind (arith, c.push.ensures.items, c.push.ensures.at, letters_push gate_letter leaves cells part, get_or_push {X = Letter});
    }
