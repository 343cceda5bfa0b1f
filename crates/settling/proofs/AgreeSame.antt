-- Letters that agree on all rows in use obey the same rules. Assumes nothing.
use Rattle.std.proofs.Common.{◌≡◌, ℕ, ◌<◌, sym, ◌∙◌, arith}
use Rattle.level.specs.declared.letter.Letter.{Letter}
use Rattle.least.specs.Each.{IsRow}
use Rattle.database.specs.Rows.{Database, target, node}
use Rattle.database.specs.Codes.{sign_of}
use Rattle.control.specs.Points.{point_of, step_point}
use Rattle.control.specs.Letters.{Letters, node_letter}
use Rattle.control.specs.Rules.{driven, Settled, Follows}
use Rattle.control.specs.Laws.{Agree}
use Rattle.control.specs.Usable.{Usable}
use Rattle.settling.proofs.Agree.{Respects, PointFacts, NodeBy, SymbolBy, letter_related, driven_related, next_bit_related, passed_to_related}
use Rattle.settling.proofs.AgreeTurns.{names_row}
use Rattle.settling.proofs.AgreeNext.{steps_agree}
use Rattle.settling.proofs.Exists.{equal_respects}

module _ (R : Letter → Letter → Type 0) (ops : Respects R) (d : Database) (usable : Usable d) (facts : PointFacts d) (v w : Letters) (agree : Agree R d v w) where
  symbols_agree : (y : ℕ) → IsRow d.symbols y → SymbolBy R d v w y
  symbols_agree y row b wide = agree.points (point_of d y b) (let end = facts.ends y row in omega arith)

  nodes_agree : (n : ℕ) → IsRow d.nodes n → NodeBy R d v w n
  nodes_agree n row b wide = agree.nodes n b row wide

  -- the rules make related letters of letters that are related on all rows in use
  pub node_agrees : (n b : ℕ) → IsRow d.nodes n → b < (node d n).width → R (node_letter d v n b) (node_letter d w n b)
  node_agrees n b row wide =
      letter_related R ops d usable v w (sign_of (node d n).sign) (node d n) b wide (usable.nodes n row).made
      (λ e. symbols_agree (node d n).symbol (names_row d usable row e).0) (nodes_agree (node d n).left) (nodes_agree (node d n).right)

  pub driven_agrees : (y b : ℕ) → R (driven d v y b) (driven d w y b)
  driven_agrees y b =
      driven_related R ops d usable v w y b (steps_agree R ops d usable facts v w agree)
      (λ t row e. nodes_agree _ (usable.statements (target d t).statement (usable.targets t row).row).value)
      (λ t row e has. nodes_agree _ (has, (usable.statements (target d t).statement (usable.targets t row).row).condition))

module _ (d : Database) (usable : Usable d) (facts : PointFacts d) (v w : Letters) (agree : Agree (λ a b. a ≡ b) d v w) where
  -- letters that agree with settled ones are settled
  pub settled_same : (h : Letters) → Settled d h w → Settled d h v
  settled_same h s = record {
    held = λ p low. agree.points p (let within = facts.held_within in omega arith) ∙ s.held p low;
    steps = λ k row. agree.points (step_point d k) (omega (arith, row.0, row.1)) ∙ s.steps k row;
    nodes = λ n b row wide. agree.nodes n b row wide ∙ s.nodes n b row wide ∙ sym (node_agrees (λ a b. a ≡ b) equal_respects d usable facts v w agree n b row wide);
    driven = λ y b row high wide.
        agree.points (point_of d y b) (let end = facts.ends y row in omega arith) ∙ s.driven y b row high wide ∙ sym (driven_agrees (λ a b. a ≡ b) equal_respects d usable facts v w agree y b);
  }

  -- what follows letters follows those that agree with them
  pub follows_same : (h u : Letters) → Follows d w h u → Follows d v h u
  follows_same h u f =
      let steps = steps_agree (λ a b. a ≡ b) equal_respects d usable facts v w agree in
      let nodes = nodes_agree (λ a b. a ≡ b) equal_respects d usable facts v w agree in
      record {
        registers = λ y b row is wide.
            f.registers y b row is wide
            ∙ sym (next_bit_related (λ a b. a ≡ b) equal_respects d usable v w steps nodes y b (symbols_agree (λ a b. a ≡ b) equal_respects d usable facts v w agree y row b wide));
        steps = λ s row. f.steps s row ∙ sym (passed_to_related (λ a b. a ≡ b) equal_respects d usable v w steps nodes s row);
        inputs = f.inputs;
        others = f.others;
      }
