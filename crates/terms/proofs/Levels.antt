-- The levels of an expression: operands that a sign parts, each but the first with a node behind it. Assumes nothing.
use Rattle.std.proofs.Common.{◌≡◌, ℕ, ◌<◌, List, length, Option, refl, ap, ◌∙◌}
use Rattle.words.specs.declared.token.Sign.{Sign}
use Rattle.words.specs.declared.token.Sign.TheVariants.{Comma, And, Or, Xor}
use Rattle.words.specs.declared.token.Token.{Token}
use Rattle.grammar.specs.declared.draft.Form.{Form}
use Rattle.grammar.specs.declared.draft.Gate.TheVariants.{And as AndGate, Or as OrGate, Xor as XorGate}
use Rattle.grammar.specs.declared.draft.Form.TheVariants.{Comma as CommaForm, Join}
use Rattle.grammar.specs.Rules.{Rule, mark, ◌then◌, many, list_of, prefix, and, xor, or}
use Rattle.grammar.specs.Trees.{Tree, mark_at, both, more, end}
use Rattle.grammar.specs.Reading.{got, read_word, read}
use Rattle.grammar.specs.Drafts.{TermLists, root, with_node, node_at, joined, prefix_rows, and_rows, xor_rows, or_rows, more_ors, more_xors, more_ands, more_prefixes}
use Rattle.cursor.specs.declared.stop.Stop.{Stop}
use Rattle.cursor.specs.declared.stop.Stop.TheVariants.{Unexpected}
use Rattle.cursor.specs.Told.{mark_place, Stopped}
use Rattle.cursor.proofs.Steps.{then_got, then_stop_second, Goes, goes_start}
use Rattle.cursor.proofs.MoreSteps.{list_turn, list_stop, list_end}

-- the sign, the operand, the form of a node, and the rows of an operand and of those behind the first
pub record Level : Type 0 where
  pub sign : Sign
  pub operand : Rule
  pub form : ℕ → ℕ → Form
  pub rows : Tree operand → Option ℕ → TermLists → TermLists
  pub others : Tree (many (mark sign then operand)) → Option ℕ → TermLists → TermLists
  pub last : (k : Option ℕ) (d : TermLists) → others end k d ≡ d
  pub first : (p : ℕ) (a : Tree operand) (u : Tree (many (mark sign then operand))) (k : Option ℕ) (d : TermLists) → others (more (both (mark_at p) a) u) k d ≡ others u k (joined p k form d (rows a k d))

abbrev pub commas : Level
commas = record { sign = Comma; operand = or; form = CommaForm; rows = or_rows; others = more_ors; last = λ k d. refl; first = λ p a u k d. refl }

abbrev pub ors : Level
ors = record { sign = Or; operand = xor; form = Join OrGate; rows = xor_rows; others = more_xors; last = λ k d. refl; first = λ p a u k d. refl }

abbrev pub xors : Level
xors = record { sign = Xor; operand = and; form = Join XorGate; rows = and_rows; others = more_ands; last = λ k d. refl; first = λ p a u k d. refl }

abbrev pub ands : Level
ands = record { sign = And; operand = prefix; form = Join AndGate; rows = prefix_rows; others = more_prefixes; last = λ k d. refl; first = λ p a u k d. refl }

module _ (v : Level) (n : ℕ) (k : Option ℕ) where
  -- an operand that is not the first, with its sign
  abbrev pub step : Tree (mark v.sign then v.operand) → TermLists → TermLists
  step (both m a) d = joined (mark_place m) k v.form d (v.rows a k d)

  step_first : (t : Tree (mark v.sign then v.operand)) (u : Tree (many (mark v.sign then v.operand))) (d : TermLists) → v.others (more t u) k d ≡ v.others u k (step t d)
  step_first (both (mark_at p) a) u d = v.first p a u k d

  -- the operands so far, behind the first
  abbrev pub Along : List Token → TermLists → List Token → TermLists → Type 0
  Along ws₀ d₀ ws d = Goes n (mark v.sign then v.operand) (λ t. v.others t k) step ws₀ d₀ ws d

  -- a sign that is taken, an operand that is read
  abbrev pub Taken : List Token → ℕ → List Token → Type 0
  Taken ws p us = (m : Tree (mark v.sign)) × (read_word (mark v.sign) ws ≡ got m us) × (p ≡ mark_place m)

  abbrev pub Operand : List Token → TermLists → List Token → TermLists → Type 0
  Operand ws before us after = (a : Tree v.operand) × (read n v.operand ws ≡ got a us) × (after ≡ v.rows a k before)

  pub along_start : (ws : List Token) (d : TermLists) → Along ws d ws d
  along_start ws d = goes_start n (mark v.sign then v.operand) (λ t. v.others t k) step ws d

  module _ (ws₀ ws : List Token) (d₀ d : TermLists) (along : Along ws₀ d₀ ws d) where
    pub along_turn : (p : ℕ) (us : List Token) → Taken ws p us → (vs : List Token) (mid : TermLists) → Operand us d vs mid → length vs < length us → (x y : ℕ) → x ≡ root d → y ≡ root mid → (after : TermLists) → after ≡ with_node mid (node_at p k (v.form x y)) → Along ws₀ d₀ vs after
    along_turn p us m vs mid a less x y f s after h =
        list_turn n v.sign v.operand (λ t. v.others t k) step ws₀ d₀ ws d along m.0 us m.1 step_first a.0 vs a.1 less after (rw (h, f, s, m.2, a.2) refl)

    -- from the first operand on
    module _ (ws_first : List Token) (d_first : TermLists) (a : Operand ws_first d_first ws₀ d₀) where
      pub along_stop : (p : ℕ) (us : List Token) → Taken ws p us → (e : Stop) (rest : List Token) → Stopped (read n v.operand us) e rest → Stopped (read n (list_of v.operand v.sign) ws_first) e rest
      along_stop p us m e rest h =
          then_stop_second n v.operand (many (mark v.sign then v.operand)) ws_first a.0 ws₀ a.1 e rest
          (list_stop n v.sign v.operand (λ t. v.others t k) step ws₀ d₀ ws d along m.0 us m.1 e rest h)

      pub along_end : (e : Stop) → e ≡ Unexpected → (rest : List Token) → Stopped (read_word (mark v.sign) ws) e rest → (t : Tree v.operand) × (u : Tree (many (mark v.sign then v.operand))) × (read n (list_of v.operand v.sign) ws_first ≡ got (both t u) rest) × (d ≡ v.others u k (v.rows t k d_first))
      along_end e stops rest h =
          let x = list_end n v.sign v.operand (λ t. v.others t k) step ws₀ d₀ ws d along (v.last k) e stops rest h in
          (a.0, x.0, then_got n v.operand (many (mark v.sign then v.operand)) ws_first a.0 ws₀ x.0 rest a.1 x.1, x.2 ∙ ap (v.others x.0 k) a.2)
