-- The laws of letters on which later proofs rest. Assumes nothing.
use Rattle.std.specs.Prelude.{◌≡◌}
use Rattle.level.specs.declared.letter.Letter.{Letter}
use Rattle.level.specs.Letters.{zero_l, one_l, not_l, and_l, or_l, xor_l}
use Rattle.level.specs.Order.{MayBecome}

-- an operation in which neither the grouping, the order nor the repetition of its operands counts, with its unit
pub record Join (op : Letter → Letter → Letter) (unit : Letter) : Type 0 where
  pub assoc : (a b c : Letter) → op (op a b) c ≡ op a (op b c)
  pub comm : (a b : Letter) → op a b ≡ op b a
  pub idem : (a : Letter) → op a a ≡ a
  pub identity : (a : Letter) → op unit a ≡ a

-- an operation that never turns a known letter when an X among its operands becomes known
abbrev pub Keeps : (Letter → Letter → Letter) → Type 0
Keeps op = (a b c d : Letter) → MayBecome a b → MayBecome c d → MayBecome (op a c) (op b d)

pub record LetterLaws : Type 0 where
  pub or_joins : Join or_l zero_l
  pub and_joins : Join and_l one_l
  pub becomes_refl : (a : Letter) → MayBecome a a
  pub becomes_trans : (a b c : Letter) → MayBecome a b → MayBecome b c → MayBecome a c
  pub becomes_antisym : (a b : Letter) → MayBecome a b → MayBecome b a → a ≡ b
  pub not_keeps : (a b : Letter) → MayBecome a b → MayBecome (not_l a) (not_l b)
  pub and_keeps : Keeps and_l
  pub or_keeps : Keeps or_l
  pub xor_keeps : Keeps xor_l
