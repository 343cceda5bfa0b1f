-- The sign that is found is a right word. Assumes nothing.
use Rattle.std.proofs.Common.{refl}
use Rattle.words.proofs.Fronts.{sign_within, sign_right}
use Rattle.words.proofs.reader.first_sign.Goals as goal

pub overflow_sub-result : goal.overflow_sub-result
overflow_sub-result c = sign_within _ _ _ c.in-Some.ensures

pub returns : goal.returns
returns c = sign_right _ _ _ _ c.in-Some.ensures refl
