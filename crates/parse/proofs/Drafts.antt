-- The draft of a module is what it gives where no rows stand. Assumes nothing.
use Rattle.std.proofs.Common.{◌≡◌, refl}
use Rattle.grammar.specs.Rules.{unit}
use Rattle.grammar.specs.Trees.{Tree, both}
use Rattle.grammar.specs.Drafts.{DraftLists, no_rows, draft_of}
use Rattle.parse.specs.Parts.{unit_given}

pub draft_is : (t : Tree unit) → ◌≡◌ {A = DraftLists} (record { heading = (unit_given t no_rows).0; rows = (unit_given t no_rows).1 }) (draft_of t)
unfolding draft_of
draft_is (both a (both b (both n (both c (both d (both ds (both e (both f (both g (both k (both h (both s (both ss (both i (both j (both l (both is (both m (both cs z))))))))))))))))))) = refl
