-- The answers of the cases, computed. Assumes nothing.
use Rattle.std.proofs.Common.{◌≡◌, true, [], None, refl}
use Rattle.text.specs.Worked.{pace_database, strings_database}
use Rattle.control.specs.Points.{sum_up_to, base, all_bits, input_bits, held_bits, offset, place}
use Rattle.control.specs.Letters.{joined}
use Rattle.control.specs.Rules.{over_targets, over_exits}
use Rattle.worked_runs.specs.Cases.{paced, unknown_input, refusals, together, swapped, forked, stringed, kept, doubted, bussed, calls, answers}
use Rattle.worked_runs.proofs.Databases.{one_input_database, together_database, swapped_database, forked_database, kept_database, doubted_database, bussed_database}
use Rattle.worked_runs.proofs.Playing.{plays}

pub paced_plays : plays pace_database (calls paced) (answers paced) [] None ≡ true
unfolding sum_up_to base all_bits input_bits held_bits offset place joined over_targets over_exits
paced_plays = refl

pub unknown_input_plays : plays one_input_database (calls unknown_input) (answers unknown_input) [] None ≡ true
unfolding sum_up_to base all_bits input_bits held_bits offset place joined over_targets over_exits
unknown_input_plays = refl

pub refusals_plays : plays one_input_database (calls refusals) (answers refusals) [] None ≡ true
unfolding sum_up_to base all_bits input_bits held_bits offset place joined over_targets over_exits
refusals_plays = refl

pub together_plays : plays together_database (calls together) (answers together) [] None ≡ true
unfolding sum_up_to base all_bits input_bits held_bits offset place joined over_targets over_exits
together_plays = refl

pub swapped_plays : plays swapped_database (calls swapped) (answers swapped) [] None ≡ true
unfolding sum_up_to base all_bits input_bits held_bits offset place joined over_targets over_exits
swapped_plays = refl

pub forked_plays : plays forked_database (calls forked) (answers forked) [] None ≡ true
unfolding sum_up_to base all_bits input_bits held_bits offset place joined over_targets over_exits
forked_plays = refl

pub stringed_plays : plays strings_database (calls stringed) (answers stringed) [] None ≡ true
unfolding sum_up_to base all_bits input_bits held_bits offset place joined over_targets over_exits
stringed_plays = refl

pub kept_plays : plays kept_database (calls kept) (answers kept) [] None ≡ true
unfolding sum_up_to base all_bits input_bits held_bits offset place joined over_targets over_exits
kept_plays = refl

pub doubted_plays : plays doubted_database (calls doubted) (answers doubted) [] None ≡ true
unfolding sum_up_to base all_bits input_bits held_bits offset place joined over_targets over_exits
doubted_plays = refl

pub bussed_plays : plays bussed_database (calls bussed) (answers bussed) [] None ≡ true
unfolding sum_up_to base all_bits input_bits held_bits offset place joined over_targets over_exits
bussed_plays = refl
