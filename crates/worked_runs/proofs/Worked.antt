-- The cases, from their texts to their answers. Assumes nothing.
use Rattle.std.proofs.Common.{◌≡◌, ℕ, true, false, List, [], ◌∷◌, length, None, All, sym, subst, arith}
use Rattle.std.proofs.lemmas.List.Elements.{All-cons}
use Rattle.database.specs.Rows.{Database}
use Rattle.database.specs.Soundness.{Sound}
use Rattle.soundness.proofs.Sound.{accepted_are_sound}
use Rattle.text.specs.Promise.{Says}
use Rattle.text.specs.Worked.{pace_database, strings_database}
use Rattle.text.proofs.Worked.{worked as texts_worked}
use Rattle.settling.proofs.UsableDatabases.{sound_is_usable}
use Rattle.settling.proofs.RunsFacts.{point_facts}
use Rattle.settling.proofs.RunsLaws.{one_run}
use Rattle.worked_runs.specs.Cases.{Case, nothing_known, calls, answers, Plays, paced, unknown_input, refusals, together, swapped, forked, stringed, kept, doubted, bussed, cases}
use Rattle.worked_runs.proofs.Playing.{plays}
use Rattle.worked_runs.proofs.Played.{runs}
use Rattle.worked_runs.proofs.Databases.{one_input_database, together_database, swapped_database, forked_database, kept_database, doubted_database, bussed_database}
use Rattle.worked_runs.proofs.Reading.{one_input_says, together_says, swapped_says, forked_says, kept_says, doubted_says, bussed_says}
use Rattle.worked_runs.proofs.Answered.{paced_plays, unknown_input_plays, refusals_plays, together_plays, swapped_plays, forked_plays, stringed_plays, kept_plays, doubted_plays, bussed_plays}

said_is_sound : (text : List ℕ) (d : Database) → Says text d → Sound (length text) d
said_is_sound text d s = subst (Sound (length text)) (sym s.rows) (accepted_are_sound text s.draft s.drafted s.faultless)

played : (c : Case) (d : Database) → Says c.text d → plays d (calls c) (answers c) [] None ≡ true → Plays c
played c d s e =
    let sound = said_is_sound c.text d s in
    let (u, run) = runs d (calls c) (answers c) e in
    record {
      database = d;
      says = s;
      sound = sound;
      left = u;
      run = run;
      alone = λ others v other. ((one_run sound_is_usable point_facts (length c.text) d false nothing_known (calls c) sound).1 others (answers c) v u other run).0;
    }

-- each of the cases plays
abbrev EachPlays : List Case → Type 0
EachPlays [] = Unit {0}
EachPlays (c ∷ cs) = Plays c × EachPlays cs

all_play : (cs : List Case) → EachPlays cs → All Plays cs
all_play [] h = λ k c low. absurd (omega arith)
all_play (c ∷ cs) h = All-cons Plays c cs h.0 (all_play cs h.1)

paced_worked : Plays paced
paced_worked = played paced pace_database texts_worked.0.0 paced_plays

unknown_input_worked : Plays unknown_input
unknown_input_worked = played unknown_input one_input_database one_input_says unknown_input_plays

refusals_worked : Plays refusals
refusals_worked = played refusals one_input_database one_input_says refusals_plays

together_worked : Plays together
together_worked = played together together_database together_says together_plays

swapped_worked : Plays swapped
swapped_worked = played swapped swapped_database swapped_says swapped_plays

forked_worked : Plays forked
forked_worked = played forked forked_database forked_says forked_plays

stringed_worked : Plays stringed
stringed_worked = played stringed strings_database texts_worked.0.1.1.0 stringed_plays

kept_worked : Plays kept
kept_worked = played kept kept_database kept_says kept_plays

doubted_worked : Plays doubted
doubted_worked = played doubted doubted_database doubted_says doubted_plays

bussed_worked : Plays bussed
bussed_worked = played bussed bussed_database bussed_says bussed_plays

pub worked : All Plays cases
worked =
    all_play cases (paced_worked, (unknown_input_worked, (refusals_worked, (together_worked, (swapped_worked, (forked_worked, (stringed_worked, (kept_worked, (doubted_worked, (bussed_worked, tt))))))))))
