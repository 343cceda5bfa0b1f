use Rattle.std.proofs.Common.{drop, vec_len}
use Rattle.control.specs.Databases.{rows_of}
use Rattle.listing.specs.Kept.{kept_lists}
use Rattle.engine.specs.Promise.{both}
use Rattle.playing.proofs.Playing.{taken, plays}
use Rattle.playing.proofs.TextRuns.{text_runs_once, text_known_stays}
use Rattle.playing.proofs.play.play_text.Goals as goal

pub unwrap-engine-requires : goal.unwrap-engine-requires
unwrap-engine-requires g c =
    taken c.args.text.now c.in_ok-read.field-0 (kept_lists c.args.kept.now) (kept_lists c.read.new.self) (rows_of c.rows.result)
    c.in_ok-read.ensures.accepted c.rows.ensures _ c.new.result c.new.ensures.refused

pub returns-clause-played : goal.returns-clause-played
returns-clause-played g c =
    let is_taken = rw c.unwrap-engine.ensures at c.new.ensures.taken in
    plays c.args.text.now c.in_ok-read.field-0 (kept_lists c.args.kept.now) (kept_lists c.read.new.self) (rows_of c.rows.result)
    c.in_ok-read.ensures.accepted c.rows.ensures g.L.Level (rows_of c.unwrap-engine.result.design.rows) c.args.calls.now
    (drop (vec_len c.args.answers.now) c.play.new.answers.items) (both c.args.held.now c.args.work.now) (both c.play.new.held c.play.new.work)
    is_taken.0 is_taken.1 c.in_ok-play.ensures.played c.play.ensures.held c.play.ensures.work

pub returns-in_err-read-clause-once : goal.returns-in_err-read-clause-once
returns-in_err-read-clause-once g c = text_runs_once

pub returns-in_err-read-clause-stays : goal.returns-in_err-read-clause-stays
returns-in_err-read-clause-stays g c = text_known_stays

pub returns-in_err-play-clause-once : goal.returns-in_err-play-clause-once
returns-in_err-play-clause-once g c = text_runs_once

pub returns-in_err-play-clause-stays : goal.returns-in_err-play-clause-stays
returns-in_err-play-clause-stays g c = text_known_stays

pub returns-clause-once : goal.returns-clause-once
returns-clause-once g c = text_runs_once

pub returns-clause-stays : goal.returns-clause-stays
returns-clause-stays g c = text_known_stays
