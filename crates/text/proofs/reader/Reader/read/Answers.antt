use Rattle.std.proofs.Common.{◌∙◌, sym, vec_items}
use Rattle.grammar.specs.Drafts.{draft_lists}
use Rattle.drafts.specs.Parsed.{longest_text}
use Rattle.database.specs.Tables.{table_lists}
use Rattle.text.proofs.Reading.{reads}
use Rattle.text.proofs.reader.Reader.read.Goals as goal

pub invariant_of-self-in-None : goal.invariant_of-self-in-None
invariant_of-self-in-None c = record { room = c.in_ok-fault.ensures.memory longest_text c.args.self.now.room }

pub returns-in-None-clause-accepted : goal.returns-in-None-clause-accepted
returns-in-None-clause-accepted c =
    let m = c.judge.new.measures in
    reads c.args.text.now (draft_lists c.in_ok-draft.draft) (vec_items m.strings) (vec_items m.widths) c.fill.result (table_lists c.args.tables.now) (table_lists c.fill.new.self)
    c.in_ok-draft.ensures.accepted (sym c.is_short.ensures ∙ c.if-is_short.false) (sym c.in-None.is ∙ c.in_ok-fault.ensures.fault) c.in_ok-fault.ensures.strings c.in_ok-fault.ensures.widths c.fill.ensures.counted c.fill.ensures.holds
