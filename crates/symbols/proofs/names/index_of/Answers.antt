use Rattle.std.proofs.Common.{sym, ap, ◌∙◌}
use Rattle.symbols.specs.Names.{alike}
use Rattle.symbols.proofs.Found.{index_here, index_on, found_here, found_on, found_none}
use Rattle.symbols.proofs.names.index_of.Goals as goal

pub returns-then-has_name : goal.returns-then-has_name
returns-then-has_name c =
    record {
      value = found_here _ _ c.loop-i.i c.loop-i.invariant (index_here c.args.text.now c.args.name c.args.items.now c.loop-i.i _ c.loop-i-test.true (sym (c.if-has_name.ensures ∙ ap (alike _) c.name_bytes-bytes.ensures)));
      within = c.loop-i-test.true;
    }

pub loop-i-preserved : goal.loop-i-preserved
loop-i-preserved c = found_on _ _ _ c.loop-i.i c.loop-i.invariant (index_on c.args.text.now c.args.name c.args.items.now c.loop-i.i _ c.loop-i-test.true (sym (c.if-has_name.ensures ∙ ap (alike _) c.name_bytes-bytes.ensures)))

pub returns : goal.returns
returns c = record { value = found_none c.args.text.now c.args.name c.args.items.now _ c.loop-i.i c.loop-i-test.false c.loop-i.invariant; within = tt }
