use Rattle.grammar.specs.Rules.{ref}
use Rattle.grammar.specs.Drafts.{term_lists}
use Rattle.grammar.specs.Reading.{read}
use Rattle.cursor.proofs.MoreSteps.{wrote_last}
use Rattle.terms.specs.Expressions.{bits_rows}
use Rattle.terms.proofs.Terms.{bits_is}
use Rattle.terms.proofs.expressions.bits.Goals as goal

pub returns-clause-told : goal.returns-clause-told
returns-clause-told c = λ n.
    let r = c.in_ok-reference.ensures.told n in
    wrote_last (read n ref c.args.cursor.now) (λ r. bits_rows r c.args.driven) (term_lists c.args.terms.now) _ _ (λ h. (r.0, r.1, bits_is r.0 _ _ r.2 _ _ h)) _ c.push.ensures.pushed
