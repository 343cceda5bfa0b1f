use Rattle.std.proofs.Common.{◌≡◌, ◌++◌, length, sym, ◌∙◌, refl}
use Rattle.std.proofs.lemmas.Bool.{false≢true}
use Rattle.std.proofs.lemmas.List.{take-append-drop}
use Rattle.lines.proofs.NameCases.{begins, begins_not}
use Rattle.lines.proofs.names.behind.Goals as goal

pub returns-then-eq_ignore_ascii_case : goal.returns-then-eq_ignore_ascii_case
returns-then-eq_ignore_ascii_case c =
    let split = c.in_ok-front.ensures.cases in
    let whole : c.args.line.now ≡ c.in_ok-front.front.now ++ c.in_ok-front.rest.now = sym (take-append-drop (length c.args.word.now) c.args.line.now) ∙ (λ i. sym split.1 i ++ sym split.2 i) in
    begins c.args.line.now _ _ c.args.word.now whole (c.if-eq_ignore_ascii_case.ensures.test.0 refl)

pub returns-else-eq_ignore_ascii_case : goal.returns-else-eq_ignore_ascii_case
returns-else-eq_ignore_ascii_case c =
    let split = c.in_ok-front.ensures.cases in
    let whole : c.args.line.now ≡ c.in_ok-front.front.now ++ c.in_ok-front.rest.now = sym (take-append-drop (length c.args.word.now) c.args.line.now) ∙ (λ i. sym split.1 i ++ sym split.2 i) in
    begins_not c.args.line.now _ _ c.args.word.now whole split.3 (λ same. false≢true (c.if-eq_ignore_ascii_case.ensures.test.1 same))
