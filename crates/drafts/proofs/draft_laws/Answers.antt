use Rattle.drafts.proofs.Laws.{draft_laws_lem}
use Rattle.drafts.proofs.draft_laws.Goals as goal

pub returns : goal.returns
returns c = draft_laws_lem
