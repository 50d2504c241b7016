use Rattle.hx_share.proofs.FoundLaws.{agreed}
use Rattle.hx_share.proofs.laws.entries_agree.Goals as goal

pub returns : goal.returns
returns c = agreed
