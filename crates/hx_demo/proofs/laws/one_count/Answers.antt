use Rattle.hx_demo.proofs.WinCountLaws as laws
use Rattle.hx_demo.proofs.laws.one_count.Goals as goal

pub returns : goal.returns
returns c = λ player boards m n one other. laws.one_count player boards m n one other
