use Rattle.hx_text.proofs.Spelled.{chain_spelled}
use Rattle.hx_text.proofs.spelling.put_opening.Goals as goal

pub returns-in-Chain-clause-text : goal.returns-in-Chain-clause-text
returns-in-Chain-clause-text c = rw (c.put.ensures, c.in-Chain.is) (chain_spelled c.args.text.now)
