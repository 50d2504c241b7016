use Rattle.hx_turn.proofs.KeyLaws.{key-turned}
use Rattle.hx_turn.proofs.laws.one_key.Goals as goal

pub returns : goal.returns
returns c turned turn = key-turned c.args.position.now turned c.args.to_move c.size-size.ensures.valid turn
