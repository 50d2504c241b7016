use Rattle.hx_text.proofs.Spelled.{position_spelled}
use Rattle.hx_text.proofs.spelling.put_position.Goals as goal

pub returns : goal.returns
returns c =
    rw (
      c.put_move.ensures,
      c.put_stones-2.ensures.text,
      c.put_stones.ensures.text,
      c.put_size.ensures.text,
      c.put.ensures,
      c.size.ensures.value,
      c.stones.ensures.value,
      c.stones-2.ensures.value,
    )
    (position_spelled c.args.text.now c.args.position.now c.args.to_move)
