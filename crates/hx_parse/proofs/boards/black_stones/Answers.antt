use Rattle.hx_parse.proofs.StoneReads.{black_misfits}
use Rattle.hx_text.proofs.PositionLines.{black_small}
use Rattle.hx_parse.proofs.boards.black_stones.Goals as goal

pub returns-in_err-black : goal.returns-in_err-black
returns-in_err-black c = rw c.from_residual.ensures (λ value fits e.
    c.in_err-black.ensures value (black_small c.args.size value 0 c.requires fits) e)

pub returns-in_err-from_masks : goal.returns-in_err-from_masks
returns-in_err-from_masks c = rw c.from_residual-in_err-from_masks.ensures (λ value fits e.
    black_misfits c.args.size _ _ value _ c.requires c.in_ok-black.ensures.0 c.empty.ensures c.in_err-from_masks.ensures
    c.in_ok-black.ensures.1 fits e)
