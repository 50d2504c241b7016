use Rattle.hx_parse.proofs.StoneReads.{white_found}
use Rattle.hx_text.proofs.PositionLines.{white_small}
use Rattle.hx_parse.proofs.boards.with_white_stones.Goals as goal

pub returns-in_err-white : goal.returns-in_err-white
returns-in_err-white c = rw c.from_residual.ensures (λ board is.
    c.in_err-white.ensures board.white (white_small board.size board.black board.white is.0.0 is.0.1) is.3)

pub returns : goal.returns
returns c =
    white_found c.args.size c.args.black _ _ _ c.requires c.in_ok-white.ensures.0 c.in_ok-white.ensures.1 c.from_masks.ensures
