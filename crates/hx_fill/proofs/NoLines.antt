-- No line is right for any cells.
use Rattle.std.proofs.Common.{ℕ, [], arith}
use Rattle.hx_board.specs.declared.colours.Colour.{Colour}
use Rattle.hx_board.specs.Positions.{Board}
use Rattle.hx_fill.specs.Unders.{AreUnder}

pub none-under : (board : Board) (mover : Colour) (cells : ℕ) → AreUnder board mover cells []
none-under board mover cells = record {
  right = λ k default less. absurd (omega (arith, less));
  in_order = λ k within. absurd (omega (arith, within));
  among = λ cell has. absurd (omega (arith, has.1));
  betters = λ cell named. absurd (omega (arith, named.line.1));
}
