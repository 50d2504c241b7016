-- A board and the turned one have one key: it is the lesser of the same two.
use Rattle.std.proofs.Common.{◌≡◌, ℕ, ap, ◌∙◌, arith}
use Rattle.std.proofs.lemmas.Bool.Decides.{nat_tests}
use Rattle.hx_board.specs.declared.colours.Colour.{Colour}
use Rattle.hx_board.specs.Positions.{Board, IsBoard}
use Rattle.hx_turn.specs.Turned.{IsTurned}
use Rattle.hx_turn.specs.TurnedStones.{turned_of}
use Rattle.hx_turn.specs.Keys.{lesser, folded_key, key_of}
use Rattle.hx_turn.proofs.TurnedStoneLaws.{is-turned_of, turned_of-twice}

lesser-exchanged : (a b : ℕ) → lesser a b ≡ lesser b a
lesser-exchanged a b = grind (arith, nat_tests)

pub key-turned : (board turned : Board) (mover : Colour) → IsBoard board → IsTurned board turned
    → key_of turned mover ≡ key_of board mover
key-turned board turned mover is turn =
    let there : ℕ = folded_key (turned_of board) mover in
    ap (λ (b : Board). key_of b mover) (is-turned_of board turned is turn)
    ∙ ap (λ (b : Board). lesser there (folded_key b mover)) (turned_of-twice board is)
    ∙ lesser-exchanged there (folded_key board mover)
