-- What is said where a search ended without a tree is true of the input.
use Rattle.std.proofs.Common.{ℕ, ◌<◌, List, Bool, refl}
use Rattle.hx_board.specs.declared.colours.Colour.{Colour}
use Rattle.hx_board.specs.Positions.{Board}
use Rattle.hx_board.specs.Graph.{HasNoChain}
use Rattle.hx_board.specs.Counts.{IsSmall}
use Rattle.hx_limits.specs.declared.settings.Settings.{Settings}
use Rattle.hx_limits.specs.declared.ran_out.RanOut.{RanOut}
use Rattle.hx_limits.specs.declared.ran_out.RanOut.TheVariants.{Budget, Slots, Memory}
use Rattle.hx_limits.specs.Causes.{LacksMemory, LacksUnit}
use Rattle.hx_finish.specs.declared.wanting.Wanting.{Wanting}
use Rattle.hx_finish.specs.Wants.{Tells}
use Rattle.hx_cmd_solve.specs.declared.answers.Answer.TheVariants.{LeftOpen}
use Rattle.hx_cmd_solve.specs.Positions.{IsPositionText}
use Rattle.hx_cmd_solve.specs.Answers.{IsFound}

pub left_open_found : (settings : Settings) (plain_tree : Bool) (input : List ℕ) (board : Board) (mover : Colour) (why : RanOut)
    (wanting : Wanting)
    → IsPositionText input board mover → (IsSmall board settings.budget → LacksMemory why)
    → (LacksUnit why → 0 < settings.budget → HasNoChain board) → Tells settings why wanting
    → IsFound settings plain_tree input (LeftOpen wanting)
left_open_found settings plain_tree input board mover (Budget taken) wanting text small none tells = rw tells (
  refl,
  record {
    not_small = record { board = board; mover = mover; text = text; holds = small };
    no_chain = λ some. record { board = board; mover = mover; text = text; holds = none tt some };
  },
)
left_open_found settings plain_tree input board mover (Slots refusal) wanting text small none tells =
    rw tells (refl, record { board = board; mover = mover; text = text; holds = small })
left_open_found settings plain_tree input board mover Memory wanting text small none tells = rw tells tt
