-- Who wins a position, and that the other player does not: by an entry that was found, and by the law that exactly one
-- player wins.
use Rattle.std.proofs.Common.{◌≡◌, List, sym, subst, Option}
use Rattle.std.specs.Prelude.{IfSome}
use Rattle.hx_board.specs.declared.colours.Colour.{Colour}
use Rattle.hx_board.specs.declared.colours.Colour.TheVariants.{Black, White}
use Rattle.hx_board.specs.Colours.{other_of}
use Rattle.hx_board.specs.Positions.{Board}
use Rattle.hx_board.specs.Game.{Wins}
use Rattle.hx_tree.specs.declared.entries.Found.{Found}
use Rattle.hx_tree.specs.declared.nodes.Heading.{Heading}
use Rattle.hx_tree.specs.declared.nodes.Node.{Node}
use Rattle.hx_tree.specs.Entries.{IsFirstFound}
use Rattle.hx_law.specs.Laws.{OneWinner}
use Rattle.hx_proof.specs.Winners.{OnlyWinner, AllWin}

-- the player wins the position with this mover, and the other one does not
abbrev OnlyWins : Colour → Board → Colour → Type 0
OnlyWins player board mover = Wins player board mover × (¬ Wins (other_of player) board mover)

heading-wins : (heading : Heading) (board : Board) (mover winner : Colour) → heading.position ≡ board → heading.to_move ≡ mover
    → winner ≡ heading.winner → OnlyWinner heading → OnlyWins winner board mover
heading-wins heading board mover winner same_position same_mover same_winner only =
    subst (λ (w : Colour). OnlyWins w board mover) (sym same_winner)
    (subst (λ (b : Board). OnlyWins heading.winner b mover) same_position
    (subst (λ (m : Colour). OnlyWins heading.winner heading.position m) same_mover (only.wins, only.other_does_not)))

pub found-only_winner : (nodes : List Node) (board : Board) (mover : Colour) (found : Found) → AllWin nodes
    → IsFirstFound nodes board mover found → Wins found.winner board mover × (¬ Wins (other_of found.winner) board mover)
found-only_winner nodes board mover found all first =
    let entry = first.first.entry in
    heading-wins entry.node.heading board mover found.winner entry.is_of.same_position entry.is_of.same_mover first.same_winner
    (subst (λ (at : Option Node). IfSome at (λ node. OnlyWinner node.heading)) entry.there (all found.index))

pub other-does_not : (board : Board) (mover winner : Colour) → OneWinner board mover → Wins winner board mover
    → ¬ Wins (other_of winner) board mover
other-does_not board mover Black one wins = λ theirs. one.not_both (wins, theirs)
other-does_not board mover White one wins = λ theirs. one.not_both (theirs, wins)
