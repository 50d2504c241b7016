-- What it is to have no entry of an opening.
use Rattle.std.proofs.Common.{◌≡◌, ℕ, List, sym, subst, ⊎_elim, Option, None, Some}
use Rattle.std.specs.Prelude.{MatchOption}
use Rattle.hx_board.specs.declared.colours.Colour.{Colour}
use Rattle.hx_board.specs.declared.colours.Colour.TheVariants.{White}
use Rattle.hx_board.specs.Cells.{Extent}
use Rattle.hx_board.specs.Positions.{Board}
use Rattle.hx_board.specs.Counts.{IsSmall}
use Rattle.hx_board.specs.Game.{Wins}
use Rattle.hx_tree.specs.declared.nodes.Node.{Node}
use Rattle.hx_tree.specs.Entries.{HasNoEntry}
use Rattle.hx_turn.specs.Turned.{IsTurned}
use Rattle.hx_turn.proofs.TurnedBoards.{turned-one}
use Rattle.hx_openings.specs.Openings.{opening, WinsOpening}
use Rattle.hx_survey.specs.Surveys.{HasOpening}
use Rattle.hx_survey.specs.Readings.{IsUnlisted, IsOpen}

-- neither orientation has an entry
pub none-unlisted : (nodes : List Node) (board turned : Board) → IsTurned board turned → HasNoEntry nodes board White
    → HasNoEntry nodes turned White → IsUnlisted nodes board
none-unlisted nodes board turned turn none turned_none = record {
  none = none;
  turned_none = λ other is. subst (λ (b : Board). HasNoEntry nodes b White) (turned-one board turned other turn is) turned_none;
}

-- an opening without an entry that is not small is open
pub unlisted-open : (nodes : List Node) (size : Extent) (budget cell : ℕ) → IsUnlisted nodes (opening size cell)
    → ¬ IsSmall (opening size cell) budget → IsOpen nodes size budget cell
unlisted-open nodes size budget cell unlisted large = record { none = none; not_small = large }
  where
    none : HasOpening nodes size cell → ⊥
    none has = ⊎_elim
        (λ (e : has.board ≡ opening size cell). subst (λ (b : Board). HasNoEntry nodes b White) (sym e) unlisted.none
        has.found.index has.first.first.entry)
        (λ (turn : IsTurned (opening size cell) has.board). unlisted.turned_none has.board turn has.found.index has.first.first.entry)
        has.which

-- and so it is with what a full search answers, or does not
pub open-or-won : (nodes : List Node) (size : Extent) (budget cell : ℕ) (read : Option Colour) → IsUnlisted nodes (opening size cell)
    → MatchOption read (¬ IsSmall (opening size cell) budget) (λ winner. Wins winner (opening size cell) White)
    → MatchOption read (IsOpen nodes size budget cell) (WinsOpening size cell)
open-or-won nodes size budget cell None unlisted is = unlisted-open nodes size budget cell unlisted is
open-or-won nodes size budget cell (Some winner) unlisted is = is
