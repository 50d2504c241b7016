-- Entries by which a player is known to win a position.
use Rattle.std.specs.Prelude.{◌≡◌, ℕ, Bool, List}
use Rattle.hx_board.specs.declared.colours.Colour.{Colour}
use Rattle.hx_board.specs.Positions.{Board}
use Rattle.hx_tree.specs.declared.nodes.Node.{Node}
use Rattle.hx_tree.specs.Entries.{IsEntry}
use Rattle.hx_book.specs.WiderEntry.{IsWiderEntry}

-- an entry of this position and mover names this winner
pub record HasWin (list : List Node) (board : Board) (mover winner : Colour) : Type 0 where
  pub place : ℕ
  pub entry : IsEntry list board mover place
  pub wins : entry.node.heading.winner ≡ winner

-- an entry of this winner serves this position and mover
abbrev pub IsServedAs : Bool → List Node → Board → Colour → Colour → Type 0
IsServedAs plain list board mover winner = (place : ℕ) × IsWiderEntry plain list board mover winner place
