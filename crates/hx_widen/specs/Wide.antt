-- Proofs that serve a position though they may be of one with more stones of the opponent.
use Rattle.std.specs.Prelude.{ℕ, Bool, List}
use Rattle.hx_board.specs.declared.colours.Colour.{Colour}
use Rattle.hx_board.specs.Positions.{Board}
use Rattle.hx_tree.specs.declared.nodes.Node.{Node}
use Rattle.hx_book.specs.WiderEntry.{IsWiderEntry}
use Rattle.hx_nodes.specs.declared.stored.Stored.{Stored}
use Rattle.hx_nodes.specs.declared.stored.Stored.TheVariants.{Done, Missing}

-- some entry serves this position and mover, in a list of this kind
pub record IsServed (plain : Bool) (list : List Node) (board : Board) (mover : Colour) : Type 0 where
  pub winner : Colour
  pub place : ℕ
  pub entry : IsWiderEntry plain list board mover winner place

-- where it is done, a proof of the list serves this position and mover
abbrev pub IsServedIf : Bool → List Node → Board → Colour → Stored → Type 0
IsServedIf plain list board mover Done = IsServed plain list board mover
IsServedIf plain list board mover Missing = Unit {0}
