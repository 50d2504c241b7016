-- Which moves a visit tries.
use Rattle.std.specs.Prelude.{ℕ, List, map, Contains}
use Rattle.hx_board.specs.Colours.{other_of}
use Rattle.hx_board.specs.Positions.{IsEmpty}
use Rattle.hx_inferior.specs.declared.dominations.Kill.{Kill}
use Rattle.hx_inferior.specs.Inferior.{IsDominated}
use Rattle.hx_linkset.specs.States.{Standing}
use Rattle.hx_fill.specs.Musts.{IsSharedByAll}
use Rattle.hx_ordering.specs.declared.children.Child.{Child}
use Rattle.hx_ordering.specs.declared.situations.Situation.{Situation}

-- one of these moves is to the cell
abbrev pub Tries : List Child → ℕ → Type 0
Tries moves cell = Contains (map (λ child. child.cell) moves) cell

-- a cell that is empty in the situation and for the mover's links, and that all links of the other player's share: so
-- none of them answers a move to it
pub record IsUnanswered (own others : Standing) (situation : Situation) (cell : ℕ) : Type 0 where
  pub empty : IsEmpty situation.filled cell
  pub own_empty : IsEmpty own.present.board cell
  pub shared : IsSharedByAll others cell

-- a cell that another one is better than for the mover; and a move to that one is tried, if nothing answers it
pub record HasBetter (own others : Standing) (situation : Situation) (moves : List Child) (cell : ℕ) : Type 0 where
  pub better : ℕ
  pub kill : Kill
  pub dominates : IsDominated others.present.board (other_of others.player) better cell kill
  pub shared : IsSharedByAll others better
  pub tried : IsUnanswered own others situation better → Tries moves better
