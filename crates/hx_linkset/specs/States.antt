-- Links of one player in a list, on a board that changes stone by stone.
use Rattle.std.specs.Prelude.{◌≡◌, ◌≢◌, ℕ, true, false, List, [], ◌∷◌, ◌++◌, length, take, slice_get, All, ◌⊎◌}
use Rattle.std.specs.declared.option.Option.TheVariants.{Some}
use Rattle.hx_board.specs.declared.colours.Colour.{Colour}
use Rattle.hx_board.specs.declared.vertices.Vertex.TheVariants.{Of}
use Rattle.hx_board.specs.Sets.{has}
use Rattle.hx_board.specs.Colours.{other_of}
use Rattle.hx_board.specs.Positions.{Board, IsBoard, IsEmpty, put}
use Rattle.hx_link.specs.declared.links.Link.{Link}
use Rattle.hx_link.specs.declared.steps.Step.{Step}
use Rattle.hx_link.specs.declared.steps.Step.TheVariants.{Base, AndStone, AndCell, Or}
use Rattle.hx_link.specs.Steps.{IsEnd, StepGives}

-- a link is live on a board where its carrier is empty and neither end is a stone of the opponent
pub record IsLive (board : Board) (player : Colour) (link : Link) : Type 0 where
  pub empty : (cell : ℕ) → has link.carrier cell ≡ true → IsEmpty board cell
  pub a_end : IsEnd board player link.a
  pub b_end : IsEnd board player link.b

-- a stone leaves a link alone: it is outside the carrier, and no stone of the opponent on an end
pub record IsUntouched (player colour : Colour) (cell : ℕ) (link : Link) : Type 0 where
  pub outside : has link.carrier cell ≡ false
  pub no_end : colour ≡ other_of player → (link.a ≢ Of cell) × (link.b ≢ Of cell)

-- a board, the links that are held, live or not, and the step of each
pub record State : Type 0 where
  pub board : Board
  pub links : List Link
  pub steps : List Step

-- a live link is at this place
abbrev pub IsLiveAt : Board → Colour → List Link → ℕ → Type 0
IsLiveAt board player links place = (link : Link) × ((slice_get links place ≡ Some link) × IsLive board player link)

-- the step names this place
abbrev pub Names : Step → ℕ → Type 0
Names (Base a b) place = ⊥
Names (AndStone left right) place = (place ≡ left) ⊎ (place ≡ right)
Names (AndCell left right) place = (place ≡ left) ⊎ (place ≡ right)
Names (Or parts) place = (k : ℕ) × (slice_get parts k ≡ Some place)

-- the step gives the link, and from live links alone
pub record GivesFromLive (board : Board) (player : Colour) (links : List Link) (step : Step)
    (link : Link) : Type 0 where
  pub gives : StepGives board player links step link
  pub from_live : (place : ℕ) → Names step place → IsLiveAt board player links place

-- each live link is given by its step, from live links that stand before it
pub record IsRight (player : Colour) (state : State) : Type 0 where
  pub is_board : IsBoard state.board
  pub steps_of : length state.steps ≡ length state.links
  pub given : (place : ℕ) (link : Link) (step : Step) → slice_get state.links place ≡ Some link
      → slice_get state.steps place ≡ Some step
      → IsLive state.board player link → GivesFromLive state.board player (take place state.links) step link

-- the state with one link more
abbrev pub added : State → Link → Step → State
added state link step =
    record { board = state.board; links = state.links ++ link ∷ []; steps = state.steps ++ step ∷ [] }

-- the state with one stone more
abbrev pub played : State → Colour → ℕ → State
played state colour cell = record state { board = put state.board colour cell }

-- each of these stones comes to an empty cell, when they are put one after the other
abbrev pub CanPut : Board → List (Colour × ℕ) → Type 0
CanPut board [] = Unit {0}
CanPut board (stone ∷ stones) = IsEmpty board stone.1 × CanPut (put board stone.0 stone.1) stones

-- the board with these stones more
abbrev pub put_all : Board → List (Colour × ℕ) → Board
put_all board [] = board
put_all board (stone ∷ stones) = put_all (put board stone.0 stone.1) stones

-- the state with these stones more
abbrev pub played_all : State → List (Colour × ℕ) → State
played_all state stones = record state { board = put_all state.board stones }

-- each of these stones leaves a link alone
abbrev pub LeaveAlone : Colour → List (Colour × ℕ) → Link → Type 0
LeaveAlone player stones link =
    All (λ (stone : Colour × ℕ). IsUntouched player stone.0 stone.1 link) stones

-- the links of one player: as they stand now, and as they stood before each play that stands, the last play first
pub record Standing : Type 0 where
  pub player : Colour
  pub present : State
  pub past : List State
