-- When a set of links is closed, and what `close` answers of it.
use Rattle.std.specs.Prelude.{◌≡◌, ◌≢◌, ℕ, false, length}
use Rattle.hx_board.specs.declared.vertices.Vertex.{Vertex}
use Rattle.hx_board.specs.Sets.{has}
use Rattle.hx_link.specs.declared.links.Kind.TheVariants.{Full, Semi}
use Rattle.hx_link.specs.declared.links.Link.{Link}
use Rattle.hx_link.specs.declared.steps.Step.{Step}
use Rattle.hx_link.specs.declared.steps.Step.TheVariants.{Base, AndStone, AndCell}
use Rattle.hx_linkset.specs.declared.limits.TheConstants.{MOST_LINKS}
use Rattle.hx_linkset.specs.States.{Standing}
use Rattle.hx_linkset.specs.Answers.{Gives, Covers}
use Rattle.hx_linkset.specs.LiveOf.{IsLiveOf}
use Rattle.hx_search.specs.declared.closures.Closure.{Closure}
use Rattle.hx_search.specs.declared.closures.Closure.TheVariants.{Closed, Limit}

-- what the step gives from live links, some live link covers: one of its kind and ends, with a carrier inside its own
abbrev pub IsSettled : Standing → Step → Type 0
IsSettled set step = (link : Link) → Gives set step link → (place : ℕ) × Covers set place link

-- a live Semi link of these ends whose carrier lacks the cell
pub record LacksCell (set : Standing) (a b : Vertex) (cell : ℕ) : Type 0 where
  pub place : ℕ
  pub semi : IsLiveOf set Semi a b place
  pub lacks : has semi.link.carrier cell ≡ false

-- two ends with two live Semi links or more, of which no cell is in all carriers
pub record IsForked (set : Standing) (a b : Vertex) : Type 0 where
  pub first : ℕ
  pub second : ℕ
  pub first_semi : IsLiveOf set Semi a b first
  pub second_semi : IsLiveOf set Semi a b second
  pub differ : first ≢ second
  pub none_in_all : (cell : ℕ) → LacksCell set a b cell

-- a live Full link of these ends
abbrev pub HasFull : Standing → Vertex → Vertex → Type 0
HasFull set a b = (place : ℕ) × IsLiveOf set Full a b place

-- each Base and each And is settled; of two ends that are forked, some live Full link is there
pub record IsClosed (set : Standing) : Type 0 where
  pub bases : (a b : Vertex) → IsSettled set (Base a b)
  pub and_stones : (left right : ℕ) → IsSettled set (AndStone left right)
  pub and_cells : (left right : ℕ) → IsSettled set (AndCell left right)
  pub ors : (a b : Vertex) → IsForked set a b → HasFull set a b

-- the set holds all the links that it can, and is not closed
pub record IsStuck (set : Standing) : Type 0 where
  pub full : length set.present.links ≡ MOST_LINKS
  pub not_closed : IsClosed set → ⊥

-- what `close` answers of the set
abbrev pub IsAnswer : Standing → Closure → Type 0
IsAnswer set Closed = IsClosed set
IsAnswer set (Limit links) = (links ≡ MOST_LINKS) × IsStuck set
