-- The links that cells touch, by their numbers in blocks. These words are for the functions inside the crate alone.
use Rattle.std.specs.Prelude.{◌≡◌, ℕ, ◌+◌, ◌*◌, ◌<◌, ◌≤◌, true, List, length, slice_get, slice_index, ◌⊎◌}
use Rattle.std.specs.declared.option.Option.TheVariants.{Some}
use Rattle.hx_board.specs.declared.cells.TheConstants.{CELLS}
use Rattle.hx_board.specs.Sets.{has}
use Rattle.hx_board.specs.VertexSets.{code_of}
use Rattle.hx_link.specs.declared.links.Link.{Link}
use Rattle.hx_linkset.specs.declared.blocks.Block.{Block}
use Rattle.hx_linkset.specs.declared.blocks.TheConstants.{BLOCK}
use Rattle.hx_linkset.specs.Held.{IsIn}

-- a cell that a stone may take of a link: one of its carrier, or an end
abbrev pub IsOf : ℕ → Link → Type 0
IsOf cell link = (cell < CELLS) × ((has link.carrier cell ≡ true) ⊎ ((cell ≡ code_of link.a) ⊎ (cell ≡ code_of link.b)))

-- one of these cells is of the link
abbrev pub Touch : ℕ → Link → Type 0
Touch cells link = (cell : ℕ) × ((has cells cell ≡ true) × IsOf cell link)

-- the row of a cell has a number
abbrev pub RowHas : Block → ℕ → ℕ → Type 0
RowHas block cell number = has (slice_index block.rows cell) number ≡ true

-- each link has its number, within its block, in the row of each cell that is of it
pub record AreBlocksOf (links : List Link) (blocks : List Block) : Type 0 where
  pub enough : length links ≤ BLOCK * length blocks
  pub rows : (place number cell : ℕ) (block : Block) (link : Link) → number < BLOCK
      → slice_get blocks place ≡ Some block → slice_get links (BLOCK * place + number) ≡ Some link
      → IsOf cell link → RowHas block cell number

-- these numbers have those of a block's links that cells touch
abbrev pub HasTouched : List Link → ℕ → ℕ → ℕ → Type 0
HasTouched links cells place numbers = (number : ℕ) (link : Link) → number < BLOCK
    → slice_get links (BLOCK * place + number) ≡ Some link → Touch cells link → has numbers number ≡ true

-- links, and the cells that touch some of them
pub record Sought : Type 0 where
  pub links : List Link
  pub cells : ℕ

-- from one place on and below another each link that is touched is on the log
abbrev pub TouchedAreLogged : Sought → List ℕ → ℕ → ℕ → Type 0
TouchedAreLogged sought log from bound = (place : ℕ) (link : Link) → from ≤ place → place < bound
    → slice_get sought.links place ≡ Some link → Touch sought.cells link → IsIn log place

-- a place that is not on the log, from another one on, before which each link that is touched is on the log
pub record MayBeNext (sought : Sought) (log : List ℕ) (from place : ℕ) : Type 0 where
  pub order : from ≤ place
  pub inside : place < length sought.links
  pub off : IsIn log place → ⊥
  pub before : TouchedAreLogged sought log from place
