-- Which numbers a visit's moves give.
use Rattle.std.specs.Prelude.{◌≡◌, ◌≢◌, ℕ, zero, suc, ◌*◌, ◌-◌, ◌/◌, min, List, [], ◌∷◌, ◌++◌, length, take, Option}
use Rattle.std.specs.Prelude.{◌⊎◌}
use Rattle.std.specs.declared.option.Option.TheVariants.{None, Some}
use Rattle.hx_board.specs.declared.cells.TheConstants.{CELLS}
use Rattle.hx_pn.specs.declared.proof_numbers.TheConstants.{INF, UNSEEN}
use Rattle.hx_pn.specs.declared.proof_numbers.Numbers.{Numbers}
use Rattle.hx_pn.specs.Numbers.{focus_of, worse_of}
use Rattle.hx_count.specs.Hints.{AreOpen}
use Rattle.hx_ordering.specs.declared.children.Child.{Child}
use Rattle.hx_ordering.specs.declared.focus.TheConstants.{MOST_IN_FOCUS}
use Rattle.hx_ordering.specs.declared.marks.TheConstants.{PROVED}
use Rattle.hx_ordering.specs.declared.rest.TheConstants.{AS_TWO}

-- the moves in focus: the first quarter of those that are left, and one more
abbrev pub focused_of : List Child → List Child
focused_of children = take (min (focus_of (length children)) MOST_IN_FOCUS) children

-- numbers that a hint can tell: open ones, which no word has that nobody wrote, and which are no mark
pub record IsHint (numbers : Numbers) : Type 0 where
  pub is_open : AreOpen numbers
  pub seen : numbers ≢ UNSEEN
  pub unmarked : numbers ≢ PROVED

-- a move tells its own numbers, or those of a hint; and it looks harder by one for each worker below it. What the hint
-- says and how many workers there are is as it was seen: others may change both at any time
pub record IsTold (child : Child) (told : Numbers) : Type 0 where
  pub hinted : Numbers
  pub workers : ℕ
  pub own_or_hint : (hinted ≡ child.numbers) ⊎ IsHint hinted
  pub harder : told ≡ worse_of hinted workers

-- each of these moves tells the numbers in its place
abbrev pub AreTold : List Child → List Numbers → Type 0
AreTold [] [] = Unit {0}
AreTold (child ∷ children) (numbers ∷ told) = IsTold child numbers × AreTold children told
AreTold children told = ⊥

-- the phi of the rest, if it is not 0; no delta is higher than that of the rest
abbrev with_phi : ℕ → Option Numbers
with_phi zero = None
with_phi (suc phi) = Some (record { phi = suc phi; delta = INF })

-- what so many moves out of focus count together: eleven of them as much as two that are as easy to refute as can be
abbrev pub rest_of : ℕ → Option Numbers
rest_of out_of_focus = with_phi (2 * min out_of_focus CELLS / AS_TWO)

-- some numbers, and behind them those of the rest, where it counts
abbrev pub and_rest : List Numbers → Option Numbers → List Numbers
and_rest told None = told
and_rest told (Some rest) = told ++ rest ∷ []

-- the numbers that some moves give: those that the moves in focus tell, and behind them what the others count together
pub record AreGiven (children : List Child) (given : List Numbers) : Type 0 where
  pub told : List Numbers
  pub by_focused : AreTold (focused_of children) told
  pub with_rest : given ≡ and_rest told (rest_of (length children - length (focused_of children)))
