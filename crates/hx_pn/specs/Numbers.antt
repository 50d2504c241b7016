-- Proof and disproof numbers, seen from the player who is to move, and what a node takes from its children.
use Rattle.std.specs.Prelude.{◌≡◌, ◌⊎◌, ℕ, zero, suc, ◌+◌, ◌-◌, ◌/◌, ◌<◌, ◌≤◌, min}
use Rattle.std.specs.Prelude.{List, [], ◌∷◌, sum_by, slice_get}
use Rattle.std.specs.declared.option.Option.TheVariants.{Some}
use Rattle.hx_pn.specs.declared.proof_numbers.TheConstants.{INF}
use Rattle.hx_pn.specs.declared.proof_numbers.Numbers.{Numbers}
use Rattle.hx_pn.specs.declared.descents.Best.{Best}

-- neither number is above that of what cannot be proved
pub record IsNumbers (numbers : Numbers) : Type 0 where
  pub phi : numbers.phi ≤ INF
  pub delta : numbers.delta ≤ INF

-- the least delta of some children, infinite where there is none
abbrev pub least_delta : List Numbers → ℕ
least_delta [] = INF
least_delta (child ∷ children) = min child.delta (least_delta children)

-- what the mover must prove: the easiest child
abbrev pub phi_of : List Numbers → ℕ
phi_of children = least_delta children

-- what the opponent must prove: all children
abbrev pub delta_of : List Numbers → ℕ
delta_of children = min (sum_by (λ (child : Numbers). child.phi) children) INF

-- the child at this place has the least delta, and is the first that has it
pub record IsChosen (children : List Numbers) (place : ℕ) (child : Numbers) : Type 0 where
  pub there : slice_get children place ≡ Some child
  pub least : child.delta ≡ least_delta children
  pub first : (other : ℕ) (earlier : Numbers) → other < place → slice_get children other ≡ Some earlier
      → child.delta < earlier.delta

-- the least delta of the children but for the one at this place
abbrev pub second_delta : List Numbers → ℕ → ℕ
second_delta [] place = INF
second_delta (child ∷ children) zero = least_delta children
second_delta (child ∷ children) (suc place) = min child.delta (second_delta children place)

-- a node has reached a threshold
abbrev pub HasReached : Numbers → List Numbers → Type 0
HasReached limit children = (limit.phi ≤ phi_of children) ⊎ (limit.delta ≤ delta_of children)

-- the thresholds of a child
abbrev pub child_limit : Numbers → List Numbers → ℕ → Numbers → Numbers
child_limit limit children place child = record {
  phi = limit.delta + child.phi - delta_of children;
  delta = min limit.phi (min (second_delta children place + 1) INF);
}

-- of so many live children the first ones are looked at
abbrev pub focus_of : ℕ → ℕ
focus_of live = min live (1 + (live + 3) / 4)

-- a child looks harder by one for each holder
abbrev pub worse_of : Numbers → ℕ → Numbers
worse_of numbers holders = record { phi = numbers.phi; delta = min (numbers.delta + holders) INF }

-- ---- words for the functions inside the crate alone

-- the chosen child, its place and the second least delta
pub record IsBest (children : List Numbers) (best : Best) : Type 0 where
  pub chosen : IsChosen children best.place best.child
  pub second : best.second ≡ second_delta children best.place
