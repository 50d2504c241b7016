-- What a call of `add` answers.
use Rattle.std.specs.Prelude.{◌≡◌, ℕ, ◌<◌, length, slice_get}
use Rattle.std.specs.declared.option.Option.TheVariants.{Some}
use Rattle.hx_board.specs.Sets.{IsSubset}
use Rattle.hx_link.specs.declared.links.Link.{Link}
use Rattle.hx_link.specs.declared.steps.Step.{Step}
use Rattle.hx_linkset.specs.declared.sets.Added.{Added}
use Rattle.hx_linkset.specs.declared.sets.Added.TheVariants.{New, Covered, Refused, Limit}
use Rattle.hx_linkset.specs.declared.limits.TheConstants.{MOST_LINKS}
use Rattle.hx_linkset.specs.States.{Standing, IsLive, GivesFromLive, added}

-- a link of the same kind and ends, whose carrier is inside the other's
pub record IsCover (by link : Link) : Type 0 where
  pub same_kind : by.kind ≡ link.kind
  pub same_a : by.a ≡ link.a
  pub same_b : by.b ≡ link.b
  pub inside : IsSubset by.carrier link.carrier

-- at this place is a live link that covers the other
pub record Covers (set : Standing) (place : ℕ) (link : Link) : Type 0 where
  pub by : Link
  pub there : slice_get set.present.links place ≡ Some by
  pub live : IsLive set.present.board set.player by
  pub cover : IsCover by link

-- the step gives the link from what is live now
abbrev pub Gives : Standing → Step → Link → Type 0
Gives set step link = GivesFromLive set.present.board set.player set.present.links step link

-- no live link covers it
abbrev pub IsUncovered : Standing → Link → Type 0
IsUncovered set link = (place : ℕ) → Covers set place link → ⊥

-- the step's link now stands after the others, and all else is as before
pub record IsNew (old new : Standing) (step : Step) (place : ℕ) : Type 0 where
  pub link : Link
  pub gives : Gives old step link
  pub uncovered : IsUncovered old link
  pub place_is : place ≡ length old.present.links
  pub small : place < MOST_LINKS
  pub grown : new ≡ record old { present = added old.present link step }

-- a live link at this place covers the step's link, and nothing changes
pub record IsCovered (old new : Standing) (step : Step) (place : ℕ) : Type 0 where
  pub link : Link
  pub gives : Gives old step link
  pub covers : Covers old place link
  pub same : new ≡ old

-- the step gives no link from live links, and nothing changes
pub record IsRefused (old new : Standing) (step : Step) : Type 0 where
  pub none : (link : Link) → Gives old step link → ⊥
  pub same : new ≡ old

-- the step gives a link that no live link covers, but `MOST_LINKS` are held already, and nothing changes
pub record IsAtLimit (old new : Standing) (step : Step) : Type 0 where
  pub link : Link
  pub gives : Gives old step link
  pub uncovered : IsUncovered old link
  pub full : length old.present.links ≡ MOST_LINKS
  pub same : new ≡ old

-- what each answer says of the set before and after
abbrev pub IsAdded : Standing → Standing → Step → Added → Type 0
IsAdded old new step (New place) = IsNew old new step place
IsAdded old new step (Covered place) = IsCovered old new step place
IsAdded old new step Refused = IsRefused old new step
IsAdded old new step Limit = IsAtLimit old new step

-- the step's link now stands after the others, whether a live link covers it or not, and all else is as before
pub record IsPutAt (old new : Standing) (step : Step) (place : ℕ) : Type 0 where
  pub link : Link
  pub gives : Gives old step link
  pub place_is : place ≡ length old.present.links
  pub small : place < MOST_LINKS
  pub grown : new ≡ record old { present = added old.present link step }

-- the step gives a link from live links, but `MOST_LINKS` are held already, and nothing changes
pub record IsKeptOut (old new : Standing) (step : Step) : Type 0 where
  pub link : Link
  pub gives : Gives old step link
  pub full : length old.present.links ≡ MOST_LINKS
  pub same : new ≡ old

-- what each answer of a call says that looks for no cover
abbrev pub IsPut : Standing → Standing → Step → Added → Type 0
IsPut old new step (New place) = IsPutAt old new step place
IsPut old new step (Covered place) = ⊥
IsPut old new step Refused = IsRefused old new step
IsPut old new step Limit = IsKeptOut old new step
