-- What may change in a set to which links are added.
use Rattle.std.specs.Prelude.{◌≡◌, ℕ, ◌≤◌, length, slice_get}
use Rattle.std.specs.declared.option.Option.TheVariants.{Some}
use Rattle.hx_link.specs.declared.links.Link.{Link}
use Rattle.hx_link.specs.declared.steps.Step.{Step}
use Rattle.hx_linkset.specs.States.{Standing}

-- links with their steps were added at the end, and nothing else changed
pub record IsGrown (old new : Standing) : Type 0 where
  pub same_player : new.player ≡ old.player
  pub same_board : new.present.board ≡ old.present.board
  pub same_past : new.past ≡ old.past
  pub longer : length old.present.links ≤ length new.present.links
  pub links_stay : (place : ℕ) (link : Link) → slice_get old.present.links place ≡ Some link
      → slice_get new.present.links place ≡ Some link
  pub steps_stay : (place : ℕ) (step : Step) → slice_get old.present.steps place ≡ Some step
      → slice_get new.present.steps place ≡ Some step
