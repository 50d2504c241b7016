-- What a set of links is after the calls of a search: words for the functions inside the crate alone.
use Rattle.std.specs.Prelude.{◌≡◌}
use Rattle.hx_linkset.specs.States.{Standing}

-- links may have come; the player, the board and the plays that stand are as before
pub record StandsAgain (old new : Standing) : Type 0 where
  pub same_player : new.player ≡ old.player
  pub same_board : new.present.board ≡ old.present.board
  pub same_past : new.past ≡ old.past
