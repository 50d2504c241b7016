-- The two players.
use Rattle.std.proofs.Common.{◌≡◌, ◌≢◌, refl, ◌⊎◌, inl, inr}
use Rattle.hx_board.specs.declared.colours.Colour.{Colour}
use Rattle.hx_board.specs.declared.colours.Colour.TheVariants.{Black, White}
use Rattle.hx_board.specs.Colours.{other_of}

pub other-other : (player : Colour) → other_of (other_of player) ≡ player
other-other Black = refl
other-other White = refl

pub other-differs : (player : Colour) → player ≢ other_of player
other-differs Black e = cc
other-differs White e = cc

pub one_or_other : (who player : Colour) → (who ≡ player) ⊎ (who ≡ other_of player)
one_or_other Black Black = inl refl
one_or_other Black White = inr refl
one_or_other White Black = inr refl
one_or_other White White = inl refl
