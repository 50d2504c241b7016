-- The two players.
use Rattle.hx_board.specs.declared.colours.Colour.{Colour}
use Rattle.hx_board.specs.declared.colours.Colour.TheVariants.{Black, White}

-- the opponent
abbrev pub other_of : Colour → Colour
other_of Black = White
other_of White = Black
