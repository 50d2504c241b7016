-- What some headings say, and stones on many cells. These words are for the functions inside the crate alone.
use Rattle.std.specs.Prelude.{◌≡◌, ℕ, List, [], ◌∷◌, slice_get}
use Rattle.std.specs.declared.option.Option.TheVariants.{Some}
use Rattle.hx_board.specs.declared.colours.Colour.{Colour}
use Rattle.hx_board.specs.declared.colours.Colour.TheVariants.{Black, White}
use Rattle.hx_board.specs.Sets.{union}
use Rattle.hx_board.specs.Positions.{Board}
use Rattle.hx_tree.specs.declared.nodes.Heading.{Heading}
use Rattle.hx_tree.specs.declared.nodes.Node.{Node}
use Rattle.hx_tree.specs.Trees.{headings_of}

-- the headings are those of the list's nodes at these places
abbrev pub AreKnown : List Node → List Heading → List ℕ → Type 0
AreKnown list [] [] = Unit {0}
AreKnown list [] (place ∷ places) = ⊥
AreKnown list (heading ∷ headings) [] = ⊥
AreKnown list (heading ∷ headings) (place ∷ places) =
    (slice_get (headings_of list) place ≡ Some heading) × AreKnown list headings places

-- the board with a player's stones on these cells too
abbrev pub put_set : Board → Colour → ℕ → Board
put_set board Black cells = record board { black = union board.black cells }
put_set board White cells = record board { white = union board.white cells }
