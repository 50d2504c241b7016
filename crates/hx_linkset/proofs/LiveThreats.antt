-- The threats of a position are live links between its sides.
use Rattle.std.proofs.Common.{ℕ, ◌<◌, List, length}
use Rattle.std.proofs.lemmas.Option.{slice_get_within, get_or_from_slice_get}
use Rattle.std.specs.List.{All as Each}
use Rattle.hx_board.specs.declared.vertices.Vertex.TheVariants.{First, Last}
use Rattle.hx_board.specs.Lists.{StandsIn}
use Rattle.hx_linkset.specs.States.{Standing, IsLiveAt}
use Rattle.hx_linkset.specs.LivePairs.{IsLivePair}

pub threats-live : (set : Standing) (threats : List ℕ) → Each (IsLivePair set First Last) threats → (index : ℕ) → StandsIn threats index
    → IsLiveAt set.present.board set.player set.present.links index
threats-live set threats live index is =
    let less : is.0 < length threats = slice_get_within threats is.0 index is.1 in
    let pair : IsLivePair set First Last index = rw (get_or_from_slice_get threats is.0 index index is.1) at (live is.0 index less) in
    (pair.0, (pair.1.0, pair.1.1.0))
