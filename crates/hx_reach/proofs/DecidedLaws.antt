-- Where no live link between the two sides is of a kind that decides, the position is not decided.
use Rattle.std.proofs.Common.{◌≡◌, ℕ, ⊎_elim}
use Rattle.hx_board.specs.declared.colours.Colour.{Colour}
use Rattle.hx_board.specs.declared.vertices.Vertex.TheVariants.{First, Last}
use Rattle.hx_link.specs.declared.links.Kind.TheVariants.{Full, Semi}
use Rattle.hx_linkset.specs.States.{Standing}
use Rattle.hx_linkset.specs.LiveOf.{IsLiveOf}
use Rattle.hx_linkset.specs.LiveOf.{Decides}

-- neither a Full link nor, with the move, a Semi link
pub not_decided : (set : Standing) (to_move : Colour) → ((place : ℕ) → IsLiveOf set Full First Last place → ⊥)
    → (set.player ≡ to_move → (place : ℕ) → IsLiveOf set Semi First Last place → ⊥) → (place : ℕ) → Decides set to_move place → ⊥
not_decided set to_move no_full no_semi place decides =
    ⊎_elim (λ full. no_full place full)
    (λ (semi : IsLiveOf set Semi First Last place × (set.player ≡ to_move)). no_semi semi.1 place semi.0) decides
