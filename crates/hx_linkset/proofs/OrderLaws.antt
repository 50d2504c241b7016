-- Two ends in either order, of which one is the lower. A link whose lower end comes first has it where they have it.
use Rattle.std.proofs.Common.{◌≡◌, ◌<◌, sym, ap, ◌∙◌, inl, inr, ⊎_elim, arith}
use Rattle.hx_board.specs.declared.vertices.Vertex.{Vertex}
use Rattle.hx_board.specs.VertexSets.{code_of}
use Rattle.hx_link.specs.declared.links.Link.{Link}
use Rattle.hx_link.specs.Steps.{HasEnds}
use Rattle.hx_linkset.specs.Held.{AreLowAndHigh}

module _ (a b low high : Vertex) (order : AreLowAndHigh a b low high) (link : Link) where
  -- of these ends is what joins the lower one to the higher one
  pub ends-to : (link.a ≡ low) × (link.b ≡ high) → HasEnds link a b
  ends-to e = ⊎_elim (λ w. inl (e.0 ∙ w.0, e.1 ∙ w.1)) (λ w. inr (e.0 ∙ w.0, e.1 ∙ w.1)) order.same

  -- no link has the higher one first
  crossed : code_of link.a < code_of link.b → link.a ≡ high → link.b ≡ low → ⊥
  crossed less e f = absurd (omega (arith, less, ap code_of e, ap code_of f, order.order))

  -- and a link of these ends joins the lower one to the higher one
  pub ends-from : code_of link.a < code_of link.b → HasEnds link a b → (link.a ≡ low) × (link.b ≡ high)
  ends-from less h = ⊎_elim
      (λ w. ⊎_elim (λ e. (e.0 ∙ sym w.0, e.1 ∙ sym w.1)) (λ e. absurd (crossed less (e.0 ∙ sym w.1) (e.1 ∙ sym w.0))) h)
      (λ w. ⊎_elim (λ e. absurd (crossed less (e.0 ∙ sym w.1) (e.1 ∙ sym w.0))) (λ e. (e.0 ∙ sym w.0, e.1 ∙ sym w.1)) h)
      order.same
