-- A line of ends or of a carrier that was read and does not fit is the line of no ends and of no carrier that do.
use Rattle.std.proofs.Common.{◌≡◌, ℕ, List, sym, ◌∙◌, subst}
use Rattle.hx_board.specs.declared.colours.Colour.{Colour}
use Rattle.hx_board.specs.declared.vertices.Vertex.{Vertex}
use Rattle.hx_board.specs.Graph.{IsVertex}
use Rattle.hx_board.specs.Positions.{Board, IsBoard}
use Rattle.hx_link.proofs.LinkLaws.{end-vertex}
use Rattle.hx_lex.specs.Words.{IsSet}
use Rattle.hx_template_text.specs.declared.lines.Ends.{Ends}
use Rattle.hx_template_text.specs.Templates.{ends_line, carrier_line, AreEnds, IsCarrierOf}
use Rattle.hx_template_text.proofs.LineWords.{ends_injective, carrier_injective}
use Rattle.hx_template_text.proofs.ToldTemplates.{carrier_small}

module _ (board : Board) (is : IsBoard board) where
  pub ends_misfit : (owner : Colour) (a b : Vertex) (line : List ℕ) → IsVertex board.size a → IsVertex board.size b → line ≡ ends_line a b
      → (AreEnds board owner a b → ⊥) → (ends : Ends) → AreEnds board owner ends.a ends.b → line ≡ ends_line ends.a ends.b → ⊥
  ends_misfit owner a b line on_a on_b e misfits ends are f =
      let same : (a ≡ ends.a) × (b ≡ ends.b) =
      ends_injective board.size is.0 a b ends.a ends.b on_a on_b (end-vertex board owner ends.a are.a_end)
      (end-vertex board owner ends.b are.b_end) (sym e ∙ f) in
      misfits
      (subst (λ (z : Vertex). AreEnds board owner z b) (sym same.0) (subst (λ (z : Vertex). AreEnds board owner ends.a z) (sym same.1) are))

  pub carrier_unread : (a b : Vertex) (line : List ℕ) → ((set : ℕ) → IsSet set → line ≡ carrier_line set → ⊥) → (set : ℕ)
      → IsCarrierOf board a b set → line ≡ carrier_line set → ⊥
  carrier_unread a b line none set fits e = none set (carrier_small board is a b set fits) e

  pub carrier_misfit : (a b : Vertex) (carrier : ℕ) (line : List ℕ) → IsSet carrier → line ≡ carrier_line carrier
      → (IsCarrierOf board a b carrier → ⊥) → (set : ℕ) → IsCarrierOf board a b set → line ≡ carrier_line set → ⊥
  carrier_misfit a b carrier line small e misfits set fits f =
      let same : carrier ≡ set = carrier_injective carrier set small (carrier_small board is a b set fits) (sym e ∙ f) in
      misfits (subst (λ (z : ℕ). IsCarrierOf board a b z) (sym same) fits)
