-- The lines of a template's text tell the template, and those up to the ends tell the board and the ends.
use Rattle.std.proofs.Common.{◌≡◌, ℕ, ◌<◌, List, [], ◌∷◌, ◌++◌, sym, subst, arith}
use Rattle.hx_board.specs.declared.colours.Colour.{Colour}
use Rattle.hx_board.specs.declared.vertices.Vertex.{Vertex}
use Rattle.hx_board.specs.Graph.{IsVertex}
use Rattle.hx_board.specs.Positions.{Board, IsBoard}
use Rattle.hx_board.proofs.SetLaws.{set-small}
use Rattle.hx_board.proofs.CellLaws.{on_board-small}
use Rattle.hx_link.specs.declared.links.Kind.{Kind}
use Rattle.hx_link.proofs.LinkLaws.{end-vertex}
use Rattle.hx_lex.specs.Words.{IsSet}
use Rattle.hx_text.proofs.Cuts.{text_injective}
use Rattle.hx_template_text.specs.declared.templates.Template.{Template}
use Rattle.hx_template_text.specs.Templates.{board_lines, owner_line, kind_line, ends_line, carrier_line, template_lines, template_text}
use Rattle.hx_template_text.specs.Templates.{IsCarrierOf, IsTemplate}
use Rattle.hx_template_text.proofs.LineWords.{owner_injective, kind_injective, ends_injective, carrier_injective, board_injective}
use Rattle.hx_template_text.proofs.LineWords.{AllLack-template_lines}

abbrev lines_behind_board : Template → List (List ℕ)
lines_behind_board claim = owner_line claim.owner ∷ kind_line claim.kind ∷ ends_line claim.a claim.b ∷ carrier_line claim.carrier ∷ []

-- lines that begin with those of one board and go on are of a claim on this board
pub board_told : (board : Board) (claim : Template) (more : List (List ℕ)) → IsBoard board → IsTemplate claim
    → board_lines board ++ more ≡ template_lines claim → board ≡ claim.position
board_told board claim more is is_template same =
    let boards : board_lines board ≡ board_lines claim.position = fronts board claim.position more (lines_behind_board claim) same in
    board_injective board claim.position is is_template.board boards
  where
    fronts : (one other : Board) (more rest : List (List ℕ)) → board_lines one ++ more ≡ board_lines other ++ rest
        → board_lines one ≡ board_lines other
    fronts one other more rest e = cc

pub ends_told : (one other : Template) → IsTemplate one → IsTemplate other → one.position ≡ other.position
    → ends_line one.a one.b ≡ ends_line other.a other.b → (one.a ≡ other.a) × (one.b ≡ other.b)
ends_told one other is other_is boards e =
    let on_a : IsVertex one.position.size other.a =
    subst (λ (z : Board). IsVertex z.size other.a) (sym boards) (end-vertex other.position other.owner other.a other_is.ends.a_end) in
    let on_b : IsVertex one.position.size other.b =
    subst (λ (z : Board). IsVertex z.size other.b) (sym boards) (end-vertex other.position other.owner other.b other_is.ends.b_end) in
    ends_injective one.position.size is.board.0 one.a one.b other.a other.b (end-vertex one.position one.owner one.a is.ends.a_end)
    (end-vertex one.position one.owner one.b is.ends.b_end) on_a on_b e

-- the cells of a carrier are on the board
pub carrier_small : (board : Board) → IsBoard board → (a b : Vertex) (carrier : ℕ) → IsCarrierOf board a b carrier → IsSet carrier
carrier_small board is a b carrier fits = set-small carrier
    (λ n h. let small : n < 121 = on_board-small board.size n is.0 (fits.free n h).on_board in omega arith)

abbrev claim_of : Board → Colour → Kind → Vertex → Vertex → ℕ → Template
claim_of board owner kind a b carrier = record { position = board; owner = owner; kind = kind; a = a; b = b; carrier = carrier }

same_claim : {p q : Board} {o r : Colour} {k l : Kind} {a b x y : Vertex} {c d : ℕ} → p ≡ q → o ≡ r → k ≡ l → a ≡ x → b ≡ y → c ≡ d
    → claim_of p o k a b c ≡ claim_of q r l x y d
same_claim e f g h i j = cc

-- two templates with the same text are the same
pub text_tells_template : (one other : Template) → IsTemplate one → IsTemplate other → template_text one ≡ template_text other → one ≡ other
text_tells_template one other is other_is e =
    let same : template_lines one ≡ template_lines other =
    text_injective (template_lines one) (template_lines other) (AllLack-template_lines one is) (AllLack-template_lines other other_is) e in
    let boards : one.position ≡ other.position = board_told one.position other (lines_behind_board one) is.board other_is same in
    let fifth : owner_line one.owner ≡ owner_line other.owner = cc in
    let sixth : kind_line one.kind ≡ kind_line other.kind = cc in
    let seventh : ends_line one.a one.b ≡ ends_line other.a other.b = cc in
    let eighth : carrier_line one.carrier ≡ carrier_line other.carrier = cc in
    let ends : (one.a ≡ other.a) × (one.b ≡ other.b) = ends_told one other is other_is boards seventh in
    let small : IsSet one.carrier = carrier_small one.position is.board one.a one.b one.carrier is.carrier in
    let few : IsSet other.carrier = carrier_small other.position other_is.board other.a other.b other.carrier other_is.carrier in
    same_claim boards (owner_injective one.owner other.owner fifth) (kind_injective one.kind other.kind sixth) ends.0 ends.1
    (carrier_injective one.carrier other.carrier small few eighth)
