-- The first faulty line of a template's text: one of its board's, one of the four behind that, or one more.
use Rattle.std.proofs.Common.{◌≡◌, ◌≢◌, ℕ, ◌<◌, List, [], ◌∷◌, ◌++◌, length, refl, sym, ap, ◌∙◌, subst, arith, None}
use Rattle.hx_board.specs.declared.colours.Colour.{Colour}
use Rattle.hx_board.specs.declared.colours.Colour.TheVariants.{Black}
use Rattle.hx_board.specs.declared.vertices.Vertex.{Vertex}
use Rattle.hx_board.specs.declared.vertices.Vertex.TheVariants.{First, Last}
use Rattle.hx_board.specs.Positions.{Board, IsBoard}
use Rattle.hx_link.specs.declared.links.Kind.{Kind}
use Rattle.hx_link.specs.declared.links.Kind.TheVariants.{Full}
use Rattle.hx_lex.specs.Words.{Reads}
use Rattle.hx_parse.specs.Boards.{IsBoardFault}
use Rattle.hx_parse.specs.TextLines.{Unread, StandsBehind, LacksLine}
use Rattle.hx_parse.proofs.BoardFaults.{HasBoard, board_fault}
use Rattle.hx_parse.proofs.UnreadLines.{lacking_is_faulty, surplus_line_is_faulty}
use Rattle.hx_text.specs.Grammars.{Begins, IsFaultyLine}
use Rattle.hx_template_text.specs.declared.lines.Ends.{Ends}
use Rattle.hx_template_text.specs.declared.templates.Template.{Template}
use Rattle.hx_template_text.specs.Templates.{template_title, board_lines, owner_line, kind_line, ends_line, carrier_line, template_lines}
use Rattle.hx_template_text.specs.Templates.{AreEnds, IsCarrierOf, IsTemplate, AreTemplateLines}
use Rattle.hx_template_text.proofs.LineWords.{owner_injective, AllLack-template}
use Rattle.hx_template_text.proofs.ToldTemplates.{board_told, ends_told}
use Rattle.hx_template_text.proofs.Beginnings.{begins_by, begins_by_sides}

has_board : (lines : List (List ℕ)) → AreTemplateLines lines → HasBoard template_title lines
has_board lines are = let claim = are.claim in record {
  board = claim.position;
  is_board = are.is_template.board;
  more = owner_line claim.owner ∷ kind_line claim.kind ∷ ends_line claim.a claim.b ∷ carrier_line claim.carrier ∷ [];
  parts = are.same;
}

board_begins : (board : Board) → IsBoard board → Begins AreTemplateLines (board_lines board)
board_begins board is =
    let rest : List (List ℕ) = owner_line Black ∷ kind_line Full ∷ ends_line First Last ∷ carrier_line 0 ∷ [] in
    begins_by_sides (board_lines board) rest board Black Full is refl

pub no_board : (bytes : List ℕ) (line : ℕ) → IsBoardFault template_title bytes line → IsFaultyLine AreTemplateLines bytes line
no_board bytes line fault = board_fault template_title AreTemplateLines has_board board_begins bytes line fault

module _ {bytes : List ℕ} {unread : Unread} {line : ℕ} where
  lacking : {Holds : List ℕ → Type 0} {before : List (List ℕ)} → StandsBehind bytes before unread → LacksLine Holds unread line
      → Begins AreTemplateLines before → length before < 8
      → ((next : List ℕ) → Holds next → Begins AreTemplateLines (before ++ next ∷ []) → ⊥) → IsFaultyLine AreTemplateLines bytes line
  lacking stands lacks begins few other =
      lacking_is_faulty AreTemplateLines AllLack-template stands lacks begins (λ are. absurd (omega (arith, few, ap length are.same))) other

  module _ (board : Board) (is : IsBoard board) where
    pub no_owner : StandsBehind bytes (board_lines board) unread
        → LacksLine (λ text. Reads owner_line (λ _. Unit {0}) text None) unread line → IsFaultyLine AreTemplateLines bytes line
    no_owner stands lacks = lacking stands lacks (board_begins board is) (omega arith) (λ next other b.
        let same : board_lines board ++ next ∷ b.0 ≡ template_lines b.1.claim = b.1.same in
        let fifth : next ≡ owner_line b.1.claim.owner = cc in
        other b.1.claim.owner tt fifth)

    pub no_kind : (owner : Colour) → StandsBehind bytes (board_lines board ++ owner_line owner ∷ []) unread
        → LacksLine (λ text. Reads kind_line (λ _. Unit {0}) text None) unread line → IsFaultyLine AreTemplateLines bytes line
    no_kind owner stands lacks =
        let begins = begins_by_sides (board_lines board ++ owner_line owner ∷ []) _ board owner Full is refl in
        lacking stands lacks begins (omega arith) (λ next other b.
        let same : board_lines board ++ owner_line owner ∷ next ∷ b.0 ≡ template_lines b.1.claim = b.1.same in
        let sixth : next ≡ kind_line b.1.claim.kind = cc in
        other b.1.claim.kind tt sixth)

    pub no_ends : (owner : Colour) (kind : Kind) → StandsBehind bytes (board_lines board ++ owner_line owner ∷ kind_line kind ∷ []) unread
        → LacksLine
        (λ text. Reads (λ (ends : Ends). ends_line ends.a ends.b) (λ ends. AreEnds board owner ends.a ends.b) text None) unread line
        → IsFaultyLine AreTemplateLines bytes line
    no_ends owner kind stands lacks =
        let begins = begins_by_sides (board_lines board ++ owner_line owner ∷ kind_line kind ∷ []) _ board owner kind is refl in
        lacking stands lacks begins (omega arith) (λ next other b.
        let claim = b.1.claim in
        let same : board_lines board ++ owner_line owner ∷ kind_line kind ∷ next ∷ b.0 ≡ template_lines claim = b.1.same in
        let boards : board ≡ claim.position =
        board_told board claim (owner_line owner ∷ kind_line kind ∷ next ∷ b.0) is b.1.is_template same in
        let fifth : owner_line owner ≡ owner_line claim.owner = cc in
        let seventh : next ≡ ends_line claim.a claim.b = cc in
        let owners : owner ≡ claim.owner = owner_injective owner claim.owner fifth in
        let are : AreEnds claim.position owner claim.a claim.b =
        subst (λ (z : Colour). AreEnds claim.position z claim.a claim.b) (sym owners) b.1.is_template.ends in
        other (record { a = claim.a; b = claim.b }) (subst (λ (z : Board). AreEnds z owner claim.a claim.b) (sym boards) are)
        seventh)

  module _ (claim : Template) (is : IsTemplate claim) where
    pub no_carrier :
        StandsBehind bytes (board_lines claim.position ++ owner_line claim.owner ∷ kind_line claim.kind ∷ ends_line claim.a claim.b ∷ []) unread
        → LacksLine (λ text. Reads carrier_line (IsCarrierOf claim.position claim.a claim.b) text None) unread line
        → IsFaultyLine AreTemplateLines bytes line
    no_carrier stands lacks =
        let begins = begins_by
        (board_lines claim.position ++ owner_line claim.owner ∷ kind_line claim.kind ∷ ends_line claim.a claim.b ∷ [])
        (carrier_line claim.carrier ∷ []) claim is refl in
        lacking stands lacks begins (omega arith) (λ next other b.
        let told = b.1.claim in
        let told_is = b.1.is_template in
        let behind : List (List ℕ) = owner_line claim.owner ∷ kind_line claim.kind ∷ ends_line claim.a claim.b ∷ next ∷ b.0 in
        let same : board_lines claim.position ++ owner_line claim.owner ∷ kind_line claim.kind ∷ ends_line claim.a claim.b ∷ next ∷ b.0
        ≡ template_lines told = b.1.same in
        let boards : claim.position ≡ told.position = board_told claim.position told behind is.board told_is same in
        let seventh : ends_line claim.a claim.b ≡ ends_line told.a told.b = cc in
        let eighth : next ≡ carrier_line told.carrier = cc in
        let ends : (claim.a ≡ told.a) × (claim.b ≡ told.b) = ends_told claim told is told_is boards seventh in
        other told.carrier
        (subst (λ (z : Board). IsCarrierOf z claim.a claim.b told.carrier) (sym boards)
        (subst (λ (z : Vertex). IsCarrierOf told.position z claim.b told.carrier) (sym ends.0)
        (subst (λ (z : Vertex). IsCarrierOf told.position told.a z told.carrier) (sym ends.1) told_is.carrier))) eighth)

    pub ninth_line : StandsBehind bytes (template_lines claim) unread → unread.rest ≢ [] → line ≡ unread.number
        → IsFaultyLine AreTemplateLines bytes line
    ninth_line stands some named =
        surplus_line_is_faulty AreTemplateLines AllLack-template stands some named (begins_by (template_lines claim) [] claim is refl)
        (λ next b. absurd (omega (arith, ap length b.1.same)))
