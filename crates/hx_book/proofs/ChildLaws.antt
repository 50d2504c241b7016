-- A child of a right node stands before it, on a board of the same size.
use Rattle.std.proofs.Common.{◌≡◌, ℕ, zero, suc, ◌<◌, List, [], ◌∷◌, take, refl, sym, ap, ◌∙◌, subst, Option, Some, None, arith}
use Rattle.std.proofs.lemmas.Option.{same_Some}
use Rattle.std.specs.Prelude.{slice_get, IsSomeAnd, IfSome}
use Rattle.hx_board.proofs.ListLaws.{get-map}
use Rattle.hx_board.specs.Cells.{Extent}
use Rattle.hx_board.specs.declared.colours.Colour.{Colour}
use Rattle.hx_board.specs.Positions.{Board, put}
use Rattle.hx_board.specs.Colours.{other_of}
use Rattle.hx_board.proofs.StoneLaws.{size-put}
use Rattle.hx_link.specs.declared.links.Link.{Link}
use Rattle.hx_tree.specs.declared.nodes.Heading.{Heading}
use Rattle.hx_tree.specs.declared.nodes.Line.{Line}
use Rattle.hx_tree.specs.declared.nodes.Line.TheVariants.{Child, Under}
use Rattle.hx_tree.specs.declared.nodes.Node.{Node}
use Rattle.hx_tree.specs.declared.nodes.Rule.{Rule}
use Rattle.hx_tree.specs.declared.nodes.Rule.TheVariants.{Chain, Links, Move, All, Fill, Turned}
use Rattle.hx_tree.specs.Headings.{Leads, heading_of}
use Rattle.hx_tree.specs.Rules.{IsRightRule, IsRightNode}
use Rattle.hx_tree.specs.Fills.{filled_all}
use Rattle.hx_tree.specs.Answers.{IsRightLine}
use Rattle.hx_tree.specs.Turns.{IsTurnedHeading}
use Rattle.hx_tree.proofs.FilledBoards.{size-filled_all}
use Rattle.hx_tree.specs.Trees.{headings_of, AreRight}
use Rattle.hx_book.specs.Trees.{NamesChild, Names, HasChildAt, LeadsTo, IsNeeded}

-- a heading of this size stands at a place
pub record HasSize (headings : List Heading) (size : Extent) (place : ℕ) : Type 0 where
  pub heading : Heading
  pub there : slice_get headings place ≡ Some heading
  pub same_size : heading.position.size ≡ size

some-size : (headings : List Heading) (place : ℕ) (board : Board) (mover winner : Colour) (size : Extent)
    → Leads headings place board mover winner → board.size ≡ size → HasSize headings size place
some-size headings place board mover winner size leads same =
    record { heading = heading_of board mover winner; there = leads; same_size = same }

turned-size : (found : Option Heading) (headings : List Heading) (place : ℕ) (heading : Heading) → slice_get headings place ≡ found
    → IsSomeAnd found (IsTurnedHeading heading) → HasSize headings heading.position.size place
turned-size None headings place heading there is = absurd is
turned-size (Some other) headings place heading there is = record { heading = other; there = there; same_size = is.turned.same_size }

line-size : (before : List Heading) (heading : Heading) (links : List Link) (threats : List ℕ) (lines : List Line) (line : Line) (child : ℕ)
    → IsRightLine before heading links threats lines line → NamesChild line child → HasSize before heading.position.size child
line-size before heading links threats lines (Child cell own) child right names = rw names
    (some-size before own
    (put heading.position (other_of heading.winner) cell) heading.winner heading.winner heading.position.size right
    (size-put heading.position (other_of heading.winner) cell))
line-size before heading links threats lines (Under cell better kill) child right names = absurd names

pub rule-size : (before : List Heading) (heading : Heading) (rule : Rule) (child : ℕ) → IsRightRule before heading rule → Names rule child
    → HasSize before heading.position.size child
rule-size before heading Chain child right names = absurd names
rule-size before heading (Links steps) child right names = absurd names
rule-size before heading (Move cell own) child right names = rw names
    (some-size before own (put heading.position heading.winner cell)
    (other_of heading.winner) heading.winner heading.position.size right.leads
    (size-put heading.position heading.winner cell))
rule-size before heading (All steps threats lines) child right names =
    let each = right.lines_right names.k in
    line-size before heading right.links threats lines names.line child (rw names.there at each) names.names
rule-size before heading (Fill steps own) child right names = rw names
    (some-size before own
    (filled_all heading.position heading.winner steps) heading.to_move heading.winner heading.position.size right.leads
    (size-filled_all heading.position heading.winner steps))
rule-size before heading (Turned own) child right names = rw names (turned-size (slice_get before own) before own heading refl right)

-- ---- what stands before a place

pub take-heading : (nodes : List Node) (bound place : ℕ) → place < bound
    → slice_get (headings_of (take bound nodes)) place ≡ slice_get (headings_of nodes) place
take-heading [] zero place less = absurd (omega arith)
take-heading [] (suc bound) place less = refl
take-heading (node ∷ nodes) zero place less = absurd (omega arith)
take-heading (node ∷ nodes) (suc bound) zero less = refl
take-heading (node ∷ nodes) (suc bound) (suc place) less = take-heading nodes bound place (omega arith)

take-before : (nodes : List Node) (bound place : ℕ) (heading : Heading) → slice_get (headings_of (take bound nodes)) place ≡ Some heading
    → place < bound
take-before [] zero place heading e = cc
take-before [] (suc bound) place heading e = cc
take-before (node ∷ nodes) zero place heading e = cc
take-before (node ∷ nodes) (suc bound) zero heading e = omega arith
take-before (node ∷ nodes) (suc bound) (suc place) heading e = omega (arith, take-before nodes bound place heading e)

pub right-at : (nodes : List Node) → AreRight nodes → (place : ℕ) (node : Node) → slice_get nodes place ≡ Some node
    → IsRightNode (headings_of (take place nodes)) node
right-at nodes right place node there =
    subst (λ (found : Option Node). IfSome found (IsRightNode (headings_of (take place nodes)))) there (right place)

module _ (nodes : List Node) (right : AreRight nodes) (place : ℕ) (node : Node) (there : slice_get nodes place ≡ Some node) (child : ℕ)
    (names : Names node.rule child) where
  found : HasSize (headings_of (take place nodes)) node.heading.position.size child
  found = rule-size (headings_of (take place nodes)) node.heading node.rule child (right-at nodes right place node there).rule names

  pub child-before : child < place
  child-before = take-before nodes place child found.heading found.there

  pub child-size : HasSize (headings_of nodes) node.heading.position.size child
  child-size = record {
    heading = found.heading;
    there = sym (take-heading nodes place child child-before) ∙ found.there;
    same_size =
        found.same_size;
  }

-- ---- what is needed

pub leads-further : (nodes : List Node) (path : List ℕ) (first last next : ℕ) → LeadsTo nodes first path last → HasChildAt nodes last next
    → IsNeeded nodes first next
leads-further nodes [] first last next leads child = (next ∷ [], (subst (λ (p : ℕ). HasChildAt nodes p next) (sym leads) child, refl))
leads-further nodes (step ∷ path) first last next leads child =
    let on = leads-further nodes path step last next leads.1 child in
    (step ∷ on.0, (leads.0, on.1))

pub needed-size : (nodes : List Node) → AreRight nodes → (path : List ℕ) (root place : ℕ) (top heading : Heading)
    → LeadsTo nodes root path place
    → slice_get (headings_of nodes) root ≡ Some top → slice_get (headings_of nodes) place ≡ Some heading
    → heading.position.size ≡ top.position.size
needed-size nodes right [] root place top heading leads at_root at_place =
    let same : top ≡ heading = same_Some top heading (sym at_root ∙ ap (λ (p : ℕ). slice_get (headings_of nodes) p) leads ∙ at_place) in
    ap (λ (h : Heading). h.position.size) (sym same)
needed-size nodes right (next ∷ path) root place top heading leads at_root at_place =
    let step : HasChildAt nodes root next = leads.0 in
    let size : HasSize (headings_of nodes) step.node.heading.position.size next =
    child-size nodes right root step.node step.there next step.names in
    let same : step.node.heading ≡ top =
    same_Some step.node.heading top (sym (get-map (λ (n : Node). n.heading) nodes root step.node step.there) ∙ at_root) in
    needed-size nodes right path next place size.heading heading leads.1 size.there at_place ∙ size.same_size
    ∙ ap (λ (h : Heading). h.position.size) same
