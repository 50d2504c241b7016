-- Where a player stands: the winner wins there, and a move by the tree or in links leads to where it stands again.
use Rattle.std.proofs.Common.{◌≡◌, ◌≢◌, ℕ, zero, suc, ◌-◌, ◌≤◌, List, [], ◌∷◌, take, length, get_or, refl, sym, ◌∙◌, subst, Some, None}
use Rattle.std.proofs.Common.{Option, ⊎_elim, arith}
use Rattle.std.specs.Prelude.{slice_get, IfSome, IsSomeAnd}
use Rattle.std.proofs.lemmas.List.Elements.{All-contains}
use Rattle.std.proofs.lemmas.Option.{get_or_from_slice_get, slice_get_within}
use Rattle.hx_board.specs.declared.colours.Colour.{Colour}
use Rattle.hx_board.specs.declared.vertices.Vertex.TheVariants.{First, Last}
use Rattle.hx_board.specs.Colours.{other_of}
use Rattle.hx_board.specs.Positions.{Board, put}
use Rattle.hx_board.specs.Graph.{HasChain}
use Rattle.hx_board.specs.Game.{Wins}
use Rattle.hx_board.proofs.ColourLaws.{other-differs}
use Rattle.hx_board.proofs.StoneLaws.{size-put, stones-put}
use Rattle.hx_board.proofs.KeptStones.{joined_stays}
use Rattle.hx_link.specs.declared.links.Link.{Link}
use Rattle.hx_link.specs.declared.steps.Step.{Step}
use Rattle.hx_link.specs.Steps.{AreRightSteps}
use Rattle.hx_tree.specs.declared.nodes.Heading.{Heading}
use Rattle.hx_tree.specs.declared.nodes.Node.{Node}
use Rattle.hx_tree.specs.Rules.{IsRightNode, IsRightRule, IsRightMove, steps_of}
use Rattle.hx_tree.specs.Trees.{headings_of, AreRight}
use Rattle.hx_proof.specs.Local.{LinkHolds}
use Rattle.hx_proof.specs.Winners.{OnlyWinner}
use Rattle.hx_proof.proofs.LinkSoundness.{right_steps_give_what_holds}
use Rattle.hx_proof.proofs.TreeSoundness.{tree_wins}
use Rattle.hx_play.specs.declared.stands.Stage.{Stage}
use Rattle.hx_play.specs.declared.stands.Stage.TheVariants.{AtNode, InLinks}
use Rattle.hx_play.specs.declared.stands.Stand.{Stand}
use Rattle.hx_play.specs.Standings.{FitsStage, IsIn, StandsAt, StartsBy}
use Rattle.hx_inferior.specs.declared.fills.FillStep.{FillStep}
use Rattle.hx_link.proofs.LinkLaws.{steps-length}
use Rattle.hx_tree.specs.declared.nodes.Line.{Line}
use Rattle.hx_tree.specs.declared.nodes.Rule.{Rule}
use Rattle.hx_tree.specs.declared.nodes.Rule.TheVariants.{Chain, Links, Move, All, Fill, Turned}
use Rattle.hx_tree.specs.declared.steps.TheConstants.{MOST_STEPS}
use Rattle.hx_tree.specs.Answers.{IsRightAll}
use Rattle.hx_tree.specs.Steps.{AreRightLinks}
use Rattle.hx_tree.proofs.StepGrowth.{same_links}
use Rattle.hx_tree.specs.Plain.{IsPlain, IsPlainRule, AreChildLines}
use Rattle.hx_play.specs.Kept.{AreLeft, HasStonesOf, IsMarked}
use Rattle.hx_play.proofs.KeptLaws.{stones-same}
use Rattle.hx_play.proofs.KeptWins.{kept_wins}

-- ---- nodes of a list

-- the node that is read is the one that is there
pub read-is : (nodes : List Node) (k : ℕ) (node read : Node) → slice_get nodes k ≡ Some node → read ≡ get_or nodes k read → read ≡ node
read-is nodes k node read there is = is ∙ get_or_from_slice_get nodes k node read there

-- of what holds of an earlier heading there is a node
pub earlier_node : (P : Heading → Type 0) (nodes : List Node) (k child : ℕ) → IsSomeAnd (slice_get (headings_of (take k nodes)) child) P
    → (node : Node) × ((slice_get nodes child ≡ Some node) × P node.heading)
earlier_node P [] zero child h = absurd h
earlier_node P [] (suc k) child h = absurd h
earlier_node P (node ∷ nodes) zero child h = absurd h
earlier_node P (node ∷ nodes) (suc k) zero h = (node, (refl, h))
earlier_node P (node ∷ nodes) (suc k) (suc child) h = earlier_node P nodes k child h

some_nodes : (nodes : List Node) (k : ℕ) (node : Node) → slice_get nodes k ≡ Some node → nodes ≢ []
some_nodes nodes k node there none = let Q : List Node → Type 0 = λ ns. slice_get ns k ≡ Some node in none_there (subst Q none there)
  where
    none_there : slice_get [] k ≡ Some node → ⊥
    none_there e = cc

pub right_at : (nodes : List Node) (k : ℕ) (node : Node) → AreRight nodes → slice_get nodes k ≡ Some node
    → IsRightNode (headings_of (take k nodes)) node
right_at nodes k node right there =
    let Q : Option Node → Type 0 = λ o. IfSome o (IsRightNode (headings_of (take k nodes))) in subst Q there (right k)

-- ---- the opponent's stone makes no chain

pub chain-before : (player : Colour) (board : Board) (cell : ℕ) → HasChain (put board (other_of player) cell) player → HasChain board player
chain-before player board cell chain =
    joined_stays player First Last (put board (other_of player) cell) board
    (record {
      same_size = sym (size-put board (other_of player) cell);
      own = λ n h. ⊎_elim (λ w. absurd (other-differs player (sym w.0))) (λ k. k) ((stones-put board (other_of player) player cell n).0 h);
    })
    chain

-- ---- the winner wins where the player stands

pub each_holds : (board : Board) (player : Colour) (steps : List Step) (links : List Link) → AreRightSteps board player [] steps links
    → (place : ℕ) (link : Link) → slice_get links place ≡ Some link → LinkHolds board player link
each_holds board player steps links right place link there = right_steps_give_what_holds board player steps links right link (place, there)

module _ (nodes : List Node) (stand : Stand) (node : Node) (is_in : IsIn nodes stand node) where
  abbrev WinsHere : Type 0
  WinsHere = Wins stand.winner stand.position stand.to_move

  node_wins : Wins node.heading.winner node.heading.position node.heading.to_move
  node_wins =
      let Q : Option Node → Type 0 = λ o. IfSome o (λ n. OnlyWinner n.heading) in
      let only : OnlyWinner node.heading = subst Q is_in.there
      (tree_wins nodes (record { some = some_nodes nodes stand.node node is_in.there; right = is_in.tree }) stand.node) in
      only.wins

  by_stage : (stage : Stage) → FitsStage node stand stage → WinsHere
  by_stage AtNode at = rw (← is_in.same_winner, ← at.same_position, ← at.same_mover) node_wins
  by_stage InLinks keeps =
      let wins : Wins node.heading.winner stand.position (other_of node.heading.winner) =
      kept_wins node.heading.winner node.heading.position stand.position stand.links.items stand.marks.items
      (each_holds node.heading.position node.heading.winner (steps_of node.rule) stand.links.items keeps.right) keeps.kept in
      let W : Colour → Type 0 = λ p. Wins p stand.position (other_of p) in
      let here : Wins stand.winner stand.position (other_of stand.winner) = subst W is_in.same_winner wins in
      rw keeps.others here

pub stands_wins : (nodes : List Node) (stand : Stand) → StandsAt nodes stand → Wins stand.winner stand.position stand.to_move
stands_wins nodes stand at = by_stage nodes stand at.node at.is_in stand.stage at.fits

-- ---- what a node's rule shows

module _ (nodes : List Node) (stand : Stand) (node : Node) (is_in : IsIn nodes stand node) where
  rule_right : (rule : Rule) → node.rule ≡ rule → IsRightRule (headings_of (take stand.node nodes)) node.heading rule
  rule_right rule is =
      let P : Rule → Type 0 = λ r. IsRightRule (headings_of (take stand.node nodes)) node.heading r in
      subst P is (right_at nodes stand.node node is_in.tree is_in.there).rule

  rule_plain : (rule : Rule) → node.rule ≡ rule → IsPlainRule rule
  rule_plain rule is =
      subst IsPlainRule is (All-contains IsPlain nodes node is_in.plain
      (stand.node, slice_get_within nodes stand.node node is_in.there, get_or_from_slice_get nodes stand.node node node is_in.there))

  pub links_right : (steps : List Step) → node.rule ≡ Links steps → AreRightLinks node.heading steps
  links_right steps is = rule_right (Links steps) is

  pub chain_right : node.rule ≡ Chain → HasChain node.heading.position node.heading.winner
  chain_right is = rule_right Chain is

  pub all_right : (steps : List Step) (threats : List ℕ) (lines : List Line) → node.rule ≡ All steps threats lines
      → IsRightAll (headings_of (take stand.node nodes)) node.heading steps threats lines
  all_right steps threats lines is = rule_right (All steps threats lines) is

  pub all_plain : (steps : List Step) (threats : List ℕ) (lines : List Line) → node.rule ≡ All steps threats lines → AreChildLines lines
  all_plain steps threats lines is = rule_plain (All steps threats lines) is

  pub move_right : (cell child : ℕ) → node.rule ≡ Move cell child
      → IsRightMove (headings_of (take stand.node nodes)) node.heading cell child
  move_right cell child is = rule_right (Move cell child) is

  pub not_fill : (steps : List FillStep) (child : ℕ) → node.rule ≡ Fill steps child → ⊥
  not_fill steps child is = rule_plain (Fill steps child) is

  pub not_turned : (child : ℕ) → node.rule ≡ Turned child → ⊥
  not_turned child is = rule_plain (Turned child) is

-- the links of a Links node start by the last one
abbrev pub starts_at_links : (node : Node) (stand : Stand) (steps : List Step) → node.rule ≡ Links steps → AreRightLinks node.heading steps
    → stand.position ≡ node.heading.position
    → AreRightSteps node.heading.position node.heading.winner [] steps stand.links.items → ((p : ℕ) → IsMarked stand.marks.items p → ⊥)
    → StartsBy node stand (length steps - 1)
starts_at_links node stand steps is shown same right none =
    let P : Rule → Type 0 = λ r. AreRightSteps node.heading.position node.heading.winner [] (steps_of r) stand.links.items in
    let F : Rule → Type 0 = λ r. length (steps_of r) ≤ MOST_STEPS in
    let one : shown.links ≡ stand.links.items =
    same_links node.heading.position node.heading.winner steps shown.links stand.links.items shown.steps_right
    (record { few = shown.steps_right.few; right = right }) in
    let long : length shown.links ≡ length steps =
    omega (arith, steps-length node.heading.position node.heading.winner [] steps shown.links shown.steps_right.right) in
    let L : ℕ → Type 0 = λ n. slice_get shown.links (n - 1) ≡ Some shown.last in
    let Q : List Link → Type 0 = λ ls. slice_get ls (length steps - 1) ≡ Some shown.last in
    record {
      right = subst P (sym is) right;
      few = subst F (sym is) shown.steps_right.few;
      none = none;
      link = shown.last;
      link_there = subst Q one (subst L long shown.is_last);
      joins = shown.joins;
      left = (let A : Board → Type 0 = λ b. AreLeft node.heading.position b None shown.last.carrier in subst A (sym same)
          (λ n h empty off. empty));
      stones = (let S : Board → Type 0 = λ b. HasStonesOf node.heading.winner node.heading.position b in subst S (sym same)
          (stones-same node.heading.winner node.heading.position));
    }
