-- The winner of a right node wins, where the winners before it do, by the rule of the game tree that its own rule
-- stands for. So the winner of each node of a valid tree wins, by induction on its place. The other player does not,
-- since one player wins each position.
use Rattle.std.proofs.Common.{◌≡◌, ℕ, zero, suc, ◌<◌, List, [], ◌∷◌, take, length, get_or, subst, ⊎_elim, Option, Some, None, arith}
use Rattle.std.specs.Prelude.{slice_get, IfSome, IsSomeAnd}
use Rattle.hx_board.specs.declared.colours.Colour.{Colour}
use Rattle.hx_board.specs.Colours.{other_of}
use Rattle.hx_board.specs.Positions.{Board, IsBoard, put}
use Rattle.hx_board.specs.Game.{Wins, By_chain, By_move, By_answers}
use Rattle.hx_board.proofs.ColourLaws.{other-other}
use Rattle.hx_law.proofs.OneWinner.{not_both_win}
use Rattle.hx_link.specs.declared.steps.Step.{Step}
use Rattle.hx_tree.specs.declared.nodes.Heading.{Heading}
use Rattle.hx_tree.specs.declared.nodes.Line.{Line}
use Rattle.hx_tree.specs.declared.nodes.Line.TheVariants.{Child, Under}
use Rattle.hx_tree.specs.declared.nodes.Node.{Node}
use Rattle.hx_tree.specs.declared.nodes.Rule.{Rule}
use Rattle.hx_tree.specs.declared.nodes.Rule.TheVariants.{Chain, Links, Move, All, Fill, Turned}
use Rattle.hx_tree.specs.Headings.{Leads}
use Rattle.hx_tree.specs.Steps.{IsInEachThreat, IsOutsideThreat}
use Rattle.hx_tree.specs.Answers.{cell_of, cells_of, IsRightLine, IsRightAll}
use Rattle.hx_tree.specs.Turns.{IsTurnedHeading}
use Rattle.hx_tree.specs.Rules.{IsRightRule, IsRightNode}
use Rattle.hx_tree.specs.Trees.{headings_of, AreRight, IsValidTree, IsRoot}
use Rattle.hx_board.proofs.ListLaws.{of_contained, get-push_last}
use Rattle.hx_tree.proofs.ThreatLaws.{shared_or_outside, lacks-outside}
use Rattle.hx_turn.proofs.TurnedGames.{keeps_winner}
use Rattle.hx_proof.specs.Winners.{HeadingWins, OnlyWinner, AllWin}
use Rattle.hx_proof.proofs.LinkSoundness.{right_steps_give_what_holds, right_links_win}
use Rattle.hx_proof.proofs.ThreatSoundness.{threat_left_whole_wins}
use Rattle.hx_proof.proofs.FillSoundness.{fills_win}
use Rattle.hx_proof.proofs.UnderSoundness.{wins_under}

-- who an earlier heading says wins does win
child_wins : (before : List Heading) (child : ℕ) (board : Board) (mover winner : Colour) → IfSome (slice_get before child) HeadingWins
    → Leads before child board mover winner → Wins winner board mover
child_wins before child board mover winner wins leads =
    let P : Option Heading → Type 0 = λ found. IfSome found HeadingWins in subst P leads wins

-- who wins the turned position wins the position
turned_wins : (child : Option Heading) (heading : Heading) → IsBoard heading.position → IfSome child HeadingWins
    → IsSomeAnd child (IsTurnedHeading heading) → HeadingWins heading
turned_wins None heading is wins turned = absurd turned
turned_wins (Some child) heading is wins turned =
    let turned_won : Wins heading.winner child.position heading.to_move = rw (← turned.same_mover, ← turned.same_winner) wins in
    (keeps_winner heading.position heading.to_move heading.winner child.position is turned.turned).1 turned_won

-- ---- a right node that answers each move

module _ (before : List Heading) (heading : Heading) (steps : List Step) (threats : List ℕ) (lines : List Line)
    (is : IsBoard heading.position)
    (wins : (k : ℕ) → IfSome (slice_get before k) HeadingWins) (right : IsRightAll before heading steps threats lines) where
  abbrev WinsAfter : ℕ → Type 0
  WinsAfter cell = Wins heading.winner (put heading.position (other_of heading.winner) cell) heading.winner

  abbrev IsRight : Line → Type 0
  IsRight = IsRightLine before heading right.links threats lines

  wins_outside_threat : (cell : ℕ) → IsOutsideThreat right.links threats cell → WinsAfter cell
  wins_outside_threat cell outside =
      threat_left_whole_wins heading.position heading.winner right.links
      (right_steps_give_what_holds heading.position heading.winner steps right.links right.steps_right.right) threats
      right.threats_right.each cell outside

  wins_by_child : (cell child : ℕ) → IsRight (Child cell child) → WinsAfter cell
  wins_by_child cell child leads = child_wins before child _ _ _ (wins child) leads

  -- the better cell has a child, or is outside a threat, and so the winner wins after the worse one too
  line_wins : (line : Line) → IsRight line → WinsAfter (cell_of line)
  line_wins (Child cell child) leads = wins_by_child cell child leads
  line_wins (Under cell better kill) under =
      let after_better : WinsAfter better = ⊎_elim
      (λ has_child. wins_by_child better has_child.0
      (of_contained IsRight lines (Child better has_child.0) right.lines_right has_child.1))
      (λ lacks. wins_outside_threat better (lacks-outside right.links threats better lacks))
      under.1 in
      rw (other-other heading.winner) at (wins_under heading.position is (other_of heading.winner) better cell kill under.0
      (rw (other-other heading.winner) after_better))

  answer_wins : (rest : List Line) (k cell : ℕ) → k < length (cells_of rest) → get_or (cells_of rest) k cell ≡ cell
      → IfSome (slice_get rest k) IsRight → WinsAfter cell
  answer_wins [] k cell less is_cell is_right = absurd (omega arith)
  answer_wins (line ∷ rest) zero cell less is_cell is_right = rw is_cell at (line_wins line is_right)
  answer_wins (line ∷ rest) (suc k) cell less is_cell is_right = answer_wins rest k cell (omega arith) is_cell is_right

  -- the opponent's move is in all threats, and has a line, or leaves one of them whole
  all_wins : HeadingWins heading
  all_wins =
      By_answers heading.position heading.to_move right.some right.mover right.some_empty
      (λ cell empty. ⊎_elim
      (λ (shared : IsInEachThreat right.links threats cell). let found =
      right.cells.each cell (record { empty = empty; shared = shared }) in
      answer_wins lines found.0 cell found.1 found.2 (right.lines_right found.0))
      (wins_outside_threat cell)
      (shared_or_outside right.links threats cell right.threats_right.each))

-- ---- right nodes and valid trees

rule_wins : (before : List Heading) (heading : Heading) (rule : Rule) → IsBoard heading.position
    → ((k : ℕ) → IfSome (slice_get before k) HeadingWins) → IsRightRule before heading rule
    → HeadingWins heading
rule_wins before heading Chain is wins right = By_chain heading.position heading.to_move right
rule_wins before heading (Links steps) is wins right = right_links_win heading steps right
rule_wins before heading (Move cell child) is wins right =
    By_move heading.position heading.to_move cell right.mover right.empty (child_wins before child _ _ _ (wins child) right.leads)
rule_wins before heading (All steps threats lines) is wins right = all_wins before heading steps threats lines is wins right
rule_wins before heading (Fill steps child) is wins right =
    fills_win heading.position is heading.winner steps right.right heading.to_move (child_wins before child _ _ _ (wins child) right.leads)
rule_wins before heading (Turned child) is wins right = turned_wins _ heading is (wins child) right

pub node_wins : (before : List Heading) (node : Node) → ((k : ℕ) → IfSome (slice_get before k) HeadingWins) → IsRightNode before node
    → HeadingWins node.heading
node_wins before node wins right = rule_wins before node.heading node.rule right.board wins right.rule

-- the headings before a place win, where the nodes before it do
headings_win : (nodes : List Node) (k j : ℕ) → (j < k → IfSome (slice_get nodes j) (λ node. HeadingWins node.heading))
    → IfSome (slice_get (headings_of (take k nodes)) j) HeadingWins
headings_win [] zero j wins = tt
headings_win [] (suc k) j wins = tt
headings_win (node ∷ nodes) zero j wins = tt
headings_win (node ∷ nodes) (suc k) zero wins = wins (omega arith)
headings_win (node ∷ nodes) (suc k) (suc j) wins = headings_win nodes k j (λ less. wins (omega arith))

next_wins : (nodes : List Node) (k : ℕ) (node : Option Node) → ((j : ℕ) → j < k → IfSome (slice_get nodes j) (λ n. HeadingWins n.heading))
    → IfSome node (IsRightNode (headings_of (take k nodes)))
    → IfSome node (λ n. HeadingWins n.heading)
next_wins nodes k None wins right = tt
next_wins nodes k (Some node) wins right = node_wins _ node (λ j. headings_win nodes k j (wins j)) right

nodes_win : (nodes : List Node) → AreRight nodes → (bound k : ℕ) → k < bound → IfSome (slice_get nodes k) (λ node. HeadingWins node.heading)
nodes_win nodes right zero k less = absurd (omega arith)
nodes_win nodes right (suc bound) k less =
    next_wins nodes k (slice_get nodes k) (λ j before. nodes_win nodes right bound j (omega arith)) (right k)

only_winner : (before : List Heading) (node : Option Node) → IfSome node (IsRightNode before) → IfSome node (λ n. HeadingWins n.heading)
    → IfSome node (λ n. OnlyWinner n.heading)
only_winner before None right wins = tt
only_winner before (Some node) right wins =
    record { wins = wins; other_does_not = not_both_win node.heading.position right.board node.heading.winner node.heading.to_move wins }

pub tree_wins : (nodes : List Node) → IsValidTree nodes → AllWin nodes
tree_wins nodes tree k =
    only_winner (headings_of (take k nodes)) (slice_get nodes k) (tree.right k) (nodes_win nodes tree.right (suc k) k (omega arith))

pub root_wins : (nodes : List Node) (root : Node) → IsValidTree nodes → IsRoot nodes root → OnlyWinner root.heading
root_wins nodes root tree is = rw (is.same, get-push_last is.front root) at (tree_wins nodes tree (length is.front))
