-- Nodes that are added to a list of right nodes. What a rule says of an earlier heading stays true when nodes are
-- added, since the headings keep their numbers. The nodes for a position with one empty cell less are so few that those
-- of all its moves find room among the nodes of the position.
use Rattle.std.proofs.Common.{◌≡◌, ℕ, zero, suc, ◌+◌, ◌-◌, ◌*◌, ◌≤◌, List, [], ◌∷◌, ◌++◌, length, refl, sym, ap, ◌∙◌, arith, append_assoc}
use Rattle.std.proofs.Common.{length-append, Some}
use Rattle.std.proofs.lemmas.List.{append-nil}
use Rattle.std.proofs.lemmas.List.Elements.{All-push}
use Rattle.std.proofs.Math.Nat.{mul-le-mul_right}
use Rattle.hx_board.specs.declared.colours.Colour.{Colour}
use Rattle.hx_board.specs.Cells.{Extent}
use Rattle.hx_board.specs.Positions.{Board, IsBoard, IsEmpty, put}
use Rattle.hx_board.specs.Counts.{empty_count, sweep_size}
use Rattle.hx_board.proofs.StoneLaws.{size-put, board-put}
use Rattle.hx_board.proofs.EmptyCells.{empty_count-put, some_empty-count, sweep_size-suc, sweep_size-positive}
use Rattle.hx_tree.specs.declared.nodes.Node.{Node}
use Rattle.hx_tree.specs.declared.nodes.Rule.{Rule}
use Rattle.hx_tree.specs.Headings.{Leads, heading_of}
use Rattle.hx_tree.proofs.HeadingLaws.{same_heading}
use Rattle.hx_tree.specs.Rules.{IsRightRule}
use Rattle.hx_tree.specs.Trees.{headings_of}
use Rattle.hx_tree.proofs.TreeGrowth.{one_more_right}
use Rattle.hx_sweep.specs.Moves.{IsByMoves}
use Rattle.hx_sweep.specs.Growth.{IsBegun, HasMoreNodes, IsProved}

-- ---- lists that grow

pub grown_none : (board : Board) (nodes : List Node) (limit : ℕ) → IsBegun board nodes → HasMoreNodes board.size limit nodes nodes
grown_none board nodes limit begun =
    record {
      more = [];
      same = sym (append-nil nodes);
      few = omega arith;
      right = begun.right;
      of_size = begun.of_size;
      by_moves =
          begun.by_moves;
    }

pub grown_on : (size : Extent) (first second whole : ℕ) (before between after : List Node) → HasMoreNodes size first before between
    → HasMoreNodes size second between after
    → first + second ≤ whole → HasMoreNodes size whole before after
grown_on size first second whole before between after one two enough = record {
  more = one.more ++ two.more;
  same = two.same ∙ ap (λ (nodes : List Node). nodes ++ two.more) one.same ∙ append_assoc before one.more two.more;
  few = omega (arith, length-append one.more two.more, one.few, two.few);
  right = two.right;
  of_size = two.of_size;
  by_moves = two.by_moves;
}

pub grown_less : (size : Extent) (limit whole : ℕ) (before after : List Node) → HasMoreNodes size limit before after → limit ≤ whole
    → HasMoreNodes size whole before after
grown_less size limit whole before after grown enough =
    record {
      more = grown.more;
      same = grown.same;
      few = omega (arith, grown.few);
      right = grown.right;
      of_size = grown.of_size;
      by_moves =
          grown.by_moves;
    }

-- ---- room for the nodes after a move

-- the nodes after one move
pub move_room : (board : Board) (cell : ℕ) → IsBoard board → IsEmpty board cell
    → sweep_size (empty_count board - 1) ≤ sweep_size (empty_count board) - 1
move_room board cell valid empty = room (empty_count board) (some_empty-count board cell valid empty)
  where
    room : (count : ℕ) → 1 ≤ count → sweep_size (count - 1) ≤ sweep_size count - 1
    room zero some = absurd (omega arith)
    room (suc less) some =
        let e : suc less - 1 ≡ less = omega arith in
        rw e (omega (arith, sweep_size-suc less))

-- the nodes after so many moves
pub moves_room : (count moves : ℕ) → moves ≤ count → moves * sweep_size (count - 1) ≤ sweep_size count - 1
moves_room zero moves few = let none : moves ≡ 0 = omega arith in rw none (omega arith)
moves_room (suc less) moves few =
    let e : suc less - 1 ≡ less = omega arith in
    rw e (omega (arith, sweep_size-suc less, mul-le-mul_right (sweep_size less) few))

-- after a stone one cell less is empty
count_after : (board : Board) (stone : Colour) (cell : ℕ) → IsBoard board → IsEmpty board cell
    → empty_count (put board stone cell) ≡ empty_count board - 1
count_after board stone cell valid empty = omega (arith, empty_count-put board stone cell valid empty)

pub begun_after : (board : Board) (stone : Colour) (cell limit : ℕ) (before after : List Node) → IsBegun board before
    → HasMoreNodes board.size limit before after
    → IsEmpty board cell → limit + sweep_size (empty_count board - 1) ≤ sweep_size (empty_count board)
    → IsBegun (put board stone cell) after
begun_after board stone cell limit before after begun grown empty enough = record {
  valid = board-put board stone cell begun.valid empty;
  right = grown.right;
  of_size = rw (size-put board stone cell) grown.of_size;
  by_moves = grown.by_moves;
  room = rw (count_after board stone cell begun.valid empty)
      (omega (arith, ap length grown.same, length-append before grown.more, grown.few, begun.room));
}

pub grown_after : (board : Board) (stone mover winner : Colour) (cell number : ℕ) (before after : List Node) → IsBoard board
    → IsEmpty board cell
    → IsProved (put board stone cell) mover winner before after number
    → HasMoreNodes board.size (sweep_size (empty_count board - 1)) before after
grown_after board stone mover winner cell number before after valid empty proved =
    rw (size-put board stone cell, count_after board stone cell valid empty) at proved.grown

-- ---- the node of a position

pub proved_leads : (board : Board) (mover winner : Colour) (before after : List Node) (number : ℕ)
    → IsProved board mover winner before after number
    → Leads (headings_of after) number board mover winner
proved_leads board mover winner before after number proved = rw (proved.last, proved.place) (at_last proved.front)
  where
    at_last : (front : List Node) → Leads (headings_of (front ++ proved.root ∷ [])) (length front) board mover winner
    at_last [] = ap Some (same_heading board mover winner proved.root.heading proved.heading)
    at_last (first ∷ front) = at_last front

pub proved_by : (board : Board) (mover winner : Colour) (rule : Rule) (before between after : List Node) (number : ℕ) → IsBoard board
    → HasMoreNodes board.size (sweep_size (empty_count board) - 1) before between
    → IsRightRule (headings_of between) (heading_of board mover winner) rule
    → IsByMoves rule → after ≡ between ++ (record { heading = heading_of board mover winner; rule = rule }) ∷ [] → number ≡ length between
    → IsProved board mover winner before after number
proved_by board mover winner rule before between after number valid grown right moves same place = record {
  grown = record {
    more = grown.more ++ node ∷ [];
    same = same ∙ ap (λ (nodes : List Node). nodes ++ node ∷ []) grown.same ∙ append_assoc before grown.more (node ∷ []);
    few = omega (arith, length-append grown.more (node ∷ []), grown.few, sweep_size-positive (empty_count board));
    right = rw same (one_more_right between node grown.right (record { board = valid; rule = right }));
    of_size = rw same (All-push (λ (n : Node). n.heading.position.size ≡ board.size) between node grown.of_size refl);
    by_moves = rw same (All-push (λ (n : Node). IsByMoves n.rule) between node grown.by_moves moves);
  };
  front = between;
  root = node;
  last = same;
  place = place;
  heading = record { same_position = refl; same_mover = refl; same_winner = refl };
}
  where
    node : Node
    node = record { heading = heading_of board mover winner; rule = rule }
