-- The nodes before the loop's place are right. With each round they become one more, or the node at the place is the
-- first wrong one. In the end they are all the nodes.
use Rattle.std.proofs.Common.{◌≡◌, ℕ, ◌+◌, ◌<◌, List, [], ◌∷◌, ◌++◌, ◌==◌, take, drop, length, get_or, sym, ap, ◌∙◌, arith}
use Rattle.std.proofs.lemmas.Bool.{false≢true}
use Rattle.std.proofs.lemmas.List.{take_all, take-append-drop, length-take-le}
use Rattle.hx_board.proofs.ListLaws.{take-read}
use Rattle.hx_tree.specs.declared.nodes.Node.{Node}
use Rattle.hx_tree.specs.Rules.{IsRightNode}
use Rattle.hx_tree.specs.Trees.{headings_of, AreRight, IsLeastWrong}
use Rattle.hx_tree.proofs.TreeGrowth.{headings_of-append, one_more_right, least_wrong-last, least_wrong-append, valid_tree}
use Rattle.hx_tree.proofs.trees.check_tree.Goals as goal

first_wrong : (nodes : List Node) (k : ℕ) (node : Node) → k < length nodes → node ≡ get_or nodes k node
    → AreRight (take k nodes) → ¬ IsRightNode (headings_of (take k nodes)) node
    → IsLeastWrong nodes k
first_wrong nodes k node less is right wrong =
    let rest : List Node = drop (k + 1) nodes in
    let whole = ap (λ front. front ++ rest) (sym (take-read nodes k node less is)) ∙ take-append-drop (k + 1) nodes in
    let last : length (take k nodes) ≡ k = length-take-le k nodes (omega arith) in
    rw (whole, last) at
    (least_wrong-append (take k nodes ++ node ∷ []) rest (length (take k nodes))
    (least_wrong-last (take k nodes) node right wrong))

pub loop-place-preserved : goal.loop-place-preserved
loop-place-preserved c =
    let earlier : List Node = take c.loop-place.place c.args.nodes.now in
    let node : Node = c.index-nodes-place.result in
    let one_more = take-read c.args.nodes.now c.loop-place.place node c.loop-place-test.true c.index-nodes-place.is in
    record {
      headings = rw (one_more, c.push_reserved.ensures.items, c.loop-place.invariant.headings)
          (sym (headings_of-append earlier (node ∷ [])));
      count = omega arith;
      room = c.push_reserved.ensures.capacity ∙ c.loop-place.invariant.room;
      right = rw one_more
          (one_more_right earlier node c.loop-place.invariant.right
          (rw (c.as_slice.ensures.value, c.loop-place.invariant.headings) at (c.in_ok-check_node.ensures.right.0 c.if-not-branch.false)));
    }

pub returns-then-not-branch : goal.returns-then-not-branch
returns-then-not-branch c = record {
  verdict = first_wrong c.args.nodes.now c.loop-place.place c.index-nodes-place.result
      c.loop-place-test.true c.index-nodes-place.is c.loop-place.invariant.right
      (λ right. false≢true (sym c.if-not-branch.true
      ∙ c.in_ok-check_node.ensures.right.1 (rw (c.as_slice.ensures.value, c.loop-place.invariant.headings) right)));
}

pub returns : goal.returns
returns c = record {
  verdict = valid_tree c.args.nodes.now
      (λ none. false≢true (sym c.if-is_empty.false ∙ c.is_empty.ensures ∙ ap (λ nodes. length nodes == 0) none))
      (rw (take_all c.loop-place.place c.args.nodes.now c.loop-place-test.false) at c.loop-place.invariant.right);
}
