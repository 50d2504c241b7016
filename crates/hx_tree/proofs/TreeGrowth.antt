-- A list of nodes with one node more: whether a node is right depends on the headings before it alone, so a node that
-- is right or wrong stays so whatever follows. For the checker of trees, and for callers that judge nodes one by one.
use Rattle.std.proofs.Common.{◌≡◌, ◌≢◌, ℕ, ◌<◌, ◌≤◌, List, [], ◌∷◌, ◌++◌, length, arith, ⊎_elim, length-append}
use Rattle.std.specs.Prelude.{◌↔◌}
use Rattle.std.proofs.lemmas.Bool.{cases_lt}
use Rattle.std.proofs.lemmas.Option.{slice_get_past}
use Rattle.std.proofs.lemmas.List.{map-append, take-append-le}
use Rattle.std.proofs.Math.Seq.{take-append_seam}
use Rattle.hx_board.proofs.ListLaws.{get-append_before, get-push_last}
use Rattle.hx_tree.specs.declared.nodes.Node.{Node}
use Rattle.hx_tree.specs.Rules.{IsRightNode}
use Rattle.hx_tree.specs.Trees.{headings_of, IsRightNodeAt, AreRight, IsValidTree, IsLeastWrong}

pub headings_of-append : (nodes more : List Node) → headings_of (nodes ++ more) ≡ headings_of nodes ++ headings_of more
headings_of-append nodes more = map-append (λ (node : Node). node.heading) nodes more

-- whether a node is right does not depend on the nodes after it
pub right_at-append : (nodes more : List Node) (k : ℕ) → k < length nodes → IsRightNodeAt (nodes ++ more) k ↔ IsRightNodeAt nodes k
right_at-append nodes more k less = (
  (λ right. rw (get-append_before nodes more k less, take-append-le k nodes more (omega arith)) at right),
  (λ right. rw (get-append_before nodes more k less, take-append-le k nodes more (omega arith)) right),
)

right_at-last : (nodes : List Node) (node : Node) → IsRightNodeAt (nodes ++ node ∷ []) (length nodes) ↔ IsRightNode (headings_of nodes) node
right_at-last nodes node = (
  (λ right. rw (get-push_last nodes node, take-append_seam nodes (node ∷ [])) at right),
  (λ right. rw (get-push_last nodes node, take-append_seam nodes (node ∷ [])) right),
)

-- there is no node that could be wrong
right_at-past : (nodes : List Node) (k : ℕ) → length nodes ≤ k → IsRightNodeAt nodes k
right_at-past nodes k past = rw (slice_get_past nodes k past) tt

right_at-from_last : (nodes : List Node) (node : Node) (k : ℕ) → length nodes ≤ k → IsRightNode (headings_of nodes) node
    → IsRightNodeAt (nodes ++ node ∷ []) k
right_at-from_last nodes node k from next =
    ⊎_elim
    (λ past. right_at-past (nodes ++ node ∷ []) k (omega (arith, length-append nodes (node ∷ []))))
    (λ to. let last : k ≡ length nodes = omega arith in rw last ((right_at-last nodes node).1 next))
    (cases_lt (length nodes) k)

pub one_more_right : (nodes : List Node) (node : Node) → AreRight nodes → IsRightNode (headings_of nodes) node
    → AreRight (nodes ++ node ∷ [])
one_more_right nodes node right next k =
    ⊎_elim
    (λ before. (right_at-append nodes (node ∷ []) k before).1 (right k))
    (λ from. right_at-from_last nodes node k from next)
    (cases_lt k (length nodes))

pub least_wrong-last : (nodes : List Node) (node : Node) → AreRight nodes → ¬ IsRightNode (headings_of nodes) node
    → IsLeastWrong (nodes ++ node ∷ []) (length nodes)
least_wrong-last nodes node right wrong = record {
  within = omega (arith, length-append nodes (node ∷ []));
  wrong = λ last. wrong ((right_at-last nodes node).0 last);
  before = λ j less. (right_at-append nodes (node ∷ []) j less).1 (right j);
}

-- the first wrong node stays so, whatever follows it
pub least_wrong-append : (nodes more : List Node) (k : ℕ) → IsLeastWrong nodes k → IsLeastWrong (nodes ++ more) k
least_wrong-append nodes more k least = record {
  within = omega (arith, length-append nodes more, least.within);
  wrong = λ right. least.wrong ((right_at-append nodes more k least.within).0 right);
  before = λ j less. let within : j < length nodes = omega (arith, least.within) in
      (right_at-append nodes more j within).1 (least.before j less);
}

pub valid_tree : (nodes : List Node) → nodes ≢ [] → AreRight nodes → IsValidTree nodes
valid_tree nodes some right = record { some = some; right = right }
