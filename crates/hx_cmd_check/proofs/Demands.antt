-- What is asked of the nodes before a fault: a fault that is due under one demand is due under each that asks less.
use Rattle.std.proofs.Common.{ℕ, List, sym, subst}
use Rattle.std.proofs.lemmas.Option.{IfSome_then}
use Rattle.std.proofs.Common.{inl, inr}
use Rattle.std.specs.Prelude.{Option}
use Rattle.hx_tree.specs.declared.nodes.Node.{Node}
use Rattle.hx_tree.specs.Trees.{AreRight}
use Rattle.hx_cmd_check.specs.declared.faults.Fault.{Fault}
use Rattle.hx_cmd_check.specs.declared.faults.Fault.TheVariants.{NoText, NoNode, ReadFault, OutOfMemory, TooLong}
use Rattle.hx_cmd_check.specs.Judging.{Demand, NodesAreRight, AreThese, AreFaultless, IsNoText, IsNoNode}
use Rattle.hx_cmd_check.specs.Judgements.{IsLong, IsFaultDue}

-- a demand that asks at least that the nodes are right
abbrev pub AsksRight : Demand → Type 0
AsksRight Meets = (lines : List (List ℕ)) (nodes : List Node) → Meets lines nodes → AreRight nodes

pub right_asks : AsksRight NodesAreRight
right_asks lines nodes right = right

module _ (Meets Less : Demand)
    (less : (lines : List (List ℕ)) (nodes : List Node) → Meets lines nodes → Less lines nodes) where
  faultless_less : (lines : List (List ℕ)) → AreFaultless Meets lines → AreFaultless Less lines
  faultless_less lines is = record { nodes = is.nodes; ended = is.ended; meets = less lines is.nodes is.meets }

  no_text_less : (input : List ℕ) (line : ℕ) → IsNoText Meets input line → IsNoText Less input line
  no_text_less input line is =
      record { fault = is.fault; faultless = faultless_less is.fault.before is.faultless; short = is.short }

  no_node_less : (input : List ℕ) (k : ℕ) → IsNoNode Meets input k → IsNoNode Less input k
  no_node_less input k is = record {
    lines = is.lines;
    last = is.last;
    rest = is.rest;
    parts = is.parts;
    earlier = is.earlier;
    node = is.node;
    ended = is.ended;
    meets = less is.lines is.earlier is.meets;
    count = is.count;
    wrong = is.wrong;
  }

  long_less : (input : List ℕ) → IsLong Meets input → IsLong Less input
  unfolding faultless_less
  long_less input (inl long) = inl (record {
    lines = long.lines;
    rest = long.rest;
    parts = long.parts;
    faultless = faultless_less long.lines long.faultless;
    long = long.long;
  })
  long_less input (inr many) = inr (record {
    lines = many.lines;
    next = many.next;
    rest = many.rest;
    parts = many.parts;
    faultless = faultless_less many.lines many.faultless;
    full = many.full;
    goes_on = many.goes_on;
    unended = many.unended;
  })

  pub due_less : (before after : Option (List ℕ)) (rose : Type 0) (fault : Fault) → IsFaultDue Meets before after rose fault
      → IsFaultDue Less before after rose fault
  due_less before after rose (NoText line) due = IfSome_then before due (λ input is. no_text_less input line is)
  due_less before after rose (NoNode node) due = IfSome_then before due (λ input is. no_node_less input node is)
  due_less before after rose ReadFault due = (
    due.0,
    record {
      lines = due.1.lines;
      held = due.1.held;
      parts = due.1.parts;
      faultless = faultless_less due.1.lines due.1.faultless;
      plain = due.1.plain;
      short = due.1.short;
    },
  )
  due_less before after rose OutOfMemory due = tt
  due_less before after rose TooLong due = IfSome_then before due (λ input is. long_less input is)

-- a fault that is due behind these lines and nodes is due under each demand that they meet
pub due_behind : (Meets : Demand) (lines : List (List ℕ)) (nodes : List Node) → Meets lines nodes → (before after : Option (List ℕ))
    (rose : Type 0) (fault : Fault) → IsFaultDue (AreThese lines nodes) before after rose fault
    → IsFaultDue Meets before after rose fault
due_behind Meets lines nodes meets before after rose fault due =
    due_less (AreThese lines nodes) Meets
    (λ others other_nodes same. subst (λ (ls : List (List ℕ)). Meets ls other_nodes) (sym same.0)
    (subst (Meets lines) (sym same.1) meets)) before after rose fault due
