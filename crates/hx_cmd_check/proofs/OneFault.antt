-- Of one input one fault is due, under each demand that asks for right nodes, unless a read fails or memory is wanting:
-- no line at fault comes after a wrong node, one line is the first that is at fault and one node the first that is
-- wrong, and an input that is above a limit has no other fault.
use Rattle.std.proofs.Common.{◌≡◌, ℕ, List, inl, inr, refl, sym, ap, arith}
use Rattle.std.specs.Prelude.{◌⊎◌, Option, Some}
use Rattle.hx_text.proofs.OneFault.{one_tree_fault}
use Rattle.hx_cmd_check.specs.declared.faults.Fault.{Fault}
use Rattle.hx_cmd_check.specs.declared.faults.Fault.TheVariants.{NoText, NoNode, ReadFault, OutOfMemory, TooLong}
use Rattle.hx_cmd_check.specs.declared.judgements.Judgement.{Judgement}
use Rattle.hx_cmd_check.specs.declared.judgements.Judgement.TheVariants.{Yes, No}
use Rattle.hx_cmd_check.specs.Judging.{Demand, IsNoText, IsNoNode}
use Rattle.hx_cmd_check.specs.Judgements.{IsLong, IsDue, IsFaultDue, status_of, status_of_fault}
use Rattle.hx_cmd_check.proofs.Demands.{AsksRight, right_asks}
use Rattle.hx_cmd_check.proofs.OneAnswer.{text_not_node, one_node}
use Rattle.hx_cmd_check.proofs.LongLines.{long_not_line, long_not_wrong}

-- this fault, or what stood in the way of finding it
abbrev pub IsOrStopped : Fault → Fault → Type 0
IsOrStopped fault other = (other ≡ fault) ⊎ ((other ≡ ReadFault) ⊎ (other ≡ OutOfMemory))

same_of : (a b : Fault) → IsOrStopped a b → status_of_fault b ≡ 1 → a ≡ b
same_of a b (inl is) one = sym is
same_of a b (inr (inl is)) one = absurd (omega (arith, one, ap status_of_fault is))
same_of a b (inr (inr is)) one = absurd (omega (arith, one, ap status_of_fault is))

module _ {Meets : Demand} (asks : AsksRight Meets) (input : List ℕ) (rose : Type 0) (after : Option (List ℕ)) where
  pub line_alone : (line : ℕ) → IsNoText Meets input line → (other : Fault) → IsFaultDue Meets (Some input) after rose other
      → IsOrStopped (NoText line) other
  line_alone line text (NoText other) due =
      let found : IsNoText Meets input other = due in
      inl (ap (λ (n : ℕ). NoText n) (one_tree_fault input other line found.fault text.fault))
  line_alone line text (NoNode node) due = absurd (text_not_node asks input line node text due)
  line_alone line text ReadFault due = inr (inl refl)
  line_alone line text OutOfMemory due = inr (inr refl)
  line_alone line text TooLong due = absurd (long_not_line input line due text)

  pub node_alone : (node : ℕ) → IsNoNode Meets input node → (other : Fault) → IsFaultDue Meets (Some input) after rose other
      → IsOrStopped (NoNode node) other
  node_alone node wrong (NoText line) due = absurd (text_not_node asks input line node due wrong)
  node_alone node wrong (NoNode other) due = inl (ap (λ (n : ℕ). NoNode n) (one_node asks input other node due wrong))
  node_alone node wrong ReadFault due = inr (inl refl)
  node_alone node wrong OutOfMemory due = inr (inr refl)
  node_alone node wrong TooLong due = absurd (long_not_wrong asks input node due wrong)

  pub long_alone : IsLong Meets input → (other : Fault) → IsFaultDue Meets (Some input) after rose other → IsOrStopped TooLong other
  long_alone long (NoText line) due = absurd (long_not_line input line long due)
  long_alone long (NoNode node) due = absurd (long_not_wrong asks input node long due)
  long_alone long ReadFault due = inr (inl refl)
  long_alone long OutOfMemory due = inr (inr refl)
  long_alone long TooLong due = inl refl

  -- two faults with status 1 are the same
  pub one_named : (other_after : Option (List ℕ)) (a b : Fault) → IsFaultDue Meets (Some input) other_after rose a
      → IsFaultDue Meets (Some input) after rose b → status_of_fault a ≡ 1 → status_of_fault b ≡ 1 → a ≡ b
  one_named other_after (NoText line) b due_a due_b one_a one_b = same_of (NoText line) b (line_alone line due_a b due_b) one_b
  one_named other_after (NoNode node) b due_a due_b one_a one_b = same_of (NoNode node) b (node_alone node due_a b due_b) one_b
  one_named other_after ReadFault b due_a due_b one_a one_b = absurd (omega arith)
  one_named other_after OutOfMemory b due_a due_b one_a one_b = absurd (omega arith)
  one_named other_after TooLong b due_a due_b one_a one_b = absurd (omega arith)

pub one_fault : (input : List ℕ) (rose : Type 0) (after other_after : Option (List ℕ)) (a b : Judgement)
    → IsDue (Some input) after rose a → IsDue (Some input) other_after rose b → status_of a ≡ 1 → status_of b ≡ 1 → a ≡ b
one_fault input rose after other_after (Yes root) b due_a due_b one_a one_b = absurd (omega arith)
one_fault input rose after other_after (No a) (Yes root) due_a due_b one_a one_b = absurd (omega arith)
one_fault input rose after other_after (No a) (No b) due_a due_b one_a one_b =
    ap No (one_named right_asks input rose other_after after a b due_a due_b one_a one_b)
