-- Of one input one refusal is due, unless a read fails or memory is wanting; and of one that begins with the text of a
-- tree to be played by, none.
use Rattle.std.proofs.Common.{◌≡◌, ◌⊎◌, inl, inr, ℕ, ◌≤◌, List, [], ◌++◌, length, refl, sym, ap, ◌∙◌, subst}
use Rattle.std.proofs.lemmas.List.{append-nil}
use Rattle.std.specs.Prelude.{Option, Some}
use Rattle.hx_tree.specs.declared.nodes.Node.{Node}
use Rattle.hx_tree.specs.Rules.{IsRightNode}
use Rattle.hx_tree.specs.Trees.{headings_of}
use Rattle.hx_text.specs.Grammars.{text_of}
use Rattle.hx_text.specs.TreeTexts.{AreTreeLines, IsTreeText}
use Rattle.hx_text.proofs.Cuts.{Agree, Second_goes_on, First_goes_on, agree}
use Rattle.hx_text.proofs.OneFault.{no_more}
use Rattle.hx_text.proofs.TreeLacks.{AllLack-tree_lines, AllLack-begun}
use Rattle.hx_text.proofs.WholeTrees.{text_tells_nodes}
use Rattle.hx_cmd_check.specs.declared.faults.Fault.{Fault}
use Rattle.hx_cmd_check.specs.declared.faults.Fault.TheVariants.{NoText, NoNode, ReadFault, OutOfMemory, TooLong}
use Rattle.hx_cmd_check.specs.Judging.{IsNoText, IsNoNode}
use Rattle.hx_cmd_check.specs.Judgements.{IsLong}
use Rattle.hx_cmd_check.proofs.ManyNodes.{many_of}
use Rattle.hx_cmd_check.proofs.BeginningTexts.{Within, within, none_further, are_lines, fault_behind, no_wrong_node, not_too_many, long_behind}
use Rattle.hx_cmd_check.proofs.LongLines.{long_not_line}
use Rattle.hx_cmd_check.proofs.OneFault.{IsOrStopped as IsFaultOrStopped, line_alone as line_fault_alone, node_alone as node_fault_alone}
use Rattle.hx_cmd_play.specs.declared.refusals.Refusal.{Refusal}
use Rattle.hx_cmd_play.specs.declared.refusals.Refusal.TheVariants.{NoPlain, NoTree}
use Rattle.hx_cmd_play.specs.Refusals.{IsDue}
use Rattle.hx_cmd_play.specs.Trees.{ArePlayable, IsNoPlain, IsPlayable, IsTooLarge, most_bytes}
use Rattle.hx_cmd_play.proofs.NamedNodes.{playable_asks, wrong_ends, no_plain_ends, fine_in_text, fine_before_line}
use Rattle.hx_cmd_play.proofs.NamedNodes.{fine_before_too_long, large_lines, large_begins, not_large}
use Rattle.hx_cmd_play.proofs.NamedNodes.{AreOne, Same, First_fine, Second_fine, one_of_two}

-- ---- the text of a tree to be played by

module _ {text : List ℕ} {nodes : List Node} (is : IsPlayable text nodes) (rest : List ℕ) where
  pub text_not_line : {input : List ℕ} → input ≡ text ++ rest → (line : ℕ) → IsNoText ArePlayable input line → ⊥
  text_not_line parts line fault =
      fault.faultless.meets.unended (subst AreTreeLines (sym (fault_behind is.is_text rest parts line fault).0) (are_lines is.is_text))

  pub text_not_node : {input : List ℕ} → input ≡ text ++ rest → (k : ℕ) → IsNoNode ArePlayable input k → ⊥
  text_not_node parts k wrong = no_wrong_node is.is_text rest parts k is.valid.right wrong

  pub text_not_no_plain : {input : List ℕ} → input ≡ text ++ rest → (k : ℕ) → IsNoPlain input k → ⊥
  text_not_no_plain parts k named = named.not_plain (fine_in_text (no_plain_ends named) text rest nodes is parts).plain

  text_not_large : {input : List ℕ} → input ≡ text ++ rest → IsTooLarge input → ⊥
  text_not_large parts large =
      let on : Within is.is_text rest (large_lines large) large.rest =
      within is.is_text rest parts (large_lines large) large.rest (large_begins large) large.parts in
      not_large large is.is_text.lines on.more (subst (λ (t : List ℕ). length t ≤ most_bytes) is.is_text.same is.small) on.is

  pub text_not_too_long : {input : List ℕ} → input ≡ text ++ rest → IsLong ArePlayable input ⊎ IsTooLarge input → ⊥
  text_not_too_long parts (inl (inl long)) =
      long.faultless.meets.unended (subst AreTreeLines (sym (long_behind is.is_text rest parts long).0) (are_lines is.is_text))
  text_not_too_long parts (inl (inr many)) = not_too_many is.is_text rest parts is.few (many_of many)
  text_not_too_long parts (inr large) = text_not_large parts large

-- two such texts with which one input begins are the same
pub record AreSameTexts (text other : List ℕ) (nodes others : List Node) (rest left : List ℕ) : Type 0 where
  pub texts : text ≡ other
  pub trees : nodes ≡ others
  pub rests : rest ≡ left

pub one_text : {text other : List ℕ} {nodes others : List Node} → IsPlayable text nodes → IsPlayable other others → (rest left : List ℕ)
    → text ++ rest ≡ other ++ left → AreSameTexts text other nodes others rest left
unfolding text_of
one_text {text} {other} {nodes} {others} is are rest left parts =
    let lines : List (List ℕ) = is.is_text.lines in
    let other_lines : List (List ℕ) = are.is_text.lines in
    let on : Within is.is_text rest other_lines left =
    within is.is_text rest refl other_lines left ([], subst AreTreeLines (sym (append-nil other_lines)) (are_lines are.is_text))
    (parts ∙ ap (λ (t : List ℕ). t ++ left) are.is_text.same) in
    let none : on.more ≡ [] =
    none_further are.is_text left lines on.more ([], subst AreTreeLines (sym (append-nil lines)) (are_lines is.is_text)) on.is in
    let same : lines ≡ other_lines = on.is ∙ ap (λ (ls : List (List ℕ)). other_lines ++ ls) none ∙ append-nil other_lines in
    let texts : text ≡ other = is.is_text.same ∙ ap text_of same ∙ sym are.is_text.same in
    record {
      texts = texts;
      trees = text_tells_nodes other nodes others (subst (λ (t : List ℕ). IsTreeText t nodes) texts is.is_text) are.is_text;
      rests = sym (on.left_is ∙ ap (λ (ls : List (List ℕ)). text_of ls ++ rest) none);
    }

-- ---- two refusals of one input

line_not_large : {input : List ℕ} {line : ℕ} (text : IsNoText ArePlayable input line) (large : IsTooLarge input) → ⊥
line_not_large {input} {line} text large =
    by (agree (large_lines large) text.fault.before large.rest text.fault.rest (AllLack-begun (large_lines large) (large_begins large))
    (AllLack-begun text.fault.before text.fault.right) (sym large.parts ∙ text.fault.parts))
  where
    by : Agree (large_lines large) text.fault.before large.rest text.fault.rest → ⊥
    by (Second_goes_on more is left) = not_large large text.fault.before more text.faultless.meets.small is
    by (First_goes_on more is left) =
        let none : more ≡ [] =
        no_more AreTreeLines AllLack-tree_lines input line text.fault (large_lines large) more large.rest is left (large_begins large) in
        not_large large text.fault.before [] text.faultless.meets.small
        (sym (is ∙ ap (λ (ls : List (List ℕ)). text.fault.before ++ ls) none ∙ append-nil text.fault.before)
        ∙ sym (append-nil (large_lines large)))

too_long_not_line : {input : List ℕ} (line : ℕ) → IsLong ArePlayable input ⊎ IsTooLarge input → IsNoText ArePlayable input line → ⊥
too_long_not_line {input} line (inl long) text = long_not_line input line long text
too_long_not_line line (inr large) text = line_not_large text large

too_long_not_node : {input : List ℕ} (k : ℕ) → IsLong ArePlayable input ⊎ IsTooLarge input → IsNoNode ArePlayable input k → ⊥
too_long_not_node k long wrong = wrong.wrong (fine_before_too_long (wrong_ends wrong) long).right

too_long_not_no_plain : {input : List ℕ} (k : ℕ) → IsLong ArePlayable input ⊎ IsTooLarge input → IsNoPlain input k → ⊥
too_long_not_no_plain k long named = named.not_plain (fine_before_too_long (no_plain_ends named) long).plain

line_not_no_plain : {input : List ℕ} (line k : ℕ) → IsNoText ArePlayable input line → IsNoPlain input k → ⊥
line_not_no_plain line k text named = named.not_plain (fine_before_line (no_plain_ends named) line text).plain

node_not_no_plain : {input : List ℕ} (k j : ℕ) → IsNoNode ArePlayable input k → IsNoPlain input j → ⊥
node_not_no_plain k j wrong named = by (one_of_two (wrong_ends wrong) (no_plain_ends named))
  where
    by : AreOne wrong.earlier wrong.node named.earlier named.node → ⊥
    by (Same before node) =
        wrong.wrong (subst (λ (ns : List Node). IsRightNode (headings_of ns) wrong.node) (sym before)
        (subst (λ (n : Node). IsRightNode (headings_of named.earlier) n) (sym node) named.is_right))
    by (First_fine fine) = wrong.wrong fine.right
    by (Second_fine fine) = named.not_plain fine.plain

one_no_plain : {input : List ℕ} (k j : ℕ) → IsNoPlain input k → IsNoPlain input j → k ≡ j
one_no_plain k j first second = by (one_of_two (no_plain_ends first) (no_plain_ends second))
  where
    by : AreOne first.earlier first.node second.earlier second.node → k ≡ j
    by (Same before node) = first.count ∙ ap length before ∙ sym second.count
    by (First_fine fine) = absurd (first.not_plain fine.plain)
    by (Second_fine fine) = absurd (second.not_plain fine.plain)

-- ---- the refusal that is due

-- a read failed, or memory was wanting
abbrev pub IsStop : Refusal → Type 0
IsStop refusal = (refusal ≡ NoTree ReadFault) ⊎ (refusal ≡ NoTree OutOfMemory)

-- this refusal, or what stood in the way of finding it
abbrev pub IsOrStopped : Refusal → Refusal → Type 0
IsOrStopped refusal other = (other ≡ refusal) ⊎ IsStop other

as_fault : (fault other : Fault) → IsFaultOrStopped fault other → IsOrStopped (NoTree fault) (NoTree other)
as_fault fault other (inl is) = inl (ap (λ (f : Fault). NoTree f) is)
as_fault fault other (inr (inl is)) = inr (inl (ap (λ (f : Fault). NoTree f) is))
as_fault fault other (inr (inr is)) = inr (inr (ap (λ (f : Fault). NoTree f) is))

module _ (input : List ℕ) (after : Option (List ℕ)) (rose : Type 0) where
  pub line_alone : (line : ℕ) → IsNoText ArePlayable input line → (other : Refusal) → IsDue (Some input) after rose other
      → IsOrStopped (NoTree (NoText line)) other
  line_alone line text (NoPlain k) due = absurd (line_not_no_plain line k text due)
  line_alone line text (NoTree (NoText other)) due =
      as_fault (NoText line) (NoText other) (line_fault_alone playable_asks input rose after line text (NoText other) due)
  line_alone line text (NoTree (NoNode k)) due =
      as_fault (NoText line) (NoNode k) (line_fault_alone playable_asks input rose after line text (NoNode k) due)
  line_alone line text (NoTree ReadFault) due = inr (inl refl)
  line_alone line text (NoTree OutOfMemory) due = inr (inr refl)
  line_alone line text (NoTree TooLong) due = absurd (too_long_not_line line due text)

  pub node_alone : (k : ℕ) → IsNoNode ArePlayable input k → (other : Refusal) → IsDue (Some input) after rose other
      → IsOrStopped (NoTree (NoNode k)) other
  node_alone k wrong (NoPlain j) due = absurd (node_not_no_plain k j wrong due)
  node_alone k wrong (NoTree (NoText line)) due =
      as_fault (NoNode k) (NoText line) (node_fault_alone playable_asks input rose after k wrong (NoText line) due)
  node_alone k wrong (NoTree (NoNode other)) due =
      as_fault (NoNode k) (NoNode other) (node_fault_alone playable_asks input rose after k wrong (NoNode other) due)
  node_alone k wrong (NoTree ReadFault) due = inr (inl refl)
  node_alone k wrong (NoTree OutOfMemory) due = inr (inr refl)
  node_alone k wrong (NoTree TooLong) due = absurd (too_long_not_node k due wrong)

  pub no_plain_alone : (k : ℕ) → IsNoPlain input k → (other : Refusal) → IsDue (Some input) after rose other → IsOrStopped (NoPlain k) other
  no_plain_alone k named (NoPlain j) due = inl (ap (λ (n : ℕ). NoPlain n) (one_no_plain j k due named))
  no_plain_alone k named (NoTree (NoText line)) due = absurd (line_not_no_plain line k due named)
  no_plain_alone k named (NoTree (NoNode j)) due = absurd (node_not_no_plain j k due named)
  no_plain_alone k named (NoTree ReadFault) due = inr (inl refl)
  no_plain_alone k named (NoTree OutOfMemory) due = inr (inr refl)
  no_plain_alone k named (NoTree TooLong) due = absurd (too_long_not_no_plain k due named)

  pub too_long_alone : IsLong ArePlayable input ⊎ IsTooLarge input → (other : Refusal) → IsDue (Some input) after rose other
      → IsOrStopped (NoTree TooLong) other
  too_long_alone long (NoPlain k) due = absurd (too_long_not_no_plain k long due)
  too_long_alone long (NoTree (NoText line)) due = absurd (too_long_not_line line long due)
  too_long_alone long (NoTree (NoNode k)) due = absurd (too_long_not_node k long due)
  too_long_alone long (NoTree ReadFault) due = inr (inl refl)
  too_long_alone long (NoTree OutOfMemory) due = inr (inr refl)
  too_long_alone long (NoTree TooLong) due = inl refl

  -- where a tree can be played by
  pub stops_alone : (text rest : List ℕ) (nodes : List Node) → IsPlayable text nodes → input ≡ text ++ rest → (other : Refusal)
      → IsDue (Some input) after rose other → IsStop other
  stops_alone text rest nodes is parts (NoPlain k) due = absurd (text_not_no_plain is rest parts k due)
  stops_alone text rest nodes is parts (NoTree (NoText line)) due = absurd (text_not_line is rest parts line due)
  stops_alone text rest nodes is parts (NoTree (NoNode k)) due = absurd (text_not_node is rest parts k due)
  stops_alone text rest nodes is parts (NoTree ReadFault) due = inl refl
  stops_alone text rest nodes is parts (NoTree OutOfMemory) due = inr refl
  stops_alone text rest nodes is parts (NoTree TooLong) due = absurd (text_not_too_long is rest parts due)
