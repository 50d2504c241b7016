-- A judge that reads an input which begins with the text of a tree, whatever follows: up to the last line of the text
-- it hands on the nodes of the tree and finds no fault.
use Rattle.std.proofs.Common.{◌≡◌, ℕ, ◌<◌, ◌≤◌, inl, inr, List, [], ◌∷◌, ◌++◌, length, refl, sym, ap, ◌∙◌, subst, arith, length-append}
use Rattle.std.proofs.Common.{Option, Some}
use Rattle.std.proofs.lemmas.List.{append-nil, nil_from_length}
use Rattle.std.specs.Prelude.{◌⊎◌}
use Rattle.hx_tree.specs.declared.nodes.Node.{Node}
use Rattle.hx_tree.specs.Trees.{AreRight}
use Rattle.hx_text.specs.Grammars.{text_of}
use Rattle.hx_text.specs.TreeTexts.{AreTreeLines, AreTreeLinesOf, IsTreeText}
use Rattle.hx_text.specs.Lengths.{most_nodes}
use Rattle.hx_parse.specs.Places.{Stands}
use Rattle.hx_parse.specs.declared.places.Place.TheVariants.{After}
use Rattle.hx_parse.proofs.Completions.{Begins-stands}
use Rattle.hx_cmd_check.specs.declared.faults.Fault.{Fault}
use Rattle.hx_cmd_check.specs.declared.faults.Fault.TheVariants.{NoText, NoNode, ReadFault, OutOfMemory, TooLong}
use Rattle.hx_cmd_check.specs.declared.judges.Judge.{Judge}
use Rattle.hx_cmd_check.specs.Judging.{AreThese}
use Rattle.hx_cmd_check.specs.Judgements.{IsFaultDue}
use Rattle.hx_cmd_check.specs.Standings.{JudgedUpTo, HasReadAll}
use Rattle.hx_cmd_check.proofs.EndedNodes.{ended_whole}
use Rattle.hx_cmd_check.proofs.ManyNodes.{many_of}
use Rattle.hx_cmd_check.proofs.Standings.{ended_in, not_whole}
use Rattle.hx_cmd_check.proofs.Readings.{GoOn, ended_first}
use Rattle.hx_cmd_check.proofs.DueAnswers.{says_of}
use Rattle.hx_cmd_check.proofs.Endings.{ends}
use Rattle.hx_cmd_check.proofs.BeginningTexts.{Within, within, nodes_within, none_further, are_lines, fault_behind, no_wrong_node}
use Rattle.hx_cmd_check.proofs.BeginningTexts.{not_too_many, long_behind}

-- fewer lines, where they are no text
fewer : (whole lines more : List (List ℕ)) → whole ≡ lines ++ more → AreTreeLines whole → ¬ AreTreeLines lines
    → length lines < length whole
fewer whole lines [] same are not = absurd (not (subst AreTreeLines (same ∙ append-nil lines) are))
fewer whole lines (next ∷ more) same are not = omega (arith, ap length same, length-append lines (next ∷ more))

same_both : (a b : List Node) → GoOn a b → GoOn b a → a ≡ b
same_both a b on back =
    let none : on.more ≡ [] =
    nil_from_length on.more (omega (arith, ap length on.same, ap length back.same, length-append a on.more, length-append b back.more)) in
    sym (on.same ∙ ap (λ (ns : List Node). a ++ ns) none ∙ append-nil a)

module _ {text input : List ℕ} {all : List Node} (tree : IsTreeText text all) (rest : List ℕ) (parts : input ≡ text ++ rest)
    (judge : Judge) (nodes : List Node) (lines : List (List ℕ)) (held : List ℕ) (left : Option (List ℕ))
    (upto : JudgedUpTo (Some input) judge nodes lines held left) where
  tail : (later : List ℕ) × (input ≡ text_of lines ++ later)
  tail =
      says_of (Some input) (text_of lines) held left (λ (bytes : List ℕ). (later : List ℕ) × (bytes ≡ text_of lines ++ later)) upto.parts
      (λ bytes later is same. (held ++ later, same))

  on : Within tree rest lines tail.0
  on = within tree rest parts lines tail.0 (Begins-stands judge.reader.place nodes lines upto.judged.read) tail.1

  -- the nodes so far are the first ones of the tree
  pub nodes_so_far : GoOn nodes all
  nodes_so_far =
      nodes_within tree rest lines tail.0 nodes (ended_in judge.reader.place nodes lines upto.judged.read upto.judged.few) on

  -- a line of the text is left before the last one was read
  pub line_left : ¬ HasReadAll judge → length lines < length tree.lines
  line_left unended =
      fewer tree.lines lines on.more on.is (are_lines tree) (not_whole judge.reader.place nodes lines unended upto.judged.read)

  -- no fault comes there, and what stands in the way of reading on is none of the input
  pub no_fault_next : AreRight all → length all ≤ most_nodes → ¬ HasReadAll judge → (after : Option (List ℕ)) (rose : Type 0)
      (fault : Fault) → IsFaultDue (AreThese lines nodes) (Some input) after rose fault → (fault ≡ ReadFault) ⊎ (fault ≡ OutOfMemory)
  no_fault_next right few unended after rose (NoText line) due =
      absurd (omega (arith, line_left unended, ap length (sym due.faultless.meets.0), ap length (fault_behind tree rest parts line due).0))
  no_fault_next right few unended after rose (NoNode node) due = absurd (no_wrong_node tree rest parts node right due)
  no_fault_next right few unended after rose ReadFault due = inl refl
  no_fault_next right few unended after rose OutOfMemory due = inr refl
  no_fault_next right few unended after rose TooLong (inl long) =
      absurd (omega (arith, line_left unended, ap length (sym long.faultless.meets.0), ap length (long_behind tree rest parts long).0))
  no_fault_next right few unended after rose TooLong (inr many) = absurd (not_too_many tree rest parts few (many_of many))

  -- with the last line the nodes are those of the tree
  pub whole_tree : length all ≤ most_nodes → HasReadAll judge → (nodes ≡ all) × (lines ≡ tree.lines)
  whole_tree few ended =
      let are : Stands (After ended.0) nodes lines = ends judge nodes lines upto.judged.read ended in
      let read : IsTreeText (text_of lines) nodes =
      record { preamble = ended.0; winner = are.0; lines = lines; are = are.1; same = refl } in
      let none : on.more ≡ [] =
      none_further read [] tree.lines on.more ([], subst AreTreeLines (sym (append-nil tree.lines)) (are_lines tree)) on.is in
      let same : lines ≡ tree.lines = sym (on.is ∙ ap (λ (ls : List (List ℕ)). lines ++ ls) none ∙ append-nil lines) in
      let back : GoOn all nodes =
      ended_first tree.lines [] all nodes ended.0 are.0 (ended_whole tree.preamble all tree.winner tree.lines tree.are few)
      (subst (AreTreeLinesOf ended.0 nodes are.0) (same ∙ sym (append-nil tree.lines)) are.1) in
      (same_both nodes all nodes_so_far back, same)
