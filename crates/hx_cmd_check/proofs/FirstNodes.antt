-- Nodes that ended in lines with which an input begins are the first ones of those that ended before a fault further
-- on. So what the fault asks of the nodes before it holds of them.
use Rattle.std.proofs.Common.{◌≡◌, ℕ, ◌≤◌, inl, inr, List, [], ◌∷◌, ◌++◌, length, refl, sym, ap, ◌∙◌, subst, arith}
use Rattle.std.proofs.lemmas.List.{append-nil}
use Rattle.std.specs.Prelude.{◌⊎◌}
use Rattle.hx_tree.specs.declared.nodes.Node.{Node}
use Rattle.hx_text.specs.Grammars.{text_of, Begins}
use Rattle.hx_text.specs.TreeTexts.{AreTreeLines}
use Rattle.hx_text.proofs.Cuts.{Agree, Second_goes_on, First_goes_on, agree}
use Rattle.hx_text.proofs.OneFault.{no_more}
use Rattle.hx_text.proofs.TreeLacks.{AllLack-tree_lines, AllLack-begun}
use Rattle.hx_cmd_check.specs.Judging.{Demand, EndedIn, IsNoText, IsLongLine}
use Rattle.hx_cmd_check.proofs.Readings.{GoOn, ended_first, few_ended, too_many, all_of, many_lines, many_rest, goes_to_end, AllLack-many_lines}
use Rattle.hx_cmd_check.proofs.OneAnswer.{front_nodes}
use Rattle.hx_cmd_check.proofs.LongLines.{GoesOn, goes_on, long_begins, AllShort-begun}
use Rattle.hx_cmd_check.proofs.ManyNodes.{ManyNodes}

-- of two fronts of a list the one that is not longer is a front of the other
pub front_of : {X : Type 0} (short long x y : List X) → short ++ x ≡ long ++ y → length short ≤ length long
    → (more : List X) × (long ≡ short ++ more)
front_of [] long x y e less = (long, refl)
front_of (first ∷ short) [] x y e less = absurd (omega (arith, less))
front_of {X} (first ∷ short) (other ∷ long) x y e less =
    let firsts : first ≡ other = cc in
    let rests : short ++ x ≡ long ++ y = cc in
    let on : (more : List X) × (long ≡ short ++ more) = front_of short long x y rests (omega (arith, less)) in
    (on.0, ap (λ (h : X). h ∷ long) (sym firsts) ∙ ap (λ (t : List X). first ∷ t) on.1)

module _ {Meets : Demand} {input : List ℕ} (lines : List (List ℕ)) (rest : List ℕ) (nodes : List Node) (begins : Begins AreTreeLines lines)
    (parts : input ≡ text_of lines ++ rest) (ended : EndedIn lines nodes) where
  before_line_from : {line : ℕ} (text : IsNoText Meets input line) (more : List (List ℕ)) → text.fault.before ≡ lines ++ more
      → GoOn nodes text.faultless.nodes
  before_line_from text more is =
      front_nodes lines more nodes text.faultless.nodes ended
      (subst (λ (ls : List (List ℕ)). EndedIn ls text.faultless.nodes) is text.faultless.ended)
      (subst (Begins AreTreeLines) is text.fault.right)

  before_line_by : {line : ℕ} (text : IsNoText Meets input line) → Agree lines text.fault.before rest text.fault.rest
      → GoOn nodes text.faultless.nodes
  before_line_by text (Second_goes_on more is left) = before_line_from text more is
  before_line_by {line} text (First_goes_on more is left) =
      let none : more ≡ [] = no_more AreTreeLines AllLack-tree_lines input line text.fault lines more rest is left begins in
      before_line_from text []
      (sym (is ∙ ap (λ (ls : List (List ℕ)). text.fault.before ++ ls) none ∙ append-nil text.fault.before) ∙ sym (append-nil lines))

  -- before a line at fault
  pub first_before_line : {line : ℕ} (text : IsNoText Meets input line) → GoOn nodes text.faultless.nodes
  first_before_line text =
      before_line_by text
      (agree lines text.fault.before rest text.fault.rest (AllLack-begun lines begins)
      (AllLack-begun text.fault.before text.fault.right) (sym parts ∙ text.fault.parts))

  -- before a line that is too long
  pub first_before_long : (long : IsLongLine Meets input) → GoOn nodes long.faultless.nodes
  first_before_long long =
      let on : GoesOn long lines rest =
      goes_on input long lines rest (AllLack-begun lines begins) (AllShort-begun lines begins) parts in
      front_nodes lines on.more nodes long.faultless.nodes ended
      (subst (λ (ls : List (List ℕ)). EndedIn ls long.faultless.nodes) on.is long.faultless.ended)
      (subst (Begins AreTreeLines) on.is (long_begins long))

  of_many_by : (many : ManyNodes Meets input) → Agree (many_lines many) lines many.rest rest → GoOn nodes many.nodes
  of_many_by many (Second_goes_on more is left) = absurd (too_many many lines more nodes is ended)
  of_many_by many (First_goes_on more is left) =
      let on : GoOn nodes (all_of many) =
      ended_first lines (more ++ many_rest many) nodes (all_of many) many.preamble many.next.heading.winner ended
      (goes_to_end many lines more is) in
      let front : (later : List Node) × (many.nodes ≡ nodes ++ later) =
      front_of nodes many.nodes on.more (many.next ∷ []) (sym on.same) (omega (arith, few_ended lines nodes ended, many.full)) in
      record { more = front.0; same = front.1 }

  -- where there are too many nodes, among as many as a text may have
  pub first_of_many : (many : ManyNodes Meets input) → GoOn nodes many.nodes
  first_of_many many =
      of_many_by many
      (agree (many_lines many) lines many.rest rest (AllLack-many_lines many) (AllLack-begun lines begins) (sym many.parts ∙ parts))

-- of two lists of nodes that ended so one is the front of the other
module _ {input : List ℕ} (a_lines b_lines : List (List ℕ)) (a_rest b_rest : List ℕ) (a b : List Node)
    (a_begins : Begins AreTreeLines a_lines) (b_begins : Begins AreTreeLines b_lines) (a_parts : input ≡ text_of a_lines ++ a_rest)
    (b_parts : input ≡ text_of b_lines ++ b_rest) (a_ended : EndedIn a_lines a) (b_ended : EndedIn b_lines b) where
  either_by : Agree a_lines b_lines a_rest b_rest → GoOn a b ⊎ GoOn b a
  either_by (Second_goes_on more is left) =
      inl (front_nodes a_lines more a b a_ended (subst (λ (ls : List (List ℕ)). EndedIn ls b) is b_ended)
      (subst (Begins AreTreeLines) is b_begins))
  either_by (First_goes_on more is left) =
      inr (front_nodes b_lines more b a b_ended (subst (λ (ls : List (List ℕ)). EndedIn ls a) is a_ended)
      (subst (Begins AreTreeLines) is a_begins))

  pub either_first : GoOn a b ⊎ GoOn b a
  either_first =
      either_by
      (agree a_lines b_lines a_rest b_rest (AllLack-begun a_lines a_begins) (AllLack-begun b_lines b_begins) (sym a_parts ∙ b_parts))
