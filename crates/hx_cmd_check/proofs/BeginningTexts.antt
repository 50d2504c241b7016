-- An input that begins with the text of a tree, whatever follows its last line. No fault lies within the text: a line
-- that is at fault or too long is the one behind it, and no node of a valid tree is wrong. So a text with nothing
-- behind it has no fault.
use Rattle.std.proofs.Common.{◌≡◌, ℕ, ◌≤◌, inl, inr, List, [], ◌∷◌, ◌++◌, length, refl, sym, ap, ◌∙◌, subst, arith, append_assoc}
use Rattle.std.proofs.lemmas.List.{append-nil}
use Rattle.hx_tree.specs.declared.nodes.Node.{Node}
use Rattle.hx_tree.specs.Trees.{AreRight, IsValidTree}
use Rattle.hx_text.specs.Grammars.{text_of, Begins}
use Rattle.hx_text.specs.TreeTexts.{AreTreeLines, AreTreeLinesOf, IsTreeText}
use Rattle.hx_text.specs.Lengths.{most_nodes}
use Rattle.hx_text.proofs.Cuts.{AllLack, Lacks-middle, Agree, Second_goes_on, First_goes_on, agree}
use Rattle.hx_text.proofs.ShortLines.{AllShort, AllShort-middle, AllShort-tree_lines}
use Rattle.hx_text.proofs.TreeLacks.{AllLack-tree_lines, AllLack-begun}
use Rattle.hx_parse.proofs.Steps.{end_wrong}
use Rattle.hx_cmd_check.specs.Limits.{BeginsLong}
use Rattle.hx_cmd_check.specs.Judging.{Demand, EndedIn, IsNoText, IsNoNode, IsLongLine}
use Rattle.hx_cmd_check.specs.Judgements.{IsLong}
use Rattle.hx_cmd_check.proofs.Readings.{GoOn, node_end, node_begins, ended_first, right_among, no_next, many_lines, many_begin, more_nodes}
use Rattle.hx_cmd_check.proofs.LongLines.{none_not_long, lines_not_long, long_begins}
use Rattle.hx_cmd_check.proofs.ManyNodes.{ManyNodes, many_of}

pub are_lines : {text : List ℕ} {nodes : List Node} (tree : IsTreeText text nodes) → AreTreeLines tree.lines
are_lines {text} {nodes} tree = record { preamble = tree.preamble; nodes = nodes; winner = tree.winner; are = tree.are }

module _ {text : List ℕ} {nodes : List Node} (tree : IsTreeText text nodes) (rest : List ℕ) where
  -- lines that begin both the input and some text are the first ones of the tree's lines
  pub record Within (lines : List (List ℕ)) (left : List ℕ) : Type 0 where
    pub more : List (List ℕ)
    pub is : tree.lines ≡ lines ++ more
    pub left_is : left ≡ text_of more ++ rest

  -- no text goes on behind the last line
  pub none_further : (lines more : List (List ℕ)) → Begins AreTreeLines lines → lines ≡ tree.lines ++ more → more ≡ []
  none_further lines [] begins is = refl
  none_further lines (next ∷ more) begins is =
      absurd (end_wrong tree.preamble tree.winner nodes tree.lines next tree.are (
        more ++ begins.0,
        subst AreTreeLines
            (ap (λ (ls : List (List ℕ)). ls ++ begins.0) (is ∙ sym (append_assoc tree.lines (next ∷ []) more))
            ∙ append_assoc (tree.lines ++ next ∷ []) more begins.0) begins.1,
      ))

  within_by : (lines : List (List ℕ)) (left : List ℕ) → Begins AreTreeLines lines → Agree tree.lines lines rest left → Within lines left
  unfolding text_of
  within_by lines left begins (First_goes_on more is left_is) = record { more = more; is = is; left_is = left_is }
  within_by lines left begins (Second_goes_on more is left_is) =
      let none : more ≡ [] = none_further lines more begins is in
      let same : lines ≡ tree.lines = is ∙ ap (λ (ls : List (List ℕ)). tree.lines ++ ls) none ∙ append-nil tree.lines in
      record {
        more = [];
        is = sym same ∙ sym (append-nil lines);
        left_is = sym (left_is ∙ ap (λ (ls : List (List ℕ)). text_of ls ++ left) none);
      }

  pub within : {input : List ℕ} → input ≡ text ++ rest → (lines : List (List ℕ)) (left : List ℕ) → Begins AreTreeLines lines
      → input ≡ text_of lines ++ left → Within lines left
  within parts lines left begins is =
      within_by lines left begins
      (agree tree.lines lines rest left (AllLack-tree_lines tree.lines (are_lines tree)) (AllLack-begun lines begins)
      (sym (parts ∙ ap (λ (t : List ℕ). t ++ rest) tree.same) ∙ is))

  -- the nodes that ended in such lines are the first ones of the tree's
  pub nodes_within : (lines : List (List ℕ)) (left : List ℕ) (some : List Node) → EndedIn lines some → Within lines left → GoOn some nodes
  nodes_within lines left some ended on =
      ended_first lines on.more some nodes tree.preamble tree.winner ended
      (subst (AreTreeLinesOf tree.preamble nodes tree.winner) on.is tree.are)

  -- a line at fault is the one behind the text
  fault_by : {Meets : Demand} {input : List ℕ} (line : ℕ) (is : IsNoText Meets input line) (more : List (List ℕ))
      → tree.lines ≡ is.fault.before ++ more → is.fault.rest ≡ text_of more ++ rest
      → (is.fault.before ≡ tree.lines) × (is.fault.rest ≡ rest)
  unfolding text_of
  fault_by line is [] same left_is = (sym (append-nil is.fault.before) ∙ sym same, left_is)
  fault_by {Meets} {input} line is (next ∷ more) same left_is =
      absurd (no_next input line is.fault next more more rest left_is (subst AreTreeLines same (are_lines tree)))

  pub fault_behind : {Meets : Demand} {input : List ℕ} → input ≡ text ++ rest → (line : ℕ) (is : IsNoText Meets input line)
      → (is.fault.before ≡ tree.lines) × (is.fault.rest ≡ rest)
  fault_behind parts line is =
      let on : Within is.fault.before is.fault.rest = within parts is.fault.before is.fault.rest is.fault.right is.fault.parts in
      fault_by line is on.more on.is on.left_is

  pub no_fault_within : {Meets : Demand} {input : List ℕ} → input ≡ text ++ rest → (line : ℕ) → IsNoText Meets input line
      → line ≤ length tree.lines → ⊥
  no_fault_within parts line is inside = omega (arith, inside, is.fault.place, ap length (fault_behind parts line is).0)

  -- no node is wrong
  pub no_wrong_node : {Meets : Demand} {input : List ℕ} → input ≡ text ++ rest → (k : ℕ) → AreRight nodes → IsNoNode Meets input k → ⊥
  no_wrong_node parts k right is =
      is.wrong (right_among is.earlier is.node nodes
      (nodes_within (node_end is) is.rest (is.earlier ++ is.node ∷ []) is.ended
      (within parts (node_end is) is.rest (node_begins is) is.parts))
      (right (length is.earlier)))

  -- there are not too many nodes
  pub not_too_many : {Meets : Demand} {input : List ℕ} → input ≡ text ++ rest → length nodes ≤ most_nodes → ManyNodes Meets input → ⊥
  not_too_many parts few many =
      let on : Within (many_lines many) many.rest = within parts (many_lines many) many.rest (many_begin many) many.parts in
      more_nodes many tree.preamble nodes tree.winner on.more (subst (AreTreeLinesOf tree.preamble nodes tree.winner) on.is tree.are) few

  -- a line that is too long is the one behind the text
  long_by : {Meets : Demand} {input : List ℕ} (long : IsLongLine Meets input) (more : List (List ℕ)) → tree.lines ≡ long.lines ++ more
      → long.rest ≡ text_of more ++ rest → (long.lines ≡ tree.lines) × BeginsLong rest
  unfolding text_of
  long_by long [] same left_is = (sym (append-nil long.lines) ∙ sym same, subst BeginsLong left_is long.long)
  long_by long (next ∷ more) same left_is =
      let middle : tree.lines ≡ (long.lines ++ next ∷ []) ++ more = same ∙ sym (append_assoc long.lines (next ∷ []) more) in
      absurd (lines_not_long next more rest
      (Lacks-middle long.lines next more (subst AllLack middle (AllLack-tree_lines tree.lines (are_lines tree))))
      (AllShort-middle long.lines next more (subst AllShort same (AllShort-tree_lines tree.lines (are_lines tree))))
      (subst BeginsLong left_is long.long))

  pub long_behind : {Meets : Demand} {input : List ℕ} → input ≡ text ++ rest → (long : IsLongLine Meets input)
      → (long.lines ≡ tree.lines) × BeginsLong rest
  long_behind parts long =
      let on : Within long.lines long.rest = within parts long.lines long.rest (long_begins long) long.parts in
      long_by long on.more on.is on.left_is

  pub not_long : {Meets : Demand} {input : List ℕ} → input ≡ text ++ rest → length nodes ≤ most_nodes → ¬ BeginsLong rest
      → IsLong Meets input → ⊥
  not_long parts few short (inl long) = short (long_behind parts long).1
  not_long parts few short (inr many) = not_too_many parts few (many_of many)

-- ---- a text with nothing behind it

alone : (input : List ℕ) → input ≡ input ++ []
alone input = sym (append-nil input)

pub text_not_fault : {Meets : Demand} (input : List ℕ) (nodes : List Node) (line : ℕ) → IsTreeText input nodes
    → IsNoText Meets input line → ⊥
text_not_fault input nodes line tree is =
    let behind = fault_behind tree [] (alone input) line is in
    is.fault.not_whole behind.1 (subst AreTreeLines (sym behind.0) (are_lines tree))

pub valid_not_wrong : {Meets : Demand} (input : List ℕ) (nodes : List Node) (k : ℕ) → IsTreeText input nodes → IsValidTree nodes
    → IsNoNode Meets input k → ⊥
valid_not_wrong input nodes k tree valid is = no_wrong_node tree [] (alone input) k valid.right is

pub text_not_long : {Meets : Demand} (input : List ℕ) (nodes : List Node) → IsTreeText input nodes → length nodes ≤ most_nodes
    → IsLong Meets input → ⊥
text_not_long input nodes tree few long = not_long tree [] (alone input) few (none_not_long [] refl) long
