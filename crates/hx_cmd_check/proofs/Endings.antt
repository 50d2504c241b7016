-- The end of a judgement: the root after the last line of a text is the last heading that was kept, and nothing may
-- follow that line.
use Rattle.std.proofs.Common.{◌≡◌, ◌≢◌, ℕ, ◌+◌, ◌-◌, Bool, List, [], ◌∷◌, ◌++◌, length, refl, sym, ap, ◌∙◌, subst, arith, length-append}
use Rattle.std.proofs.Common.{Option, Some, None}
use Rattle.std.proofs.lemmas.List.{append-nil, length-map}
use Rattle.std.specs.Prelude.{slice_get, IfSome}
use Rattle.hx_lines.specs.declared.cutters.Cut.TheVariants.{Line, Over}
use Rattle.hx_lines.specs.Cutters.{Cutter, CutsLine, IsCut}
use Rattle.hx_lines.proofs.StreamParts.{TellsStream}
use Rattle.hx_board.specs.declared.colours.Colour.{Colour}
use Rattle.hx_text.specs.declared.versions.Preamble.{Preamble}
use Rattle.hx_text.specs.TreeTexts.{AreTreeLinesOf}
use Rattle.hx_tree.specs.declared.nodes.Heading.{Heading}
use Rattle.hx_tree.specs.declared.nodes.Node.{Node}
use Rattle.hx_tree.specs.Trees.{headings_of, IsRoot}
use Rattle.hx_tree.proofs.TreeGrowth.{valid_tree}
use Rattle.hx_parse.specs.declared.places.Place.{Place}
use Rattle.hx_parse.specs.declared.places.Place.TheVariants.{After}
use Rattle.hx_text.specs.Grammars.{text_of}
use Rattle.hx_parse.specs.Places.{Stands}
use Rattle.hx_parse.specs.Reader.{HasRead, lines_fed}
use Rattle.hx_cmd_check.specs.declared.judges.Judge.{Judge}
use Rattle.hx_cmd_check.specs.Judging.{Demand, IsYes, IsNoText}
use Rattle.hx_cmd_check.specs.Standings.{HasJudged, JudgedUpTo, HasReadAll}
use Rattle.hx_lex.proofs.Ends.{push-some}
use Rattle.hx_parse.proofs.Steps.{end_wrong}
use Rattle.hx_cmd_check.proofs.JudgedNodes.{faultless}
use Rattle.hx_cmd_check.proofs.DueAnswers.{says_of, none_of, told_of, cut_some, cut_not_long}
use Rattle.hx_parse.proofs.Completions.{Begins-stands}
use Rattle.hx_parse.proofs.Faults.{surplus}

heading_after : (front : List Node) (node : Node)
    → slice_get (headings_of (front ++ node ∷ [])) (length front) ≡ Some node.heading
heading_after [] node = refl
heading_after (first ∷ front) node = heading_after front node

last_heading : (front : List Node) (node : Node)
    → slice_get (headings_of (front ++ node ∷ [])) (length (headings_of (front ++ node ∷ [])) - 1) ≡ Some node.heading
last_heading front node =
    let place : length (headings_of (front ++ node ∷ [])) - 1 ≡ length front =
    omega (arith, length-map (front ++ node ∷ []) (λ (n : Node). n.heading), length-append front (node ∷ [])) in
    ap (λ (k : ℕ). slice_get (headings_of (front ++ node ∷ [])) k) place ∙ heading_after front node

root_heading : (headings : List Heading) (nodes : List Node) (node : Node) (root : Heading) → headings ≡ headings_of nodes
    → IsRoot nodes node → Some root ≡ slice_get headings (length headings - 1) → root ≡ node.heading
root_heading headings nodes node root same last is =
    let whole : headings ≡ headings_of (last.front ++ node ∷ []) = same ∙ ap headings_of last.same in
    let found : Some root ≡ Some node.heading = is ∙ ap (λ (hs : List Heading). slice_get hs (length hs - 1)) whole
    ∙ last_heading last.front node in
    cc

pub some_nodes : (nodes : List Node) (node : Node) → IsRoot nodes node → nodes ≢ []
some_nodes nodes node last none = push-some last.front node (sym last.same ∙ none)

-- the lines of a whole text
pub ends : (judge : Judge) (nodes : List Node) (lines : List (List ℕ)) → HasRead judge.reader nodes lines → (all : HasReadAll judge)
    → Stands (After all.0) nodes lines
ends judge nodes lines read all = subst (λ (p : Place). Stands p nodes lines) all.1 read

-- a whole text has a node
pub judged_some : (judge : Judge) (nodes : List Node) (lines : List (List ℕ)) → HasJudged judge nodes lines → HasReadAll judge
    → None ≡ slice_get judge.checker (length judge.checker - 1) → ⊥
judged_some judge nodes lines judged all none =
    let are : Stands (After all.0) nodes lines = ends judge nodes lines judged.read all in
    let whole : judge.checker ≡ headings_of (are.1.root.last.front ++ are.1.root.root ∷ []) = judged.same
    ∙ ap headings_of are.1.root.last.same in
    let found : None ≡ Some are.1.root.root.heading = none ∙ ap (λ (hs : List Heading). slice_get hs (length hs - 1)) whole
    ∙ last_heading are.1.root.last.front are.1.root.root in
    cc

module _ (before : Option (List ℕ)) (judge : Judge) (nodes : List Node) (lines : List (List ℕ)) (old new : Cutter)
    (left then_left : Option (List ℕ)) (upto : JudgedUpTo before judge nodes lines old.held left) (all : HasReadAll judge) where
  are : Stands (After all.0) nodes lines
  are = ends judge nodes lines upto.judged.read all

  -- nothing follows
  pub yes_answer : (root : Heading) → Some root ≡ slice_get judge.checker (length judge.checker - 1)
      → IsCut old new left then_left Over → IfSome before (λ input. IsYes input root × (then_left ≡ Some []))
  unfolding are
  yes_answer root is cut =
      says_of before (text_of lines) old.held left (λ input. IsYes input root × (then_left ≡ Some [])) upto.parts
      (λ input rest told parts.
      let stream : TellsStream old new rest then_left Over = told_of old new left then_left Over rest told cut in
      let none : old.held ++ rest ≡ [] = none_of old new rest then_left stream in
      let yes : IsYes input root = record {
        nodes = nodes;
        root = are.1.root.root;
        text = record {
          preamble = all.0;
          winner = are.0;
          lines = lines;
          are = are.1;
          same = parts ∙ ap (λ (t : List ℕ). text_of lines ++ t) none ∙ append-nil (text_of lines);
        };
        few = upto.judged.few;
        valid = valid_tree nodes (some_nodes nodes are.1.root.root are.1.root.last) upto.judged.right;
        last = are.1.root.last;
        same = root_heading judge.checker nodes are.1.root.root root upto.judged.same are.1.root.last is;
      } in
      (yes, stream.left ∙ ap Some stream.is.2))

  -- a line follows, which no text has
  pub surplus_answer : (Meets : Demand) → Meets lines nodes → (ended : Bool) (number : ℕ) → CutsLine old new left then_left ended
      → number ≡ lines_fed judge.reader + 1 → IfSome before (λ input. IsNoText Meets input number)
  unfolding are
  surplus_answer Meets meets ended number cut is =
      says_of before (text_of lines) old.held left (λ input. IsNoText Meets input number) upto.parts
      (λ input rest left_is parts.
      let told : TellsStream old new rest then_left (Line ended) = told_of old new left then_left (Line ended) rest left_is cut in
      record {
        fault = surplus input lines (old.held ++ rest) number parts (is ∙ ap (λ (n : ℕ). n + 1) upto.judged.counted)
            (Begins-stands judge.reader.place nodes lines upto.judged.read) (cut_some ended old new rest then_left told)
            (λ next begins. end_wrong all.0 are.0 nodes lines next are.1 begins);
        faultless = faultless judge nodes lines upto.judged Meets meets;
        short = cut_not_long ended old new rest then_left told;
      })

-- after the last line
pub judged_end : (judge : Judge) (nodes : List Node) (lines : List (List ℕ)) (winner : Colour)
    → (preamble : Preamble) × (judge.reader.place ≡ After preamble) × AreTreeLinesOf preamble nodes winner lines
    → HasRead judge.reader nodes lines
judged_end judge nodes lines winner told =
    subst (λ (p : Place). Stands p nodes lines) (sym told.1) (winner, told.2)
