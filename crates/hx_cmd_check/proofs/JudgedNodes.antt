-- Judging a text line by line: what is known of the lines and nodes before a line holds again after it.
use Rattle.std.proofs.Common.{◌≡◌, ℕ, ◌+◌, ◌<◌, ◌^◌, List, [], ◌∷◌, ◌++◌, length, sym, ap, ◌∙◌, arith, length-append, Option}
use Rattle.hx_io.specs.Sources.{prepend}
use Rattle.hx_io.proofs.SourceLaws.{prepend-nil}
use Rattle.hx_lines.specs.Cutters.{Cutter, CutsLine}
use Rattle.hx_lines.proofs.StreamParts.{parts-lost}
use Rattle.std.specs.Prelude.{true}
use Rattle.hx_tree.specs.declared.nodes.Heading.{Heading}
use Rattle.hx_tree.specs.declared.nodes.Node.{Node}
use Rattle.hx_tree.specs.Rules.{IsRightNode}
use Rattle.hx_tree.proofs.TreeGrowth.{one_more_right, headings_of-append}
use Rattle.hx_text.specs.Grammars.{text_of}
use Rattle.hx_io.specs.Causes.{next_count}
use Rattle.hx_parse.specs.Reader.{HasRead, lines_fed}
use Rattle.hx_text.proofs.Cuts.{text_of-append}
use Rattle.hx_cmd_check.specs.declared.judges.Judge.{Judge}
use Rattle.hx_cmd_check.specs.Judging.{Demand, AreFaultless}
use Rattle.hx_cmd_check.specs.Standings.{HasJudged, JudgedUpTo, HasReadAll}
use Rattle.hx_cmd_check.proofs.LineCounts.{ended_few}
use Rattle.hx_cmd_check.proofs.Standings.{ended_in, few_nodes}

-- before the first line
pub judged_nothing : (before : Option (List ℕ)) (judge : Judge) (held : List ℕ) → HasJudged judge [] [] → held ≡ []
    → JudgedUpTo before judge [] [] held before
unfolding text_of
judged_nothing before judge held judged nothing = record {
  judged = judged;
  parts = sym (prepend-nil before) ∙ ap (λ bytes. prepend bytes before) (sym nothing);
}

module _ (judge : Judge) (nodes : List Node) (lines : List (List ℕ)) (judged : HasJudged judge nodes lines) where
  -- the lines so far have no fault, and they are few
  abbrev pub faultless : (Meets : Demand) → Meets lines nodes → AreFaultless Meets lines
  faultless Meets meets = record {
    nodes = nodes;
    ended = ended_in judge.reader.place nodes lines judged.read judged.few;
    meets = meets;
  }

  pub few_lines : length lines < 2 ^ 63
  few_lines = ended_few lines nodes (ended_in judge.reader.place nodes lines judged.read judged.few)

  pub few_fed : lines_fed judge.reader < 2 ^ 63
  few_fed = omega (arith, judged.counted, few_lines)

  pub count_more : (now : ℕ) → now ≡ next_count (lines_fed judge.reader) → now ≡ length lines + 1
  count_more now is = omega (arith, is, few_fed, judged.counted)

  count_with : (now : ℕ) (line : List ℕ) → now ≡ next_count (lines_fed judge.reader) → now ≡ length (lines ++ line ∷ [])
  count_with now line is = count_more now is ∙ sym (length-append lines (line ∷ []))

module _ (before : Option (List ℕ)) (judge new_judge : Judge) (nodes : List Node) (lines : List (List ℕ)) (old new : Cutter)
    (left then_left : Option (List ℕ)) (upto : JudgedUpTo before judge nodes lines old.held left)
    (cut : CutsLine old new left then_left true) (counts : lines_fed new_judge.reader ≡ next_count (lines_fed judge.reader)) where
  with_line : before ≡ prepend (text_of (lines ++ new.line ∷ []) ++ new.held) then_left
  unfolding text_of
  with_line =
      parts-lost before (text_of lines) old.held new.held (new.line ++ 10 ∷ []) left then_left upto.parts cut.loses
      ∙ ap (λ bytes. prepend (bytes ++ new.held) then_left) (sym (text_of-append lines (new.line ∷ [])))

  -- one more line that is no node's last
  pub judged_more : new_judge.checker ≡ judge.checker → HasRead new_judge.reader nodes (lines ++ new.line ∷ [])
      → JudgedUpTo before new_judge nodes (lines ++ new.line ∷ []) new.held then_left
  judged_more kept reads = record {
    judged = record {
      read = reads;
      counted = count_with judge nodes lines upto.judged (lines_fed new_judge.reader) new.line counts;
      few = upto.judged.few;
      right = upto.judged.right;
      same = kept ∙ upto.judged.same;
    };
    parts = with_line;
  }

  -- one more line, with which a right node ends
  pub judged_node : (node : Node) → ¬ HasReadAll new_judge → HasRead new_judge.reader (nodes ++ node ∷ []) (lines ++ new.line ∷ [])
      → IsRightNode judge.checker node → new_judge.checker ≡ judge.checker ++ node.heading ∷ []
      → JudgedUpTo before new_judge (nodes ++ node ∷ []) (lines ++ new.line ∷ []) new.held then_left
  judged_node node unended reads right added = record {
    judged = record {
      read = reads;
      counted = count_with judge nodes lines upto.judged (lines_fed new_judge.reader) new.line counts;
      few = few_nodes new_judge.reader.place (nodes ++ node ∷ []) (lines ++ new.line ∷ []) unended reads;
      right = one_more_right nodes node upto.judged.right (rw upto.judged.same at right);
      same = added ∙ ap (λ (hs : List Heading). hs ++ node.heading ∷ []) upto.judged.same
          ∙ sym (headings_of-append nodes (node ∷ []));
    };
    parts = with_line;
  }
