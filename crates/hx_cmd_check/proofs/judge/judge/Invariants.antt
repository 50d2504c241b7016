use Rattle.std.proofs.Common.{◌≡◌, ◌≤◌, ℕ, List, length, true}
use Rattle.hx_io.specs.Sources.{IsAtEnd}
use Rattle.hx_tree.specs.declared.nodes.Node.{Node}
use Rattle.hx_cmd_check.specs.Standings.{JudgedUpTo, HasReadAll}
use Rattle.hx_cmd_check.proofs.judge.judge.Given as goal

abbrev pub invariant-loop : goal.invariant-loop
invariant-loop g l = record {
  nodes : List Node;
  lines : List (List ℕ);
  upto : JudgedUpTo (g.S.Source.reading l.fn.source).left l.judge nodes lines l.cutter.held (g.S.Source.reading l.source).left;
  unended : ¬ HasReadAll l.judge;
  counted : length lines ≡ l.counter;
  met_end : l.cutter.met_end ≡ true → IsAtEnd (g.S.Source.reading l.source).left;
  reads : (g.S.Source.reading l.fn.source).faults ≤ (g.S.Source.reading l.source).faults;
}
