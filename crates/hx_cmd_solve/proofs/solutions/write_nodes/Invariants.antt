-- The nodes before the place were written.
use Rattle.std.proofs.Common.{◌≡◌, ◌≤◌, take}
use Rattle.hx_io.specs.Sinks.{append}
use Rattle.hx_cmd_solve.specs.Answers.{nodes_text}
use Rattle.hx_cmd_solve.proofs.solutions.write_nodes.Given as goal

abbrev pub invariant-loop-node : goal.invariant-loop-node
invariant-loop-node g l = record {
  out : (g.K.Sink.writing l.sink).taken ≡ append (g.K.Sink.writing l.initial.sink).taken (nodes_text (take l.node-index l.nodes));
  later : (g.K.Sink.writing l.initial.sink).faults ≤ (g.K.Sink.writing l.sink).faults;
}
