use Rattle.std.proofs.Common.{◌≡◌, ◌≤◌, ℕ, List, true}
use Rattle.hx_io.specs.Sources.{IsAtEnd}
use Rattle.hx_cmd_play.specs.Standings.{HasTaken, IsGoing}
use Rattle.hx_cmd_play.proofs.trees.read_tree.Given as goal

abbrev pub invariant-loop : goal.invariant-loop
invariant-loop g l = record {
  lines : List (List ℕ);
  taken : HasTaken (g.S.Source.reading l.fn.source).left l.so_far lines l.lines.held (g.S.Source.reading l.source).left;
  going : IsGoing l.so_far;
  counted : l.counter ≤ l.so_far.bytes;
  met_end : l.lines.met_end ≡ true → IsAtEnd (g.S.Source.reading l.source).left;
  reads : (g.S.Source.reading l.fn.source).faults ≤ (g.S.Source.reading l.source).faults;
}
