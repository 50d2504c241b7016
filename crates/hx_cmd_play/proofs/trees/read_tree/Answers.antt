use Rattle.std.proofs.Common.{◌++◌, ◌∷◌, [], arith}
use Rattle.hx_io.proofs.CauseLaws.{rose_from_earlier}
use Rattle.hx_cmd_play.proofs.TreeLaws.{due_later}
use Rattle.hx_cmd_play.proofs.trees.read_tree.Goals as goal

pub loop-init : goal.loop-init
loop-init g c = record {
  lines = [];
  taken = rw c.requires.new (c.new-so_far.ensures.nothing (g.S.Source.reading c.args.source.now).left);
  going = c.new-so_far.ensures.going;
  counted = omega arith;
  met_end = c.requires.met_end;
  reads = omega arith;
}

pub loop-preserved : goal.loop-preserved
loop-preserved g c =
    let at = c.loop.invariant in
    record {
      lines = at.lines ++ c.take_line.new.lines.line ∷ [];
      taken = rw c.in-Ok-false.field-0-test at (c.in-Ok-false.ensures.takes (g.S.Source.reading c.args.source.now).left at.lines at.taken);
      going = c.in-Ok-false.ensures.going c.in-Ok-false.field-0-test;
      counted = omega (arith, at.counted, c.in-Ok-false.ensures.more);
      met_end = c.in-Ok-false.ensures.met_end;
      reads = omega (arith, at.reads, c.in-Ok-false.ensures.later);
    }

pub returns-in-Ok-true-clause-read : goal.returns-in-Ok-true-clause-read
returns-in-Ok-true-clause-read g c =
    let at = c.loop.invariant in
    let before = (g.S.Source.reading c.args.source.now).left in
    let read = rw c.in-Ok-true.field-0-test at (c.in-Ok-true.ensures.takes before at.lines at.taken) in
    rw c.into_nodes.ensures read

pub returns-in-Err-clause-read : goal.returns-in-Err-clause-read
returns-in-Err-clause-read g c =
    let at = c.loop.invariant in
    due_later (g.S.Source.reading c.args.source.now).left (g.S.Source.reading c.take_line.new.source).left _ _ c.in-Err.refusal
    (rose_from_earlier _ _ _ at.reads)
    (c.in-Err.ensures.takes (g.S.Source.reading c.args.source.now).left at.lines at.taken)
