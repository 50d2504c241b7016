use Rattle.std.proofs.Common.{◌≡◌, ℕ, true, length, ◌∙◌}
use Rattle.hx_board.specs.Sets.{has}
use Rattle.hx_board.specs.Cells.{OnBoard}
use Rattle.hx_fill.proofs.ComingLaws.{sifted_goes_on, next_least, none_waits-fewer, fewer_wait, waiting-falls}
use Rattle.hx_fill.proofs.ComingLaws.{fewer_lines, waits_without_line}
use Rattle.hx_fill.proofs.unders.Sieve.go_on.Goals as goal

pub loop-cell-smaller : goal.loop-cell-smaller
loop-cell-smaller c = waiting-falls _ _ _ _ _ _ _ _ _ _ _ c.come.ensures.comes c.in-Some.ensures.member

pub loop-cell-preserved : goal.loop-cell-preserved
loop-cell-preserved c =
    let comes = c.come.ensures.comes in
    let sets = c.loop-cell.invariant.sets in
    let same = c.loop-cell.invariant.same in
    let least = rw (← c.requires.size) at c.in-Some.ensures in
    let on_board : (n : ℕ) → has c.loop-cell.self.waiting n ≡ true → OnBoard c.args.both.now.position.size n = λ n h.
    (c.requires.cells n (rw same at (sets.inside n (sets.waiting_inside n h)))).on_board in
    record {
      same = c.come.ensures.cells ∙ same;
      sets = record {
        inside = λ n h. rw c.come.ensures.cells (sets.inside n (fewer_lines _ _ _ _ _ _ _ _ _ _ _ comes n h));
        waiting_inside = waits_without_line _ _ _ _ _ _ _ _ _ _ _ comes sets.waiting_inside;
      };
      sifted = λ order none start.
          let before = c.loop-cell.invariant.sifted order none start in (
            none_waits-fewer order (length order) c.loop-cell.self.waiting c.come.new.self.waiting
                (fewer_wait _ _ _ _ _ _ _ _ _ _ _ comes) before.0,
            rw c.come.ensures.cells (sifted_goes_on c.args.both.now.position c.args.both.now.mover c.loop-cell.self.cells order
                c.loop-cell.self.choices c.loop-cell.self.without_line
                c.loop-cell.self.waiting c.loop-cell.self.betters before.1 c.in-Some.cell c.in-Some.ensures.member
                (next_least c.args.both.now.position order c.loop-cell.self.waiting c.in-Some.cell before.0 on_board least) _ _ _ _ comes),
          );
    }

pub returns-clause-sifted : goal.returns-clause-sifted
returns-clause-sifted c = λ order none start. (c.loop-cell.invariant.sifted order none start).1
