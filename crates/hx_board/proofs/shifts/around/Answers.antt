use Rattle.std.proofs.Common.{◌∙◌, ap, ◌&&◌}
use Rattle.hx_board.specs.Sets.{has}
use Rattle.hx_board.proofs.SetLaws.{has-intersection}
use Rattle.hx_board.proofs.Around.{Shifts, from_shifts, to_shifts}
use Rattle.hx_board.proofs.shifts.around.Goals as goal

shifts : (c : goal.After-meet-2)
    → Shifts c.args.size c.args.set c.args.all c.args.left c.meet-cells.result c.earlier-above.result c.later-below.result
    c.later-to_right.result c.meet-to_left.result
shifts c = record {
  extent = c.requires.extent;
  is_all = c.requires.all;
  is_left = c.requires.left;
  is_cells = c.meet-cells.ensures.set;
  is_above = c.earlier-above.ensures;
  is_below = c.later-below.ensures;
  is_to_right = λ n h. rw (← c.union.ensures.set, ← c.meet.ensures.set) (c.later-to_right.ensures n h);
  is_to_left = λ n. rw (c.meet-to_left.ensures.set, ← c.union-2.ensures.set)
      (has-intersection _ _ n ∙ ap (λ b. b && has c.args.left n) (c.earlier.ensures n));
}

pub returns : goal.returns
returns c =
    rw (c.meet-2.ensures.set, c.union-3.ensures.set, c.union-straight.ensures.set, c.union-sideways.ensures.set)
    (λ n. (from_shifts _ _ _ _ _ _ _ _ _ (shifts c) n, to_shifts _ _ _ _ _ _ _ _ _ (shifts c) n))
