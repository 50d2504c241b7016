use Rattle.std.proofs.Common.{◌≡◌, ℕ, true, false}
use Rattle.hx_board.specs.Sets.{has, IsSubset}
use Rattle.hx_inferior.specs.Inferior.{IsPair}
use Rattle.hx_fill.proofs.makers.partner_of.Given as goal

abbrev pub invariant-loop-other : goal.invariant-loop-other
invariant-loop-other l = record {
  inside : IsSubset l.left l.fn.makers;
  none : (n : ℕ) → has l.fn.makers n ≡ true → has l.left n ≡ false → ¬ IsPair l.view.board l.view.player l.cell n;
}

abbrev pub decreases-loop-other : goal.decreases-loop-other
decreases-loop-other l = l.left
