use Rattle.std.proofs.Common.{◌≡◌, take, drop}
use Rattle.std.specs.Prelude.{sum}
use Rattle.std.specs.Slots.{slots_items}
use Rattle.hx_count.proofs.totals.sum_of_losses.Given as goal

abbrev pub invariant-loop-word : goal.invariant-loop-word
invariant-loop-word l = l.sum ≡ sum (take l.word (drop 1 (slots_items l.closed.words)))
