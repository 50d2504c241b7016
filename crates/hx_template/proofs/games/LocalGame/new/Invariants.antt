use Rattle.std.proofs.Common.{◌≡◌, ℕ, ◌^◌, ◌<◌, length, slice_index}
use Rattle.hx_board.specs.Sets.{count_below}
use Rattle.hx_template.proofs.games.LocalGame.new.Given as goal

abbrev pub invariant-loop-index : goal.invariant-loop-index
invariant-loop-index l = record {
  count : length l.weights ≡ 121;
  next : l.fillings ≡ 3 ^ count_below l.index l.carrier;
  powers : (n : ℕ) → n < l.index → slice_index l.weights n ≡ 3 ^ count_below n l.carrier;
}
