use Rattle.std.proofs.Common.{◌≡◌, length, take}
use Rattle.std.specs.List.{All}
use Rattle.hx_pn.specs.Numbers.{IsNumbers}
use Rattle.hx_ordering.specs.declared.given.TheConstants.{MOST_GIVEN}
use Rattle.hx_ordering.specs.Given.{AreTold}
use Rattle.hx_count.specs.Seats.{KeepsSeat}
use Rattle.hx_ordering.proofs.given.told_by.Given as goal

abbrev pub invariant-loop-place : goal.invariant-loop-place
invariant-loop-place l = record {
  seat : KeepsSeat l.fn.seat l.seat;
  told : AreTold (take l.place l.children) (take l.place l.numbers);
  room : length l.numbers ≡ MOST_GIVEN;
  numbers : All IsNumbers l.numbers;
}
