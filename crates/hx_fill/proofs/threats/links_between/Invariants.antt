use Rattle.std.proofs.Common.{◌≡◌, ◌++◌}
use Rattle.std.specs.Prelude.{map}
use Rattle.std.specs.List.{All}
use Rattle.hx_fill.specs.Musts.{IsBetween}
use Rattle.hx_fill.proofs.threats.links_between.Given as goal

abbrev pub invariant-loop-place : goal.invariant-loop-place
invariant-loop-place l = record {
  each : All (IsBetween l.set) l.links.items;
  split : map (λ link. link.place) l.links.items ++ l.place-iterator ≡ l.initial.place-iterator;
}
