-- The numbers of the children before the place.
use Rattle.std.proofs.Common.{◌≡◌, take}
use Rattle.hx_pn.specs.Numbers.{least_delta, delta_of}
use Rattle.hx_pn.proofs.proof_numbers.combine.Given as goal

abbrev pub invariant-loop-child : goal.invariant-loop-child
invariant-loop-child l = record {
  phi : l.phi ≡ least_delta (take l.child-index l.children);
  delta : l.delta ≡ delta_of (take l.child-index l.children);
}
