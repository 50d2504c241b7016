use Rattle.std.proofs.Common.{◌-◌, length}
use Rattle.hx_link.specs.declared.links.Kind.TheVariants.{Semi}
use Rattle.hx_linkset.specs.LiveOf.{IsLiveOf}
use Rattle.hx_search.specs.Progress.{AreParts, AllShare}
use Rattle.hx_search.proofs.parts.parts_of.Given as goal

abbrev pub invariant-loop-shared : goal.invariant-loop-shared
invariant-loop-shared l = record {
  at : IsLiveOf l.fn.set Semi l.fn.a l.fn.b l.last;
  parts_ok : AreParts l.fn.set l.fn.a l.fn.b l.parts.items l.shared;
  all_share : AllShare l.fn.set l.fn.a l.fn.b l.shared l.last;
}

abbrev pub decreases-loop-shared : goal.decreases-loop-shared
decreases-loop-shared l = length l.fn.set.present.links - l.last
