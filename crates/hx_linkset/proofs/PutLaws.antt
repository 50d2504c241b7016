-- What a call says that looks for no cover is what `add` says, where no live link covers the step's link: the step
-- gives one link alone.
use Rattle.std.proofs.Common.{subst}
use Rattle.hx_link.specs.declared.links.Link.{Link}
use Rattle.hx_link.specs.declared.steps.Step.{Step}
use Rattle.hx_link.proofs.OneLink.{step-unique}
use Rattle.hx_linkset.specs.declared.sets.Added.{Added}
use Rattle.hx_linkset.specs.declared.sets.Added.TheVariants.{New, Covered, Refused, Limit}
use Rattle.hx_linkset.specs.States.{Standing}
use Rattle.hx_linkset.specs.Answers.{Gives, IsUncovered, IsAdded, IsPut}

module _ (old new : Standing) (step : Step) (link : Link) (gives : Gives old step link) (uncovered : IsUncovered old link) where
  none_covers : (other : Link) → Gives old step other → IsUncovered old other
  none_covers other g =
      subst (λ l. IsUncovered old l) (step-unique _ _ _ link other step gives.gives g.gives) uncovered

  pub put-added : (answer : Added) → IsPut old new step answer → IsAdded old new step answer
  put-added (New place) put = record {
    link = put.link;
    gives = put.gives;
    uncovered = none_covers put.link put.gives;
    place_is = put.place_is;
    small = put.small;
    grown = put.grown;
  }
  put-added (Covered place) put = absurd put
  put-added Refused put = put
  put-added Limit put = record {
    link = put.link;
    gives = put.gives;
    uncovered = none_covers put.link put.gives;
    full = put.full;
    same = put.same;
  }
