use Rattle.std.proofs.Common.{ap, ◌∙◌}
use Rattle.hx_count.specs.Machine.{Account}
use Rattle.hx_walk.proofs.WalkLaws.{keeps-itself, keeps-seat}
use Rattle.hx_walk.proofs.descents.Walk+K+G+R+Workspace+LinkSet.size_after.Goals as goal

pub returns-in_default : goal.returns-in_default
returns-in_default g c = record { keeps = keeps-itself _ _ }

pub returns : goal.returns
returns g c = record {
  keeps = keeps-seat _ _ _ record {
    same_made = c.losses-workers.ensures.made;
    same_held = ap (λ (account : Account). account.held) c.losses-workers.ensures.own;
    still_refused = λ is. ap (λ (account : Account). account.refused) c.losses-workers.ensures.own ∙ is;
  };
}
