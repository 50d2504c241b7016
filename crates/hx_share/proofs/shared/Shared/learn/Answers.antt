use Rattle.std.proofs.Common.{sym, ap, subst, List}
use Rattle.hx_tree.specs.declared.nodes.Node.{Node}
use Rattle.hx_tree.specs.Entries.{Extends}
use Rattle.hx_share.specs.Fronts.{longer}
use Rattle.hx_share.specs.OneList.{first_part}
use Rattle.hx_share.specs.declared.views.Role.TheVariants.{Note}
use Rattle.hx_share.proofs.ReaderLaws.{alone-seen}
use Rattle.hx_share.proofs.FrontLaws.{longer-both}
use Rattle.hx_share.proofs.shared.Shared.learn.Goals as goal

pub returns-clause-seen : goal.returns-clause-seen
returns-clause-seen c =
    let own = (first_part c.seat.inside.seat.me.0).seen in let told = (first_part c.into_seat.result.me.0).seen in
    subst (λ (l : List Node). Extends c.args.seat.now.seen l)
    (sym (alone-seen c.args.self.now.made.slots (first_part c.seat.inside.seat.me.0).role
    (longer own told) c.absorb.new.seat.me c.absorb.ensures.own))
    (subst (λ (l : List Node). Extends l (longer own told)) (ap (λ r. r.seen) c.seat.view_is)
    (longer-both own told c.absorb.ensures.fronts).of_one)

pub returns-clause-told : goal.returns-clause-told
returns-clause-told c =
    let own = (first_part c.seat.inside.seat.me.0).seen in let told = (first_part c.into_seat.result.me.0).seen in
    subst (λ (l : List Node). Extends c.args.note.seen l)
    (sym (alone-seen c.args.self.now.made.slots (first_part c.seat.inside.seat.me.0).role
    (longer own told) c.absorb.new.seat.me c.absorb.ensures.own))
    (subst (λ (l : List Node). Extends l (longer own told))
    (alone-seen c.args.note.made.slots Note c.args.note.seen c.into_seat.result.me c.into_seat.ensures.part)
    (longer-both own told c.absorb.ensures.fronts).of_other)
