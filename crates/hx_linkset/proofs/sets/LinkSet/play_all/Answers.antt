use Rattle.std.proofs.Common.{◌≡◌, ap, ◌∙◌}
use Rattle.hx_linkset.specs.States.{Standing, put_all}
use Rattle.hx_linkset.proofs.StonesLaws.{live-before_all, alone-live, live-played_all}
use Rattle.hx_linkset.proofs.sets.LinkSet.play_all.Goals as goal

pub returns-clause-live : goal.returns-clause-live
returns-clause-live c = λ link.
    let after_is : c.with_all-after.result ≡ put_all c.args.self.now.present.board c.args.stones.now =
    c.with_all-after.ensures ∙ ap (λ (s : Standing). put_all s.present.board c.args.stones.now) c.self.view_is in
    rw (c.play_to.ensures, after_is) (
      λ live. (live-before_all _ link _ c.args.stones.now live, alone-live _ link _ c.args.stones.now live),
      λ was. live-played_all _ link _ c.args.stones.now was.0 was.1,
    )
