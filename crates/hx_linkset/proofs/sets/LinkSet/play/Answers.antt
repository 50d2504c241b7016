use Rattle.std.proofs.Common.{◌≡◌, ◌∷◌, [], ap, ◌∙◌}
use Rattle.hx_board.specs.Positions.{put}
use Rattle.hx_linkset.specs.States.{Standing}
use Rattle.hx_linkset.proofs.KeptLaws.{live-played, live-before, untouched-live}
use Rattle.hx_linkset.proofs.sets.LinkSet.play.Goals as goal

pub play_to-requires : goal.play_to-requires
play_to-requires c = record {
  stones = (c.args.colour, c.args.cell) ∷ [];
  some = λ none. cc;
  can = (c.requires, tt);
  after_is = c.with-after.ensures ∙ ap (λ (s : Standing). put s.present.board c.args.colour c.args.cell) c.self.view_is;
}

pub returns-clause-live : goal.returns-clause-live
returns-clause-live c = λ link.
    let after_is : c.with-after.result ≡ put c.args.self.now.present.board c.args.colour c.args.cell =
    c.with-after.ensures ∙ ap (λ (s : Standing). put s.present.board c.args.colour c.args.cell) c.self.view_is in
    rw (c.play_to.ensures, after_is) (
      λ live. (live-before _ _ _ _ link live, untouched-live _ _ _ _ link live),
      λ was. live-played _ _ _ _ link was.0 was.1,
    )
