use Rattle.std.proofs.Common.{◌≡◌, refl, [], ◌∷◌}
use Rattle.hx_board.specs.declared.colours.Colour.{Colour}
use Rattle.hx_board.specs.Game.{Wins}
use Rattle.hx_board.specs.Positions.{Board}
use Rattle.hx_link.specs.declared.links.Kind.{Kind}
use Rattle.hx_link.specs.declared.links.Kind.TheVariants.{Full, Semi}
use Rattle.hx_link.specs.declared.links.Link.{Link}
use Rattle.hx_link.specs.declared.steps.Step.{Step}
use Rattle.hx_link.specs.Steps.{StepGives, IsChainLink}
use Rattle.hx_board.specs.Colours.{other_of}
use Rattle.hx_proof.specs.Local.{mover_for}
use Rattle.hx_proof.specs.Links.{EndInChainLink}
use Rattle.hx_tests_winners.proofs.soundness.shown_by.Goals as goal

three_end_in_chain_link : (board : Board) (player : Colour) (first second third : Step) (one two last : Link)
    → StepGives board player [] first one → StepGives board player (one ∷ []) second two
    → StepGives board player (one ∷ two ∷ []) third last → IsChainLink last
    → EndInChainLink board player last.kind (first ∷ second ∷ third ∷ [])
three_end_in_chain_link board player first second third one two last f s t joins = record {
  links = one ∷ two ∷ last ∷ [];
  right = (one, f, (two, s, (last, t, refl)));
  link = last;
  is_last = refl;
  joins = joins;
  same_kind = refl;
}

wins_for : (board : Board) (player : Colour) (kind : Kind) → Wins player board player → (kind ≡ Full → Wins player board (other_of player))
    → Wins player board (mover_for player kind)
wins_for board player Full moving without = without refl
wins_for board player Semi moving without = moving

pub link_sound-requires : goal.link_sound-requires
link_sound-requires c =
    let last : Link = c.in-Some-result_of-2.last in (
      last.kind,
      three_end_in_chain_link _ _ _ _ _ c.in-Some.one c.in-Some-result_of.two last c.in-Some.ensures c.in-Some-result_of.ensures
          c.in-Some-result_of-2.ensures (c.joins_sides-joins.ensures.0 c.if-not-joins.false),
    )

pub returns : goal.returns
returns c =
    let last : Link = c.in-Some-result_of-2.last in
    wins_for _ _ last.kind c.link_sound.ensures.with_the_move
    (λ full. c.link_sound.ensures.without_it
    (rw full at (three_end_in_chain_link _ _ _ _ _ c.in-Some.one c.in-Some-result_of.two last c.in-Some.ensures c.in-Some-result_of.ensures
    c.in-Some-result_of-2.ensures (c.joins_sides-joins.ensures.0 c.if-not-joins.false))))
