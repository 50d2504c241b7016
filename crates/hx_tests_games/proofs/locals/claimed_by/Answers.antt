use Rattle.std.proofs.Common.{◌≡◌, refl, [], ◌∷◌}
use Rattle.hx_board.specs.declared.colours.Colour.{Colour}
use Rattle.hx_board.specs.Positions.{Board}
use Rattle.hx_link.specs.declared.links.Link.{Link}
use Rattle.hx_link.specs.declared.steps.Step.{Step}
use Rattle.hx_link.specs.Steps.{StepGives}
use Rattle.hx_proof.specs.Links.{EndInLink}
use Rattle.hx_tests_games.proofs.locals.claimed_by.Goals as goal

three_end_in_link : (board : Board) (player : Colour) (first second third : Step) (one two last : Link)
    → StepGives board player [] first one → StepGives board player (one ∷ []) second two
    → StepGives board player (one ∷ two ∷ []) third last → EndInLink board player (first ∷ second ∷ third ∷ []) last
three_end_in_link board player first second third one two last f s t = record {
  links = one ∷ two ∷ last ∷ [];
  right = (one, f, (two, s, (last, t, refl)));
  is_last = refl;
}

pub link_local-requires : goal.link_local-requires
link_local-requires c =
    let last : Link = c.in-Some-result_of-2.last in (
      last,
      three_end_in_link _ _ _ _ _ c.in-Some.one c.in-Some-result_of.two last c.in-Some.ensures c.in-Some-result_of.ensures
          c.in-Some-result_of-2.ensures,
    )

pub returns-clause-holds : goal.returns-clause-holds
returns-clause-holds c =
    let last : Link = c.in-Some-result_of-2.last in
    c.link_local.ensures.holds last
    (three_end_in_link _ _ _ _ _ c.in-Some.one c.in-Some-result_of.two last c.in-Some.ensures c.in-Some-result_of.ensures
    c.in-Some-result_of-2.ensures)

pub returns-clause-empty : goal.returns-clause-empty
returns-clause-empty c =
    let last : Link = c.in-Some-result_of-2.last in
    c.link_local.ensures.empty last
    (three_end_in_link _ _ _ _ _ c.in-Some.one c.in-Some-result_of.two last c.in-Some.ensures c.in-Some-result_of.ensures
    c.in-Some-result_of-2.ensures)
