use Rattle.std.proofs.Common.{rules, ◌≡◌, subst}
use Rattle.hx_board.specs.Positions.{Board}
use Rattle.hx_turn.specs.Turned.{IsTurned}
use Rattle.hx_turn.proofs.TurnedBoards.{turned-one}
use Rattle.hx_turn.proofs.turns.is_turned.Goals as goal

pub returns : goal.returns
returns c =
    let is : IsTurned c.args.position.now c.turned-expected.result = c.turned-expected.ensures.turned in (
      (λ h.
          let same : c.turned-expected.result ≡ c.args.other.now = search rules in
          let P : Board → Type 0 = λ board. IsTurned c.args.position.now board in
          subst P same is),
      (λ turn.
          let same : c.turned-expected.result ≡ c.args.other.now =
          turned-one c.args.position.now c.turned-expected.result c.args.other.now is turn in
          search rules),
    )
