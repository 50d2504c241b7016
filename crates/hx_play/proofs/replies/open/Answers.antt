use Rattle.std.proofs.Common.{◌≡◌, ◌++◌, ◌∙◌, ap, List, ℕ}
use Rattle.std.specs.Prelude.{MatchOption}
use Rattle.hx_play.specs.GameTexts.{play_line, move_line}
use Rattle.hx_play.proofs.GameRuns.{opens, with_move, without_move}
use Rattle.hx_play.proofs.replies.open.Goals as goal
use Rattle.hx_play.proofs.replies.open.Goals.{in-Some, in_default}

pub returns : goal.returns
returns c =
    let line : List ℕ = play_line c.args.player.now.winner in
    let named : c.put_player.new.text ≡ line =
    c.put_player.ensures.text ∙ ap (λ (text : List ℕ). text ++ play_line c.winner.result) c.new-text.ensures
    ∙ ap play_line c.winner.ensures.named in
    let fronts : MatchOption c.first.result (c.match-first.text ≡ line) (λ cell. c.match-first.text ≡ line ++ move_line cell) =
    elim c.match-first.branch [
      | in-Some w ↦ with_move c.first.result w.in-Some.cell c.match-first.text line w.in-Some.is
          (w.text-is ∙ w.put_move.ensures.text ∙ ap (λ (text : List ℕ). text ++ move_line w.in-Some.cell) named)
      | in_default w ↦ without_move c.first.result c.match-first.text line w.in_default.is (w.text-is ∙ named)
    ] in
    rw c.ending.ensures.ended (opens c.args.player.now c.first.new.self c.first.result c.match-first.text c.ending.result.text
    c.done.result c.first.ensures.none c.first.ensures.same c.first.ensures.plays c.done.ensures fronts c.ending.ensures.text)
