use Rattle.std.proofs.Common.{◌++◌, ◌∙◌, ap, List, ℕ}
use Rattle.hx_play.specs.GameTexts.{chain_text, move_line}
use Rattle.hx_play.proofs.GameRuns.{plays_line}
use Rattle.hx_play.proofs.replies.answer_line.Goals as goal

pub returns-in-Some : goal.returns-in-Some
returns-in-Some c =
    let names = rw c.position.ensures at c.in-Some.ensures in
    let text = c.ending.ensures.text ∙ ap (λ (text : List ℕ). text ++ chain_text c.done.result)
    (c.put_move.ensures.text ∙ ap (λ (text : List ℕ). text ++ move_line c.answer.result) c.new-text.ensures) in
    rw c.ending.ensures.ended (plays_line c.args.player.now c.answer.new.self c.args.line.now c.ending.result.text c.done.result
    c.in-Some.cell c.answer.result names c.answer.ensures c.done.ensures text)
