use Rattle.std.proofs.Common.{◌++◌}
use Rattle.std.specs.Prelude.{codes}
use Rattle.hx_io.proofs.SinkLaws.{WritesAll-then, WritesAll-cut}
use Rattle.hx_answers.specs.Texts.{counted_text}
use Rattle.hx_cmd_demo.specs.Answers.{positions, draws_text, wins_text}
use Rattle.hx_cmd_demo.proofs.answers.write_counts.Goals as goal

pub returns-in-Err : goal.returns-in-Err
returns-in-Err g c =
    let draws = draws_text c.args.seed in
    let wins = wins_text c.args.wins.now in
    WritesAll-cut {T = Unit {0}} _ _ _ (draws ++ wins) (counted_text (codes " checked ") positions)
    (WritesAll-cut _ _ _ draws wins c.in-Err.ensures)

pub returns-in-Err-write_wins : goal.returns-in-Err-write_wins
returns-in-Err-write_wins g c =
    let draws = draws_text c.args.seed in
    let wins = wins_text c.args.wins.now in
    WritesAll-cut _ _ _ (draws ++ wins) (counted_text (codes " checked ") positions)
    (WritesAll-then _ _ _ _ _ draws wins c.in-Ok.ensures c.in-Err-write_wins.ensures)

pub returns-in-Ok-write_wins : goal.returns-in-Ok-write_wins
returns-in-Ok-write_wins g c =
    let draws = draws_text c.args.seed in
    let wins = wins_text c.args.wins.now in
    WritesAll-then _ _ _ _ _ (draws ++ wins) (counted_text (codes " checked ") positions)
    (WritesAll-then _ _ _ _ _ draws wins c.in-Ok.ensures c.in-Ok-write_wins.ensures) c.write_counted.ensures
