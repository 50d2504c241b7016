use Rattle.std.proofs.Common.{◌≡◌, Bool, true, false, sym, ◌∙◌, arith, ⊎_elim, ◌↔◌}
use Rattle.std.proofs.lemmas.Bool.{false≢true}
use Rattle.hx_board.specs.declared.colours.Colour.{Colour}
use Rattle.hx_board.specs.Colours.{other_of}
use Rattle.hx_board.proofs.ColourLaws.{one_or_other}
use Rattle.hx_template.proofs.Numbers.{number-own, number-others, power_small}
use Rattle.hx_template.proofs.EntryLaws.{number_small}
use Rattle.hx_template.proofs.searches.number_after.Goals as goal

other_mover : (mover player : Colour) (same : Bool) → (same ≡ true) ↔ (mover ≡ player) → same ≡ false → mover ≡ other_of player
other_mover mover player same is differ = ⊎_elim (λ e. absurd (false≢true (sym differ ∙ is.1 e))) (λ e. e) (one_or_other mover player)

pub overflow_add-result : goal.overflow_add-result
overflow_add-result c =
    let game = c.args.game.now in
    let small = number_small game c.args.position.now in
    let power = power_small game.carrier c.args.cell game.few (omega (arith, game.inside c.args.cell c.requires.free.inside)) in
    omega (arith, small, power, c.requires.number, c.weight-once.ensures)

pub overflow_mul-twice : goal.overflow_mul-twice
overflow_mul-twice c =
    let game = c.args.game.now in
    let power = power_small game.carrier c.args.cell game.few (omega (arith, game.inside c.args.cell c.requires.free.inside)) in
    omega (arith, power, c.weight-once.ensures)

pub overflow_add-result-else-is_player : goal.overflow_add-result-else-is_player
overflow_add-result-else-is_player c =
    let game = c.args.game.now in
    let small = number_small game c.args.position.now in
    let power = power_small game.carrier c.args.cell game.few (omega (arith, game.inside c.args.cell c.requires.free.inside)) in
    omega (arith, small, power, c.requires.number, c.weight-once.ensures)

pub returns-then-is_player : goal.returns-then-is_player
returns-then-is_player c =
    let game = c.args.game.now in
    let same : c.args.to_move ≡ game.player = c.is_player.ensures.0 c.if-is_player.true in
    rw (same, c.requires.number, c.weight-once.ensures)
    (sym (number-own game.player game.carrier c.args.position.now c.args.cell c.requires.free.empty c.requires.free.inside 121
    (game.inside c.args.cell c.requires.free.inside)))

pub returns-else-is_player : goal.returns-else-is_player
returns-else-is_player c =
    let game = c.args.game.now in
    let same = other_mover c.args.to_move game.player c.is_player.result c.is_player.ensures c.if-is_player.false in
    rw (same, c.requires.number, c.weight-once.ensures)
    (sym (number-others game.player game.carrier c.args.position.now c.args.cell c.requires.free.empty c.requires.free.inside 121
    (game.inside c.args.cell c.requires.free.inside)))
