use Rattle.std.proofs.Common.{rules, ◌≡◌, sym, ◌∙◌}
use Rattle.std.proofs.lemmas.Bool.{false≢true}
use Rattle.hx_board.specs.Graph.{HasChain}
use Rattle.hx_play.proofs.GameLaws.{first_due, first_same, first_plays}
use Rattle.hx_play.proofs.players.Player.first.Goals as goal

pub returns-clause-none : goal.returns-clause-none
returns-clause-none c =
    let turn : c.self.inside.stand.to_move ≡ c.self.inside.stand.winner = search rules in
    let here : ¬ HasChain c.args.self.now.position c.args.self.now.winner = λ h. false≢true (sym c.if-done.false ∙ c.done.ensures.1 h) in
    let going : ¬ HasChain c.self.inside.stand.position c.self.inside.stand.winner = rw (← c.self.view_is) at here in
    rw (← c.self.view_is) (first_due c.as_slice.result.now c.self.inside.stand c.move_at_node.new.stand turn going c.move_at_node.result
    c.move_at_node.ensures)

pub returns-clause-same : goal.returns-clause-same
returns-clause-same c =
    let turn : c.self.inside.stand.to_move ≡ c.self.inside.stand.winner = search rules in
    let here : ¬ HasChain c.args.self.now.position c.args.self.now.winner = λ h. false≢true (sym c.if-done.false ∙ c.done.ensures.1 h) in
    let going : ¬ HasChain c.self.inside.stand.position c.self.inside.stand.winner = rw (← c.self.view_is) at here in
    first_same c.as_slice.result.now c.self.inside.stand c.move_at_node.new.stand turn going _ c.move_at_node.result c.move_at_node.ensures

pub returns-clause-plays : goal.returns-clause-plays
returns-clause-plays c =
    let turn : c.self.inside.stand.to_move ≡ c.self.inside.stand.winner = search rules in
    let here : ¬ HasChain c.args.self.now.position c.args.self.now.winner = λ h. false≢true (sym c.if-done.false ∙ c.done.ensures.1 h) in
    let going : ¬ HasChain c.self.inside.stand.position c.self.inside.stand.winner = rw (← c.self.view_is) at here in
    rw (← c.self.view_is) (first_plays c.as_slice.result.now c.self.inside.stand c.move_at_node.new.stand turn going c.move_at_node.result
    c.move_at_node.ensures)
