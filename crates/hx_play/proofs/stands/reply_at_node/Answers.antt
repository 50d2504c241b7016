use Rattle.std.proofs.Common.{sym, refl, ap, ◌∙◌}
use Rattle.hx_board.specs.Colours.{other_of}
use Rattle.hx_play.proofs.ReplyLaws.{chain_here, keeps_last}
use Rattle.hx_play.proofs.StandLaws.{links_right}
use Rattle.hx_play.proofs.stands.reply_at_node.Goals as goal

pub returns-in-Chain : goal.returns-in-Chain
returns-in-Chain c =
    chain_here c.args.nodes.now c.args.node.now c.args.stand.now
    (other_of c.args.stand.now.winner) c.args.cell c.requires.is_in c.requires.is_at c.in-Chain.is

pub reply_in_links-requires-clause-keeps : goal.reply_in_links-requires-clause-keeps
reply_in_links-requires-clause-keeps c =
    rw c.items-steps.ensures
    (keeps_last c.args.node.now (record c.args.stand.now { links = c.enter_links.new.links; marks = c.enter_links.new.marks }) _
    c.in-Links.steps c.in-Links.is
    (links_right c.args.nodes.now c.args.stand.now c.args.node.now c.requires.is_in c.in-Links.steps c.in-Links.is)
    (c.requires.is_at.same_mover ∙ (c.requires.turn ∙ ap other_of (sym c.requires.is_in.same_winner)))
    (sym c.requires.is_at.same_position) (rw c.items-steps.ensures at c.enter_links.ensures.right) c.enter_links.ensures.none
    (c.enter_links.ensures.long ∙ c.requires.is_in.has_room.marks) c.requires.turn refl refl refl)
