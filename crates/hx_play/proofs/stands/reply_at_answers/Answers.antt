use Rattle.std.proofs.Common.{refl}
use Rattle.hx_play.proofs.AnswerLaws.{child_stands, some_whole, starts_by_threat}
use Rattle.hx_play.proofs.stands.reply_at_answers.Goals as goal

pub move_at_node-requires-clause-stands : goal.move_at_node-requires-clause-stands
move_at_node-requires-clause-stands c =
    child_stands c.args.nodes.now c.args.node.now c.args.stand.now c.args.threats.now c.args.lines.now c.requires.stands _ c.args.cell
    c.in-Some.child c.in-Some.ensures
    refl refl refl c.requires.stands.stage refl refl (rw c.other.ensures at c.play.ensures)

pub unreachable-requires : goal.unreachable-requires
unreachable-requires c =
    some_whole c.args.nodes.now c.args.node.now c.args.stand.now c.args.threats.now c.args.lines.now c.requires.stands
    c.enter_links.new.links.items
    (rw c.steps_in-steps.ensures at c.enter_links.ensures.right) c.args.cell c.requires.empty c.in_default.ensures
    (rw c.as_slice.ensures.value at c.in_default-threat_without.ensures)

pub start_by_link-requires-clause-starts : goal.start_by_link-requires-clause-starts
start_by_link-requires-clause-starts c =
    starts_by_threat c.args.nodes.now c.args.node.now c.args.stand.now c.args.threats.now c.args.lines.now c.requires.stands
    c.enter_links.new.links.items
    (rw c.steps_in-steps.ensures at c.enter_links.ensures.right) _ c.args.cell c.in-Some-threat_without.place
    (rw c.as_slice.ensures.value at c.in-Some-threat_without.ensures)
    (rw c.other.ensures at c.play.ensures) refl c.enter_links.ensures.none

pub returns : goal.returns
returns c = rw (c.play.ensures, c.other.ensures) at c.start_by_link.ensures
