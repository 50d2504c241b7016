use Rattle.std.proofs.Common.{None}
use Rattle.hx_play.proofs.KeptLaws.{stone_more}
use Rattle.hx_play.proofs.stands.reply_in_links.Goals as goal

pub move_in_kept-moved-requires-clause-kept : goal.move_in_kept-moved-requires-clause-kept
move_in_kept-moved-requires-clause-kept c =
    rw (c.as_slice.ensures.value, c.as_mut_slice.ensures.value, c.play.ensures)
    (stone_more c.args.node.now.heading.position c.args.node.now.heading.winner c.args.stand.now.links.items c.args.stand.now.marks.items
    None c.args.stand.now.position
    c.other.result c.args.cell c.requires.keeps.kept)
