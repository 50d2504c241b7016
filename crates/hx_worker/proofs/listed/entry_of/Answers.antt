use Rattle.hx_tree.proofs.EntryLaws.{entry-later}
use Rattle.hx_worker.proofs.listed.entry_of.Goals as goal

pub unreachable-requires : goal.unreachable-requires
unreachable-requires g c =
    c.in-None.ensures.found c.requires.0 (entry-later _ _ _ _ c.requires.0 c.in-None.ensures.grew.seen c.requires.1)
