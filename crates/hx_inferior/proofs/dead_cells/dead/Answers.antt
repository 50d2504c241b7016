use Rattle.std.proofs.Common.{sym, ◌∙◌}
use Rattle.hx_inferior.proofs.DeadLaws.{all_joined-dead, dead-all_joined}
use Rattle.hx_inferior.proofs.dead_cells.dead.Goals as goal

pub all_joined-requires : goal.all_joined-requires
all_joined-requires c = c.open_around-around.ensures.vertices

pub returns : goal.returns
returns c =
    let empty = (c.empties.ensures c.args.cell).0 (sym c.has-is_empty.ensures ∙ c.if-not-is_empty.false) in (
      (λ all. all_joined-dead _ _ _ _ c.open_around-around.ensures empty (c.all_joined.ensures.0 all)),
      (λ dead. c.all_joined.ensures.1 (dead-all_joined _ _ _ _ c.open_around-around.ensures dead)),
    )
