use Rattle.std.proofs.Common.{sym, ◌∙◌}
use Rattle.std.proofs.lemmas.Bool.{false≢true}
use Rattle.hx_reach.proofs.DecidedLaws.{not_decided}
use Rattle.hx_reach.proofs.decisions.decided.Goals as goal

pub returns-then-not-with_move : goal.returns-then-not-with_move
returns-then-not-with_move c =
    not_decided c.args.set.now c.args.to_move (rw c.in_default.is at c.first_of.ensures)
    (λ same. absurd (false≢true (sym c.if-not-with_move.true ∙ c.is_to_move-with_move.ensures.1 same)))

pub returns-in-None : goal.returns-in-None
returns-in-None c = not_decided c.args.set.now c.args.to_move (rw c.in_default.is at c.first_of.ensures) (λ same. c.in-None.ensures)
