use Rattle.std.proofs.Common.{sym, ◌∙◌, ap, Some}
use Rattle.std.proofs.lemmas.Bool.{false≢true}
use Rattle.hx_parse.proofs.Steps.{between_wrong, count_of_end, winner_of_end}
use Rattle.hx_parse.proofs.advances.at_end.Goals as goal

pub returns-else-is_end : goal.returns-else-is_end
returns-else-is_end c =
    λ nodes lines stands begins. between_wrong c.args.so_far c.args.line.now nodes lines c.requires (λ n w small e same last.
    false≢true (c.if-is_end.ensures.1 (
      count_of_end _ _ _ _ _ c.in-Some.ensures.0 small c.in-Some.ensures.1 e ∙ same,
      last
          ∙ ap Some (sym (winner_of_end _ _ _ _ _ c.in-Some.ensures.0 small c.in-Some.ensures.1 e)),
    ))) stands begins

pub returns-in-None : goal.returns-in-None
returns-in-None c =
    λ nodes lines stands begins. between_wrong c.args.so_far c.args.line.now nodes lines c.requires
    (λ n w small e same last. c.in-None.ensures (record { count = n; winner = w }) small e) stands begins
