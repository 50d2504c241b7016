use Rattle.std.proofs.Common.{◌∙◌, ◌++◌, sym, ap, append_assoc, decimal, codes}
use Rattle.hx_htp.specs.Replies.{answer_text}
use Rattle.hx_htp.proofs.texts.put_answer.Goals as goal

pub returns-in-UnknownBudget-clause-text : goal.returns-in-UnknownBudget-clause-text
returns-in-UnknownBudget-clause-text c =
    c.put_long_number.ensures.text ∙ ap (λ xs. xs ++ decimal c.in-UnknownBudget.n) c.put-in-UnknownBudget.ensures
    ∙ append_assoc c.args.text.now (codes "unknown budget ") (decimal c.in-UnknownBudget.n)
    ∙ ap (λ a. c.args.text.now ++ answer_text a) (sym c.in-UnknownBudget.is)
