use Rattle.std.proofs.Common.{◌≡◌, ◌∙◌, ap, sym, arith}
use Rattle.hx_cmd_solve.specs.declared.answers.Answer.{Answer}
use Rattle.hx_cmd_solve.specs.declared.answers.Answer.TheVariants.{LeftOpen, ReadFault, TooLong}
use Rattle.hx_finish.specs.declared.wanting.Wanting.TheVariants.{OutOfMemory}
use Rattle.hx_cmd_solve.specs.Answers.{status_of}
use Rattle.hx_cmd_solve.proofs.solving.settle.Goals as goal

-- nothing is said of status 0 by an answer with another one
other_status : (answer is : Answer) (P : Type 0) → answer ≡ is → (status_of is ≡ 0 → ⊥) → status_of answer ≡ 0 → P
other_status answer is P same other zero = absurd (other (sym (ap status_of same) ∙ zero))

pub returns-in-Ok-clause-read_to_end : goal.returns-in-Ok-clause-read_to_end
returns-in-Ok-clause-read_to_end g c = λ zero. c.in-Ok.ensures.read_to_end

pub returns-in-Err-Failed-clause-read_to_end : goal.returns-in-Err-Failed-clause-read_to_end
returns-in-Err-Failed-clause-read_to_end g c =
    other_status _ ReadFault _ c.without_refusal.ensures.answer (λ e. omega (arith, e))

pub returns-in-Err-TooLong-clause-read_to_end : goal.returns-in-Err-TooLong-clause-read_to_end
returns-in-Err-TooLong-clause-read_to_end g c =
    other_status _ TooLong _ c.without_refusal-in-Err-TooLong.ensures.answer (λ e. omega (arith, e))

pub returns-in-Err-OutOfMemory-clause-read_to_end : goal.returns-in-Err-OutOfMemory-clause-read_to_end
returns-in-Err-OutOfMemory-clause-read_to_end g c =
    other_status _ (LeftOpen OutOfMemory) _ c.without_refusal-in-Err-OutOfMemory.ensures.answer (λ e. omega (arith, e))
