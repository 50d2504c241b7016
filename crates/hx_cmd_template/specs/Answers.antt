-- What is written for each answer of `template`, and its exit status.
use Rattle.std.specs.Prelude.{◌≡◌, ◌⊎◌, ℕ, List, codes}
use Rattle.hx_answers.specs.Texts.{counted_text, read_fault_line, out_of_memory_line, too_long_line}
use Rattle.hx_cmd_template.specs.declared.answers.Answer.{Answer}
use Rattle.hx_cmd_template.specs.declared.answers.Answer.TheVariants.{Yes, No, UnknownCarrier, BadTemplate}
use Rattle.hx_cmd_template.specs.declared.answers.Answer.TheVariants.{ReadFault, OutOfMemory, TooLong}

abbrev pub yes_line : List ℕ
yes_line = codes "yes\n"

abbrev pub no_line : List ℕ
no_line = codes "no\n"

-- the line that tells how many cells a carrier has that has too many
abbrev pub unknown_carrier_line : ℕ → List ℕ
unknown_carrier_line cells = counted_text (codes "unknown carrier ") cells

-- the line that names a wrong line of a template
abbrev pub bad_template_line : ℕ → List ℕ
bad_template_line line = counted_text (codes "bad template ") line

-- what is written for each answer
abbrev pub answer_text : Answer → List ℕ
answer_text Yes = yes_line
answer_text No = no_line
answer_text (UnknownCarrier cells) = unknown_carrier_line cells
answer_text (BadTemplate line) = bad_template_line line
answer_text ReadFault = read_fault_line
answer_text OutOfMemory = out_of_memory_line
answer_text TooLong = too_long_line

-- the exit status that tells each answer, where it was written whole
abbrev pub status_of : Answer → ℕ
status_of Yes = 0
status_of No = 1
status_of (UnknownCarrier cells) = 3
status_of (BadTemplate line) = 4
status_of ReadFault = 5
status_of OutOfMemory = 7
status_of TooLong = 8

-- the exit statuses of `template`
abbrev pub IsTemplateStatus : ℕ → Type 0
IsTemplateStatus status =
    (status ≡ 0) ⊎ ((status ≡ 1) ⊎ ((status ≡ 3) ⊎ ((status ≡ 4) ⊎ ((status ≡ 5) ⊎ ((status ≡ 6)
    ⊎ ((status ≡ 7) ⊎ (status ≡ 8)))))))
