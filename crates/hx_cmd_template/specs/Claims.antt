-- When each answer of `template` comes.
use Rattle.std.specs.Prelude.{◌≡◌, ℕ, ◌<◌, ◌≤◌, List, length, Option, IfSome}
use Rattle.hx_io.specs.Sources.{Reading, SomeReadFailed}
use Rattle.hx_io.specs.Sinks.{Writing}
use Rattle.hx_board.specs.Sets.{count_below}
use Rattle.hx_proof.specs.Local.{Secures, mover_for}
use Rattle.hx_template.specs.Limits.{most_cells}
use Rattle.hx_text.specs.Grammars.{IsFaultyLine}
use Rattle.hx_template_text.specs.declared.templates.Template.{Template}
use Rattle.hx_template_text.specs.Templates.{IsTemplate, template_text, AreTemplateLines}
use Rattle.hx_answers.specs.Endings.{IsWritten, IsReadToEnd}
use Rattle.hx_cmd_template.specs.declared.answers.Answer.{Answer}
use Rattle.hx_cmd_template.specs.declared.answers.Answer.TheVariants.{Yes, No, UnknownCarrier, BadTemplate}
use Rattle.hx_cmd_template.specs.declared.answers.Answer.TheVariants.{ReadFault, OutOfMemory, TooLong}
use Rattle.hx_cmd_template.specs.Answers.{answer_text, status_of}

-- the most bytes of a template's text that are read
abbrev pub most_bytes : ℕ
most_bytes = 4096

-- how many cells the carrier of a template has
abbrev pub cells_of : Template → ℕ
cells_of template = count_below 128 template.carrier

-- The template holds: its owner has the local game between its ends on its carrier, where the opponent moves first if
-- it is Full, and the owner if it is Semi.
abbrev pub Holds : Template → Type 0
Holds template =
    Secures template.owner template.carrier template.a template.b template.position
    (mover_for template.owner template.kind)

-- what each answer says of a template
abbrev pub Decides : Template → Answer → Type 0
Decides template Yes = (cells_of template ≤ most_cells) × Holds template
Decides template No = (cells_of template ≤ most_cells) × (¬ Holds template)
Decides template (UnknownCarrier cells) = (cells ≡ cells_of template) × (most_cells < cells)
Decides template (BadTemplate line) = ⊥
Decides template ReadFault = ⊥
Decides template OutOfMemory = Unit {0}
Decides template TooLong = ⊥

-- the input is the text of this template
pub record IsTextOf (input : List ℕ) (template : Template) : Type 0 where
  pub is_template : IsTemplate template
  pub same : input ≡ template_text template

-- the input is the text of a template of which the answer says what is so
pub record IsDecided (input : List ℕ) (answer : Answer) : Type 0 where
  pub template : Template
  pub text : IsTextOf input template
  pub decides : Decides template answer

-- what each answer says of the input
abbrev pub IsFound : List ℕ → Answer → Type 0
IsFound input Yes = IsDecided input Yes
IsFound input No = IsDecided input No
IsFound input (UnknownCarrier cells) = IsDecided input (UnknownCarrier cells)
IsFound input (BadTemplate line) = IsFaultyLine AreTemplateLines input line
IsFound input ReadFault = ⊥
IsFound input OutOfMemory = Unit {0}
IsFound input TooLong = ⊥

-- the whole input, which has no more bytes than are read, was read to its end, and the answer says this of it
pub record IsAnswered (before after : Option (List ℕ)) (answer : Answer) : Type 0 where
  pub found : IfSome before (λ input. (length input ≤ most_bytes) × IsFound input answer)
  pub read_to_end : IsReadToEnd before after

-- when each answer comes: what the source had left before and has left, and whether its faults rose
abbrev pub IsDue : Option (List ℕ) → Option (List ℕ) → Type 0 → Answer → Type 0
IsDue before after rose Yes = IsAnswered before after Yes
IsDue before after rose No = IsAnswered before after No
IsDue before after rose (UnknownCarrier cells) = IsAnswered before after (UnknownCarrier cells)
IsDue before after rose (BadTemplate line) = IsAnswered before after (BadTemplate line)
IsDue before after rose ReadFault = rose
IsDue before after rose OutOfMemory = Unit {0}
IsDue before after rose TooLong = IfSome before (λ input. most_bytes < length input)

-- a run of `template`: some answer is due, and it was written
pub record IsTemplateRun (source source_now : Reading) (sink sink_now : Writing) (status : ℕ) : Type 0 where
  pub answer : Answer
  pub due : IsDue source.left source_now.left (SomeReadFailed source source_now) answer
  pub written : IsWritten sink sink_now (answer_text answer) (status_of answer) status
