-- A run of `template` keeps its promises: an answer that was written whole is the one that is due, of which an input
-- has one, and each status is that of few answers, whose causes it tells.
use Rattle.std.proofs.Common.{◌≡◌, ℕ, ◌<◌, ◌≤◌, inl, inr, List, length, refl, sym, ap, ◌∙◌, subst, arith}
use Rattle.std.specs.Prelude.{Option, None, Some, IfSome}
use Rattle.hx_io.specs.Sources.{Reading, SomeReadFailed}
use Rattle.hx_io.specs.Sinks.{Writing, SomeWriteFailed, append}
use Rattle.hx_template.specs.Limits.{most_cells}
use Rattle.hx_answers.specs.Endings.{IsWritten, Whole, Cut, IsReadToEnd, IsUnlessStopped, AnswersUnlessStopped}
use Rattle.hx_cmd_template.specs.declared.answers.Answer.{Answer}
use Rattle.hx_cmd_template.specs.declared.answers.Answer.TheVariants.{Yes, No, UnknownCarrier, BadTemplate}
use Rattle.hx_cmd_template.specs.declared.answers.Answer.TheVariants.{ReadFault, OutOfMemory, TooLong}
use Rattle.hx_cmd_template.specs.Answers.{answer_text, status_of, IsTemplateStatus}
use Rattle.hx_cmd_template.specs.Claims.{most_bytes, cells_of, Holds, IsDecided, IsDue}
use Rattle.hx_cmd_template.specs.Promises.{IsTextOfSome, IsNoTemplate, KeepsPromises}
use Rattle.hx_cmd_template.proofs.OneAnswer.{TextTellsTemplate, TextHasNoFault, HasOneFaultyLine, IsOrStopped, text_not_faulty}
use Rattle.hx_cmd_template.proofs.OneAnswer.{yes_alone, no_alone, many_alone, line_alone, long_alone}

-- ---- what a status says of what was left, whatever the answer

module _ (after : Option (List ℕ)) (rose : Type 0) where
  yes_of : (before : Option (List ℕ)) (answer : Answer) → status_of answer ≡ 0 → IsDue before after rose answer
      → IfSome before (IsTextOfSome Holds)
  yes_of None answer zero due = tt
  yes_of (Some input) Yes zero due = let is : IsDecided input Yes = due.found.1 in (is.template, is.text, is.decides.1)
  yes_of (Some input) No zero due = absurd (omega arith)
  yes_of (Some input) (UnknownCarrier cells) zero due = absurd (omega arith)
  yes_of (Some input) (BadTemplate line) zero due = absurd (omega arith)
  yes_of (Some input) ReadFault zero due = absurd (omega arith)
  yes_of (Some input) OutOfMemory zero due = absurd (omega arith)
  yes_of (Some input) TooLong zero due = absurd (omega arith)

  no_of : (before : Option (List ℕ)) (answer : Answer) → status_of answer ≡ 1 → IsDue before after rose answer
      → IfSome before (IsTextOfSome (λ template. ¬ Holds template))
  no_of None answer one due = tt
  no_of (Some input) Yes one due = absurd (omega arith)
  no_of (Some input) No one due = let is : IsDecided input No = due.found.1 in (is.template, is.text, is.decides.1)
  no_of (Some input) (UnknownCarrier cells) one due = absurd (omega arith)
  no_of (Some input) (BadTemplate line) one due = absurd (omega arith)
  no_of (Some input) ReadFault one due = absurd (omega arith)
  no_of (Some input) OutOfMemory one due = absurd (omega arith)
  no_of (Some input) TooLong one due = absurd (omega arith)

  unknown_of : (before : Option (List ℕ)) (answer : Answer) → status_of answer ≡ 3 → IsDue before after rose answer
      → IfSome before (IsTextOfSome (λ template. most_cells < cells_of template))
  unknown_of None answer three due = tt
  unknown_of (Some input) Yes three due = absurd (omega arith)
  unknown_of (Some input) No three due = absurd (omega arith)
  unknown_of (Some input) (UnknownCarrier cells) three due =
      let is : IsDecided input (UnknownCarrier cells) = due.found.1 in
      (is.template, is.text, subst (λ (n : ℕ). most_cells < n) is.decides.0 is.decides.1)
  unknown_of (Some input) (BadTemplate line) three due = absurd (omega arith)
  unknown_of (Some input) ReadFault three due = absurd (omega arith)
  unknown_of (Some input) OutOfMemory three due = absurd (omega arith)
  unknown_of (Some input) TooLong three due = absurd (omega arith)

  bad_template_of : TextHasNoFault → (before : Option (List ℕ)) (answer : Answer) → status_of answer ≡ 4
      → IsDue before after rose answer → IfSome before IsNoTemplate
  bad_template_of no_fault None answer four due = tt
  bad_template_of no_fault (Some input) Yes four due = absurd (omega arith)
  bad_template_of no_fault (Some input) No four due = absurd (omega arith)
  bad_template_of no_fault (Some input) (UnknownCarrier cells) four due = absurd (omega arith)
  bad_template_of no_fault (Some input) (BadTemplate line) four due =
      λ template text. text_not_faulty input no_fault template text line due.found.1
  bad_template_of no_fault (Some input) ReadFault four due = absurd (omega arith)
  bad_template_of no_fault (Some input) OutOfMemory four due = absurd (omega arith)
  bad_template_of no_fault (Some input) TooLong four due = absurd (omega arith)

  too_long_of : (before : Option (List ℕ)) (answer : Answer) → status_of answer ≡ 8 → IsDue before after rose answer
      → IfSome before (λ input. most_bytes < length input)
  too_long_of before Yes eight due = absurd (omega arith)
  too_long_of before No eight due = absurd (omega arith)
  too_long_of before (UnknownCarrier cells) eight due = absurd (omega arith)
  too_long_of before (BadTemplate line) eight due = absurd (omega arith)
  too_long_of before ReadFault eight due = absurd (omega arith)
  too_long_of before OutOfMemory eight due = absurd (omega arith)
  too_long_of before TooLong eight due = due

  read_to_end_of : (before : Option (List ℕ)) (answer : Answer) → status_of answer ≤ 1 → IsDue before after rose answer
      → IsReadToEnd before after
  read_to_end_of before Yes low due = due.read_to_end
  read_to_end_of before No low due = due.read_to_end
  read_to_end_of before (UnknownCarrier cells) low due = absurd (omega arith)
  read_to_end_of before (BadTemplate line) low due = absurd (omega arith)
  read_to_end_of before ReadFault low due = absurd (omega arith)
  read_to_end_of before OutOfMemory low due = absurd (omega arith)
  read_to_end_of before TooLong low due = absurd (omega arith)

  read_fault_of : (before : Option (List ℕ)) (answer : Answer) → status_of answer ≡ 5 → IsDue before after rose answer → rose
  read_fault_of before Yes five due = absurd (omega arith)
  read_fault_of before No five due = absurd (omega arith)
  read_fault_of before (UnknownCarrier cells) five due = absurd (omega arith)
  read_fault_of before (BadTemplate line) five due = absurd (omega arith)
  read_fault_of before ReadFault five due = due
  read_fault_of before OutOfMemory five due = absurd (omega arith)
  read_fault_of before TooLong five due = absurd (omega arith)

  no_template_of : (input : List ℕ) (answer : Answer) → length input ≤ most_bytes → IsNoTemplate input
      → IsDue (Some input) after rose answer → IsUnlessStopped (status_of answer) 4
  no_template_of input Yes short none due = let is : IsDecided input Yes = due.found.1 in absurd (none is.template is.text)
  no_template_of input No short none due = let is : IsDecided input No = due.found.1 in absurd (none is.template is.text)
  no_template_of input (UnknownCarrier cells) short none due =
      let is : IsDecided input (UnknownCarrier cells) = due.found.1 in absurd (none is.template is.text)
  no_template_of input (BadTemplate line) short none due = inl refl
  no_template_of input ReadFault short none due = inr (inl refl)
  no_template_of input OutOfMemory short none due = inr (inr (inr refl))
  no_template_of input TooLong short none due = absurd (omega (arith, due, short))

  -- a clause of an input that the source tells
  of_input : (before : Option (List ℕ)) (answer : Answer) (Says : List ℕ → Type 0) → IsDue before after rose answer
      → ((input : List ℕ) → IsDue (Some input) after rose answer → Says input) → IfSome before Says
  of_input None answer Says due says = tt
  of_input (Some input) answer Says due says = says input due

status_of_template : (answer : Answer) → IsTemplateStatus (status_of answer)
status_of_template Yes = inl refl
status_of_template No = inr (inl refl)
status_of_template (UnknownCarrier cells) = inr (inr (inl refl))
status_of_template (BadTemplate line) = inr (inr (inr (inl refl)))
status_of_template ReadFault = inr (inr (inr (inr (inl refl))))
status_of_template OutOfMemory = inr (inr (inr (inr (inr (inr (inl refl))))))
status_of_template TooLong = inr (inr (inr (inr (inr (inr (inr refl))))))

not_six : (answer : Answer) → status_of answer ≡ 6 → ⊥
not_six Yes six = omega arith
not_six No six = omega arith
not_six (UnknownCarrier cells) six = omega arith
not_six (BadTemplate line) six = omega arith
not_six ReadFault six = omega arith
not_six OutOfMemory six = omega arith
not_six TooLong six = omega arith

-- ---- the promises, by how the answer was written

module _ (source source_now : Reading) (sink sink_now : Writing) (status : ℕ) where
  abbrev IsDueHere : Option (List ℕ) → Answer → Type 0
  IsDueHere before answer = IsDue before source_now.left (SomeReadFailed source source_now) answer

  abbrev IsWrittenHere : Answer → Type 0
  IsWrittenHere answer = IsWritten sink sink_now (answer_text answer) (status_of answer) status

  answered_by : (answer other : Answer) → IsOrStopped answer other → IsWrittenHere other
      → AnswersUnlessStopped (answer_text answer) (status_of answer) sink.taken sink_now.taken status
  answered_by answer other (inl is) (Whole same wrote) =
      inl (same ∙ ap status_of is, wrote ∙ ap (λ (a : Answer). append sink.taken (answer_text a)) is)
  answered_by answer other (inr (inl is)) (Whole same wrote) = inr (inl (same ∙ ap status_of is))
  answered_by answer other (inr (inr is)) (Whole same wrote) = inr (inr (inr (same ∙ ap status_of is)))
  answered_by answer other alone (Cut six cause front) = inr (inr (inl six))

  unless_stopped : (answer : Answer) (wanted : ℕ) → IsUnlessStopped (status_of answer) wanted → IsWrittenHere answer
      → IsUnlessStopped status wanted
  unless_stopped answer wanted is (Whole same wrote) = subst (λ (s : ℕ). IsUnlessStopped s wanted) (sym same) is
  unless_stopped answer wanted is (Cut six cause front) = inr (inr (inl six))

  -- a status that tells no failed write is that of the answer
  is_status : (answer : Answer) (wanted : ℕ) → (wanted ≡ 6 → ⊥) → IsWrittenHere answer → status ≡ wanted → status_of answer ≡ wanted
  is_status answer wanted other (Whole same wrote) is = sym same ∙ is
  is_status answer wanted other (Cut six cause front) is = absurd (other (sym is ∙ six))

  is_low : (answer : Answer) → IsWrittenHere answer → status ≤ 1 → status_of answer ≤ 1
  is_low answer (Whole same wrote) low = omega (arith, same, low)
  is_low answer (Cut six cause front) low = absurd (omega (arith, six, low))

  write_failed : (answer : Answer) → IsWrittenHere answer → status ≡ 6 → SomeWriteFailed sink sink_now
  write_failed answer (Whole same wrote) is = absurd (not_six answer (sym same ∙ is))
  write_failed answer (Cut six cause front) is = cause

  is_of_template : (answer : Answer) → IsWrittenHere answer → IsTemplateStatus status
  is_of_template answer (Whole same wrote) = subst IsTemplateStatus (sym same) (status_of_template answer)
  is_of_template answer (Cut six cause front) = inr (inr (inr (inr (inr (inl six)))))

  module _ (tells : TextTellsTemplate) (no_fault : TextHasNoFault) (one_fault : HasOneFaultyLine) (answer : Answer)
      (due : IsDueHere source.left answer) (written : IsWrittenHere answer) where
    -- this answer is the one of each input that the source may tell and of which something is so
    answered : (input : List ℕ) (wanted : Answer) → ((other : Answer) → IsDueHere (Some input) other → IsOrStopped wanted other)
        → IsDueHere (Some input) answer
        → AnswersUnlessStopped (answer_text wanted) (status_of wanted) sink.taken sink_now.taken status
    answered input wanted alone is = answered_by wanted answer (alone answer is) written

    told : (Says : List ℕ → Type 0) → ((input : List ℕ) → IsDueHere (Some input) answer → Says input) → IfSome source.left Says
    told Says says = of_input source_now.left (SomeReadFailed source source_now) source.left answer Says due says

    pub kept : KeepsPromises source source_now sink sink_now status
    kept =
        let after : Option (List ℕ) = source_now.left in
        let rose : Type 0 = SomeReadFailed source source_now in
        record {
          holds = told _ (λ input is template short text few holds.
              answered input Yes (yes_alone input after rose tells no_fault template text short few holds) is);
          fails = told _ (λ input is template short text few fails.
              answered input No (no_alone input after rose tells no_fault template text short few fails) is);
          many = told _ (λ input is template short text many.
              answered input (UnknownCarrier (cells_of template))
              (many_alone input after rose tells no_fault template text short many) is);
          no_template = told _ (λ input is short none.
              unless_stopped answer 4 (no_template_of after rose input answer short none is) written);
          template_line = told _ (λ input is line short fault.
              answered input (BadTemplate line) (line_alone input after rose no_fault one_fault line short fault) is);
          long = told _ (λ input is long. answered input TooLong (long_alone input after rose long) is);
          yes = λ zero. yes_of after rose source.left answer (is_status answer 0 (λ e. omega (arith, e)) written zero) due;
          no = λ one. no_of after rose source.left answer (is_status answer 1 (λ e. omega (arith, e)) written one) due;
          unknown = λ three. unknown_of after rose source.left answer (is_status answer 3 (λ e. omega (arith, e)) written three) due;
          bad_template = λ four.
              bad_template_of after rose no_fault source.left answer (is_status answer 4 (λ e. omega (arith, e)) written four) due;
          too_long = λ eight. too_long_of after rose source.left answer (is_status answer 8 (λ e. omega (arith, e)) written eight) due;
          read_to_end = λ low. read_to_end_of after rose source.left answer (is_low answer written low) due;
          read_fault = λ five. read_fault_of after rose source.left answer (is_status answer 5 (λ e. omega (arith, e)) written five) due;
          write_fault = λ six. write_failed answer written six;
          none_else = is_of_template answer written;
        }
