-- What a run says with each status: each judgement fits its cause alone, since an input that one judgement is true of
-- is not an input that another is true of.
use Rattle.std.proofs.Common.{◌≡◌, ◌⊎◌, ℕ, ◌≤◌, inl, inr, List, refl, sym, ap, ◌∙◌, subst, arith}
use Rattle.std.proofs.lemmas.Option.{IfSome_then}
use Rattle.std.specs.Prelude.{Option, None, Some, IfSome}
use Rattle.hx_io.specs.Sources.{Reading, SomeReadFailed}
use Rattle.hx_io.specs.Sinks.{Writing, SomeWriteFailed, append}
use Rattle.hx_tree.specs.declared.nodes.Heading.{Heading}
use Rattle.hx_proof.proofs.TreeSoundness.{root_wins}
use Rattle.hx_answers.specs.Endings.{IsUnlessStopped, AnswersUnlessStopped, IsReadToEnd}
use Rattle.hx_cmd_check.specs.declared.judgements.Judgement.{Judgement}
use Rattle.hx_cmd_check.specs.declared.judgements.Judgement.TheVariants.{Yes, No}
use Rattle.hx_cmd_check.specs.declared.faults.Fault.{Fault}
use Rattle.hx_cmd_check.specs.declared.faults.Fault.TheVariants.{NoText, NoNode, ReadFault, OutOfMemory, TooLong}
use Rattle.hx_cmd_check.specs.Judging.{NodesAreRight, IsYes, IsNoText, IsNoNode, ReadsNoFault}
use Rattle.hx_cmd_check.specs.Judgements.{IsLong, IsDue, fault_text, judgement_text, no_text_line, no_node_line}
use Rattle.hx_cmd_check.specs.Judgements.{status_of, status_of_fault, yes_text}
use Rattle.hx_cmd_check.specs.Promises.{SaysYes, IsProof, IsNoProof, KeepsPromises}
use Rattle.hx_cmd_check.proofs.Demands.{right_asks}
use Rattle.hx_cmd_check.proofs.OneFault.{IsOrStopped, line_alone, node_alone, long_alone}
use Rattle.hx_cmd_check.proofs.BeginningTexts.{text_not_fault, valid_not_wrong, text_not_long}

says_yes : (input : List ℕ) (root : Heading) (taken_before taken_now : Option (List ℕ)) → IsYes input root
    → taken_now ≡ append taken_before (yes_text root) → SaysYes input taken_before taken_now
says_yes input root taken_before taken_now is output = record {
  nodes = is.nodes;
  root = is.root;
  text = is.text;
  valid = is.valid;
  last = is.last;
  output = output ∙ ap (λ (h : Heading). append taken_before (yes_text h)) is.same;
  wins = root_wins is.nodes is.root is.valid is.last;
}

-- ---- the fault of an input, where no other is due

status_alone : (fault other : Fault) → IsOrStopped fault other → IsUnlessStopped (status_of_fault other) (status_of_fault fault)
status_alone fault other (inl is) = inl (ap status_of_fault is)
status_alone fault other (inr (inl is)) = inr (inl (ap status_of_fault is))
status_alone fault other (inr (inr is)) = inr (inr (inr (ap status_of_fault is)))

answer_alone : (before now : Option (List ℕ)) (fault other : Fault) → now ≡ append before (fault_text other) → IsOrStopped fault other
    → AnswersUnlessStopped (fault_text fault) (status_of_fault fault) before now (status_of_fault other)
answer_alone before now fault other written (inl is) =
    inl (ap status_of_fault is, written ∙ ap (λ (f : Fault). append before (fault_text f)) is)
answer_alone before now fault other written (inr (inl is)) = inr (inl (ap status_of_fault is))
answer_alone before now fault other written (inr (inr is)) = inr (inr (inr (ap status_of_fault is)))

-- ---- what a judgement says of an input that the source tells

module _ (input : List ℕ) (after : Option (List ℕ)) (rose : Type 0) where
  yes_of : (judgement : Judgement) (taken_before taken_now : Option (List ℕ)) → status_of judgement ≡ 0
      → IsDue (Some input) after rose judgement
      → taken_now ≡ append taken_before (judgement_text judgement) → SaysYes input taken_before taken_now
  yes_of (Yes root) before now zero due written = says_yes input root before now due.0 written
  yes_of (No (NoText line)) before now zero due written = absurd (omega arith)
  yes_of (No (NoNode node)) before now zero due written = absurd (omega arith)
  yes_of (No ReadFault) before now zero due written = absurd (omega arith)
  yes_of (No OutOfMemory) before now zero due written = absurd (omega arith)
  yes_of (No TooLong) before now zero due written = absurd (omega arith)

  proof_of : (judgement : Judgement) → IsProof input → IsDue (Some input) after rose judgement → IsUnlessStopped (status_of judgement) 0
  proof_of (Yes root) proof due = inl refl
  proof_of (No (NoText line)) proof due = absurd (text_not_fault input proof.nodes line proof.text due)
  proof_of (No (NoNode node)) proof due = absurd (valid_not_wrong input proof.nodes node proof.text proof.valid due)
  proof_of (No ReadFault) proof due = inr (inl refl)
  proof_of (No OutOfMemory) proof due = inr (inr (inr refl))
  proof_of (No TooLong) proof due = absurd (text_not_long input proof.nodes proof.text proof.few due)

  long_of : (judgement : Judgement) → IsLong NodesAreRight input → IsDue (Some input) after rose judgement
      → IsUnlessStopped (status_of judgement) 8
  long_of (Yes root) long due = let yes : IsYes input root = due.0 in absurd (text_not_long input yes.nodes yes.text yes.few long)
  long_of (No fault) long due = status_alone TooLong fault (long_alone right_asks input rose after long fault due)

  module _ (before now : Option (List ℕ)) where
    line_of : (judgement : Judgement) (line : ℕ) → now ≡ append before (judgement_text judgement) → IsNoText NodesAreRight input line
        → IsDue (Some input) after rose judgement → AnswersUnlessStopped (no_text_line line) 1 before now (status_of judgement)
    line_of (Yes root) line written text due =
        let yes : IsYes input root = due.0 in absurd (text_not_fault input yes.nodes line yes.text text)
    line_of (No fault) line written text due =
        answer_alone before now (NoText line) fault written (line_alone right_asks input rose after line text fault due)

    node_of : (judgement : Judgement) (k : ℕ) → now ≡ append before (judgement_text judgement) → IsNoNode NodesAreRight input k
        → IsDue (Some input) after rose judgement → AnswersUnlessStopped (no_node_line k) 1 before now (status_of judgement)
    node_of (Yes root) k written node due =
        let yes : IsYes input root = due.0 in absurd (valid_not_wrong input yes.nodes k yes.text yes.valid node)
    node_of (No fault) k written node due =
        answer_alone before now (NoNode k) fault written (node_alone right_asks input rose after k node fault due)

-- ---- what a status says of what was left, whatever the judgement

module _ (after : Option (List ℕ)) (rose : Type 0) where
  wrong_of : (before : Option (List ℕ)) (judgement : Judgement) → status_of judgement ≡ 1 → IsDue before after rose judgement
      → IfSome before IsNoProof
  wrong_of None judgement one due = tt
  wrong_of (Some input) (Yes root) one due = absurd (omega arith)
  wrong_of (Some input) (No (NoText line)) one due = λ nodes text valid. text_not_fault input nodes line text due
  wrong_of (Some input) (No (NoNode node)) one due = λ nodes text valid. valid_not_wrong input nodes node text valid due
  wrong_of (Some input) (No ReadFault) one due = absurd (omega arith)
  wrong_of (Some input) (No OutOfMemory) one due = absurd (omega arith)
  wrong_of (Some input) (No TooLong) one due = absurd (omega arith)

  too_long_of : (before : Option (List ℕ)) (judgement : Judgement) → status_of judgement ≡ 8 → IsDue before after rose judgement
      → IfSome before (IsLong NodesAreRight)
  too_long_of before (Yes root) eight due = absurd (omega arith)
  too_long_of before (No (NoText line)) eight due = absurd (omega arith)
  too_long_of before (No (NoNode node)) eight due = absurd (omega arith)
  too_long_of before (No ReadFault) eight due = absurd (omega arith)
  too_long_of before (No OutOfMemory) eight due = absurd (omega arith)
  too_long_of before (No TooLong) eight due = due

  read_to_end_of : (before : Option (List ℕ)) (judgement : Judgement) → status_of judgement ≡ 0 → IsDue before after rose judgement
      → IsReadToEnd before after
  read_to_end_of before (Yes root) zero due = IfSome_then before due (λ input is. is.1)
  read_to_end_of before (No (NoText line)) zero due = absurd (omega arith)
  read_to_end_of before (No (NoNode node)) zero due = absurd (omega arith)
  read_to_end_of before (No ReadFault) zero due = absurd (omega arith)
  read_to_end_of before (No OutOfMemory) zero due = absurd (omega arith)
  read_to_end_of before (No TooLong) zero due = absurd (omega arith)

  read_fault_of : (before : Option (List ℕ)) (judgement : Judgement) → status_of judgement ≡ 5 → IsDue before after rose judgement
      → rose × ReadsNoFault NodesAreRight before after
  read_fault_of before (Yes root) five due = absurd (omega arith)
  read_fault_of before (No (NoText line)) five due = absurd (omega arith)
  read_fault_of before (No (NoNode node)) five due = absurd (omega arith)
  read_fault_of before (No ReadFault) five due = due
  read_fault_of before (No OutOfMemory) five due = absurd (omega arith)
  read_fault_of before (No TooLong) five due = absurd (omega arith)

status_of_check : (judgement : Judgement) → (status_of judgement ≤ 1) ⊎ ((5 ≤ status_of judgement) × (status_of judgement ≤ 8))
status_of_check (Yes root) = inl (omega arith)
status_of_check (No (NoText line)) = inl (omega arith)
status_of_check (No (NoNode node)) = inl (omega arith)
status_of_check (No ReadFault) = inr (omega arith, omega arith)
status_of_check (No OutOfMemory) = inr (omega arith, omega arith)
status_of_check (No TooLong) = inr (omega arith, omega arith)

-- each clause of an input that the source tells
of_input : (before after : Option (List ℕ)) (rose : Type 0) (judgement : Judgement) (Says : List ℕ → Type 0)
    → IsDue before after rose judgement
    → ((input : List ℕ) → IsDue (Some input) after rose judgement → Says input) → IfSome before Says
of_input None after rose judgement Says due says = tt
of_input (Some input) after rose judgement Says due says = says input due

-- each clause of an input that holds whatever the judgement
pub of_any : (left : Option (List ℕ)) (Says : List ℕ → Type 0) → ((input : List ℕ) → Says input) → IfSome left Says
of_any None Says says = tt
of_any (Some input) Says says = says input

status_not_6 : (judgement : Judgement) → status_of judgement ≡ 6 → ⊥
status_not_6 (Yes root) six = omega arith
status_not_6 (No (NoText line)) six = omega arith
status_not_6 (No (NoNode node)) six = omega arith
status_not_6 (No ReadFault) six = omega arith
status_not_6 (No OutOfMemory) six = omega arith
status_not_6 (No TooLong) six = omega arith

-- ---- the promises, by how a judgement was written

module _ (source source_now : Reading) (sink sink_now : Writing) where
  abbrev FailedHere : Type 0
  FailedHere = SomeReadFailed source source_now

  abbrev IsDueHere : Judgement → Type 0
  IsDueHere judgement = IsDue source.left source_now.left FailedHere judgement

  -- each clause of an input that the source tells
  told : (judgement : Judgement) (Says : List ℕ → Type 0) → IsDueHere judgement
      → ((input : List ℕ) → IsDue (Some input) source_now.left FailedHere judgement → Says input)
      → IfSome source.left Says
  told judgement Says due says =
      of_input source.left source_now.left FailedHere judgement Says due says

  -- the judgement was written whole
  kept_of : (judgement : Judgement) → IsDueHere judgement → sink_now.taken ≡ append sink.taken (judgement_text judgement)
      → KeepsPromises source source_now sink sink_now (status_of judgement)
  kept_of judgement due written = record {
    answers = told judgement _ due (λ input is. record {
      yes = λ zero. yes_of input source_now.left FailedHere judgement sink.taken sink_now.taken zero is written;
      proof = λ proof. proof_of input source_now.left FailedHere judgement proof is;
      wrong = λ one. wrong_of source_now.left FailedHere (Some input) judgement one is;
      no_text = λ line text.
          line_of input source_now.left FailedHere sink.taken sink_now.taken judgement line written text is;
      no_node = λ node wrong.
          node_of input source_now.left FailedHere sink.taken sink_now.taken judgement node written wrong is;
      long = λ long. long_of input source_now.left FailedHere judgement long is;
      too_long = λ eight. too_long_of source_now.left FailedHere (Some input) judgement eight is;
    });
    read_to_end = λ zero. read_to_end_of source_now.left FailedHere source.left judgement zero due;
    read_fault = λ five. read_fault_of source_now.left FailedHere source.left judgement five due;
    write_fault = λ six. absurd (status_not_6 judgement six);
    none_else = status_of_check judgement;
  }

  pub kept_whole : (judgement : Judgement) (status : ℕ) → status ≡ status_of judgement → IsDueHere judgement
      → sink_now.taken ≡ append sink.taken (judgement_text judgement) → KeepsPromises source source_now sink sink_now status
  kept_whole judgement status same due written =
      subst (KeepsPromises source source_now sink sink_now) (sym same) (kept_of judgement due written)

  -- the sink failed before it took all of a judgement
  pub kept_cut : SomeWriteFailed sink sink_now → KeepsPromises source source_now sink sink_now 6
  kept_cut failed = record {
    answers = of_any source.left _ (λ input. record {
      yes = λ zero. absurd (omega (arith, zero));
      proof = λ proof. inr (inr (inl refl));
      wrong = λ one. absurd (omega (arith, one));
      no_text = λ line text. inr (inr (inl refl));
      no_node = λ node wrong. inr (inr (inl refl));
      long = λ long. inr (inr (inl refl));
      too_long = λ eight. absurd (omega (arith, eight));
    });
    read_to_end = λ zero. absurd (omega (arith, zero));
    read_fault = λ five. absurd (omega (arith, five));
    write_fault = λ is. failed;
    none_else = inr (omega arith, omega arith);
  }
