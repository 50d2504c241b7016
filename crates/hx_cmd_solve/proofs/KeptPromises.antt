-- What a run of `solve` says with each status: each answer fits its cause alone, since an input that one answer is true
-- of is not an input that another is true of.
use Rattle.std.proofs.Common.{◌≡◌, ◌↔◌, ◌⊎◌, ℕ, ◌<◌, ◌≤◌, Bool, inl, inr, ⊎_elim, List, length, refl, sym, ap, ◌∙◌, subst, arith}
use Rattle.std.specs.Prelude.{Option, None, Some, IfSome, codes}
use Rattle.hx_io.specs.Sources.{Reading, SomeReadFailed}
use Rattle.hx_io.specs.Sinks.{Writing, SomeWriteFailed, append}
use Rattle.hx_board.specs.declared.colours.Colour.{Colour}
use Rattle.hx_board.specs.Positions.{Board}
use Rattle.hx_board.specs.Graph.{HasNoChain}
use Rattle.hx_board.specs.Counts.{IsSmall}
use Rattle.hx_lines.specs.Lines.{longest}
use Rattle.hx_proof.proofs.TreeSoundness.{root_wins}
use Rattle.hx_text.specs.declared.versions.Version.TheVariants.{Two}
use Rattle.hx_text.specs.declared.versions.Preamble.{Preamble}
use Rattle.hx_text.specs.Versions.{HasTurned}
use Rattle.hx_text.specs.Grammars.{IsFaultyLine}
use Rattle.hx_text.specs.PositionTexts.{ArePositionLines}
use Rattle.hx_text.proofs.WholeTrees.{written_with}
use Rattle.hx_text.proofs.OneFault.{one_position_fault}
use Rattle.hx_limits.specs.declared.settings.Settings.{Settings}
use Rattle.hx_limits.specs.Tallies.{Tallied}
use Rattle.hx_answers.specs.Texts.{counted_text, unknown_budget_line, unknown_proofs_line}
use Rattle.hx_answers.specs.Endings.{IsWritten, Whole, Cut, IsUnlessStopped, AnswersUnlessStopped, IsReadToEnd}
use Rattle.hx_finish.proofs.ToldInputs.{of_any}
use Rattle.hx_cmd_solve.specs.declared.answers.Answer.{Answer}
use Rattle.hx_cmd_solve.specs.declared.answers.Answer.TheVariants.{Solved, LeftOpen, BadPosition, ReadFault, TooLong}
use Rattle.hx_finish.specs.declared.finishes.Finish.{Finish}
use Rattle.hx_finish.specs.declared.wanting.Wanting.TheVariants.{UnknownBudget, UnknownProofs, OutOfMemory}
use Rattle.hx_finish.proofs.WantingEnds.{wanting_status-3_or_7, wanting_status-not}
use Rattle.hx_cmd_solve.specs.declared.solutions.Solution.{Solution}
use Rattle.hx_cmd_solve.specs.Positions.{IsPositionText, IsTextWhere, IsNoPosition}
use Rattle.hx_cmd_solve.specs.Answers.{IsSolved, IsDue, preamble_of, answer_text, solution_text, status_of}
use Rattle.hx_cmd_solve.specs.Answers.{tally_of}
use Rattle.hx_finish.specs.Finishes.{SaysUnknown}
use Rattle.hx_cmd_solve.specs.Promises.{SaysSolved, KeepsPromises}
use Rattle.hx_cmd_solve.proofs.Positions.{small_not_open, not_bad, position_text_short}

says_solved : (plain_tree : Bool) (input : List ℕ) (solution : Solution) (taken_before taken_now : Option (List ℕ))
    → IsSolved plain_tree input solution → taken_now ≡ append taken_before (solution_text solution)
    → SaysSolved plain_tree input taken_before taken_now
says_solved plain_tree input solution taken_before taken_now is output =
    let text = written_with (preamble_of solution) solution.nodes.items solution.winner (rw is.size is.text.is_board.0) is.fits
    (record { root = is.tree.root; last = is.tree.last; same = sym is.winner }) (omega (arith, is.tree.few)) in
    let HasVersion : Preamble → Type 0 = λ preamble. (preamble.version ≡ Two) ↔ HasTurned solution.nodes.items in
    let OfBoard : Board → Type 0 = λ board. IsPositionText input board is.tree.root.heading.to_move in
    let OfMover : Colour → Type 0 = λ mover. IsPositionText input is.board mover in
    record {
      nodes = solution.nodes.items;
      root = is.tree.root;
      valid = is.tree.valid;
      few = omega (arith, is.tree.few);
      last = is.tree.last;
      text = subst OfBoard (sym is.tree.position) (subst OfMover (sym is.tree.to_move) is.text);
      wins = root_wins solution.nodes.items is.tree.root is.tree.valid is.tree.last;
      tree = solution_text solution;
      is_text = text.0;
      version = subst HasVersion (sym text.1) is.version;
      plain = is.plain;
      output = output;
    }

-- ---- what an answer says of an input that the source tells

module _ (settings : Settings) (plain_tree : Bool) (input : List ℕ) (rose : Type 0) where
  solved_of : (answer : Answer) (before now : Option (List ℕ)) → status_of answer ≡ 0 → IsDue settings plain_tree (Some input) rose answer
      → now ≡ append before (answer_text answer) → SaysSolved plain_tree input before now
  solved_of (Solved solution) before now zero due written = says_solved plain_tree input solution before now due.1 written
  solved_of (LeftOpen wanting) before now zero due written = absurd (wanting_status-not wanting 0 (λ e. omega (arith, e)) (λ e. omega (arith, e)) zero)
  solved_of (BadPosition line) before now zero due written = absurd (omega arith)
  solved_of ReadFault before now zero due written = absurd (omega arith)
  solved_of TooLong before now zero due written = absurd (omega arith)

  small_of : (answer : Answer) → IsTextWhere (λ board. IsSmall board settings.budget) input
      → IsDue settings plain_tree (Some input) rose answer → IsUnlessStopped (status_of answer) 0
  small_of (Solved solution) small due = inl refl
  small_of (LeftOpen (UnknownBudget budget)) small due = absurd (small_not_open settings.budget input small due.1.1.not_small)
  small_of (LeftOpen (UnknownProofs slots)) small due = absurd (small_not_open settings.budget input small due.1.1)
  small_of (LeftOpen OutOfMemory) small due = inr (inr (inr refl))
  small_of (BadPosition line) small due = absurd (not_bad input small.board small.mover line small.text due.1)
  small_of ReadFault small due = inr (inl refl)
  small_of TooLong small due = absurd (omega (arith, due, position_text_short small.text))

  position_line_of : (answer : Answer) (line : ℕ) (before now : Option (List ℕ)) → now ≡ append before (answer_text answer)
      → length input ≤ longest → IsFaultyLine ArePositionLines input line
      → IsDue settings plain_tree (Some input) rose answer
      → AnswersUnlessStopped (counted_text (codes "bad position ") line) 4 before now (status_of answer)
  position_line_of (Solved solution) line before now written short bad due =
      let is : IsSolved plain_tree input solution = due.1 in absurd (not_bad input is.board is.mover line is.text bad)
  position_line_of (LeftOpen (UnknownBudget budget)) line before now written short bad due =
      let is = due.1.1.not_small in absurd (not_bad input is.board is.mover line is.text bad)
  position_line_of (LeftOpen (UnknownProofs slots)) line before now written short bad due =
      let is = due.1.1 in absurd (not_bad input is.board is.mover line is.text bad)
  position_line_of (LeftOpen OutOfMemory) line before now written short bad due = inr (inr (inr refl))
  position_line_of (BadPosition other) line before now written short bad due =
      let at : ℕ → Option (List ℕ) = λ n. append before (counted_text (codes "bad position ") n) in
      inl (refl, written ∙ ap at (one_position_fault input other line due.1 bad))
  position_line_of ReadFault line before now written short bad due = inr (inl refl)
  position_line_of TooLong line before now written short bad due = absurd (omega arith)

  long_of : (answer : Answer) → longest < length input → IsDue settings plain_tree (Some input) rose answer
      → IsUnlessStopped (status_of answer) 8
  long_of (Solved solution) long due = absurd (omega (arith, long, due.0))
  long_of (LeftOpen (UnknownBudget budget)) long due = absurd (omega (arith, long, due.1.0))
  long_of (LeftOpen (UnknownProofs slots)) long due = absurd (omega (arith, long, due.1.0))
  long_of (LeftOpen OutOfMemory) long due = inr (inr (inr refl))
  long_of (BadPosition line) long due = absurd (omega (arith, long, due.0))
  long_of ReadFault long due = inr (inl refl)
  long_of TooLong long due = inl refl

  unknown_of : (answer : Answer) → status_of answer ≡ 3 → IsDue settings plain_tree (Some input) rose answer
      → IsTextWhere (λ board. ¬ IsSmall board settings.budget) input
  unknown_of (Solved solution) three due = absurd (omega arith)
  unknown_of (LeftOpen (UnknownBudget budget)) three due = due.1.1.not_small
  unknown_of (LeftOpen (UnknownProofs slots)) three due = due.1.1
  unknown_of (LeftOpen OutOfMemory) three due = absurd (omega arith)
  unknown_of (BadPosition line) three due = absurd (omega arith)
  unknown_of ReadFault three due = absurd (omega arith)
  unknown_of TooLong three due = absurd (omega arith)

  no_chain_of : (answer : Answer) (tally : Tallied) → status_of answer ≡ 3 → tally ≡ tally_of settings answer → tally.budgets ≡ 1
      → 0 < settings.budget → IsDue settings plain_tree (Some input) rose answer → IsTextWhere HasNoChain input
  no_chain_of (Solved solution) tally three counted one some due = absurd (omega arith)
  no_chain_of (LeftOpen (UnknownBudget budget)) tally three counted one some due = due.1.1.no_chain some
  no_chain_of (LeftOpen (UnknownProofs slots)) tally three counted one some due =
      absurd (omega (arith, one, ap (λ (t : Tallied). t.budgets) counted))
  no_chain_of (LeftOpen OutOfMemory) tally three counted one some due = absurd (omega arith)
  no_chain_of (BadPosition line) tally three counted one some due = absurd (omega arith)
  no_chain_of ReadFault tally three counted one some due = absurd (omega arith)
  no_chain_of TooLong tally three counted one some due = absurd (omega arith)

  bad_of : (answer : Answer) → status_of answer ≡ 4 → IsDue settings plain_tree (Some input) rose answer → IsNoPosition input
  bad_of (Solved solution) four due = absurd (omega arith)
  bad_of (LeftOpen wanting) four due = absurd (wanting_status-not wanting 4 (λ e. omega (arith, e)) (λ e. omega (arith, e)) four)
  bad_of (BadPosition line) four due = λ board mover text. not_bad input board mover line text due.1
  bad_of ReadFault four due = absurd (omega arith)
  bad_of TooLong four due = absurd (omega arith)

  too_long_of : (answer : Answer) → status_of answer ≡ 8 → IsDue settings plain_tree (Some input) rose answer → longest < length input
  too_long_of (Solved solution) eight due = absurd (omega arith)
  too_long_of (LeftOpen wanting) eight due = absurd (wanting_status-not wanting 8 (λ e. omega (arith, e)) (λ e. omega (arith, e)) eight)
  too_long_of (BadPosition line) eight due = absurd (omega arith)
  too_long_of ReadFault eight due = absurd (omega arith)
  too_long_of TooLong eight due = due

-- ---- what a status says, whatever the input

module _ (settings : Settings) (plain_tree : Bool) (rose : Type 0) where
  refusal_of : (left : Option (List ℕ)) (answer : Answer) (tally : Tallied) (before now : Option (List ℕ)) → status_of answer ≡ 3
      → IsDue settings plain_tree left rose answer → now ≡ append before (answer_text answer) → tally ≡ tally_of settings answer
      → SaysUnknown settings before now tally
  refusal_of left (Solved solution) tally before now three due written counted = absurd (omega arith)
  refusal_of left (LeftOpen (UnknownBudget budget)) tally before now three due written counted =
      inl (written ∙ ap (λ (n : ℕ). append before (unknown_budget_line n)) due.0, rw counted refl)
  refusal_of left (LeftOpen (UnknownProofs slots)) tally before now three due written counted =
      inr (written ∙ ap (λ (n : ℕ). append before (unknown_proofs_line n)) due.0, rw counted refl)
  refusal_of left (LeftOpen OutOfMemory) tally before now three due written counted = absurd (omega arith)
  refusal_of left (BadPosition line) tally before now three due written counted = absurd (omega arith)
  refusal_of left ReadFault tally before now three due written counted = absurd (omega arith)
  refusal_of left TooLong tally before now three due written counted = absurd (omega arith)

  read_fault_of : (before : Option (List ℕ)) (answer : Answer) → status_of answer ≡ 5 → IsDue settings plain_tree before rose answer → rose
  read_fault_of before (Solved solution) five due = absurd (omega arith)
  read_fault_of before (LeftOpen wanting) five due = absurd (wanting_status-not wanting 5 (λ e. omega (arith, e)) (λ e. omega (arith, e)) five)
  read_fault_of before (BadPosition line) five due = absurd (omega arith)
  read_fault_of before ReadFault five due = due
  read_fault_of before TooLong five due = absurd (omega arith)

status_of_solve : (answer : Answer) → (status_of answer ≡ 0) ⊎ ((3 ≤ status_of answer) × (status_of answer ≤ 8))
status_of_solve (Solved solution) = inl refl
status_of_solve (LeftOpen wanting) =
    inr (⊎_elim (λ three. (omega (arith, three), omega (arith, three))) (λ seven. (omega (arith, seven), omega (arith, seven)))
    (wanting_status-3_or_7 wanting))
status_of_solve (BadPosition line) = inr (omega arith, omega arith)
status_of_solve ReadFault = inr (omega arith, omega arith)
status_of_solve TooLong = inr (omega arith, omega arith)

-- each clause of an input that the source tells
of_input : (settings : Settings) (plain_tree : Bool) (left : Option (List ℕ)) (rose : Type 0) (answer : Answer) (Says : List ℕ → Type 0)
    → IsDue settings plain_tree left rose answer
    → ((input : List ℕ) → IsDue settings plain_tree (Some input) rose answer → Says input) → IfSome left Says
of_input settings plain_tree None rose answer Says due says = tt
of_input settings plain_tree (Some input) rose answer Says due says = says input due

status_not_6 : (answer : Answer) → status_of answer ≡ 6 → ⊥
status_not_6 (Solved solution) six = omega arith
status_not_6 (LeftOpen wanting) six = wanting_status-not wanting 6 (λ e. omega (arith, e)) (λ e. omega (arith, e)) six
status_not_6 (BadPosition line) six = omega arith
status_not_6 ReadFault six = omega arith
status_not_6 TooLong six = omega arith

module _ (settings : Settings) (plain_tree : Bool) (source source_now : Reading) (sink sink_now : Writing) (answer : Answer)
    (finish : Finish) where
  abbrev FailedHere : Type 0
  FailedHere = SomeReadFailed source source_now

  -- each clause of an input that the source tells
  told : (Says : List ℕ → Type 0) → IsDue settings plain_tree source.left FailedHere answer
      → ((input : List ℕ) → IsDue settings plain_tree (Some input) FailedHere answer → Says input) → IfSome source.left Says
  told Says due says = of_input settings plain_tree source.left FailedHere answer Says due says

  kept_whole : IsDue settings plain_tree source.left FailedHere answer → (status_of answer ≡ 0 → IsReadToEnd source.left source_now.left)
      → finish.tally ≡ tally_of settings answer → finish.status ≡ status_of answer
      → sink_now.taken ≡ append sink.taken (answer_text answer) → KeepsPromises settings plain_tree source source_now sink sink_now finish
  kept_whole due read counted same written = record {
    answers = told _ due (λ input is. record {
      solved = λ zero.
          solved_of settings plain_tree input FailedHere answer sink.taken sink_now.taken (sym same ∙ zero) is written;
      small = λ small. rw same (small_of settings plain_tree input FailedHere answer small is);
      unknown = λ three. unknown_of settings plain_tree input FailedHere answer (sym same ∙ three) is;
      no_chain = λ three one some.
          no_chain_of settings plain_tree input FailedHere answer finish.tally (sym same ∙ three) counted one some is;
      bad_position = λ four. bad_of settings plain_tree input FailedHere answer (sym same ∙ four) is;
      position_line = λ line short bad.
          rw same (position_line_of settings plain_tree input FailedHere answer line sink.taken sink_now.taken written short bad is);
      long = λ long. rw same (long_of settings plain_tree input FailedHere answer long is);
      too_long = λ eight. too_long_of settings plain_tree input FailedHere answer (sym same ∙ eight) is;
    });
    read_to_end = λ zero. read (sym same ∙ zero);
    refusal = λ three.
        refusal_of settings plain_tree FailedHere source.left answer finish.tally sink.taken sink_now.taken (sym same ∙ three) due
        written counted;
    read_fault = λ five. read_fault_of settings plain_tree FailedHere source.left answer (sym same ∙ five) due;
    write_fault = λ six. absurd (status_not_6 answer (sym same ∙ six));
    none_else = rw same (status_of_solve answer);
  }

  -- the sink failed before it took all of an answer
  kept_cut : finish.status ≡ 6 → SomeWriteFailed sink sink_now → KeepsPromises settings plain_tree source source_now sink sink_now finish
  kept_cut six failed = record {
    answers = of_any source.left _ (λ input. record {
      solved = λ zero. absurd (omega (arith, six, zero));
      small = λ small. inr (inr (inl six));
      unknown = λ three. absurd (omega (arith, six, three));
      no_chain = λ three one some. absurd (omega (arith, six, three));
      bad_position = λ four. absurd (omega (arith, six, four));
      position_line = λ line short bad. inr (inr (inl six));
      long = λ long. inr (inr (inl six));
      too_long = λ eight. absurd (omega (arith, six, eight));
    });
    read_to_end = λ zero. absurd (omega (arith, six, zero));
    refusal = λ three. absurd (omega (arith, six, three));
    read_fault = λ five. absurd (omega (arith, six, five));
    write_fault = λ is. failed;
    none_else = inr (omega (arith, six), omega (arith, six));
  }

  pub kept : IsDue settings plain_tree source.left FailedHere answer → (status_of answer ≡ 0 → IsReadToEnd source.left source_now.left)
      → finish.tally ≡ tally_of settings answer → IsWritten sink sink_now (answer_text answer) (status_of answer) finish.status
      → KeepsPromises settings plain_tree source source_now sink sink_now finish
  kept due read counted (Whole same written) = kept_whole due read counted same written
  kept due read counted (Cut six failed front) = kept_cut six failed
