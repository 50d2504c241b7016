-- A run of `play`: a game by the tree that was read, or a refusal, and what each status then tells.
use Rattle.std.proofs.Common.{◌≡◌, ◌≤◌, ◌≢◌, ℕ, inl, inr, List, refl, sym, ◌∙◌, subst, arith}
use Rattle.hx_io.specs.Sources.{Reading, SomeReadFailed, prepend}
use Rattle.hx_io.specs.Sinks.{Writing, SomeWriteFailed}
use Rattle.hx_io.proofs.SourceLaws.{prepend-prepend}
use Rattle.hx_answers.specs.Endings.{Whole, Cut}
use Rattle.hx_cmd_check.specs.declared.faults.Fault.TheVariants.{NoText, NoNode, ReadFault, OutOfMemory, TooLong}
use Rattle.hx_play.specs.declared.serving.Served.{Served}
use Rattle.hx_play.specs.declared.serving.Served.TheVariants as served
use Rattle.hx_play.specs.Games.{Game}
use Rattle.hx_play.specs.Serving.{Ends}
use Rattle.hx_cmd_play.specs.declared.refusals.Refusal.{Refusal}
use Rattle.hx_cmd_play.specs.declared.refusals.Refusal.TheVariants.{NoPlain, NoTree}
use Rattle.hx_cmd_play.specs.Promises.{KeepsPromises}
use Rattle.hx_cmd_play.specs.Refusals.{IsDue, status_of_refusal}
use Rattle.hx_cmd_play.specs.Runs.{HasCause, IsPlayRun, IsPlayStatus, Plays, status_of, Played, Refused}
use Rattle.hx_cmd_play.specs.Standings.{HasSeated}
use Rattle.hx_cmd_play.proofs.OneRefusal.{line_alone, node_alone, no_plain_alone, too_long_alone}
use Rattle.hx_cmd_play.proofs.OneRefusal.{text_not_line, text_not_node, text_not_no_plain, text_not_too_long}
use Rattle.hx_cmd_play.proofs.InputLaws.{of_input, answered, game_for}

-- an end by a fault has its cause
pub has_cause : (rose sink_rose : Type 0) (ended : Served) → (ended ≡ served.ReadFault → rose) → (ended ≡ served.WriteFault → sink_rose)
    → HasCause rose sink_rose ended
has_cause rose sink_rose served.Chain reads writes = tt
has_cause rose sink_rose served.Unfinished reads writes = tt
has_cause rose sink_rose served.ReadFault reads writes = reads refl
has_cause rose sink_rose served.WriteFault reads writes = writes refl
has_cause rose sink_rose served.TooLong reads writes = tt

-- a game that was served after the tree was read
pub played : (source source_mid source_now : Reading) (sink sink_now : Writing) (held : List ℕ) (start now : Game) (ended : Served)
    (status : ℕ) → HasSeated source.left start held source_mid.left
    → Ends start now (prepend held source_mid.left) source_now.left sink.taken sink_now.taken ended
    → HasCause (SomeReadFailed source source_now) (SomeWriteFailed sink sink_now) ended → status ≡ status_of ended
    → IsPlayRun source source_now sink sink_now status
played source source_mid source_now sink sink_now held start now ended status seated ends cause same =
    Played ended (record {
      text = seated.text;
      nodes = seated.nodes;
      playable = seated.playable;
      stream = prepend held source_mid.left;
      parts = seated.parts ∙ sym (prepend-prepend seated.text held source_mid.left);
      game = record {
        root = seated.root;
        last = seated.last;
        now = now;
        ends = subst (λ (game : Game). Ends game now (prepend held source_mid.left) source_now.left sink.taken sink_now.taken ended)
            seated.same ends;
      };
      cause = cause;
    }) same

-- ---- what each status tells

module _ (source source_now : Reading) (sink sink_now : Writing) where
  chain_by : (ended : Served) → Plays ended source source_now sink sink_now → status_of ended ≡ 0
      → Plays served.Chain source source_now sink sink_now
  chain_by served.Chain plays zero = plays
  chain_by served.Unfinished plays zero = absurd (omega (arith, zero))
  chain_by served.ReadFault plays zero = absurd (omega (arith, zero))
  chain_by served.WriteFault plays zero = absurd (omega (arith, zero))
  chain_by served.TooLong plays zero = absurd (omega (arith, zero))

  read_by : (ended : Served) → Plays ended source source_now sink sink_now → status_of ended ≡ 5 → SomeReadFailed source source_now
  read_by served.Chain plays five = absurd (omega (arith, five))
  read_by served.Unfinished plays five = absurd (omega (arith, five))
  read_by served.ReadFault plays five = plays.cause
  read_by served.WriteFault plays five = absurd (omega (arith, five))
  read_by served.TooLong plays five = absurd (omega (arith, five))

  write_by : (ended : Served) → Plays ended source source_now sink sink_now → status_of ended ≡ 6 → SomeWriteFailed sink sink_now
  write_by served.Chain plays six = absurd (omega (arith, six))
  write_by served.Unfinished plays six = absurd (omega (arith, six))
  write_by served.ReadFault plays six = absurd (omega (arith, six))
  write_by served.WriteFault plays six = plays.cause
  write_by served.TooLong plays six = absurd (omega (arith, six))

  known_by : (ended : Served) → IsPlayStatus (status_of ended)
  known_by served.Chain = inl (omega arith)
  known_by served.Unfinished = inl (omega arith)
  known_by served.ReadFault = inr (omega arith, omega arith)
  known_by served.WriteFault = inr (omega arith, omega arith)
  known_by served.TooLong = inr (omega arith, omega arith)

  -- a refusal has no status but these, and 5 only where a read failed
  record IsRefusalStatus (refusal : Refusal) : Type 0 where
    some : 1 ≤ status_of_refusal refusal
    known : IsPlayStatus (status_of_refusal refusal)
    no_write : status_of_refusal refusal ≢ 6
    read_fault : status_of_refusal refusal ≡ 5 → SomeReadFailed source source_now

  refusal_status : (refusal : Refusal) → IsDue source.left source_now.left (SomeReadFailed source source_now) refusal
      → IsRefusalStatus refusal
  refusal_status (NoPlain k) due = record {
    some = omega arith;
    known = inl (omega arith);
    no_write = λ e. omega (arith, e);
    read_fault = λ e. absurd (omega (arith, e));
  }
  refusal_status (NoTree (NoText line)) due = record {
    some = omega arith;
    known = inl (omega arith);
    no_write = λ e. omega (arith, e);
    read_fault = λ e. absurd (omega (arith, e));
  }
  refusal_status (NoTree (NoNode k)) due = record {
    some = omega arith;
    known = inl (omega arith);
    no_write = λ e. omega (arith, e);
    read_fault = λ e. absurd (omega (arith, e));
  }
  refusal_status (NoTree ReadFault) due = record {
    some = omega arith;
    known = inr (omega arith, omega arith);
    no_write = λ e. omega (arith, e);
    read_fault = λ e. due.0;
  }
  refusal_status (NoTree OutOfMemory) due = record {
    some = omega arith;
    known = inr (omega arith, omega arith);
    no_write = λ e. omega (arith, e);
    read_fault = λ e. absurd (omega (arith, e));
  }
  refusal_status (NoTree TooLong) due = record {
    some = omega arith;
    known = inr (omega arith, omega arith);
    no_write = λ e. omega (arith, e);
    read_fault = λ e. absurd (omega (arith, e));
  }

  module _ (status : ℕ) where
    abbrev Run : Type 0
    Run = IsPlayRun source source_now sink sink_now status

    chain_of : Run → status ≡ 0 → Plays served.Chain source source_now sink sink_now
    chain_of (Played ended plays same) zero = chain_by ended plays (sym same ∙ zero)
    chain_of (Refused refusal due (Whole same wrote)) zero = absurd (omega (arith, (refusal_status refusal due).some, same, zero))
    chain_of (Refused refusal due (Cut six cause front)) zero = absurd (omega (arith, six, zero))

    read_of : Run → status ≡ 5 → SomeReadFailed source source_now
    read_of (Played ended plays same) five = read_by ended plays (sym same ∙ five)
    read_of (Refused refusal due (Whole same wrote)) five = (refusal_status refusal due).read_fault (sym same ∙ five)
    read_of (Refused refusal due (Cut six cause front)) five = absurd (omega (arith, six, five))

    write_of : Run → status ≡ 6 → SomeWriteFailed sink sink_now
    write_of (Played ended plays same) six = write_by ended plays (sym same ∙ six)
    write_of (Refused refusal due (Whole same wrote)) six = absurd ((refusal_status refusal due).no_write (sym same ∙ six))
    write_of (Refused refusal due (Cut is_six cause front)) six = cause

    known_of : Run → IsPlayStatus status
    known_of (Played ended plays same) = subst IsPlayStatus (sym same) (known_by ended)
    known_of (Refused refusal due (Whole same wrote)) = subst IsPlayStatus (sym same) (refusal_status refusal due).known
    known_of (Refused refusal due (Cut six cause front)) = inr (omega (arith, six), omega (arith, six))

    pub kept : Run → KeepsPromises source source_now sink sink_now status
    kept run = record {
      chain = chain_of run;
      playable = of_input source.left _
          (λ input is text rest nodes playable parts.
          game_for source source_now sink sink_now status input is text rest nodes playable parts run);
      no_text = of_input source.left _
          (λ input is line text.
          answered source source_now sink sink_now status input is (NoTree (NoText line))
          (line_alone input source_now.left (SomeReadFailed source source_now) line text)
          (λ front rest nodes playable parts. text_not_line playable rest parts line text) run);
      no_node = of_input source.left _
          (λ input is node wrong.
          answered source source_now sink sink_now status input is (NoTree (NoNode node))
          (node_alone input source_now.left (SomeReadFailed source source_now) node wrong)
          (λ front rest nodes playable parts. text_not_node playable rest parts node wrong) run);
      no_plain = of_input source.left _
          (λ input is node named.
          answered source source_now sink sink_now status input is (NoPlain node)
          (no_plain_alone input source_now.left (SomeReadFailed source source_now) node named)
          (λ front rest nodes playable parts. text_not_no_plain playable rest parts node named) run);
      too_long = of_input source.left _
          (λ input is long.
          answered source source_now sink sink_now status input is (NoTree TooLong)
          (too_long_alone input source_now.left (SomeReadFailed source source_now) long)
          (λ front rest nodes playable parts. text_not_too_long playable rest parts long) run);
      read_fault = read_of run;
      write_fault = write_of run;
      none_else = known_of run;
    }
