-- What a run that searches and reads nothing says with each status: each of its answers has a status of its own, or its
-- line tells it.
use Rattle.std.proofs.Common.{◌≡◌, ◌⊎◌, ℕ, inl, inr, ⊎_elim, List, refl, sym, ◌∙◌, arith}
use Rattle.hx_io.specs.Sinks.{Writing, SomeWriteFailed, append}
use Rattle.hx_limits.specs.declared.settings.Settings.{Settings}
use Rattle.hx_answers.specs.Endings.{IsWritten, Whole, Cut}
use Rattle.hx_finish.specs.declared.finishes.Finish.{Finish}
use Rattle.hx_finish.specs.declared.wanting.Wanting.{Wanting}
use Rattle.hx_finish.specs.Finishes.{EndsSo}
use Rattle.hx_finish.specs.Wants.{wanting_text, wanting_status, wanting_tally, no_refusal, IsWantingWhere}
use Rattle.hx_finish.proofs.WantingEnds.{wanting_unknown, wanting_memory, wanting_without_cause, wanting_status-3_or_7, wanting_status-not}

module _ (says enough cause : Type 0) (settings : Settings) (sink sink_now : Writing) (finish : Finish) where
  abbrev Ends : Type 0
  Ends = EndsSo says enough cause settings sink sink_now finish

  -- the sink failed before it took all of an answer
  cut_so : finish.status ≡ 6 → SomeWriteFailed sink sink_now → Ends
  cut_so six failed = record {
    said = λ zero. absurd (omega (arith, six, zero));
    no_refusal = λ zero. absurd (omega (arith, six, zero));
    enough_ends = λ some. inr (inl six);
    unknown = λ three. absurd (omega (arith, six, three));
    memory = λ seven. absurd (omega (arith, six, seven));
    write_fault = λ is. failed;
    none_else = inr (inr (inl six));
  }

  pub said_so : (text : List ℕ) → (sink_now.taken ≡ append sink.taken text → says) → finish.tally ≡ no_refusal settings
      → IsWritten sink sink_now text 0 finish.status → Ends
  said_so text told counted (Whole zero written) = record {
    said = λ is. told written;
    no_refusal = λ is. (rw counted refl, rw counted refl);
    enough_ends = λ some. inl zero;
    unknown = λ three. absurd (omega (arith, zero, three));
    memory = λ seven. absurd (omega (arith, zero, seven));
    write_fault = λ six. absurd (omega (arith, zero, six));
    none_else = inr (inl zero);
  }
  said_so text told counted (Cut six failed front) = cut_so six failed

  -- where there is enough there is no cause
  pub open_so : (enough → cause → ⊥) → (wanting : Wanting) → IsWantingWhere settings cause wanting → finish.tally ≡ wanting_tally settings wanting
      → IsWritten sink sink_now (wanting_text wanting) (wanting_status wanting) finish.status → Ends
  open_so no_cause wanting due counted (Whole same written) =
      let other : (status : ℕ) → (3 ≡ status → ⊥) → (7 ≡ status → ⊥) → finish.status ≡ status → ⊥ =
      λ status not_3 not_7 is. wanting_status-not wanting status not_3 not_7 (sym same ∙ is) in record {
        said = λ zero. absurd (other 0 (λ e. omega (arith, e)) (λ e. omega (arith, e)) zero);
        no_refusal = λ zero. absurd (other 0 (λ e. omega (arith, e)) (λ e. omega (arith, e)) zero);
        enough_ends = λ some. inr (inr (same ∙ wanting_without_cause settings cause wanting (no_cause some) due));
        unknown = λ three.
            wanting_unknown settings cause sink.taken sink_now.taken finish.tally wanting (sym same ∙ three) due written counted;
        memory = λ seven.
            wanting_memory settings cause sink.taken sink_now.taken finish.tally wanting (sym same ∙ seven) written;
        write_fault = λ six. absurd (other 6 (λ e. omega (arith, e)) (λ e. omega (arith, e)) six);
        none_else = ⊎_elim (λ three. inl (same ∙ three)) (λ seven. inr (inr (inr (same ∙ seven)))) (wanting_status-3_or_7 wanting);
      }
  open_so no_cause wanting due counted (Cut six failed front) = cut_so six failed
