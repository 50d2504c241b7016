-- What a run of `htp` says with each status, by how the session ended.
use Rattle.std.proofs.Common.{◌≡◌, ℕ, ◌<◌, ◌^◌, inl, inr, List, length, refl, sym, subst, arith}
use Rattle.std.specs.Prelude.{Option, IfSome}
use Rattle.hx_io.specs.Sources.{Reading, SomeReadFailed}
use Rattle.hx_io.specs.Sinks.{Writing, SomeWriteFailed}
use Rattle.hx_limits.specs.declared.settings.Settings.{Settings}
use Rattle.hx_limits.specs.Tallies.{Tallied, tallied}
use Rattle.hx_htp.specs.Accounts.{Account}
use Rattle.hx_htp.specs.States.{fresh}
use Rattle.hx_htp.specs.Sessions.{Moment, moment}
use Rattle.hx_htp.specs.Runs.{Run, SessionRun, until_quit}
use Rattle.hx_htp.specs.Laws.{IsCounted, NamesWinners}
use Rattle.hx_lines.specs.declared.ended.Ended.{Ended}
use Rattle.hx_lines.specs.declared.ended.Ended.TheVariants.{Stopped, Over, ReadFault, WriteFault, TooLong}
use Rattle.hx_cmd_htp.specs.Serving.{Ends, IsDone, IsTooLong, IsWithinLimits}
use Rattle.hx_finish.proofs.ToldInputs.{of_any}
use Rattle.hx_finish.specs.declared.finishes.Finish.{Finish}
use Rattle.hx_cmd_htp.specs.Sessions.{account_of, start_of, status_of_end, EndHasCause, IsSessionRun, EachRunNamesWinners, EachRunIsCounted}
use Rattle.hx_cmd_htp.specs.Sessions.{KeepsPromises}
use Rattle.std.proofs.lemmas.Option.{IfSome_then}

-- ---- how a session was served

end_has_cause : (rose sink_rose : Type 0) (ended : Ended) → (ended ≡ ReadFault → rose) → (ended ≡ WriteFault → sink_rose)
    → EndHasCause rose sink_rose ended
end_has_cause rose sink_rose Stopped read write = tt
end_has_cause rose sink_rose Over read write = tt
end_has_cause rose sink_rose ReadFault read write = read refl
end_has_cause rose sink_rose WriteFault read write = write refl
end_has_cause rose sink_rose TooLong read write = tt

pub session_ran : (settings : Settings) (source source_now : Reading) (sink sink_now : Writing)
    (ended : Ended) (fresh used : Tallied) (finish : Finish) → fresh ≡ tallied settings.budget settings.slots 0 0
    → finish.tally ≡ used → finish.status ≡ status_of_end ended
    → Ends (account_of fresh) (account_of used) source.left source_now.left sink.taken sink_now.taken ended
    → (ended ≡ ReadFault → SomeReadFailed source source_now) → (ended ≡ WriteFault → SomeWriteFailed sink sink_now)
    → IsSessionRun settings source source_now sink sink_now finish
session_ran settings source source_now sink sink_now ended fresh used finish is_fresh is_used status ends read write =
    let P : Tallied → Type 0 = λ t. Ends (account_of t) (account_of used) source.left source_now.left sink.taken sink_now.taken ended in
    let Q : Tallied → Type 0 = λ t. Ends (start_of settings) (account_of t) source.left source_now.left sink.taken sink_now.taken ended in
    record {
      ended = ended;
      ends = subst Q (sym is_used) (subst P is_fresh ends);
      cause = end_has_cause (SomeReadFailed source source_now) (SomeWriteFailed sink sink_now) ended read write;
      status = status;
    }

-- ---- what it is good for

-- an input that is above a limit is not within the limits
abbrev pub LimitsAreApart : Type 0
LimitsAreApart = (start account : Account) (input : List ℕ) (taken now : Option (List ℕ))
    → IsTooLong start account input taken now → ¬ IsWithinLimits input

-- the input of a session that is done is within the limits
abbrev pub DoneIsWithin : Type 0
DoneIsWithin = (start account : Account) (input : List ℕ) (left taken now : Option (List ℕ))
    → IsDone start account left taken now input → IsWithinLimits input

-- replies that name a limit are counted, where the counts begin at 0
abbrev pub RepliesAreCounted : Type 0
RepliesAreCounted = (before after : Account) (lines : List (List ℕ)) (replies : List ℕ) (run : SessionRun before lines replies after)
    → before.budgets ≡ 0 → before.proofs ≡ 0 → length (until_quit lines) < 2 ^ 64 → IsCounted run

-- each player whom a run names is a winner
abbrev pub NamedPlayersWin : Type 0
NamedPlayersWin = (before : Account) (after : Moment) (lines : List (List ℕ)) (replies : List ℕ)
    (run : Run (moment fresh before) lines replies after) → NamesWinners run

each_run_names_winners : (before after : Account) → NamedPlayersWin → EachRunNamesWinners before after
each_run_names_winners before after law lines replies run = law before (moment run.state after) (until_quit lines) replies run.run

each_run_is_counted : (settings : Settings) (after : Account) → RepliesAreCounted → EachRunIsCounted (start_of settings) after
each_run_is_counted settings after law lines replies run few =
    law (start_of settings) after lines replies run refl refl (omega (arith, few))

module _ (settings : Settings) (source source_now : Reading) (sink sink_now : Writing) (finish : Finish)
    (apart : LimitsAreApart) (inside : DoneIsWithin) (winners : EachRunNamesWinners (start_of settings) (account_of finish.tally))
    (counted : EachRunIsCounted (start_of settings) (account_of finish.tally)) where
  abbrev Kept : Type 0
  Kept = KeepsPromises settings source source_now sink sink_now finish

  abbrev EndsAs : Ended → Type 0
  EndsAs ended = Ends (start_of settings) (account_of finish.tally) source.left source_now.left sink.taken sink_now.taken ended

  kept_done : IfSome source.left (IsDone (start_of settings) (account_of finish.tally) source_now.left sink.taken sink_now.taken)
      → finish.status ≡ 0 → Kept
  kept_done done zero = record {
    replies = λ is. done;
    read_fault = λ five. absurd (omega (arith, zero, five));
    write_fault = λ six. absurd (omega (arith, zero, six));
    too_long = λ eight. absurd (omega (arith, zero, eight));
    within = of_any source.left _ (λ input within. inl zero);
    above = IfSome_then source.left done (λ input is above. absurd (above (inside (start_of settings) (account_of finish.tally) input
        source_now.left sink.taken sink_now.taken is)));
    winners = winners;
    counted = counted;
    none_else = inr (inl zero);
  }

  kept_read_fault : EndsAs ReadFault → SomeReadFailed source source_now → finish.status ≡ 5 → Kept
  kept_read_fault ends cause five = record {
    replies = λ zero. absurd (omega (arith, five, zero));
    read_fault = λ is. (cause, ends);
    write_fault = λ six. absurd (omega (arith, five, six));
    too_long = λ eight. absurd (omega (arith, five, eight));
    within = of_any source.left _ (λ input within. inr (inl five));
    above = of_any source.left _ (λ input above. inr (inl five));
    winners = winners;
    counted = counted;
    none_else = inr (inr (inl five));
  }

  kept_write_fault : EndsAs WriteFault → SomeWriteFailed sink sink_now → finish.status ≡ 6 → Kept
  kept_write_fault ends cause six = record {
    replies = λ zero. absurd (omega (arith, six, zero));
    read_fault = λ five. absurd (omega (arith, six, five));
    write_fault = λ is. (cause, ends);
    too_long = λ eight. absurd (omega (arith, six, eight));
    within = of_any source.left _ (λ input within. inr (inr six));
    above = of_any source.left _ (λ input above. inr (inr six));
    winners = winners;
    counted = counted;
    none_else = inr (inr (inr six));
  }

  kept_too_long : EndsAs TooLong → finish.status ≡ 8 → Kept
  kept_too_long ends eight = record {
    replies = λ zero. absurd (omega (arith, eight, zero));
    read_fault = λ five. absurd (omega (arith, eight, five));
    write_fault = λ six. absurd (omega (arith, eight, six));
    too_long = λ is. ends;
    within = IfSome_then source.left ends (λ input long within. absurd (apart (start_of settings)
        (account_of finish.tally) input sink.taken sink_now.taken long within));
    above = of_any source.left _ (λ input above. inl eight);
    winners = winners;
    counted = counted;
    none_else = inl eight;
  }

  kept_end : (ended : Ended) → EndsAs ended → EndHasCause (SomeReadFailed source source_now) (SomeWriteFailed sink sink_now) ended
      → finish.status ≡ status_of_end ended → Kept
  kept_end Stopped ends cause same = kept_done (IfSome_then source.left ends (λ input stopped. inl stopped)) same
  kept_end Over ends cause same = kept_done (IfSome_then source.left ends (λ input over. inr over)) same
  kept_end ReadFault ends cause same = kept_read_fault ends cause same
  kept_end WriteFault ends cause same = kept_write_fault ends cause same
  kept_end TooLong ends cause same = kept_too_long ends same

pub kept : (settings : Settings) (source source_now : Reading) (sink sink_now : Writing) (finish : Finish)
    → LimitsAreApart → DoneIsWithin → NamedPlayersWin → RepliesAreCounted → IsSessionRun settings source source_now sink sink_now finish
    → KeepsPromises settings source source_now sink sink_now finish
kept settings source source_now sink sink_now finish apart inside named law ran =
    kept_end settings source source_now sink sink_now finish apart inside
    (each_run_names_winners (start_of settings) (account_of finish.tally) named)
    (each_run_is_counted settings (account_of finish.tally) law)
    ran.ended ran.ends ran.cause ran.status
