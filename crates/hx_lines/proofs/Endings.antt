-- How a service ends, from how it stands before a line: one lemma an end. What the next cut tells of a told input
-- (`tells_next`) gives its first lines, or all of them, or those before a limit; what was answered is told of them.
use Rattle.std.proofs.Common.{◌≤◌, ◌≡◌, ℕ, ◌+◌, ◌<◌, Bool, true, false, List, [], ◌∷◌, ◌++◌, length, Option, Some}
use Rattle.std.proofs.Common.{None, refl, sym, ap, ◌∙◌, subst, append_assoc, append-nil, length-append, arith}
use Rattle.std.proofs.lemmas.Option.{IfSome_then}
use Rattle.std.proofs.lemmas.List.Elements.{All-push, All-tail}
use Rattle.std.specs.Prelude.{IfSome, IfOk, OnErr, Result, Ok, Err}
use Rattle.hx_io.specs.Sources.{prepend, IsAtEnd}
use Rattle.hx_io.specs.Sinks.{Writing, append, TakesFront}
use Rattle.hx_io.proofs.SinkLaws.{append-then, TakesFront-then}
use Rattle.hx_lines.specs.Lines.{HasLf, longest, ended_lines, lines_of}
use Rattle.hx_lines.specs.declared.cutters.Cut.{Cut}
use Rattle.hx_lines.specs.declared.cutters.Cut.TheVariants.{Line, TooLong as Is_too_long, Over as Is_over}
use Rattle.hx_lines.specs.declared.ended.Ended.{Ended}
use Rattle.hx_lines.specs.declared.ended.Ended.TheVariants.{Stopped, Over, ReadFault, WriteFault, TooLong}
use Rattle.hx_lines.specs.Cutters.{Cutter, Stays, CutsLine, IsCut, BeginLong}
use Rattle.hx_lines.specs.Services.{Service, Answers, most_lines, AreShort, AreWithinLimits, AreFirst, Answered, IsStopped}
use Rattle.hx_lines.specs.Services.{AreAllRead, IsAbove, AreBeforeLimit, AreDue, IsWriteFault, Ends, SaysLast, Stands, StepsOn}
use Rattle.hx_lines.specs.Services.{Completes, Replies, end_at, words_at}
use Rattle.hx_lines.specs.Services.IsAbove.{Long, Many}
use Rattle.hx_lines.specs.Services.AreDue.{No_words, Of_end, Of_fault, Of_limit}
use Rattle.hx_lines.specs.Services.SaysLast.{Whole, Front}
use Rattle.hx_lines.proofs.LineLaws.{lines_of-nil}
use Rattle.hx_lines.proofs.StreamParts.{parts-lost, parts-stay}
use Rattle.hx_lines.proofs.NextLines.{ended_lines-push, TellsNext, tells_next}

-- ---- before the first line

no_lines_within : AreWithinLimits []
no_lines_within = record {
  short = λ k d inside. absurd (omega (arith, inside));
  few = omega arith;
}

no_lines_first : (before : Option (List ℕ)) → IfSome before (λ input. AreFirst input [])
no_lines_first None = tt
no_lines_first (Some input) = record { later = lines_of input; parts = refl }

-- what is said before the first line; bytes may be held that the service has not read itself
module _ {E : Type 0} (service : Service) (answers : Answers) (before left : Option (List ℕ)) (held : List ℕ) (taken now : Writing)
    (result : Result Bool E) (opening : Replies (answers []) taken now result) where
  opens : (told : Bool) → result ≡ Ok told → answers [] opening.text told
  opens told is = subst (answers [] opening.text) (sym (rw is at opening.told)) opening.is_reply

  pub stands_first : result ≡ Ok false → before ≡ prepend held left → Stands answers before taken.taken 0 held left now.taken
  stands_first is parts = record {
    lines = [];
    replies = opening.text;
    passed = record {
      plain = λ k d inside. absurd (omega (arith, inside));
      within = no_lines_within;
    };
    counted = refl;
    parts = parts;
    run = opens false is;
    wrote = rw is at opening.written.bytes;
  }

  -- the service stops before the first line
  pub stops_in_opening : result ≡ Ok true → IfSome before (IsStopped answers taken.taken now.taken)
  stops_in_opening is =
      let writes : now.taken ≡ append taken.taken opening.text = rw is at opening.written.bytes in
      IfSome_then before (no_lines_first before) (λ input first. record {
        lines = [];
        first = first;
        within = no_lines_within;
        answered = record {
          replies = opening.text;
          run = opens true is;
          wrote = writes ∙ ap (append taken.taken) (sym (append-nil opening.text));
        };
      })

  -- a write fails before the first line
  pub ends_in_opening : (fault : E) → result ≡ Err fault → IsWriteFault service answers before left taken.taken now.taken
  ends_in_opening fault is = record {
    lines = [];
    stopped = opening.stops;
    words = [];
    replies = opening.text;
    due = No_words refl (no_lines_first before);
    within = no_lines_within;
    run = opening.is_reply;
    wrote = subst (TakesFront taken.taken now.taken) (sym (append-nil opening.text)) (rw is at opening.written.bytes);
  }

-- ---- no line is left

-- these are all lines of the input, and it was read to its end
abbrev AreReadOut : Option (List ℕ) → List (List ℕ) → List ℕ → Type 0
AreReadOut left lines input = (lines_of input ≡ lines) × (left ≡ Some [])

-- nothing is held and nothing left
at_end : (held rest : List ℕ) (left : Option (List ℕ)) → left ≡ Some rest → held ≡ [] → IsAtEnd left
    → (lines_of (held ++ rest) ≡ []) × (left ≡ Some [])
at_end held rest left is none end =
    let no_more : rest ≡ [] = subst IsAtEnd is end in
    (ap lines_of (ap (λ bytes. bytes ++ rest) none ∙ no_more) ∙ lines_of-nil, is ∙ ap Some no_more)

over_said : (service : Service) (answers : Answers) (before left taken now then_now : Option (List ℕ)) (lines : List (List ℕ))
    (replies : List ℕ) (result : Ended) → IfSome before (AreReadOut left lines) → AreWithinLimits lines → answers lines replies false
    → now ≡ append taken replies → SaysLast now then_now service.over_words Over result
    → Ends service answers before left taken then_now result
over_said service answers before left taken now then_now lines replies result read_out within run wrote (Whole is writes) =
    rw is (IfSome_then before read_out (λ input all. record {
      read_out = all.1;
      within = subst AreWithinLimits (sym all.0) within;
      answered = record {
        replies = replies;
        run = (let P : List (List ℕ) → Type 0 = λ ls. answers ls replies false in subst P (sym all.0) run);
        wrote = append-then taken now then_now replies service.over_words wrote writes;
      };
    }))
over_said service answers before left taken now then_now lines replies result read_out within run wrote (Front is front) =
    rw is (record {
      lines = lines;
      stopped = false;
      words = service.over_words;
      replies = replies;
      due = Of_end refl refl (IfSome_then before read_out (λ input all. all.0));
      within = within;
      run = run;
      wrote = TakesFront-then taken now then_now replies service.over_words wrote front;
    })

-- ---- the next line and its reply

-- the lines of a told input, of which the next one was cut
record NextLine (lines : List (List ℕ)) (line : List ℕ) (input : List ℕ) : Type 0 where
  later : List (List ℕ)
  parts : lines_of input ≡ lines ++ line ∷ later

abbrev next_line : (ended : Bool) (lines : List (List ℕ)) (new : Cutter) (then_left : Option (List ℕ)) (input : List ℕ)
    → TellsNext lines new then_left (Line ended) input → NextLine lines new.line input
next_line ended lines new then_left input next = record {
  later = lines_of (new.held ++ next.rest);
  parts = next.parts ∙ ap (λ (ls : List (List ℕ)). lines ++ ls) next.tells;
}

-- A line was cut behind those that were read. A service answers it: behind whatever it answered so far.
module _ {V E F : Type 0} (service : Service) (answers : V → V → Answers) (start old_service new_service : V)
    (before taken : Option (List ℕ)) (count : ℕ) (old new : Cutter) (left then_left : Option (List ℕ)) (now then_now : Writing)
    (line : List ℕ) (line_is : line ≡ new.line) (ended : Bool) (result : Result Bool E) (fits : count < most_lines)
    (stands : Stands (answers start old_service) before taken count old.held left now.taken)
    (next : Result Cut F) (is_line : next ≡ Ok (Line ended)) (cuts : IfOk next (IsCut old new left then_left))
    (reply : Replies (λ text stops. (from : V) → StepsOn (answers from old_service) line text stops (answers from new_service))
    now then_now result) where
  cut : CutsLine old new left then_left ended
  cut = rw is_line at cuts

  abbrev lines : List (List ℕ)
  lines = stands.lines ++ new.line ∷ []

  abbrev replies : List ℕ
  replies = stands.replies ++ reply.text

  run : answers start new_service lines replies reply.stops
  run =
      let P : List ℕ → Type 0 = λ cut_off. answers start new_service (stands.lines ++ cut_off ∷ []) replies reply.stops in
      subst P line_is (reply.is_reply start stands.lines stands.replies stands.run)

  run_so : (told : Bool) → result ≡ Ok told → answers start new_service lines replies told
  run_so told is = subst (answers start new_service lines replies) (sym (rw is at reply.told)) run

  wrote : (told : Bool) → result ≡ Ok told → then_now.taken ≡ append taken replies
  wrote told is = append-then taken now.taken then_now.taken stands.replies reply.text stands.wrote (rw is at reply.written.bytes)

  within : AreWithinLimits lines
  within = record {
    short = All-push (λ l. length l ≤ longest) stands.lines new.line stands.passed.within.short cut.short;
    few = omega (arith, fits, stands.counted, length-append stands.lines (new.line ∷ []));
  }

  -- those that were read and the one that was cut are the first lines
  first : IfSome before (λ input. AreFirst input lines)
  first =
      IfSome_then before (tells_next before stands.lines old new left then_left (Line ended) stands.passed.plain stands.parts cut)
      (λ input told. let next = next_line ended stands.lines new then_left input told in record {
        later = next.later;
        parts = next.parts ∙ sym (append_assoc stands.lines (new.line ∷ []) next.later);
      })

  -- a write fails in the reply
  pub ends_in_reply : (fault : E) → result ≡ Err fault → IsWriteFault service (answers start new_service) before then_left taken then_now.taken
  ends_in_reply fault is = record {
    lines = lines;
    stopped = reply.stops;
    words = [];
    replies = replies;
    due = No_words refl first;
    within = within;
    run = run;
    wrote = subst (TakesFront taken then_now.taken) (sym (append-nil replies))
        (TakesFront-then taken now.taken then_now.taken stands.replies reply.text stands.wrote (rw is at reply.written.bytes));
  }

  -- the service stops behind the line
  pub ends_stopped : result ≡ Ok true → IfSome before (IsStopped (answers start new_service) taken then_now.taken)
  ends_stopped is =
      IfSome_then before first (λ input is_first. record {
        lines = lines;
        first = is_first;
        within = within;
        answered = record {
          replies = replies;
          run = run_so true is;
          wrote = wrote true is ∙ ap (append taken) (sym (append-nil replies));
        };
      })

  -- the line has an LF, and the service goes on behind it
  pub goes_on : result ≡ Ok false → ended ≡ true
      → Stands (answers start new_service) before taken (count + 1) new.held then_left then_now.taken
  goes_on is has_lf =
      let P : Bool → Type 0 = CutsLine old new left then_left in
      let whole : P true = subst P has_lf cut in
      record {
        lines = lines;
        replies = replies;
        passed = record {
          plain = All-push (λ l. ¬ HasLf l) stands.lines new.line stands.passed.plain cut.plain;
          within = within;
        };
        counted = length-append stands.lines (new.line ∷ []) ∙ ap (λ n. n + 1) stands.counted;
        parts = parts-lost before (ended_lines stands.lines) old.held new.held (new.line ++ 10 ∷ []) left then_left stands.parts
            whole.loses
            ∙ ap (λ bytes. prepend (bytes ++ new.held) then_left) (sym (ended_lines-push stands.lines new.line));
        run = run_so false is;
        wrote = wrote false is;
      }

  -- the line is a last piece without LF
  pub ends_by_last : (end_now : Option (List ℕ)) (end : Ended) → result ≡ Ok false → ended ≡ false
      → SaysLast then_now.taken end_now service.over_words Over end
      → Ends service (answers start new_service) before then_left taken end_now end
  ends_by_last end_now end is no_lf says =
      over_said service (answers start new_service) before then_left taken then_now.taken end_now lines replies end
      (IfSome_then before (tells_next before stands.lines old new left then_left (Line ended) stands.passed.plain stands.parts cut)
      (λ input told.
      let next = next_line ended stands.lines new then_left input told in
      let last = cut.last no_lf in
      let is_end = at_end new.held told.rest then_left told.left last.1 last.2 in
      (next.parts ∙ ap (λ (ls : List (List ℕ)). stands.lines ++ new.line ∷ ls) is_end.0, is_end.1)))
      within (run_so false is) (wrote false is) says

-- ---- no line is answered

-- the first of some lines, which is too long
record LongFirst (lines : List (List ℕ)) : Type 0 where
  line : List ℕ
  later : List (List ℕ)
  parts : lines ≡ line ∷ later
  long : longest < length line

long_first : (lines : List (List ℕ)) → BeginLong lines → LongFirst lines
long_first [] long = absurd long
long_first (line ∷ later) long = record { line = line; later = later; parts = refl; long = long }

module _ (service : Service) (answers : Answers) (before taken : Option (List ℕ)) (count : ℕ) (old new : Cutter)
    (left then_left now then_now : Option (List ℕ)) (result : Ended) (stands : Stands answers before taken count old.held left now) where
  -- the lines before the last words were answered, and the words were written
  with_words : (words : List ℕ) → then_now ≡ append now words → Answered answers taken then_now stands.lines false words
  with_words words writes = record {
    replies = stands.replies;
    run = stands.run;
    wrote = append-then taken now then_now stands.replies words stands.wrote writes;
  }

  -- or they were written in part
  in_words : (words : List ℕ) → AreDue service before then_left stands.lines false words → TakesFront now then_now words
      → IsWriteFault service answers before then_left taken then_now
  in_words words due front = record {
    lines = stands.lines;
    stopped = false;
    words = words;
    replies = stands.replies;
    due = due;
    within = stands.passed.within;
    run = stands.run;
    wrote = TakesFront-then taken now then_now stands.replies words stands.wrote front;
  }

  -- the input is over
  ends_by_end : IsCut old new left then_left Is_over → SaysLast now then_now service.over_words Over result
      → Ends service answers before then_left taken then_now result
  ends_by_end cut says =
      over_said service answers before then_left taken now then_now stands.lines stands.replies result
      (IfSome_then before (tells_next before stands.lines old new left then_left Is_over stands.passed.plain stands.parts cut)
      (λ input told. (
        told.parts ∙ ap (λ (ls : List (List ℕ)). stands.lines ++ ls) told.tells ∙ append-nil stands.lines,
        (at_end new.held told.rest then_left told.left cut.1.none cut.2).1,
      )))
      stands.passed.within stands.run stands.wrote says

  -- a read failed
  ends_by_fault : AreAllRead before then_left stands.lines → SaysLast now then_now service.read_fault_words ReadFault result
      → Ends service answers before then_left taken then_now result
  ends_by_fault all_read (Whole is writes) =
      rw is (record { lines = stands.lines; all_read = all_read; answered = with_words service.read_fault_words writes })
  ends_by_fault all_read (Front is front) = rw is (in_words service.read_fault_words (Of_fault refl refl all_read) front)

  -- the next line is above a limit
  ends_by_limit : IfSome before (λ input. AreBeforeLimit input stands.lines)
      → SaysLast now then_now service.too_long_words TooLong result → Ends service answers before then_left taken then_now result
  ends_by_limit before_limit (Whole is writes) =
      rw is (IfSome_then before before_limit (λ input limit. record {
        lines = stands.lines;
        before_limit = limit;
        answered = with_words service.too_long_words writes;
      }))
  ends_by_limit before_limit (Front is front) = rw is (in_words service.too_long_words (Of_limit refl refl before_limit) front)

  -- it has too many bytes
  is_too_long : IsCut old new left then_left Is_too_long → IfSome before (λ input. AreBeforeLimit input stands.lines)
  is_too_long cut =
      IfSome_then before (tells_next before stands.lines old new left then_left Is_too_long stands.passed.plain stands.parts cut)
      (λ input told. let first = long_first told.others told.tells in record {
        line = first.line;
        later = first.later;
        parts = told.parts ∙ ap (λ (ls : List (List ℕ)). stands.lines ++ ls) first.parts;
        passed = stands.passed;
        above = Long first.long;
      })

  -- too many lines are before it
  is_one_more : (ended : Bool) → count ≡ most_lines → CutsLine old new left then_left ended
      → IfSome before (λ input. AreBeforeLimit input stands.lines)
  is_one_more ended most cut =
      IfSome_then before (tells_next before stands.lines old new left then_left (Line ended) stands.passed.plain stands.parts cut)
      (λ input told. let next = next_line ended stands.lines new then_left input told in record {
        line = new.line;
        later = next.later;
        parts = next.parts;
        passed = stands.passed;
        above = Many (stands.counted ∙ most);
      })

  -- Where a cut is no line that is answered, the last words are said: behind the most lines none is answered.
  pub ends_unanswered : {E : Type 0} (cut : Result Cut E) → IfOk cut (IsCut old new left then_left)
      → OnErr cut (Stays old new left then_left) → OnErr cut (¬ HasLf new.held) → OnErr cut (length new.held ≤ longest)
      → ((ended : Bool) → cut ≡ Ok (Line ended) → count ≡ most_lines)
      → SaysLast now then_now (words_at service (end_at cut)) (end_at cut) result
      → Ends service answers before then_left taken then_now result
  ends_unanswered (Ok (Line ended)) is stays plain short most says = ends_by_limit (is_one_more ended (most ended refl) is) says
  ends_unanswered (Ok Is_too_long) is stays plain short most says = ends_by_limit (is_too_long is) says
  ends_unanswered (Ok Is_over) is stays plain short most says = ends_by_end is says
  ends_unanswered (Err fault) is stays plain short most says =
      ends_by_fault (record {
        held = new.held;
        parts = parts-stay before (ended_lines stands.lines) old new left then_left stands.parts stays;
        passed = stands.passed;
        plain = plain;
        short = short;
      }) says

-- ---- another word for what is answered

module _ (service : Service) (runs answers : Answers) (before left taken now : Option (List ℕ)) (completes : Completes runs answers) where
  answered_as : (lines : List (List ℕ)) (stopped : Bool) (words : List ℕ) → Answered runs taken now lines stopped words
      → Answered answers taken now lines stopped words
  answered_as lines stopped words answered = record {
    replies = answered.replies;
    run = completes lines answered.replies stopped answered.run;
    wrote = answered.wrote;
  }

  pub ends_as : (ended : Ended) → Ends service runs before left taken now ended → Ends service answers before left taken now ended
  ends_as Stopped ends =
      IfSome_then before ends (λ input is. record {
        lines = is.lines;
        first = is.first;
        within = is.within;
        answered = answered_as is.lines true [] is.answered;
      })
  ends_as Over ends =
      IfSome_then before ends (λ input is. record {
        read_out = is.read_out;
        within = is.within;
        answered = answered_as (lines_of input) false service.over_words is.answered;
      })
  ends_as ReadFault ends = record {
    lines = ends.lines;
    all_read = ends.all_read;
    answered = answered_as ends.lines false service.read_fault_words ends.answered;
  }
  ends_as WriteFault ends = record {
    lines = ends.lines;
    stopped = ends.stopped;
    words = ends.words;
    replies = ends.replies;
    due = ends.due;
    within = ends.within;
    run = completes ends.lines ends.replies ends.stopped ends.run;
    wrote = ends.wrote;
  }
  ends_as TooLong ends =
      IfSome_then before ends (λ input is. record {
        lines = is.lines;
        before_limit = is.before_limit;
        answered = answered_as is.lines false service.too_long_words is.answered;
      })

-- ---- lines with one that is above a limit are not within the limits

not_above : (lines later : List (List ℕ)) (line : List ℕ) → AreShort (lines ++ line ∷ later)
    → length (lines ++ line ∷ later) ≤ most_lines → IsAbove (length lines) line → ⊥
not_above lines later line short few (Many count) = omega (arith, few, count, length-append lines (line ∷ later))
not_above [] later line short few (Long long) = omega (arith, long, short 0 line (omega arith))
not_above (first ∷ lines) later line short few (Long long) =
    not_above lines later line (All-tail (λ l. length l ≤ longest) first (lines ++ line ∷ later) short) (omega (arith, few)) (Long long)

pub not_within_limits : (lines later : List (List ℕ)) (line : List ℕ) → IsAbove (length lines) line
    → ¬ AreWithinLimits (lines ++ line ∷ later)
not_within_limits lines later line above within = not_above lines later line within.short within.few above
