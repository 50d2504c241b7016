-- Each reply that says that a limit was used up raised its count.
use Rattle.std.proofs.Common.{◌≡◌, ℕ, ◌+◌, ◌^◌, ◌<◌, ◌≤◌, min, List, [], ◌∷◌, length, Result, Ok, Err, Option, Some, refl, sym, ap, ◌∙◌}
use Rattle.std.proofs.Common.{subst, inl, inr, arith, length-append}
use Rattle.hx_io.specs.Causes.{last_count}
use Rattle.hx_board.specs.declared.colours.Colour.{Colour}
use Rattle.hx_htp.specs.declared.requests.Request.{Request}
use Rattle.hx_htp.specs.declared.requests.Request.TheVariants as request
use Rattle.hx_htp.specs.declared.answers.Refusal.{Refusal}
use Rattle.hx_htp.specs.declared.answers.Refusal.TheVariants as refusal
use Rattle.hx_htp.specs.declared.answers.Answer.TheVariants as answer
use Rattle.hx_htp.specs.Words.{words_of}
use Rattle.hx_htp.specs.Accounts.{Account, Continues}
use Rattle.hx_htp.specs.Answers.{Given, Does, GeneratesMove, Solves, to_move_of}
use Rattle.hx_htp.specs.Answers.Undoes.{None_made, Last}
use Rattle.hx_htp.specs.Sessions.{Moment}
use Rattle.hx_htp.specs.Runs.{AnswersAsked, AnswersWords, Run, until_quit, SessionRun}
use Rattle.hx_htp.specs.Laws.{given_to, share_of_budget, share_of_proofs, open_budgets, open_proofs, IsCounted}
use Rattle.hx_htp.specs.Runs.Run.{Begun, Then}
use Rattle.hx_htp.proofs.Passing.{continues_here}

-- a count that takes these shares
pub record Takes (before after : Account) (first second : ℕ) : Type 0 where
  pub budgets : min (before.budgets + first) last_count ≤ after.budgets
  pub proofs : min (before.proofs + second) last_count ≤ after.proofs

takes_none : (before after : Account) → Continues before after → Takes before after 0 0
takes_none before after later = record { budgets = omega (arith, later.budgets); proofs = omega (arith, later.proofs) }

takes_more : (a b c : Account) (first second third fourth : ℕ) → Takes a b first second → Takes b c third fourth
    → Takes a c (first + third) (second + fourth)
takes_more a b c first second third fourth one two =
    record { budgets = omega (arith, one.budgets, two.budgets); proofs = omega (arith, one.proofs, two.proofs) }

stays : (old new : Moment) → new ≡ old → Continues old.account new.account
stays old new e = (let P : Moment → Type 0 = λ m. Continues old.account m.account in subst P (sym e) (continues_here old.account))

turned : (old new : Moment) (mid : Moment) → new ≡ mid → mid.account ≡ old.account → Continues old.account new.account
turned old new mid e same =
    (let P : Account → Type 0 = λ a. Continues old.account a in
    subst P (sym (ap (λ (m : Moment). m.account) e ∙ same)) (continues_here old.account))

generated_later : (old : Moment) (player : Colour) (given : Given) (new : Moment) → GeneratesMove old player given new
    → Continues old.account new.account
generated_later old player (Ok (answer.Cell cell)) new h = h.2
generated_later old player (Err refusal.NoEmptyCell) new h = stays old new h.1
generated_later old player (Err refusal.OutOfMemory) new h = h.1.1
generated_later old player _ new h = absurd h

solved_later : (old : Moment) (player : Colour) (given : Given) (new : Moment) → Solves old player given new
    → Continues old.account new.account
solved_later old player (Ok (answer.Winner winner)) new h = h.2
solved_later old player (Ok (answer.UnknownBudget n)) new h = h.4
solved_later old player (Ok (answer.UnknownProofs n)) new h = h.4
solved_later old player (Err refusal.OutOfMemory) new h = h.1
solved_later old player _ new h = absurd h

-- no answer makes a count fall
pub does_later : (old : Moment) (asked : Request) (given : Given) (new : Moment) → Does old asked given new
    → Continues old.account new.account
does_later old request.ProtocolVersion given new h = stays old new h.1
does_later old request.Name given new h = stays old new h.1
does_later old request.Version given new h = stays old new h.1
does_later old (request.KnownCommand known) given new h = stays old new h.1
does_later old request.ListCommands given new h = stays old new h.1
does_later old request.Quit given new h = stays old new h.1
does_later old (request.BoardSize cols rows) given new (inl h) = turned old new _ h.1.1 refl
does_later old (request.BoardSize cols rows) given new (inr h) = stays old new h.1.1
does_later old request.ClearBoard given new h = turned old new _ h.1 refl
does_later old (request.Play player cell) given new (inl h) = turned old new _ h.1.1 refl
does_later old (request.Play player cell) given new (inr h) = stays old new h.1.1
does_later old request.Undo given new (None_made none h) = stays old new h.1
does_later old request.Undo given new (Last moves move is h) = turned old new _ h.1 refl
does_later old (request.GenMove player) given new h = generated_later old player given new h
does_later old request.ShowBoard given new h = stays old new h.1
does_later old (request.Solve named) given new h = solved_later old (to_move_of old.state named) given new h

-- what is no open question takes no share
other_given : (given wanted : Given) → given ≡ wanted → share_of_budget (Some wanted) ≡ 0 → share_of_proofs (Some wanted) ≡ 0
    → (share_of_budget (Some given) ≡ 0) × (share_of_proofs (Some given) ≡ 0)
other_given given wanted e no_budget no_proofs =
    (ap (λ g. share_of_budget (Some g)) e ∙ no_budget, ap (λ g. share_of_proofs (Some g)) e ∙ no_proofs)

takes_shares : (before after : Account) (budgets proofs : ℕ) → Continues before after → (budgets ≡ 0) × (proofs ≡ 0)
    → Takes before after budgets proofs
takes_shares before after budgets proofs later none = record {
  budgets = omega (arith, later.budgets, none.0);
  proofs = omega (arith, later.proofs, none.1);
}

generated_share : (old : Moment) (player : Colour) (given : Given) (new : Moment) → GeneratesMove old player given new
    → (share_of_budget (Some given) ≡ 0) × (share_of_proofs (Some given) ≡ 0)
generated_share old player (Ok (answer.UnknownBudget n)) new h = absurd h
generated_share old player (Ok (answer.UnknownProofs n)) new h = absurd h
generated_share old player _ new h = (refl, refl)

solved_takes : (old : Moment) (player : Colour) (given : Given) (new : Moment) → Solves old player given new
    → Takes old.account new.account (share_of_budget (Some given)) (share_of_proofs (Some given))
solved_takes old player (Ok (answer.UnknownBudget n)) new h = record { budgets = omega (arith, h.1); proofs = omega (arith, h.4.proofs) }
solved_takes old player (Ok (answer.UnknownProofs n)) new h = record { budgets = omega (arith, h.4.budgets); proofs = omega (arith, h.1) }
solved_takes old player (Ok (answer.Winner winner)) new h = takes_none old.account new.account h.2
solved_takes old player (Err why) new h = takes_none old.account new.account (solved_later old player (Err why) new h)
solved_takes old player _ new h = absurd h

said_takes : (old : Moment) (asked : Request) (given wanted : Given) (new : Moment) → Does old asked given new → given ≡ wanted
    → share_of_budget (Some wanted) ≡ 0 → share_of_proofs (Some wanted) ≡ 0
    → Takes old.account new.account (share_of_budget (Some given)) (share_of_proofs (Some given))
said_takes old asked given wanted new h e no_budget no_proofs =
    takes_shares old.account new.account _ _ (does_later old asked given new h) (other_given given wanted e no_budget no_proofs)

does_takes : (old : Moment) (asked : Request) (given : Given) (new : Moment) → Does old asked given new
    → Takes old.account new.account (share_of_budget (Some given)) (share_of_proofs (Some given))
does_takes old request.ProtocolVersion given new h = said_takes old request.ProtocolVersion given _ new h h.0 refl refl
does_takes old request.Name given new h = said_takes old request.Name given _ new h h.0 refl refl
does_takes old request.Version given new h = said_takes old request.Version given _ new h h.0 refl refl
does_takes old (request.KnownCommand known) given new h = said_takes old (request.KnownCommand known) given _ new h h.0 refl refl
does_takes old request.ListCommands given new h = said_takes old request.ListCommands given _ new h h.0 refl refl
does_takes old request.Quit given new h = said_takes old request.Quit given _ new h h.0 refl refl
does_takes old (request.BoardSize cols rows) given new (inl h) =
    said_takes old (request.BoardSize cols rows) given _ new (inl h) h.1.0 refl refl
does_takes old (request.BoardSize cols rows) given new (inr h) =
    said_takes old (request.BoardSize cols rows) given _ new (inr h) h.1.0 refl refl
does_takes old request.ClearBoard given new h = said_takes old request.ClearBoard given _ new h h.0 refl refl
does_takes old (request.Play player cell) given new (inl h) = said_takes old (request.Play player cell) given _ new (inl h) h.1.0 refl refl
does_takes old (request.Play player cell) given new (inr h) = said_takes old (request.Play player cell) given _ new (inr h) h.1.0 refl refl
does_takes old request.Undo given new (None_made none h) = said_takes old request.Undo given _ new (None_made none h) h.0 refl refl
does_takes old request.Undo given new (Last moves move is h) = said_takes old request.Undo given _ new (Last moves move is h) h.0 refl refl
does_takes old (request.GenMove player) given new h =
    takes_shares old.account new.account _ _ (generated_later old player given new h) (generated_share old player given new h)
does_takes old request.ShowBoard given new h = said_takes old request.ShowBoard given _ new h h.0 refl refl
does_takes old (request.Solve named) given new h = solved_takes old (to_move_of old.state named) given new h

asked_takes : (old : Moment) (asked : Result Request Refusal) (given : Given) (new : Moment) → AnswersAsked old asked given new
    → Takes old.account new.account (share_of_budget (Some given)) (share_of_proofs (Some given))
asked_takes old (Ok asked) given new h = does_takes old asked given new h
asked_takes old (Err why) given new h =
    takes_shares old.account new.account _ _ (stays old new h.1) (other_given given (Err why) h.0 refl refl)

words_take : (old : Moment) (words : List (List ℕ)) (reply : List ℕ) (new : Moment) (h : AnswersWords old words reply new)
    → Takes old.account new.account (share_of_budget (given_to old words reply new h)) (share_of_proofs (given_to old words reply new h))
words_take old [] reply new h = takes_none old.account new.account (stays old new h.1)
words_take old (word ∷ words) reply new h = asked_takes old _ h.given new h.answers

run_takes : (old new : Moment) (lines : List (List ℕ)) (replies : List ℕ) (run : Run old lines replies new)
    → Takes old.account new.account (open_budgets run) (open_proofs run)
run_takes old new lines replies (Begun _ _ _ none silent same) = takes_none old.account new.account (stays old new same)
run_takes old new lines replies (Then _ _ _ earlier line front reply mid last more run answers) =
    takes_more old.account mid.account new.account (open_budgets run) (open_proofs run) _ _ (run_takes old mid earlier front run)
    (words_take mid (words_of line) reply new answers)

share_small : (given : Option Given) → (share_of_budget given ≤ 1) × (share_of_proofs given ≤ 1)
share_small (Some (Ok (answer.UnknownBudget n))) = (omega arith, omega arith)
share_small (Some (Ok (answer.UnknownProofs n))) = (omega arith, omega arith)
share_small _ = (omega arith, omega arith)

run_small : (old new : Moment) (lines : List (List ℕ)) (replies : List ℕ) (run : Run old lines replies new)
    → (open_budgets run ≤ length lines) × (open_proofs run ≤ length lines)
run_small old new lines replies (Begun _ _ _ none silent same) = (omega arith, omega arith)
run_small old new lines replies (Then _ _ _ earlier line front reply mid last more run answers) =
    let before = run_small old mid earlier front run in
    let share = share_small (given_to mid (words_of line) reply new answers) in
    let size : length lines ≡ length earlier + 1 = ap length last ∙ length-append earlier (line ∷ []) in
    (omega (arith, before.0, share.0, size), omega (arith, before.1, share.1, size))

pub run_counted : (before after : Account) (lines : List (List ℕ)) (replies : List ℕ) (run : SessionRun before lines replies after)
    → before.budgets ≡ 0 → before.proofs ≡ 0 → length (until_quit lines) < 2 ^ 64 → IsCounted run
run_counted before after lines replies run no_budgets no_proofs few =
    let takes = run_takes _ _ (until_quit lines) replies run.run in
    let small = run_small _ _ (until_quit lines) replies run.run in
    record {
      budgets = omega (arith, takes.budgets, small.0, few, no_budgets);
      proofs = omega (arith, takes.proofs, small.1, few, no_proofs);
    }
