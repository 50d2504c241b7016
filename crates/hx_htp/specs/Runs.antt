-- What a session answers to a line, and to lines one after the other.
use Rattle.std.specs.Prelude.{◌≡◌, ℕ, Bool, true, false, List, [], ◌∷◌, ◌++◌, if◌then◌else◌}
use Rattle.std.specs.declared.result.Result.{Result}
use Rattle.std.specs.declared.result.Result.TheVariants.{Ok, Err}
use Rattle.hx_htp.specs.declared.requests.Request.{Request}
use Rattle.hx_htp.specs.declared.requests.Request.TheVariants.{Quit, GenMove, Solve}
use Rattle.hx_htp.specs.declared.answers.Refusal.{Refusal}
use Rattle.hx_htp.specs.Words.{words_of, number_of_line, command_words}
use Rattle.hx_htp.specs.Commands.{asked}
use Rattle.hx_htp.specs.States.{State, fresh}
use Rattle.hx_htp.specs.Accounts.{Account}
use Rattle.hx_htp.specs.Sessions.{Moment, moment}
use Rattle.hx_htp.specs.Answers.{Given, Does}
use Rattle.hx_htp.specs.Replies.{reply_text}

-- ---- one line

-- what a line asks for, or why it asks for nothing
abbrev pub asked_on : List ℕ → Result Request Refusal
asked_on line = asked (command_words (words_of line))

-- what is asked for is done and answered, or it is said why nothing is asked for
abbrev pub AnswersAsked : Moment → Result Request Refusal → Given → Moment → Type 0
AnswersAsked old (Ok request) given new = Does old request given new
AnswersAsked old (Err why) given new = (given ≡ Err why) × (new ≡ old)

-- the answer to words, and how it is spelled
pub record IsReply (old : Moment) (words : List (List ℕ)) (reply : List ℕ) (new : Moment) : Type 0 where
  pub given : Given
  pub answers : AnswersAsked old (asked (command_words words)) given new
  pub spelled : reply ≡ reply_text (number_of_line words) given

-- without words there is no reply, and nothing changes
abbrev pub AnswersWords : Moment → List (List ℕ) → List ℕ → Moment → Type 0
AnswersWords old [] reply new = (reply ≡ []) × (new ≡ old)
AnswersWords old (word ∷ words) reply new = IsReply old (word ∷ words) reply new

-- A line is answered so, which leads from the old moment to the new one.
abbrev pub AnswersLine : Moment → List ℕ → List ℕ → Moment → Type 0
AnswersLine old line reply new = AnswersWords old (words_of line) reply new

abbrev pub is_quit : Result Request Refusal → Bool
is_quit (Ok Quit) = true
is_quit _ = false

-- whether a line asks to quit
abbrev pub asks_quit : List ℕ → Bool
asks_quit line = is_quit (asked_on line)

-- the answerer is not needed: nothing is asked for but what is no `genmove` and no `solve`
abbrev pub NeedsNobody : Result Request Refusal → Type 0
NeedsNobody (Ok (GenMove player)) = ⊥
NeedsNobody (Ok (Solve named)) = ⊥
NeedsNobody _ = Unit {0}

-- a line that is answered without the answerer
abbrev pub AsksNobody : List ℕ → Type 0
AsksNobody line = NeedsNobody (asked_on line)

-- ---- lines one after the other

-- the lines up to the first that asks to quit, and with it
abbrev pub until_quit : List (List ℕ) → List (List ℕ)
until_quit [] = []
until_quit (line ∷ lines) = if asks_quit line then line ∷ [] else line ∷ until_quit lines

-- Lines are answered one after the other, and these are the replies.
pub data Run (old : Moment) : List (List ℕ) → List ℕ → Moment → Type 0 where
  Begun : (lines : List (List ℕ)) (replies : List ℕ) (new : Moment) → lines ≡ [] → replies ≡ [] → new ≡ old
      → Run old lines replies new
  Then : (lines : List (List ℕ)) (replies : List ℕ) (new : Moment) (earlier : List (List ℕ))
      (line front reply : List ℕ) (mid : Moment) → lines ≡ earlier ++ line ∷ [] → replies ≡ front ++ reply
      → Run old earlier front mid → AnswersLine mid line reply new → Run old lines replies new

-- A session answers these lines: from the first one on, up to the one that asks to quit.
pub record SessionRun (before : Account) (lines : List (List ℕ)) (replies : List ℕ) (after : Account) : Type 0 where
  pub state : State
  pub run : Run (moment fresh before) (until_quit lines) replies (moment state after)
