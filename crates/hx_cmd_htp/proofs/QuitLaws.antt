-- The lines of a session up to the one that asks to quit, where some first lines do not.
use Rattle.std.proofs.Common.{◌≡◌, ℕ, Bool, true, false, cond, List, [], ◌∷◌, ◌++◌, refl, sym, ap, ◌∙◌, append-nil, append_assoc}
use Rattle.std.proofs.lemmas.List.Elements.{All-head, All-tail, All-push}
use Rattle.hx_htp.specs.Runs.{asks_quit, until_quit}
use Rattle.hx_cmd_htp.specs.Serving.{NoneAsksQuit, OnlyLastAsksQuit, StopsByQuit}

-- lines that do not ask to quit are all before it
pub until_quit-append : (lines rest : List (List ℕ)) → NoneAsksQuit lines → until_quit (lines ++ rest) ≡ lines ++ until_quit rest
until_quit-append [] rest going = refl
until_quit-append (line ∷ lines) rest going =
    ap (λ quits. cond quits (line ∷ []) (line ∷ until_quit (lines ++ rest))) (All-head (λ l. asks_quit l ≡ false) line lines going)
    ∙ ap (λ (ls : List (List ℕ)). line ∷ ls) (until_quit-append lines rest (All-tail (λ l. asks_quit l ≡ false) line lines going))

pub until_quit-all : (lines : List (List ℕ)) → NoneAsksQuit lines → until_quit lines ≡ lines
until_quit-all lines going =
    ap until_quit (sym (append-nil lines)) ∙ until_quit-append lines [] going ∙ append-nil lines

-- nothing is there behind the line that asks to quit
pub until_quit-last : (lines later : List (List ℕ)) → OnlyLastAsksQuit lines → until_quit (lines ++ later) ≡ lines
until_quit-last lines later last =
    ap (λ (ls : List (List ℕ)). until_quit (ls ++ later)) last.parts
    ∙ ap until_quit (append_assoc last.earlier (last.line ∷ []) later)
    ∙ until_quit-append last.earlier (last.line ∷ later) last.going
    ∙ ap (λ quits. last.earlier ++ cond quits (last.line ∷ []) (last.line ∷ until_quit later)) last.quits
    ∙ sym last.parts

-- the lines that a session answers are those up to `quit`
pub until_quit-stops : (lines : List (List ℕ)) (stopped : Bool) → StopsByQuit lines stopped → until_quit lines ≡ lines
until_quit-stops lines true last = ap until_quit (sym (append-nil lines)) ∙ until_quit-last lines [] last
until_quit-stops lines false going = until_quit-all lines going

-- a session stops behind one more line if it asks to quit
pub stops-push : (lines : List (List ℕ)) (line : List ℕ) (stops : Bool) → NoneAsksQuit lines → asks_quit line ≡ stops
    → StopsByQuit (lines ++ line ∷ []) stops
stops-push lines line true going quits = record { earlier = lines; line = line; parts = refl; going = going; quits = quits }
stops-push lines line false going quits = All-push (λ l. asks_quit l ≡ false) lines line going quits
