-- An end by a limit tells that the lines up to `quit` are not within the limits, and a session that is done tells that
-- they are.
use Rattle.std.proofs.Common.{◌≡◌, ℕ, Bool, true, false, cond, inl, inr, List, [], ◌∷◌, ◌++◌, refl, sym, ap, ◌∙◌, subst}
use Rattle.std.specs.Prelude.{Option}
use Rattle.hx_lines.specs.Lines.{lines_of}
use Rattle.hx_lines.specs.Services.{AreWithinLimits}
use Rattle.hx_lines.proofs.Endings.{not_within_limits}
use Rattle.hx_htp.specs.Accounts.{Account}
use Rattle.hx_htp.specs.Runs.{asks_quit, until_quit}
use Rattle.hx_cmd_htp.specs.Serving.{IsDone, IsTooLong, IsWithinLimits}
use Rattle.hx_cmd_htp.proofs.QuitLaws.{until_quit-append, until_quit-all, until_quit-last}

first_up_to_quit : (line : List ℕ) (later : List (List ℕ)) (quits : Bool)
    → (more : List (List ℕ)) × (cond quits (line ∷ []) (line ∷ until_quit later) ≡ line ∷ more)
first_up_to_quit line later true = ([], refl)
first_up_to_quit line later false = (until_quit later, refl)

pub too_long_above : (start account : Account) (input : List ℕ) (taken now : Option (List ℕ)) → IsTooLong start account input taken now
    → ¬ IsWithinLimits input
too_long_above start account input taken now long within =
    let limit = long.before_limit in
    let first = first_up_to_quit limit.line limit.later (asks_quit limit.line) in
    let up_to : until_quit (lines_of input) ≡ long.lines ++ limit.line ∷ first.0 =
    ap until_quit limit.parts ∙ until_quit-append long.lines (limit.line ∷ limit.later) long.answered.run.1
    ∙ ap (λ (ls : List (List ℕ)). long.lines ++ ls) first.1 in
    not_within_limits long.lines first.0 limit.line limit.above (subst AreWithinLimits up_to within)

pub done_within : (start account : Account) (input : List ℕ) (left taken now : Option (List ℕ)) → IsDone start account left taken now input
    → IsWithinLimits input
done_within start account input left taken now (inl stopped) =
    subst AreWithinLimits
    (sym (ap until_quit stopped.first.parts ∙ until_quit-last stopped.lines stopped.first.later stopped.answered.run.1)) stopped.within
done_within start account input left taken now (inr over) =
    subst AreWithinLimits (sym (until_quit-all (lines_of input) over.answered.run.1)) over.within
