-- The steps for a winner. The winner's steps are the same, and the stones of another player's step come one by one onto
-- empty cells; the board after them is the same.
use Rattle.std.proofs.Common.{◌≡◌, ℕ, ◌+◌, ◌<◌, List, [], ◌∷◌, ◌++◌, length, take, get_or, refl, sym, ap, ◌∙◌, subst, append_assoc, ◌↔◌}
use Rattle.std.proofs.lemmas.List.{append-nil, take_more}
use Rattle.std.proofs.lemmas.List.Elements.{All-head, All-tail}
use Rattle.hx_board.specs.declared.colours.Colour.{Colour}
use Rattle.hx_board.specs.declared.colours.Colour.TheVariants.{Black, White}
use Rattle.hx_board.specs.Colours.{other_of}
use Rattle.hx_board.specs.Positions.{Board, IsEmpty, put}
use Rattle.hx_inferior.specs.declared.fills.FillStep.{FillStep}
use Rattle.hx_inferior.specs.declared.fills.FillStep.TheVariants.{Other, Dead, Pair}
use Rattle.hx_inferior.specs.Inferior.{MayFill, filled}
use Rattle.hx_tree.specs.Fills.{LeadTo}
use Rattle.hx_inferior.proofs.PairLaws.{pair-a_empty}
use Rattle.hx_fill.specs.declared.fills.Fill.{Fill}
use Rattle.hx_fill.specs.Fills.{IsDeadOrPair, AreDeadOrPairs, FillsTo, single_stones, winner_steps, winner_steps_all}

lead_to-append : (first second : List FillStep) (board mid final : Board) (winner : Colour) → LeadTo board winner first mid
    → LeadTo mid winner second final
    → LeadTo board winner (first ++ second) final
lead_to-append [] second board mid final winner one two = let P : Board → Type 0 = λ b. LeadTo b winner second final in
    subst P (sym one.same) two
lead_to-append (step ∷ rest) second board mid final winner one two =
    let more : LeadTo (filled board winner step) winner (rest ++ second) final =
    lead_to-append rest second (filled board winner step) mid final winner (record { right = one.right.1; same = one.same }) two in
    record { right = (one.right.0, more.right); same = more.same }

single-lead : (winner who : Colour) → who ≡ other_of winner → (board : Board) (step : FillStep) → IsDeadOrPair step → MayFill board who step
    → LeadTo board winner (single_stones step) (filled board who step)
single-lead winner who is board (Other cell) kind may = absurd kind
single-lead winner who is board (Dead cell) kind may =
    let P : Colour → Type 0 = λ player. LeadTo board winner (single_stones (Dead cell)) (put board player cell) in
    subst P (sym is) (record { right = (may.empty, tt); same = refl })
single-lead winner who is board (Pair a b) kind may =
    let empties : IsEmpty board a × IsEmpty (put board who a) b = (pair-a_empty board who a b may, may.b_dead.empty) in
    let P : Colour → Type 0 = λ player. IsEmpty board a × IsEmpty (put board player a) b
    → LeadTo board winner (single_stones (Pair a b)) (put (put board player a) player b) in
    subst P (sym is) (λ (both : IsEmpty board a × IsEmpty (put board (other_of winner) a) b).
    record { right = (both.0, (both.1, tt)); same = refl }) empties

step-leads : (winner who : Colour) (board : Board) (step : FillStep) → IsDeadOrPair step → MayFill board who step
    → LeadTo board winner (winner_steps winner who step) (filled board who step)
step-leads Black Black board step kind may = record { right = (may, tt); same = refl }
step-leads Black White board step kind may = single-lead Black White refl board step kind may
step-leads White Black board step kind may = single-lead White Black refl board step kind may
step-leads White White board step kind may = record { right = (may, tt); same = refl }

pub winner_steps-lead : (winner : Colour) (fills : List Fill) → AreDeadOrPairs fills → (board final : Board) → FillsTo board fills final
    → LeadTo board winner (winner_steps_all winner fills) final
winner_steps-lead winner [] kinds board final to = record { right = tt; same = to }
winner_steps-lead winner (fill ∷ rest) kinds board final to =
    lead_to-append (winner_steps winner fill.colour fill.step) (winner_steps_all winner rest) board
    (filled board fill.colour fill.step) final winner
    (step-leads winner fill.colour board fill.step (All-head (λ (each : Fill). IsDeadOrPair each.step) fill rest kinds) to.0)
    (winner_steps-lead winner rest (All-tail (λ (each : Fill). IsDeadOrPair each.step) fill rest kinds)
    (filled board fill.colour fill.step) final to.1)

-- ---- no step

single-some : (step : FillStep) → IsDeadOrPair step → single_stones step ≡ [] → ⊥
single-some (Other cell) kind none = kind
single-some (Dead cell) kind none = cc
single-some (Pair a b) kind none = cc

some_steps : (winner who : Colour) (step : FillStep) → IsDeadOrPair step → winner_steps winner who step ≡ [] → ⊥
some_steps Black Black step kind none = cc
some_steps Black White step kind none = single-some step kind none
some_steps White Black step kind none = single-some step kind none
some_steps White White step kind none = cc

none_first : (first second : List FillStep) → first ++ second ≡ [] → first ≡ []
none_first [] second none = refl
none_first (step ∷ rest) second none = cc

-- the steps are none exactly where the fills are
pub winner_steps_all-none : (winner : Colour) (fills : List Fill) → AreDeadOrPairs fills → (winner_steps_all winner fills ≡ [])
    ↔ (fills ≡ [])
winner_steps_all-none winner [] kinds = ((λ _. refl), (λ _. refl))
winner_steps_all-none winner (fill ∷ rest) kinds = (
  (λ none. absurd (some_steps winner fill.colour fill.step (All-head (λ (each : Fill). IsDeadOrPair each.step) fill rest kinds)
      (none_first (winner_steps winner fill.colour fill.step) (winner_steps_all winner rest) none))),
  (λ none. cc),
)

-- ---- one step after the other

pub winner_steps_all-push : (winner : Colour) (fills : List Fill) (fill : Fill)
    → winner_steps_all winner (fills ++ fill ∷ []) ≡ winner_steps_all winner fills ++ winner_steps winner fill.colour fill.step
winner_steps_all-push winner [] fill = append-nil (winner_steps winner fill.colour fill.step)
winner_steps_all-push winner (first ∷ rest) fill =
    ap (λ (xs : List FillStep). winner_steps winner first.colour first.step ++ xs) (winner_steps_all-push winner rest fill)
    ∙ sym (append_assoc (winner_steps winner first.colour first.step) (winner_steps_all winner rest)
    (winner_steps winner fill.colour fill.step))

-- with one step more of a list
pub winner_steps_all-more : (winner : Colour) (fills : List Fill) (i : ℕ) (fill : Fill) → i < length fills → fill ≡ get_or fills i fill
    → winner_steps_all winner (take (i + 1) fills) ≡ winner_steps_all winner (take i fills) ++ winner_steps winner fill.colour fill.step
winner_steps_all-more winner fills i fill lt is =
    ap (winner_steps_all winner) (take_more fills i fill lt ∙ ap (λ (x : Fill). take i fills ++ x ∷ []) (sym is))
    ∙ winner_steps_all-push winner (take i fills) fill
