-- A round: cell by cell it either fills something, or the cell is settled on the board of its start, which is then
-- still the board.
use Rattle.std.proofs.Common.{◌≡◌, ◌≢◌, ℕ, suc, ◌+◌, ◌<◌, Bool, true, false, List, [], ◌∷◌, ◌++◌, length, length-append, append_assoc, refl}
use Rattle.std.proofs.Common.{sym, ap, ◌∙◌, subst, ⊎_elim, arith, ◌↔◌}
use Rattle.std.proofs.lemmas.Bool.{false≢true, cases_lt}
use Rattle.std.proofs.lemmas.List.{append-nil}
use Rattle.std.proofs.lemmas.List.Elements.{All-nil, All-append, All-push}
use Rattle.hx_board.specs.declared.colours.Colour.{Colour}
use Rattle.hx_board.specs.declared.colours.Colour.TheVariants.{Black, White}
use Rattle.hx_board.specs.Sets.{has, remove}
use Rattle.hx_board.specs.Cells.{OnBoard}
use Rattle.hx_board.specs.Colours.{other_of}
use Rattle.hx_board.specs.Positions.{Board, IsBoard, IsEmpty, put}
use Rattle.hx_board.specs.Counts.{empty_count}
use Rattle.hx_board.proofs.SetLaws.{has-empty, has-remove_before, has-remove_other, removed, removed_cases}
use Rattle.hx_board.proofs.StoneLaws.{empty-put}
use Rattle.hx_inferior.specs.declared.fills.FillStep.TheVariants.{Dead, Pair}
use Rattle.hx_inferior.specs.Inferior.{IsDead, IsPair}
use Rattle.hx_inferior.proofs.PairLaws.{pair-a_empty, pair-b_empty}
use Rattle.hx_fill.specs.declared.fills.Fill.{Fill}
use Rattle.hx_fill.specs.Fills.{IsDeadOrPair, AreDeadOrPairs, FillsTo, HasNone, NothingLeft}
use Rattle.hx_fill.specs.Rounds.{AreAllEmpties, HasNoStoneLess, DoesStep, HasNoFill, LooksAt, Leaves, Fills, IsRound, Still, Further}
use Rattle.hx_fill.proofs.GrowthLaws.{grown-trans}
use Rattle.hx_fill.proofs.FillLaws.{grown-filled, fills_to-append, fills_to-one, fewer_empty}

-- ---- the empty cells

empties-put : (board : Board) (player : Colour) (cell cells : ℕ) → AreAllEmpties board cells
    → AreAllEmpties (put board player cell) (remove cells cell)
empties-put board player cell cells are n = (
  (λ member.
      let other : n ≢ cell = λ same. let P : ℕ → Type 0 = λ k. has (remove cells cell) k ≡ true in
      false≢true (sym (removed cells cell) ∙ subst P same member) in
      (empty-put board player cell n).1 ((are n).0 (has-remove_before cells cell n member), other)),
  (λ empty. let both = (empty-put board player cell n).0 empty in has-remove_other cells cell n both.1 ((are n).1 both.0)),
)

pub empties-dead : (board next : Board) (player : Colour) (cell cells : ℕ) (fills more : List Fill) → AreAllEmpties board cells
    → DoesStep player (Dead cell) board fills next more → AreAllEmpties next (remove cells cell)
empties-dead board next player cell cells fills more are does = rw does.position (empties-put board player cell cells are)

pub empties-pair : (board next : Board) (player : Colour) (a b cells : ℕ) (fills more : List Fill) → AreAllEmpties board cells
    → DoesStep player (Pair a b) board fills next more → AreAllEmpties next (remove (remove cells a) b)
empties-pair board next player a b cells fills more are does =
    rw does.position (empties-put (put board player a) player b (remove cells a) (empties-put board player a cells are))

-- ---- one cell

pub grown-looks : (start board next : Board) (player : Colour) (cell : ℕ) (fills more : List Fill) → HasNoStoneLess start board
    → LooksAt start player cell board fills next more
    → HasNoStoneLess start next
grown-looks start board next player cell fills more grown (Leaves same _ _) = rw same grown
grown-looks start board next player cell fills more grown (Fills step _ _ does) =
    rw does.position (grown-trans _ _ _ grown (grown-filled board player step))

module _ (player : Colour) (board : Board) (fills : List Fill) where
  pub round_begins : (left : ℕ) → ((cell : ℕ) → (has left cell ≡ true) ↔ IsEmpty board cell) → IsRound player left board fills board fills
  round_begins left is = Still refl refl (λ cell empty out. absurd (false≢true (sym out ∙ (is cell).1 empty)))

  -- a cell that got a stone meanwhile
  pub round_passes : (left cell : ℕ) (now : Board) (found : List Fill) → (IsEmpty now cell → ⊥) → IsRound player left board fills now found
      → IsRound player (remove left cell) board fills now found
  round_passes left cell now found held (Still same also settled) =
      Still same also (λ n empty out.
      ⊎_elim (λ (e : n ≡ cell). let P : ℕ → Type 0 = λ x. IsEmpty board x in absurd (held (rw same (subst P e empty))))
      (settled n empty) (removed_cases left cell n out))
  round_passes left cell now found held (Further added some is kinds to) = Further added some is kinds to

  more_than_none : (xs ys : List Fill) → 0 < length xs → 0 < length (xs ++ ys)
  more_than_none xs ys some = let both = length-append xs ys in omega arith

  looked_still : (left cell : ℕ) (now next : Board) (found more : List Fill) → now ≡ board → found ≡ fills
      → ((n : ℕ) → IsEmpty board n → has left n ≡ false → HasNoFill board player board n)
      → LooksAt board player cell now found next more → IsRound player (remove left cell) board fills next more
  looked_still left cell now next found more same also settled (Leaves kept_board kept_fills here) =
      Still (kept_board ∙ same) (kept_fills ∙ also)
      (λ n empty out. ⊎_elim
      (λ (e : n ≡ cell). let P : ℕ → Type 0 = λ x. HasNoFill board player board x in subst P (sym e) (rw same at here))
      (settled n empty) (removed_cases left cell n out))
  looked_still left cell now next found more same also settled (Fills step kind may does) =
      Further (record { colour = player; step = step } ∷ []) (omega arith) (rw also at does.steps)
      (All-push (λ (fill : Fill). IsDeadOrPair fill.step) [] (record { colour = player; step = step })
      (All-nil (λ (fill : Fill). IsDeadOrPair fill.step)) kind)
      (fills_to-one board next player step (rw same at may) (rw same at does.position))

  looked_further : (left cell : ℕ) (now next : Board) (found more added : List Fill) → 0 < length added → found ≡ fills ++ added
      → AreDeadOrPairs added
      → FillsTo board added now → LooksAt board player cell now found next more → IsRound player (remove left cell) board fills next more
  looked_further left cell now next found more added some is kinds to (Leaves kept_board kept_fills here) =
      Further added some (kept_fills ∙ is) kinds (rw kept_board to)
  looked_further left cell now next found more added some is kinds to (Fills step kind may does) =
      let last : List Fill = record { colour = player; step = step } ∷ [] in
      Further (added ++ last) (more_than_none added last some)
      (does.steps ∙ ap (λ (xs : List Fill). xs ++ last) is ∙ append_assoc fills added last)
      (All-push (λ (fill : Fill). IsDeadOrPair fill.step) added (record { colour = player; step = step }) kinds kind)
      (fills_to-append added last board now next to (fills_to-one now next player step may does.position))

  pub round_looks : (left cell : ℕ) (now next : Board) (found more : List Fill) → IsRound player left board fills now found
      → LooksAt board player cell now found next more → IsRound player (remove left cell) board fills next more
  round_looks left cell now next found more (Still same also settled) looks =
      looked_still left cell now next found more same also settled looks
  round_looks left cell now next found more (Further added some is kinds to) looks =
      looked_further left cell now next found more added some is kinds to looks

  pub round_ends : (left : ℕ) (now : Board) (found : List Fill) → ((n : ℕ) → OnBoard board.size n → has left n ≡ false)
      → IsRound player left board fills now found
      → IsRound player 0 board fills now found
  round_ends left now found none (Still same also settled) = Still same also (λ n empty _. settled n empty (none n empty.on_board))
  round_ends left now found none (Further added some is kinds to) = Further added some is kinds to

-- ---- a round after others

none_from : (board : Board) (player : Colour) → ((cell : ℕ) → IsEmpty board cell → has 0 cell ≡ false → HasNoFill board player board cell)
    → HasNone board player
none_from board player settled = record {
  none_dead = λ cell dead. (settled cell dead.empty (has-empty cell)).not_dead dead;
  no_pair = λ a b pair. (settled a (pair-a_empty board player a b pair) (has-empty a)).no_pair b (pair-b_empty board player a b pair) pair;
}

-- what a round added, which may be nothing
pub record Adds (player : Colour) (board : Board) (fills : List Fill) (next : Board) (more : List Fill) : Type 0 where
  pub added : List Fill
  pub is : more ≡ fills ++ added
  pub kinds : AreDeadOrPairs added
  pub to : FillsTo board added next
  pub none : length added ≡ 0 → (next ≡ board) × HasNone board player

pub round-adds : (player : Colour) (board next : Board) (fills more : List Fill) → IsRound player 0 board fills next more
    → Adds player board fills next more
round-adds player board next fills more (Still same also settled) =
    record {
      added = [];
      is = also ∙ sym (append-nil fills);
      kinds = All-nil (λ (fill : Fill). IsDeadOrPair fill.step);
      to = sym same;
      none = λ _. (same, none_from board player settled);
    }
round-adds player board next fills more (Further added some is kinds to) =
    record { added = added; is = is; kinds = kinds; to = to; none = λ none. absurd (omega arith) }

module _ (player : Colour) (board next : Board) (fills more : List Fill) (adds : Adds player board fills next more) where
  lengths : length more ≡ length fills + length adds.added
  lengths = rw adds.is (length-append fills adds.added)

  pub round-right : (start : Board) → FillsTo start fills board → FillsTo start more next
  round-right start to = rw adds.is (fills_to-append fills adds.added start board next to adds.to)

  pub round-kinds : AreDeadOrPairs fills → AreDeadOrPairs more
  round-kinds kinds = rw adds.is (All-append (λ (fill : Fill). IsDeadOrPair fill.step) fills adds.added kinds adds.kinds)

  pub round-none : length more ≡ length fills → (next ≡ board) × HasNone next player
  round-none same =
      let all = lengths in
      let none = adds.none (omega arith) in
      (none.0, rw none.0 none.1)

  pub round-fewer : IsBoard board → (length more ≡ length fills → ⊥) → empty_count next < empty_count board
  round-fewer is grew =
      let all = lengths in
      fewer_empty adds.added board next is adds.to
      (⊎_elim (λ some. some) (λ none. absurd (grew (omega arith))) (cases_lt 0 (length adds.added)))

one_less : (n : ℕ) → n + n < suc (n + n)
one_less n = omega arith

less_and_one : (m n : ℕ) → m < n → suc (m + m) < n + n
less_and_one m n less = omega arith

less_both : (m n : ℕ) → m < n → suc (m + m) < suc (n + n)
less_both m n less = omega arith

-- how many rounds may follow, by the number of empty cells and whether the last round filled nothing
abbrev pub rounds_left : ℕ → Bool → ℕ
rounds_left empties true = empties + empties
rounds_left empties false = suc (empties + empties)

-- the last of two rounds in a row that filled nothing
pub nothing_left-both : (board : Board) (player : Colour) → HasNone board player → HasNone board (other_of player) → NothingLeft board
nothing_left-both board Black this other Black = this
nothing_left-both board Black this other White = other
nothing_left-both board White this other Black = other
nothing_left-both board White this other White = this

module _ (player : Colour) (board next : Board) (fills more : List Fill) (adds : Adds player board fills next more)
    (had_none has_none : Bool) where
  -- a round fills something, or it is the first in a row that does not
  pub fewer_rounds : IsBoard board → (length more ≡ length fills → has_none ≡ true) → (has_none ≡ true → length more ≡ length fills)
      → (has_none ≡ true → had_none ≡ true → ⊥) → rounds_left (empty_count next) has_none < rounds_left (empty_count board) had_none
  fewer_rounds is when_none tells not_both = by_cases has_none had_none when_none tells not_both
    where
      fewer : (length more ≡ length fills → false ≡ true) → empty_count next < empty_count board
      fewer when = round-fewer player board next fills more adds is (λ same. false≢true (when same))

      by_cases : (has had : Bool) → (length more ≡ length fills → has ≡ true) → (has ≡ true → length more ≡ length fills)
          → (has ≡ true → had ≡ true → ⊥)
          → rounds_left (empty_count next) has < rounds_left (empty_count board) had
      by_cases true true when tells not = absurd (not refl refl)
      by_cases true false when tells not = rw (round-none player board next fills more adds (tells refl)).0 (one_less (empty_count board))
      by_cases false true when tells not = less_and_one (empty_count next) (empty_count board) (fewer when)
      by_cases false false when tells not = less_both (empty_count next) (empty_count board) (fewer when)

-- ---- the answer of `fill_at`

pub fills_dead : (start board next : Board) (player : Colour) (cell : ℕ) (fills more : List Fill) → IsDead board player cell
    → DoesStep player (Dead cell) board fills next more → LooksAt start player cell board fills next more
fills_dead start board next player cell fills more dead does = Fills (Dead cell) tt dead does

pub fills_pair : (start board next : Board) (player : Colour) (a b : ℕ) (fills more : List Fill) → IsPair board player a b
    → DoesStep player (Pair a b) board fills next more → LooksAt start player a board fills next more
fills_pair start board next player a b fills more pair does = Fills (Pair a b) tt pair does
