-- The lines of a node. The cells that lines answer by a child are gathered line by line. A move to an empty cell that
-- is not to be answered leaves a threat whole; so a better cell is answered exactly where it is one of these or has a
-- child, and lines that are right given these cells are right.
use Rattle.std.proofs.Common.{◌≡◌, ℕ, ◌+◌, ◌<◌, true, List, [], ◌∷◌, ◌++◌, length, take, get_or, sym, ap, ◌∙◌, subst, ◌↔◌, ◌⊎◌, inl, inr}
use Rattle.std.proofs.Common.{⊎_elim, Option, Some, None}
use Rattle.std.specs.Prelude.{slice_get, IfSome, Contains}
use Rattle.std.proofs.lemmas.Bool.{false≢true, cases_Bool}
use Rattle.std.proofs.lemmas.List.Elements.{Contains-push, Contains-push_cases, Contains-append_left}
use Rattle.hx_board.proofs.ListLaws.{take-read}
use Rattle.hx_board.specs.Sets.{has, insert, union, difference}
use Rattle.hx_board.specs.Positions.{Board, IsEmpty}
use Rattle.hx_board.proofs.SetLaws.{has-insert_cases, has-insert_same, has-insert_other, has-union_cases, has-union_left, has-union_right}
use Rattle.hx_board.proofs.SetLaws.{has-difference_left, has-difference_right, has-difference_both}
use Rattle.hx_inferior.specs.declared.dominations.Kill.{Kill}
use Rattle.hx_link.specs.declared.links.Link.{Link}
use Rattle.hx_tree.specs.declared.nodes.Heading.{Heading}
use Rattle.hx_tree.specs.declared.nodes.Line.{Line}
use Rattle.hx_tree.specs.declared.nodes.Line.TheVariants.{Child, Under}
use Rattle.hx_tree.specs.Steps.{AreThreats, IsOutsideThreat}
use Rattle.hx_tree.specs.Answers.{IsToAnswer, HasChild, IsRightLine}
use Rattle.hx_tree.specs.Named.{IsRightGiven}
use Rattle.hx_tree.proofs.ThreatLaws.{shared_or_outside, outside-not_shared, outside-lacks, lacks-outside}

-- ---- the cells that have a child

child_cell : (n m child other : ℕ) → Child n child ≡ Child m other → n ≡ m
child_cell n m child other same = cc

under_no_child : (n better m child : ℕ) (kill : Kill) → Under n better kill ≡ Child m child → ⊥
under_no_child n better m child kill same = cc

module _ (lines : List Line) (k set : ℕ) (line : Line) (less : k < length lines) (is : line ≡ get_or lines k line)
    (before : (n : ℕ) → (has set n ≡ true) ↔ HasChild (take k lines) n) where
  up_to : take (k + 1) lines ≡ take k lines ++ line ∷ []
  up_to = take-read lines k line less is

  was_child : (n : ℕ) → has set n ≡ true → HasChild (take k lines ++ line ∷ []) n
  was_child n member = let was = (before n).0 member in (was.0, Contains-append_left (take k lines) (line ∷ []) (Child n was.0) was.1)

  pub one_child_more : (cell child : ℕ) → line ≡ Child cell child → (n : ℕ) → (has (insert set cell) n ≡ true)
      ↔ HasChild (take (k + 1) lines) n
  one_child_more cell child here n = rw up_to (
    (λ member. ⊎_elim
        (λ (same : n ≡ cell). (
          child,
          subst (λ (l : Line). Contains (take k lines ++ line ∷ []) l) (here ∙ ap (λ (c : ℕ). Child c child) (sym same))
              (Contains-push (take k lines) line),
        ))
        (was_child n)
        (has-insert_cases set cell n member)),
    (λ found. ⊎_elim
        (λ earlier. has-insert_other set cell n ((before n).1 (found.0, earlier)))
        (λ (last : line ≡ Child n found.0). let same : cell ≡ n = child_cell cell n child found.0 (sym here ∙ last) in
        subst (λ (c : ℕ). has (insert set cell) c ≡ true) same (has-insert_same set cell))
        (Contains-push_cases (take k lines) line (Child n found.0) found.1)),
  )

  pub no_child_more : (cell better : ℕ) (kill : Kill) → line ≡ Under cell better kill
      → (n : ℕ) → (has set n ≡ true) ↔ HasChild (take (k + 1) lines) n
  no_child_more cell better kill here n = rw up_to (
    was_child n,
    (λ found. ⊎_elim
        (λ earlier. (before n).1 (found.0, earlier))
        (λ (last : line ≡ Child n found.0). absurd (under_no_child cell better n found.0 kill (sym here ∙ last)))
        (Contains-push_cases (take k lines) line (Child n found.0) found.1)),
  )

-- ---- better cells

module _ (board : Board) (links : List Link) (threats : List ℕ) (lines : List Line) (empties cells children : ℕ)
    (are_empty : (n : ℕ) → (has empties n ≡ true) ↔ IsEmpty board n) (are_threats : AreThreats links threats)
    (are_to_answer : (n : ℕ) → (has cells n ≡ true) ↔ IsToAnswer board links threats n)
    (have_child : (n : ℕ) → (has children n ≡ true) ↔ HasChild lines n) where
  abbrev lost : ℕ
  lost = union (difference empties cells) children

  not_to_answer : (n : ℕ) → has (difference empties cells) n ≡ true → IsOutsideThreat links threats n
  not_to_answer n member = ⊎_elim
      (λ shared. absurd (false≢true (sym (has-difference_right empties cells n member)
      ∙ (are_to_answer n).1 (record { empty = (are_empty n).0 (has-difference_left empties cells n member); shared = shared }))))
      (λ outside. outside)
      (shared_or_outside links threats n are_threats.each)

  outside-member : (n : ℕ) → IsEmpty board n → IsOutsideThreat links threats n → has (difference empties cells) n ≡ true
  outside-member n empty outside = has-difference_both empties cells n ((are_empty n).1 empty) (⊎_elim
      (λ member. absurd (outside-not_shared links threats n outside ((are_to_answer n).0 member).shared))
      (λ none. none)
      (cases_Bool (has cells n)))

  lost-answered : (n : ℕ) → IsEmpty board n → (has lost n ≡ true) ↔ (HasChild lines n ⊎ IsOutsideThreat links threats n)
  lost-answered n empty = (
    (λ member. ⊎_elim (λ left. inr (not_to_answer n left)) (λ child. inl ((have_child n).0 child))
        (has-union_cases (difference empties cells) children n member)),
    (λ answered. ⊎_elim
        (λ child. has-union_right (difference empties cells) children n ((have_child n).1 child))
        (λ outside. has-union_left (difference empties cells) children n (outside-member n empty outside))
        answered),
  )

  module _ (before : List Heading) (heading : Heading) (same : heading.position ≡ board) where
    given-right : (line : Line) → IsRightGiven before heading lost line ↔ IsRightLine before heading links threats lines line
    given-right (Child cell child) = ((λ right. right), (λ right. right))
    given-right (Under cell better kill) = (
      (λ given. (
        given.1,
        ⊎_elim inl (λ outside. inr (outside-lacks links threats better outside))
            ((lost-answered better (subst (λ (b : Board). IsEmpty b better) same given.1.better_empty)).0 given.0),
      )),
      (λ right. (
        (lost-answered better (subst (λ (b : Board). IsEmpty b better) same right.0.better_empty)).1
            (⊎_elim inl (λ lacks. inr (lacks-outside links threats better lacks)) right.1),
        right.0,
      )),
    )

    of_some : (line : Option Line) → IfSome line (IsRightGiven before heading lost)
        ↔ IfSome line (IsRightLine before heading links threats lines)
    of_some None = ((λ t. t), (λ t. t))
    of_some (Some line) = given-right line

    pub all_given-right : ((k : ℕ) → IfSome (slice_get lines k) (IsRightGiven before heading lost))
        ↔ ((k : ℕ) → IfSome (slice_get lines k) (IsRightLine before heading links threats lines))
    all_given-right = ((λ each k. (of_some (slice_get lines k)).0 (each k)), (λ each k. (of_some (slice_get lines k)).1 (each k)))
