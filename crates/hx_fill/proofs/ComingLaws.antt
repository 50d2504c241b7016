-- A cell comes. It gives a line to each cell that it dominates and that has none and is no better cell, so afterwards
-- it dominates no other one of these; and cells without a line only become fewer. What came before comes before what
-- still waits.
use Rattle.std.proofs.Common.{◌≡◌, ◌≢◌, ℕ, ◌+◌, ◌<◌, ◌≤◌, true, false, List, length, refl, sym, ◌∙◌, subst, Some, ◌⊎◌}
use Rattle.std.proofs.Common.{inl, inr, ⊎_elim, arith}
use Rattle.std.specs.Prelude.{slice_get, slice_index}
use Rattle.std.specs.declared.option.Option.{Option}
use Rattle.std.proofs.lemmas.Bool.{false≢true, cases_lt, false_from_ne_true}
use Rattle.std.proofs.lemmas.Bool.Decides.{eqb_tells}
use Rattle.std.proofs.lemmas.Option.{slice_get_within, same_Some}
use Rattle.hx_board.specs.declared.colours.Colour.{Colour}
use Rattle.hx_board.specs.Sets.{has, insert, remove, intersection, difference, IsSubset}
use Rattle.hx_board.specs.Cells.{OnBoard, IsLeastOn}
use Rattle.hx_board.specs.Positions.{Board}
use Rattle.hx_board.proofs.SetLaws.{has-empty, has-remove_before, has-insert_cases, has-insert_same, has-insert_other}
use Rattle.hx_board.proofs.SetLaws.{has-intersection_left, has-intersection_both, has-difference_left}
use Rattle.hx_board.proofs.SetLaws.{has-difference_right, has-difference_both, removed, removed_cases, has-remove_other}
use Rattle.hx_board.proofs.SetLaws.{by_member, same_set}
use Rattle.hx_board.proofs.DifferenceLaws.{difference-lt}
use Rattle.hx_inferior.specs.declared.dominations.Kill.{Kill}
use Rattle.hx_inferior.specs.Inferior.{IsDominated}
use Rattle.hx_inferior.proofs.PairLaws.{dominated-worse}
use Rattle.hx_fill.specs.declared.choices.Better.{Better}
use Rattle.hx_fill.specs.Unders.{ComesBefore, Listed, Unlisted, better_for, IsGiven, AreKilled, AreWithKiller}
use Rattle.hx_fill.specs.Unders.{HoldDominated, HasBetter, IsNamed, IsSifted, NoneWaits, IsNext, Comes}

-- ---- the cells that one cell kills

module _ (board : Board) (mover : Colour) (better : ℕ) where
  pub killed_none : (cells : ℕ) (choices : List (Option Better)) → AreKilled board mover better cells cells choices choices 0
  killed_none cells choices = record {
    inside = λ n h. absurd (false≢true (sym (has-empty n) ∙ h));
    given = λ cell h. absurd (false≢true (sym (has-empty cell) ∙ h));
    same = λ cell h. refl;
    rest = λ cell here out. absurd (false≢true (sym out ∙ here));
  }

  module _ (cells left cell killed : ℕ) (before now : List (Option Better))
      (so_far : AreKilled board mover better cells left before now killed) where
    pub killed_one : (kill : Kill) (after : List (Option Better)) → has cells cell ≡ true → IsDominated board mover better cell kill
        → better_for after cell ≡ Some (record { cell = better; kill = kill })
        → ((n : ℕ) → n ≢ cell → better_for after n ≡ better_for now n)
        → AreKilled board mover better cells (remove left cell) before after (insert killed cell)
    killed_one kill after here dominated put others = record {
      inside = λ n h. ⊎_elim (λ (same : n ≡ cell). let P : ℕ → Type 0 = λ x. has cells x ≡ true in subst P (sym same) here)
          (so_far.inside n) (has-insert_cases killed cell n h);
      given = λ n h. ⊎_elim (λ t. new n t.1) (λ t. old n t.1 h) (eqb_tells n cell);
      same = λ n out. others n (differs n out) ∙ so_far.same n (lacked n out);
      rest = λ n in_cells out not_killed how is. ⊎_elim (λ (same : n ≡ cell). differs n not_killed same)
          (λ still. so_far.rest n in_cells still (lacked n not_killed) how is) (removed_cases left cell n out);
    }
      where
        new : (n : ℕ) → n ≡ cell → IsGiven board mover better after n
        new n same = let P : ℕ → Type 0 = λ x. IsGiven board mover better after x in
            subst P (sym same) (record { kill = kill; dominates = dominated; is = put })

        old : (n : ℕ) → n ≢ cell → has (insert killed cell) n ≡ true → IsGiven board mover better after n
        old n differ h = ⊎_elim (λ (same : n ≡ cell). absurd (differ same))
            (λ was. let g = so_far.given n was in record { kill = g.kill; dominates = g.dominates; is = others n differ ∙ g.is })
            (has-insert_cases killed cell n h)

        differs : (n : ℕ) → has (insert killed cell) n ≡ false → n ≢ cell
        differs n out same = false≢true
            (sym out ∙ (let P : ℕ → Type 0 = λ x. has (insert killed cell) x ≡ true in subst P (sym same) (has-insert_same killed cell)))

        lacked : (n : ℕ) → has (insert killed cell) n ≡ false → has killed n ≡ false
        lacked n out = false_from_ne_true _ (λ h. false≢true (sym out ∙ has-insert_other killed cell n h))

    pub killed_not : ((kill : Kill) → IsDominated board mover better cell kill → ⊥)
        → AreKilled board mover better cells (remove left cell) before now killed
    killed_not none = record {
      inside = so_far.inside;
      given = so_far.given;
      same = so_far.same;
      rest = λ n in_cells out not_killed how is. ⊎_elim
          (λ (same : n ≡ cell). none how (let P : ℕ → Type 0 = λ x. IsDominated board mover better x how in subst P same is))
          (λ still. so_far.rest n in_cells still not_killed how is) (removed_cases left cell n out);
    }

  pub killed_all : (cells left killed : ℕ) (before now : List (Option Better))
      → ((n : ℕ) → has cells n ≡ true → has left n ≡ false) → AreKilled board mover better cells left before now killed
      → AreKilled board mover better cells 0 before now killed
  killed_all cells left killed before now none so_far = record {
    inside = so_far.inside;
    given = so_far.given;
    same = so_far.same;
    rest = λ n here _ not_killed how is. so_far.rest n here (none n here) not_killed how is;
  }

  -- only what the cell can be better than need be tried
  pub killed_possible : (without_line free possible killed : ℕ) (sets : List ℕ) (before after : List (Option Better))
      → HoldDominated board mover without_line 0 sets
      → has without_line better ≡ true → IsSubset free without_line → possible ≡ intersection free (slice_index sets better)
      → AreKilled board mover better possible 0 before after killed → AreKilled board mover better free 0 before after killed
  killed_possible without_line free possible killed sets before after holds here inside same kills = record {
    inside = λ n h. has-intersection_left free (slice_index sets better) n (rw same at (kills.inside n h));
    given = kills.given;
    same = kills.same;
    rest = λ n in_free out not_killed how is. kills.rest n
        (rw same (has-intersection_both free (slice_index sets better) n in_free
        (holds.held better n how here (inside n in_free) (has-empty n) is)))
        out not_killed how is;
  }

pub with_killer-none : (betters better killed : ℕ) → killed ≡ 0 → AreWithKiller betters better killed betters
with_killer-none betters better killed none = record {
  before = λ n h. h;
  further = λ cell h. absurd (false≢true (sym (has-empty cell) ∙ (rw none at h)));
  only = λ n h. inl h;
}

pub with_killer-some : (betters better killed : ℕ) → ((cell : ℕ) × (has killed cell ≡ true))
    → AreWithKiller betters better killed (insert betters better)
with_killer-some betters better killed some = record {
  before = λ n h. has-insert_other betters better n h;
  further = λ cell h. has-insert_same betters better;
  only = λ n h. ⊎_elim (λ (same : n ≡ better). inr (same, some)) inl (has-insert_cases betters better n h);
}

-- ---- one cell comes

pub sifted_begins : (board : Board) (mover : Colour) (cells : ℕ) (order : List ℕ) (choices : List (Option Better))
    → IsSifted board mover cells order choices cells cells 0
sifted_begins board mover cells order choices = record {
  inside = λ n h. h;
  waiting_inside = λ n h. h;
  betters_inside = λ n h. absurd (false≢true (sym (has-empty n) ∙ h));
  lined = λ cell here out. absurd (false≢true (sym out ∙ here));
  named = λ better h. absurd (false≢true (sym (has-empty better) ∙ h));
  settled = λ cell here _ other both. absurd (false≢true (sym both.1 ∙ both.0));
  later = λ cell here other all. absurd (false≢true (sym all.1 ∙ all.0));
  in_order = λ cell other here out. absurd (false≢true (sym out ∙ here));
}

module _ (board : Board) (mover : Colour) (cells : ℕ) (order : List ℕ) (choices : List (Option Better)) (without_line waiting betters : ℕ)
    (so_far : IsSifted board mover cells order choices without_line waiting betters)
    (b : ℕ) (here : has waiting b ≡ true) (next : IsNext order waiting b)
    (after : List (Option Better)) (killed betters_next : ℕ)
    (kills : AreKilled board mover b (remove (difference without_line betters) b) 0 choices after killed)
    (grows : AreWithKiller betters b killed betters_next) where
  abbrev pub without_now : ℕ
  without_now = difference without_line killed

  abbrev pub waiting_now : ℕ
  waiting_now = remove (difference waiting killed) b

  b_open : has without_line b ≡ true
  b_open = so_far.waiting_inside b here

  killed_free : (n : ℕ) → has killed n ≡ true → has (difference without_line betters) n ≡ true
  killed_free n h = has-remove_before (difference without_line betters) b n (kills.inside n h)

  killed_open : (n : ℕ) → has killed n ≡ true → has without_line n ≡ true
  killed_open n h = has-difference_left without_line betters n (killed_free n h)

  killed_no_better : (n : ℕ) → has killed n ≡ true → has betters n ≡ false
  killed_no_better n h = has-difference_right without_line betters n (killed_free n h)

  better_not_killed : (n : ℕ) → has betters n ≡ true → has killed n ≡ false
  better_not_killed n h = false_from_ne_true _ (λ k. false≢true (sym (killed_no_better n k) ∙ h))

  b_not_killed : has killed b ≡ false
  b_not_killed = false_from_ne_true _ (λ k. false≢true (sym (removed (difference without_line betters) b) ∙ kills.inside b k))

  was_open : (n : ℕ) → has without_now n ≡ true → has without_line n ≡ true
  was_open n h = has-difference_left without_line killed n h

  not_killed : (n : ℕ) → has without_now n ≡ true → has killed n ≡ false
  not_killed n h = has-difference_right without_line killed n h

  killed_lined : (n : ℕ) → has killed n ≡ true → has without_now n ≡ false
  killed_lined n k = false_from_ne_true _ (λ h. false≢true (sym (not_killed n h) ∙ k))

  lined_not_killed : (n : ℕ) → has without_line n ≡ false → has killed n ≡ false
  lined_not_killed n out = false_from_ne_true _ (λ k. false≢true (sym out ∙ killed_open n k))

  was_waiting : (n : ℕ) → has waiting_now n ≡ true → has waiting n ≡ true
  was_waiting n h = has-difference_left waiting killed n (has-remove_before (difference waiting killed) b n h)

  still_done : (n : ℕ) → has waiting n ≡ false → has waiting_now n ≡ false
  still_done n out = false_from_ne_true _ (λ h. false≢true (sym out ∙ was_waiting n h))

  -- of the cells without a line, what has come now is the cell itself, or came before
  had_come : (n : ℕ) → has without_now n ≡ true → has waiting_now n ≡ false → (n ≡ b) ⊎ (has waiting n ≡ false)
  had_come n h out = ⊎_elim inl
      (λ still. inr (false_from_ne_true _ (λ w. false≢true (sym still ∙ has-difference_both waiting killed n w (not_killed n h)))))
      (removed_cases (difference waiting killed) b n out)

  not_before : (n : ℕ) → ComesBefore order n b → has waiting n ≡ false
  not_before n before = false_from_ne_true _ (λ w. next n w before)

  better_next-cases : (n : ℕ) → has betters_next n ≡ false → has betters n ≡ false
  better_next-cases n out = false_from_ne_true _ (λ h. false≢true (sym out ∙ grows.before n h))

  -- it dominates no cell that keeps no line and is no better cell
  kills_rest : (n : ℕ) → has without_now n ≡ true → has betters n ≡ false → (kill : Kill) → IsDominated board mover b n kill → ⊥
  kills_rest n h no_better kill is =
      kills.rest n (has-remove_other (difference without_line betters) b n (dominated-worse board mover b n kill is).1
      (has-difference_both without_line betters n (was_open n h) no_better))
      (has-empty n) (not_killed n h) kill is

  lined_next : (cell : ℕ) → has cells cell ≡ true → has without_now cell ≡ false
      → HasBetter board mover order after without_now betters_next cell
  lined_next cell in_cells out =
      by_member without_line cell
      (λ was. by_member killed cell (now was)
      (λ not. absurd (false≢true (sym out ∙ has-difference_both without_line killed cell was not)))) before
    where
      now : has without_line cell ≡ true → has killed cell ≡ true → HasBetter board mover order after without_now betters_next cell
      now was k = record {
        better = b;
        given = kills.given cell k;
        among = grows.further cell k;
        first = λ other both kill is.
            so_far.settled cell was (killed_no_better cell k) other (was_open other both.0, not_before other both.1) kill is;
      }

      before : has without_line cell ≡ false → HasBetter board mover order after without_now betters_next cell
      before lined =
          let old = so_far.lined cell in_cells lined in
          let given = old.given in
          record {
            better = old.better;
            given = record {
              kill = given.kill;
              dominates = given.dominates;
              is =
                  kills.same cell (lined_not_killed cell lined) ∙ given.is;
            };
            among = grows.before old.better old.among;
            first = λ other both kill is. old.first other (was_open other both.0, both.1) kill is;
          }

  named_next : (n : ℕ) → has betters_next n ≡ true → (has waiting_now n ≡ false) × IsNamed cells after without_now n
  named_next n h = ⊎_elim before now (grows.only n h)
    where
      before : has betters n ≡ true → (has waiting_now n ≡ false) × IsNamed cells after without_now n
      before old =
          let was = so_far.named n old in
          let name = was.1 in (
            still_done n was.0,
            record {
              worse = name.worse;
              kill = name.kill;
              among = name.among;
              lined = false_from_ne_true _ (λ o. false≢true (sym name.lined ∙ was_open name.worse o));
              is = kills.same name.worse (lined_not_killed name.worse name.lined) ∙ name.is;
            },
          )

      now : (n ≡ b) × ((cell : ℕ) × (has killed cell ≡ true)) → (has waiting_now n ≡ false) × IsNamed cells after without_now n
      now new =
          let cell = new.1.0 in
          let k : has killed cell ≡ true = new.1.1 in
          let given = kills.given cell k in
          let P : ℕ → Type 0 = λ x. (has waiting_now x ≡ false) × IsNamed cells after without_now x in
          subst P (sym new.0) (
            removed (difference waiting killed) b,
            record {
              worse = cell;
              kill = given.kill;
              among = so_far.inside cell (killed_open cell k);
              lined = killed_lined cell k;
              is = given.is;
            },
          )

  pub sifted_next : IsSifted board mover cells order after without_now waiting_now betters_next
  sifted_next = record {
    inside = λ n h. so_far.inside n (was_open n h);
    waiting_inside = λ n h. has-difference_both without_line killed n (so_far.waiting_inside n (was_waiting n h))
        (has-difference_right waiting killed n (has-remove_before (difference waiting killed) b n h));
    betters_inside = λ n h. ⊎_elim
        (λ old. has-difference_both without_line killed n (so_far.betters_inside n old) (better_not_killed n old))
        (λ new. let P : ℕ → Type 0 = λ x. has without_now x ≡ true in
        subst P (sym new.0) (has-difference_both without_line killed b b_open b_not_killed)) (grows.only n h);
    lined = lined_next;
    named = named_next;
    settled = λ cell h no_better other both kill is. ⊎_elim
        (λ (same : other ≡ b). kills_rest cell h (better_next-cases cell no_better) kill
        (let P : ℕ → Type 0 = λ x. IsDominated board mover x cell kill in subst P same is))
        (λ done. so_far.settled cell (was_open cell h) (better_next-cases cell no_better) other
        (was_open other both.0, done) kill is) (had_come other both.0 both.1);
    later = λ cell h other all kill is. ⊎_elim
        (λ (same : other ≡ b). by_member betters cell
        (λ (old : has betters cell ≡ true). so_far.in_order cell b (was_open cell h) (so_far.named cell old).0 here
        (let P : ℕ → Type 0 = λ x. ComesBefore order x cell in subst P same all.2))
        (λ no_better. kills_rest cell h no_better kill (let P : ℕ → Type 0 = λ x. IsDominated board mover x cell kill in subst P same is)))
        (λ done. so_far.later cell (was_open cell h) other (was_open other all.0, done, all.2) kill is) (had_come other all.0 all.1);
    in_order = λ cell other h out w. ⊎_elim
        (λ (same : cell ≡ b). λ before.
        next other (was_waiting other w) (let P : ℕ → Type 0 = λ x. ComesBefore order other x in subst P same before))
        (λ done. so_far.in_order cell other (was_open cell h) done (was_waiting other w)) (had_come cell h out);
  }

pub sifted_goes_on : (board : Board) (mover : Colour) (cells : ℕ) (order : List ℕ) (choices : List (Option Better))
    (without_line waiting betters : ℕ)
    → IsSifted board mover cells order choices without_line waiting betters → (b : ℕ) → has waiting b ≡ true → IsNext order waiting b
    → (after : List (Option Better)) (without_next waiting_next betters_next : ℕ)
    → Comes board mover b choices without_line waiting betters after without_next waiting_next betters_next
    → IsSifted board mover cells order after without_next waiting_next betters_next
sifted_goes_on board mover cells order choices without_line waiting betters so_far b here next after without_next waiting_next
    betters_next comes =
    rw (comes.lines, comes.waits)
    (sifted_next board mover cells order choices without_line waiting betters so_far b here next after comes.killed betters_next
    comes.kills comes.grows)

-- ---- who waits

-- a set inside another one that lacks a member of it is the lesser number
set-lt : (s t n : ℕ) → IsSubset s t → has t n ≡ true → has s n ≡ false → s < t
set-lt s t n inside in_t out = let P : ℕ → Type 0 = λ x. x < t in
    subst P (sym same) (difference-lt t (difference t s) n in_t (has-difference_both t s n in_t out))
  where
    same : s ≡ difference t (difference t s)
    same = same_set s (difference t (difference t s)) (λ k. by_member s k
        (λ h. h ∙ sym (has-difference_both t (difference t s) k (inside k h)
        (false_from_ne_true _ (λ d. false≢true (sym (has-difference_right t s k d) ∙ h)))))
        (λ lacks. lacks ∙ sym (false_from_ne_true _ (λ d. false≢true (sym (has-difference_right t (difference t s) k d)
        ∙ has-difference_both t s k (has-difference_left t (difference t s) k d) lacks)))))

module _ (board : Board) (mover : Colour) (better : ℕ) (before after : List (Option Better))
    (without_line waiting betters without_next waiting_next betters_next : ℕ)
    (comes : Comes board mover better before without_line waiting betters after without_next waiting_next betters_next) where
  pub fewer_wait : IsSubset waiting_next waiting
  fewer_wait n h = has-difference_left waiting comes.killed n
      (has-remove_before (difference waiting comes.killed) better n (rw comes.waits at h))

  pub waits_no_more : has waiting_next better ≡ false
  waits_no_more = rw comes.waits (removed (difference waiting comes.killed) better)

  pub waiting-falls : has waiting better ≡ true → waiting_next < waiting
  waiting-falls h = set-lt waiting_next waiting better fewer_wait h waits_no_more

  pub fewer_lines : IsSubset without_next without_line
  fewer_lines n h = has-difference_left without_line comes.killed n (rw comes.lines at h)

  pub waits_without_line : IsSubset waiting without_line → IsSubset waiting_next without_next
  waits_without_line inside n h =
      let all : has (difference waiting comes.killed) n ≡ true =
      has-remove_before (difference waiting comes.killed) better n (rw comes.waits at h) in
      rw comes.lines (has-difference_both without_line comes.killed n (inside n (has-difference_left waiting comes.killed n all))
      (has-difference_right waiting comes.killed n all))

pub none_waits-more : (order : List ℕ) (count waiting waiting_next cell : ℕ) → slice_get order count ≡ Some cell
    → IsSubset waiting_next waiting → has waiting_next cell ≡ false
    → NoneWaits order count waiting → NoneWaits order (count + 1) waiting_next
none_waits-more order count waiting waiting_next cell there fewer done none k other low at = ⊎_elim
    (λ less. false_from_ne_true _ (λ w. false≢true (sym (none k other less at) ∙ fewer other w)))
    (λ most. last most) (cases_lt k count)
  where
    last : count ≤ k → has waiting_next other ≡ false
    last most =
        let same : k ≡ count = omega arith in
        let P : ℕ → Type 0 = λ x. slice_get order x ≡ Some other in
        let Q : ℕ → Type 0 = λ x. has waiting_next x ≡ false in
        subst Q (same_Some cell other (sym there ∙ subst P same at)) done

-- a cell of the order that still waits is next where all before its place have come
pub next_listed : (order : List ℕ) (place waiting cell : ℕ) → slice_get order place ≡ Some cell → NoneWaits order place waiting
    → IsNext order waiting cell
next_listed order place waiting cell there none other waits (Listed k at lacks) = ⊎_elim
    (λ low. false≢true (sym (none k other low at) ∙ waits)) (λ high. lacks place high there) (cases_lt k place)
next_listed order place waiting cell there none other waits (Unlisted _ lacks _) = lacks place there

-- and where no cell of the order waits, the first one that waits is next
pub next_least : (board : Board) (order : List ℕ) (waiting cell : ℕ) → NoneWaits order (length order) waiting
    → ((n : ℕ) → has waiting n ≡ true → OnBoard board.size n)
    → IsLeastOn board.size waiting cell → IsNext order waiting cell
next_least board order waiting cell none on_board least other waits (Listed k at _) =
    false≢true (sym (none k other (slice_get_within order k other at) at) ∙ waits)
next_least board order waiting cell none on_board least other waits (Unlisted _ _ low) =
    false≢true (sym (least.first other low (on_board other waits)) ∙ waits)

pub none_waits-fewer : (order : List ℕ) (count waiting waiting_next : ℕ) → IsSubset waiting_next waiting
    → NoneWaits order count waiting → NoneWaits order count waiting_next
none_waits-fewer order count waiting waiting_next fewer none k cell low at =
    false_from_ne_true _ (λ w. false≢true (sym (none k cell low at) ∙ fewer cell w))
