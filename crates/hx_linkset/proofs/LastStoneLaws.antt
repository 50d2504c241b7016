-- What stood before the stones that were put since the last link came, and which links they dropped: play by play back
-- to the first of them, the boards are those before these stones, and the log has what they dropped.
use Rattle.std.proofs.lemmas.Bool.{ne_eqb}
use Rattle.std.proofs.lemmas.Bool.Decides.{eqb_tells}
use Rattle.std.proofs.lemmas.List.{length-take-le, take_all, drop_all, take-append-drop, drop-append-le}
use Rattle.std.proofs.lemmas.List.Folds.{list_any_at}
use Rattle.std.proofs.lemmas.Map.Views.{Contains-from_any}
use Rattle.std.proofs.lemmas.Option.{slice_get_within}
use Rattle.std.proofs.Common.{◌≡◌, ◌≢◌, ℕ, ◌≤◌, ◌==◌, true, false, List, [], ◌∷◌, ◌++◌, length, take, drop, reverse, get_or, refl, sym, ◌∙◌}
use Rattle.std.proofs.Common.{ap, subst, if◌then◌else◌, ⊎_elim, arith, eqb, eqb-true, eq-eqb}
use Rattle.hx_board.specs.declared.colours.Colour.{Colour}
use Rattle.hx_board.specs.Positions.{Board}
use Rattle.hx_link.specs.declared.links.Link.{Link}
use Rattle.hx_link.specs.declared.steps.Step.{Step}
use Rattle.hx_linkset.specs.declared.plays.Stage.{Stage}
use Rattle.hx_linkset.specs.States.{State, IsLive}
use Rattle.hx_linkset.specs.Plays.{undone, past_of, Stands, stage_before, standing}
use Rattle.hx_linkset.specs.LastStones.{board_before, AreDropped}
use Rattle.hx_linkset.specs.Rings.{Rings}
use Rattle.hx_linkset.specs.Held.{IsIn}
use Rattle.hx_linkset.specs.History.{HasDropped, HoldsLive, HasHistory}
use Rattle.hx_linkset.proofs.DroppedLaws.{in-drop, distinct-drop, dropped-none, dropped-both}
use Rattle.hx_linkset.proofs.HistoryLaws.{holds-now}

-- ---- the test of a play's count

chosen : {A : Type 0} (x y : A) (a b : ℕ) → a ≡ b → (if a == b then x else y) ≡ x
chosen x y a b same =
    ⊎_elim (λ (is : (eqb a b ≡ true) × (a ≡ b)). ap (λ c. if c then x else y) is.0)
    (λ (is : (eqb a b ≡ false) × (a ≢ b)). absurd (is.1 same)) (eqb_tells a b)

left_out : {A : Type 0} (x y : A) (a b : ℕ) → a ≢ b → (if a == b then x else y) ≡ y
left_out x y a b differ = ap (λ c. if c then x else y) (ne_eqb a b differ)

-- either the play came after the last link, or before it
by_count : {P : Type 0} (a b : ℕ) → (a ≡ b → P) → (a ≢ b → P) → P
by_count a b f g = ⊎_elim (λ (is : (eqb a b ≡ true) × (a ≡ b)). f is.1) (λ (is : (eqb a b ≡ false) × (a ≢ b)). g is.1) (eqb_tells a b)

-- ---- the board

-- so many links stood before a play as it says
count-undone : (state : State) (play : Stage) → play.count ≤ length state.links → length (undone state play).links ≡ play.count
count-undone state play le = length-take-le play.count state.links le

pub board-before : (player : Colour) (now : Stage) (state : State) (plays : List Stage) → Stands player state plays
    → (stage_before now plays).position ≡ board_before now.count now.position (past_of state plays)
board-before player now state [] s = refl
board-before player now state (play ∷ plays) s = by_count play.count now.count
    (λ same.
    ap (λ (first : Stage). first.position) (chosen (stage_before play plays) now play.count now.count same)
    ∙ (board-before player play (undone state play) plays s.1.1
    ∙ (ap (λ n. board_before n play.position (past_of (undone state play) plays)) same
    ∙ sym (chosen _ _ _ _ (count-undone state play s.1.0 ∙ same)))))
    (λ differ.
    ap (λ (first : Stage). first.position) (left_out (stage_before play plays) now play.count now.count differ)
    ∙ sym (left_out _ _ _ _ (λ same. differ (sym (count-undone state play s.1.0) ∙ same))))

-- ---- the log

-- what the log has from a stage on is what was dropped since
abbrev IsSince : Colour → List Link → Board → List ℕ → Stage → Type 0
IsSince player links board log first = (first.logged ≤ length log) × HasDropped player links first.position board (drop first.logged log)

module _ (player : Colour) where
  -- since a stage at which all is as it is now, nothing was dropped
  since-now : (now : Stage) (board : Board) (links : List Link) (log : List ℕ) → now.position ≡ board → now.logged ≡ length log
      → IsSince player links board log now
  since-now now board links log at logs =
      (omega (arith, logs), dropped-none player links board now.position _ at (drop_all now.logged log (omega (arith, logs))))

  -- since a stage before a play that came after the last link
  since-play : (first play : Stage) (board : Board) (links : List Link) (log : List ℕ) → play.count ≡ length links
      → play.logged ≤ length log → HasDropped player (take play.count links) play.position board (drop play.logged log)
      → IsSince player (take play.count links) play.position (take play.logged log) first → IsSince player links board log first
  since-play first play board links log counts fits dropped earlier =
      let front : take play.count links ≡ links = take_all play.count links (omega (arith, counts)) in
      let older : List ℕ = take play.logged log in
      let newer : List ℕ = drop play.logged log in
      let L : List Link → Type 0 = λ ls. HasDropped player ls first.position play.position (drop first.logged older) in
      let M : List Link → Type 0 = λ ls. HasDropped player ls play.position board newer in
      let both : HasDropped player links first.position board (drop first.logged older ++ newer) =
      dropped-both player links first.position play.position board (drop first.logged older) newer (subst L front earlier.1)
      (subst M front dropped) in
      let joined : drop first.logged log ≡ drop first.logged older ++ newer =
      ap (λ (xs : List ℕ). drop first.logged xs) (sym (take-append-drop play.logged log))
      ∙ drop-append-le first.logged older newer earlier.0 in
      let D : List ℕ → Type 0 = λ xs. HasDropped player links first.position board xs in
      (omega (arith, earlier.0, length-take-le play.logged log fits, fits), subst D (sym joined) both)

  since-last : (now : Stage) (board : Board) (links : List Link) (rings : Rings) (log : List ℕ) (plays : List Stage) → now.position ≡ board
      → now.count ≡ length links → now.logged ≡ length log → HasHistory player board links rings log plays
      → IsSince player links board log (stage_before now plays)
  since-last now board links rings log [] at counts logs h = since-now now board links log at logs
  since-last now board links rings log (play ∷ plays) at counts logs h =
      let Is : Stage → Type 0 = λ first. IsSince player links board log first in
      by_count play.count now.count
      (λ same.
      let here : play.count ≡ length links = same ∙ counts in
      let le : play.count ≤ length links = omega (arith, here) in
      let earlier : IsSince player (take play.count links) play.position (take play.logged log) (stage_before play plays) =
      since-last play play.position (take play.count links) _ (take play.logged log) plays refl (sym (length-take-le play.count links le))
      (sym (length-take-le play.logged log h.1.0.fits)) h.1.1.1 in
      subst Is (sym (chosen (stage_before play plays) now play.count now.count same))
      (since-play (stage_before play plays) play board links log here h.1.0.fits h.1.1.0 earlier))
      (λ differ. subst Is (sym (left_out (stage_before play plays) now play.count now.count differ))
      (since-now now board links log at logs))

-- the log from the stage on that was before the last stones names exactly the links that they dropped
module _ (player : Colour) (board : Board) (links : List Link) (steps : List Step) (plays : List Stage) (rings : Rings) (log : List ℕ)
    (s : Stands player (record { board = board; links = links; steps = steps }) (reverse plays))
    (h : HasHistory player board links rings log (reverse plays)) where
  abbrev now : Stage
  now = record { position = board; count = length links; logged = length log }

  abbrev first : Stage
  first = stage_before now (reverse plays)

  pub since : IsSince player links board log first
  since = since-last player now board links rings log (reverse plays) refl refl refl h

  holds : HoldsLive player board links rings log
  holds = holds-now player board links rings log (reverse plays) h

  abbrev state : State
  state = record { board = board; links = links; steps = steps }

  pub board-first : first.position ≡ board_before (length links) board (past_of state (reverse plays))
  board-first = board-before player now state (reverse plays) s

  pub dropped-are : AreDropped (standing player state plays) (drop first.logged log)
  dropped-are = record {
    distinct = distinct-drop first.logged log holds.log_ok.distinct;
    each = λ k d lt.
        let place : ℕ = get_or (drop first.logged log) k d in
        let there : IsIn (drop first.logged log) place = list_any_at (eqb place) (drop first.logged log) k d lt (eq-eqb place place refl) in
        let w = since.1.all_dropped.were_live place there in
        let P : Board → Type 0 = λ b. IsLive b player w.0 in
        record {
          link = w.0;
          there = w.1.0;
          was_live = subst P board-first w.1.1;
          is_dead = λ live. (holds.log_ok.out place (in-drop first.logged log place there)).lacks w.0 w.1.0 live;
        };
    all = λ place d.
        let P : Board → Type 0 = λ b. IsLive b player d.link in
        Contains-from_any eqb-true place (drop first.logged log)
        (⊎_elim (λ live. absurd (d.is_dead live)) (λ k. k)
        (since.1.all_dropped.all place d.link d.there (slice_get_within links place d.link d.there)
        (subst P (sym board-first) d.was_live)));
  }
