use Rattle.std.proofs.Common.{◌≡◌, ℕ, ◌+◌, ◌<◌, ◌≤◌, List, length, reverse, get_or, refl, sym, ◌∙◌, subst, Some, ⊎_elim, arith}
use Rattle.std.specs.Prelude.{slice_get}
use Rattle.std.proofs.lemmas.Option.{slice_get_read}
use Rattle.hx_board.specs.declared.colours.Colour.{Colour}
use Rattle.hx_board.specs.Positions.{Board, IsBoard}
use Rattle.hx_link.specs.declared.links.Allowed.{Allowed}
use Rattle.hx_link.specs.declared.links.Link.{Link}
use Rattle.hx_link.specs.Steps.{IsAllowed}
use Rattle.hx_linkset.specs.declared.liveness.Losses.{Losses}
use Rattle.hx_linkset.specs.Losses.{AreLosses}
use Rattle.hx_linkset.specs.Rings.{Rings}
use Rattle.hx_linkset.specs.States.{IsLive}
use Rattle.hx_linkset.specs.Held.{head_of, IsIn, IsPassed, AreLiveOrLogged}
use Rattle.hx_linkset.specs.Touches.{Sought, TouchedAreLogged, MayBeNext}
use Rattle.hx_linkset.proofs.DroppedLaws.{in-front}
use Rattle.hx_linkset.proofs.HeadLaws.{live-small}
use Rattle.hx_linkset.proofs.PassLaws.{passed-none, passed-kept, passed-inside, passed-room, passed-dropped, passed-over}
use Rattle.hx_linkset.proofs.TouchLaws.{untouched-live}
use Rattle.hx_linkset.proofs.passes.drop_dead.Goals as goal

-- what is known where the pass comes to the next place
record AtNext (links : List Link) (before after : Board) (player : Colour) (place : ℕ) (link : Link) (old new : Rings)
    (log log' : List ℕ) : Type 0 where
  inside : place < length links
  off : IsIn log' place → ⊥
  there : slice_get links place ≡ Some link
  live : IsLive before player link
  small : head_of link < 30258
  passed : IsPassed links before after player place old new log log'

-- where the links that a play touches up to a place are on the log, and so not live, its pass has come there
passed_to : (losses : Losses) (was now : Allowed) → AreLosses losses was now → (before after : Board) (player : Colour)
    → IsAllowed was before player → IsAllowed now after player → IsBoard before → (sought : Sought) (links : List Link)
    → sought ≡ record { links = links; cells = losses.taken } → (old new : Rings) (log log' : List ℕ) (from place : ℕ) → from ≤ place
    → place ≤ length links → TouchedAreLogged sought log' from place → IsPassed links before after player from old new log log'
    → IsPassed links before after player place old new log log'
passed_to losses was now l before after player was_allowed is_allowed is_board sought links is old new log log' from place low inside logged p =
    let P : Sought → Type 0 = λ s. TouchedAreLogged s log' from place in
    passed-over links before after player old new log log' from place low inside
    (λ other link le lt there live. untouched-live losses was now l before after player was_allowed is_allowed is_board link
    (λ touch. (p.log_ok.out other (subst P is logged other link le lt there touch)).lacks link there (live, λ less. absurd (omega arith)))
    live) p

at_next : (losses : Losses) (was now : Allowed) → AreLosses losses was now → (before after : Board) (player : Colour)
    → IsAllowed was before player → IsAllowed now after player → IsBoard before → (sought : Sought) (links : List Link)
    → sought ≡ record { links = links; cells = losses.taken } → (old new : Rings) (log log' : List ℕ)
    → AreLiveOrLogged before player links log → (from place : ℕ) (link : Link) → MayBeNext sought log' from place
    → link ≡ get_or links place link → IsPassed links before after player from old new log log'
    → AtNext links before after player place link old new log log'
at_next losses was now l before after player was_allowed is_allowed is_board sought links is old new log log' others_live from place link next
    read p =
    let P : Sought → Type 0 = λ s. MayBeNext s log' from place in
    let here = subst P is next in
    let there : slice_get links place ≡ Some link = slice_get_read links (length links) place link refl here.inside read in
    let Q : List ℕ → Type 0 = λ xs. IsIn xs place in
    let live : IsLive before player link = ⊎_elim
    (λ live. live)
    (λ logged. absurd (here.off (subst Q (sym p.logged) (in-front log (reverse p.dropped) place logged))))
    (others_live place link there) in
    record {
      inside = here.inside;
      off = here.off;
      there = there;
      live = live;
      small = live-small before is_board player link live;
      passed = passed_to losses was now l before after player was_allowed is_allowed is_board sought links is old new log log' from place
          here.order (omega (arith, here.inside)) next.before p;
    }

pub loop-place-init : goal.loop-place-init
loop-place-init c = record {
  touched = refl;
  within = omega arith;
  passed = passed-none c.args.links.now c.args.before.now c.args.after.now c.args.player c.args.chains.now c.args.log.now
      c.requires.hold c.requires.log_ok;
}

pub loop-place-preserved-then-not-drops : goal.loop-place-preserved-then-not-drops
loop-place-preserved-then-not-drops c =
    let next = at_next c.losses_of-losses.result _ _ c.losses_of-losses.ensures _ _ _ c.allowed_on-allowed_before.ensures
    c.allowed_on-allowed_after.ensures c.size-size.ensures.valid _ c.args.links.now
    (c.loop-place.invariant.touched ∙ c.touched-touched.ensures) _ _ _ _ c.requires.others_live _ _ c.index-as_slice-place.result
    c.in-Some.ensures.found (rw c.as_slice.ensures at c.index-as_slice-place.is) c.loop-place.invariant.passed in
    record {
      touched = c.in-Some.ensures.same ∙ c.loop-place.invariant.touched;
      within = omega (arith, next.inside);
      passed = passed-kept _ _ _ _ c.in-Some.place c.index-as_slice-place.result next.there _ _ _ _ next.passed
          (c.is_dropped-drops.ensures.kept _ _ _ _ _ c.losses_of-losses.ensures c.allowed_on-allowed_before.ensures
          c.allowed_on-allowed_after.ensures c.if-not-drops.true);
    }

pub returns : goal.returns
returns c =
    let is : c.loop-place.touched ≡ record { links = c.args.links.now; cells = c.losses_of-losses.result.taken } =
    c.loop-place.invariant.touched ∙ c.touched-touched.ensures in
    let P : Sought → Type 0 = λ s. TouchedAreLogged s c.loop-place.log c.loop-place.from (length s.links) in
    passed_to c.losses_of-losses.result _ _ c.losses_of-losses.ensures _ _ _ c.allowed_on-allowed_before.ensures
    c.allowed_on-allowed_after.ensures c.size-size.ensures.valid _ _ refl _ _ _ _ _ _ c.loop-place.invariant.within (omega arith)
    (subst P is c.in_default.ensures.found)
    c.loop-place.invariant.passed

pub unlink-requires : goal.unlink-requires
unlink-requires c =
    let next = at_next c.losses_of-losses.result _ _ c.losses_of-losses.ensures _ _ _ c.allowed_on-allowed_before.ensures
    c.allowed_on-allowed_after.ensures c.size-size.ensures.valid _ c.args.links.now
    (c.loop-place.invariant.touched ∙ c.touched-touched.ensures) _ _ _ _ c.requires.others_live _ _ c.index-as_slice-place.result
    c.in-Some.ensures.found (rw c.as_slice.ensures at c.index-as_slice-place.is) c.loop-place.invariant.passed in
    passed-inside _ _ _ _ c.in-Some.place c.index-as_slice-place.result next.there _ _ _ _ next.passed next.live next.small

pub push-requires-clause-room : goal.push-requires-clause-room
push-requires-clause-room c =
    let next = at_next c.losses_of-losses.result _ _ c.losses_of-losses.ensures _ _ _ c.allowed_on-allowed_before.ensures
    c.allowed_on-allowed_after.ensures c.size-size.ensures.valid _ c.args.links.now
    (c.loop-place.invariant.touched ∙ c.touched-touched.ensures) _ _ _ _ c.requires.others_live _ _ c.index-as_slice-place.result
    c.in-Some.ensures.found (rw c.as_slice.ensures at c.index-as_slice-place.is) c.loop-place.invariant.passed in
    let room : length c.loop-place.log < length c.args.links.now =
    passed-room _ _ _ _ c.in-Some.place c.index-as_slice-place.result next.there _ _ _ _ next.passed next.live next.small in
    omega arith

pub push-requires-clause-off : goal.push-requires-clause-off
push-requires-clause-off c = c.in-Some.ensures.found.off

pub loop-place-preserved : goal.loop-place-preserved
loop-place-preserved c =
    let next = at_next c.losses_of-losses.result _ _ c.losses_of-losses.ensures _ _ _ c.allowed_on-allowed_before.ensures
    c.allowed_on-allowed_after.ensures c.size-size.ensures.valid _ c.args.links.now
    (c.loop-place.invariant.touched ∙ c.touched-touched.ensures) _ _ _ _ c.requires.others_live _ _ c.index-as_slice-place.result
    c.in-Some.ensures.found (rw c.as_slice.ensures at c.index-as_slice-place.is) c.loop-place.invariant.passed in
    let passed : IsPassed _ _ _ _ (c.in-Some.place + 1) _ _ _ _ =
    passed-dropped _ _ _ _ c.in-Some.place c.index-as_slice-place.result next.there _ _ _ _ next.passed next.live next.small
    (c.is_dropped-drops.ensures.dropped _ _ _ _ c.losses_of-losses.ensures c.allowed_on-allowed_after.ensures c.if-not-drops.false) in
    record {
      touched = c.in-Some.ensures.same ∙ c.loop-place.invariant.touched;
      within = omega (arith, next.inside);
      passed = rw (c.unlink.ensures, c.push.ensures) passed;
    }
