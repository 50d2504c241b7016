-- What every function of a walk keeps: so do two of them, one after the other.
use Rattle.std.proofs.Common.{◌≡◌, refl, sym, ap, ◌∙◌, ℕ, ◌<◌, ◌≤◌, arith}
use Rattle.hx_count.specs.Machine.{holding, held_in_all}
use Rattle.hx_count.specs.Seats.{Seat, Origin, own as own_account, KeepsSeat}
use Rattle.hx_count.proofs.MachineLaws.{held-holding-le}
use Rattle.hx_linkset.specs.States.{Standing}
use Rattle.hx_known.specs.Views.{View, Goes}
use Rattle.hx_dfpn.specs.declared.sets.Before.{Before}
use Rattle.hx_dfpn.specs.declared.ways.Way.{Way}
use Rattle.hx_dfpn.specs.Keeps.{StandsAgain}
use Rattle.hx_dfpn.specs.Sets.{IsPut, IsBack}
use Rattle.hx_known.proofs.ViewLaws.{goes-itself, goes-on}
use Rattle.hx_dfpn.proofs.KeepLaws.{stands-itself, stands-on, seat-itself, seat-on, put-back}
use Rattle.hx_walk.specs.declared.walks.Walk.{Walk}
use Rattle.hx_walk.specs.Walks.{Keeps, MayHold}

module _ {K G R W : Type 0} (view : K → View) where
  -- where only what a walk may change was changed, and in a way that is kept
  keeps-parts : (walk : Walk K G R W Standing) (now : K) (seat : Seat) (set : Standing) (way : Way)
      → Goes (view walk.known.now) (view now) → KeepsSeat walk.seat.now seat → StandsAgain walk.set set
      → Keeps view walk (record walk {
        known = record walk.known { now = now };
        seat = record walk.seat { now = seat };
        set = set;
        way = way;
      })
  keeps-parts walk now seat set way goes kept stands = record {
    same_worker = refl;
    same_known = refl;
    same_seat = refl;
    goes = goes;
    seat = kept;
    set = stands;
  }

  pub keeps-known : (walk : Walk K G R W Standing) (now : K) → Goes (view walk.known.now) (view now)
      → Keeps view walk (record walk { known = record walk.known { now = now } })
  keeps-known walk now goes =
      keeps-parts walk now walk.seat.now walk.set walk.way goes (seat-itself _) (stands-itself _)

  pub keeps-seat : (walk : Walk K G R W Standing) (now : Seat) → KeepsSeat walk.seat.now now
      → Keeps view walk (record walk { seat = record walk.seat { now = now } })
  keeps-seat walk now kept =
      keeps-parts walk walk.known.now now walk.set walk.way (goes-itself _) kept (stands-itself _)

  -- where a set of links stands again
  pub keeps-set : (walk : Walk K G R W Standing) (set : Standing) → StandsAgain walk.set set
      → Keeps view walk (record walk { set = set })
  keeps-set walk set stands =
      keeps-parts walk walk.known.now walk.seat.now set walk.way (goes-itself _) (seat-itself _) stands

  -- the way down is no matter of what is kept
  pub keeps-way : (walk : Walk K G R W Standing) (way : Way) → Keeps view walk (record walk { way = way })
  keeps-way walk way =
      keeps-parts walk walk.known.now walk.seat.now walk.set way (goes-itself _) (seat-itself _) (stands-itself _)

  pub keeps-itself : (walk : Walk K G R W Standing) → Keeps view walk walk
  keeps-itself walk = keeps-way walk walk.way

  -- the set may be exchanged between the two for one that stands again behind the second
  keeps-exchanged : (first second third : Walk K G R W Standing) (set last : Standing) → Keeps view first second
      → Keeps view (record second { set = set }) third → StandsAgain second.set last
      → Keeps view first (record third { set = last })
  keeps-exchanged first second third set last one two stands = record {
    same_worker = two.same_worker ∙ one.same_worker;
    same_known = two.same_known ∙ one.same_known;
    same_seat = two.same_seat ∙ one.same_seat;
    goes = goes-on _ _ _ one.goes two.goes;
    seat = seat-on _ _ _ one.seat two.seat;
    set = stands-on _ _ _ one.set stands;
  }

  pub keeps-on : (first second third : Walk K G R W Standing) → Keeps view first second → Keeps view second third
      → Keeps view first third
  keeps-on first second third one two = keeps-exchanged first second third second.set third.set one two two.set

  -- a set on which a visit put its stones, and took them back
  pub put-set-keeps : (first second third : Walk K G R W Standing) (before : Before) (put last : Standing)
      → Keeps view first second
      → IsPut before second.set put → Keeps view (record second { set = put }) third → IsBack before third.set last
      → Keeps view first (record third { set = last })
  put-set-keeps first second third before put last one is two back =
      keeps-exchanged first second third put last one two (put-back before _ _ _ _ is two.set back)

  pub kept-may-hold : (first second : Walk K G R W Standing) (count : ℕ) → Keeps view first second → MayHold first count
      → MayHold second count
  kept-may-hold first second count kept may = record {
    made = kept.seat.same_made ∙ may.made ∙ sym kept.same_worker;
    words = ap (λ (counts : Origin). counts.limits.words) kept.same_worker ∙ may.words;
    room = rw kept.seat.same_held may.room;
  }

module _ {K G R W : Type 0} where
  -- what a walk may hold is no matter of what is known
  pub known-may-hold : (walk : Walk K G R W Standing) (now : K) (count : ℕ) → MayHold walk count
      → MayHold (record walk { known = record walk.known { now = now } }) count
  known-may-hold walk now count may = record { made = may.made; words = may.words; room = may.room }

  -- nor of its set
  pub set-may-hold : (walk : Walk K G R W Standing) (set : Standing) (count : ℕ) → MayHold walk count
      → MayHold (record walk { set = set }) count
  set-may-hold walk set count may = record { made = may.made; words = may.words; room = may.room }

  -- who may hold so many words more may hold fewer
  pub fewer-may-hold : (walk : Walk K G R W Standing) (count less : ℕ) → less ≤ count → MayHold walk count
      → MayHold walk less
  fewer-may-hold walk count less is_less may = record {
    made = may.made;
    words = may.words;
    room = omega (arith, may.room, is_less);
  }

  -- a word more is held, and one move less is left
  pub held-may-hold : (first : Walk K G R W Standing) (word depth : ℕ) → MayHold first depth
      → (second : Walk K G R W Standing) (less : ℕ) → less < depth
      → second.worker.now.counts.now ≡ first.worker.now.counts.now → second.seat.now.made ≡ first.seat.now.made
      → own_account second.seat.now ≡ holding word (own_account first.seat.now) → MayHold second less
  held-may-hold first word depth may second less is_less same_counts same_made held = record {
    made = same_made ∙ may.made ∙ sym same_counts;
    words = ap (λ (counts : Origin). counts.limits.words) same_counts ∙ may.words;
    room =
        let sum = ap held_in_all held in
        let more = held-holding-le word (own_account first.seat.now) in
        omega (arith, may.room, sum, more, is_less);
  }

module _ {K G R W : Type 0} (view : K → View) where
  pub kept-may-hold-zero : (first second : Walk K G R W Standing) (count : ℕ) → Keeps view first second
      → MayHold first count → MayHold second 0
  kept-may-hold-zero first second count kept may =
      fewer-may-hold second count 0 (omega arith) (kept-may-hold view _ _ _ kept may)
