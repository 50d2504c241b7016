-- What every function of a search keeps: so do two of them, one after the other.
use Rattle.std.proofs.Common.{◌≡◌, refl, sym, ap, ◌∙◌, ℕ, ◌<◌, List, [], ◌∷◌, arith}
use Rattle.hx_count.specs.Machine.{Account, holding, releasing, held_in_all}
use Rattle.hx_count.specs.Seats.{Seat, Origin, own as own_account}
use Rattle.hx_count.proofs.MachineLaws.{held-holding-le, releasing-held}
use Rattle.hx_linkset.specs.States.{State, Standing}
use Rattle.hx_reach.specs.Growth.{IsGrown}
use Rattle.hx_count.specs.Seats.{KeepsSeat}
use Rattle.hx_known.specs.Views.{View, Goes}
use Rattle.hx_known.proofs.ViewLaws.{goes-itself, goes-on}
use Rattle.hx_dfpn.specs.declared.searches.Search.{Search}
use Rattle.hx_dfpn.specs.declared.sets.Before.{Before}
use Rattle.hx_dfpn.specs.declared.sets.Before.TheVariants.{Played, Same, Other}
use Rattle.hx_dfpn.specs.declared.ways.Way.{Way}
use Rattle.hx_dfpn.specs.Keeps.{StandsAgain}
use Rattle.hx_dfpn.specs.Sets.{IsPut, HasPlay, IsBack}
use Rattle.hx_dfpn.specs.Searches.{Keeps, MayHold}

pub stands-itself : (set : Standing) → StandsAgain set set
stands-itself set = record { same_player = refl; same_board = refl; same_past = refl }

pub stands-same : (old new : Standing) → new ≡ old → StandsAgain old new
stands-same old new same = record {
  same_player = ap (λ (set : Standing). set.player) same;
  same_board = ap (λ (set : Standing). set.present.board) same;
  same_past = ap (λ (set : Standing). set.past) same;
}

pub stands-on : (first second third : Standing) → StandsAgain first second → StandsAgain second third → StandsAgain first third
stands-on first second third one two = record {
  same_player = two.same_player ∙ one.same_player;
  same_board = two.same_board ∙ one.same_board;
  same_past = two.same_past ∙ one.same_past;
}

-- a set to which links were added stands as it stood
pub grown-stands : (old new : Standing) → IsGrown old new → StandsAgain old new
grown-stands old new grown = record {
  same_player = grown.same_player;
  same_board = grown.same_board;
  same_past = grown.same_past;
}

pub seat-itself : (seat : Seat) → KeepsSeat seat seat
seat-itself seat = record { same_made = refl; same_held = refl; still_refused = λ is. is }

pub seat-on : (first second third : Seat) → KeepsSeat first second → KeepsSeat second third → KeepsSeat first third
seat-on first second third one two = record {
  same_made = two.same_made ∙ one.same_made;
  same_held = two.same_held ∙ one.same_held;
  still_refused = λ is. two.still_refused (one.still_refused is);
}

-- a set that was moved to another place, stood there, and was moved back
pub stands-moved : (old moved stood last : Standing) → moved ≡ old → StandsAgain moved stood → last ≡ stood → StandsAgain old last
stands-moved old moved stood last there stands back =
    stands-on _ _ _ (stands-on _ _ _ (stands-same _ _ there) stands) (stands-same _ _ back)

-- a word is held, a visit keeps the seat, and the word is released
pub release-keeps : (before held visited after : Seat) (word : ℕ) → held.made ≡ before.made
    → own_account held ≡ holding word (own_account before)
    → KeepsSeat held visited → after.made ≡ visited.made → own_account after ≡ releasing word (own_account visited) → KeepsSeat before after
release-keeps before held visited after word made_held own_held visit made_after own_after = record {
  same_made = made_after ∙ visit.same_made ∙ made_held;
  same_held =
      ap (λ (a : Account). a.held) own_after
      ∙ releasing-held word (own_account before) (own_account visited) (visit.same_held ∙ ap (λ (a : Account). a.held) own_held);
  still_refused = λ is. ap (λ (a : Account). a.refused) own_after ∙ visit.still_refused (ap (λ (a : Account). a.refused) own_held ∙ is);
}

module _ {K G R W : Type 0} (view : K → View) where
  -- where only what a search may change was changed, and in a way that is kept
  keeps-parts : (search : Search K G R W Standing) (now : K) (seat : Seat) (workspace : W) (own others : Standing) (way : Way)
      → Goes (view search.known.now) (view now) → KeepsSeat search.seat.now seat → StandsAgain search.own own
      → StandsAgain search.others others → Keeps view search (record search {
        known = record search.known { now = now };
        seat = record search.seat { now = seat };
        workspace = workspace;
        own = own;
        others = others;
        way = way;
      })
  keeps-parts search now seat workspace own others way goes kept own_stands others_stand = record {
    same_worker = refl;
    same_known = refl;
    same_seat = refl;
    goes = goes;
    seat = kept;
    own = own_stands;
    others = others_stand;
  }

  pub keeps-known : (search : Search K G R W Standing) (now : K) → Goes (view search.known.now) (view now)
      → Keeps view search (record search { known = record search.known { now = now } })
  keeps-known search now goes =
      keeps-parts search now search.seat.now search.workspace search.own search.others search.way
      goes (seat-itself _) (stands-itself _) (stands-itself _)

  pub keeps-seat : (search : Search K G R W Standing) (now : Seat) → KeepsSeat search.seat.now now
      → Keeps view search (record search { seat = record search.seat { now = now } })
  keeps-seat search now kept =
      keeps-parts search search.known.now now search.workspace search.own search.others search.way
      (goes-itself _) kept (stands-itself _) (stands-itself _)

  -- the mover's set stands as it stood, whatever is in the workspace
  pub keeps-own : (search : Search K G R W Standing) (workspace : W) (own : Standing) → StandsAgain search.own own
      → Keeps view search (record search { workspace = workspace; own = own })
  keeps-own search workspace own stands =
      keeps-parts search search.known.now search.seat.now workspace own search.others search.way
      (goes-itself _) (seat-itself _) stands (stands-itself _)

  -- the same of the other player's set
  pub keeps-others : (search : Search K G R W Standing) (workspace : W) (others : Standing) → StandsAgain search.others others
      → Keeps view search (record search { workspace = workspace; others = others })
  keeps-others search workspace others stands =
      keeps-parts search search.known.now search.seat.now workspace search.own others search.way
      (goes-itself _) (seat-itself _) (stands-itself _) stands

  -- the way down is no matter of what is kept
  pub keeps-way : (search : Search K G R W Standing) (way : Way) → Keeps view search (record search { way = way })
  keeps-way search way =
      keeps-parts search search.known.now search.seat.now search.workspace search.own search.others way
      (goes-itself _) (seat-itself _) (stands-itself _) (stands-itself _)

  pub keeps-itself : (search : Search K G R W Standing) → Keeps view search search
  keeps-itself search = keeps-way search search.way

  -- each set may be exchanged between the two for one that stands again behind the second
  keeps-exchanged : (first second third : Search K G R W Standing) (own others own_last others_last : Standing) → Keeps view first second
      → Keeps view (record second { own = own; others = others }) third → StandsAgain second.own own_last
      → StandsAgain second.others others_last → Keeps view first (record third { own = own_last; others = others_last })
  keeps-exchanged first second third own others own_last others_last one two own_stands others_stand = record {
    same_worker = two.same_worker ∙ one.same_worker;
    same_known = two.same_known ∙ one.same_known;
    same_seat = two.same_seat ∙ one.same_seat;
    goes = goes-on _ _ _ one.goes two.goes;
    seat = seat-on _ _ _ one.seat two.seat;
    own = stands-on _ _ _ one.own own_stands;
    others = stands-on _ _ _ one.others others_stand;
  }

  pub keeps-on : (first second third : Search K G R W Standing) → Keeps view first second → Keeps view second third
      → Keeps view first third
  keeps-on first second third one two =
      keeps-exchanged first second third second.own second.others third.own third.others one two two.own two.others

-- a set on which a visit put its stones, and took them back
pub put-back : (before : Before) (old put played last : Standing) → IsPut before old put → StandsAgain put played
    → IsBack before played last
    → StandsAgain old last
put-back Played old put played last is stands back =
    let lists : old.present ∷ old.past ≡ last.present ∷ last.past = sym is.same_past ∙ sym stands.same_past ∙ back.back in
    let present : last.present ≡ old.present = cc in
    let past : last.past ≡ old.past = cc in record {
      same_player = back.same_player ∙ stands.same_player ∙ is.same_player;
      same_board = ap (λ (state : State). state.board) present;
      same_past = past;
    }
put-back Same old put played last is stands back = stands-moved _ _ _ _ is stands back
put-back (Other set) old put played last is stands back = stands-same _ _ (back ∙ is)

-- what a visit put can be taken back after the visits that came in between
pub has-play : (before : Before) (old put played : Standing) → IsPut before old put → StandsAgain put played → HasPlay before played
has-play Played old put played is stands = λ none.
    let lists : old.present ∷ old.past ≡ [] = sym is.same_past ∙ sym stands.same_past ∙ none in cc
has-play Same old put played is stands = tt
has-play (Other set) old put played is stands = tt

module _ {K G R W : Type 0} (view : K → View) where
  -- the same of the mover's set, in a search
  pub put-own-keeps : (first second third : Search K G R W Standing) (before : Before) (put last : Standing) → Keeps view first second
      → IsPut before second.own put → Keeps view (record second { own = put }) third → IsBack before third.own last
      → Keeps view first (record third { own = last })
  put-own-keeps first second third before put last one is two back =
      keeps-exchanged view first second third put second.others last third.others one two
      (put-back before _ _ _ _ is two.own back) two.others

  -- the same of the other player's set
  pub put-others-keeps : (first second third : Search K G R W Standing) (before : Before) (put last : Standing) → Keeps view first second
      → IsPut before second.others put → Keeps view (record second { others = put }) third → IsBack before third.others last
      → Keeps view first (record third { others = last })
  put-others-keeps first second third before put last one is two back =
      keeps-exchanged view first second third second.own put third.own last one two
      two.own (put-back before _ _ _ _ is two.others back)

module _ {K G R W : Type 0} where
  -- what a search may hold is no matter of its sets
  pub own-may-hold : (search : Search K G R W Standing) (set : Standing) (count : ℕ) → MayHold search count
      → MayHold (record search { own = set }) count
  own-may-hold search set count may = record { made = may.made; words = may.words; room = may.room }

  pub others-may-hold : (search : Search K G R W Standing) (set : Standing) (count : ℕ) → MayHold search count
      → MayHold (record search { others = set }) count
  others-may-hold search set count may = record { made = may.made; words = may.words; room = may.room }

  -- a word more is held, and one move less is left
  pub held-may-hold : (first : Search K G R W Standing) (word depth : ℕ) → MayHold first depth
      → (second : Search K G R W Standing) (less : ℕ) → less < depth
      → second.worker.now.counts.now ≡ first.worker.now.counts.now → second.seat.now.made ≡ first.seat.now.made
      → own_account second.seat.now ≡ holding word (own_account first.seat.now) → MayHold second less
  held-may-hold first word depth may second less is_less same_counts same_made held = record {
    made = same_made ∙ may.made ∙ sym same_counts;
    words = ap (λ (counts : Origin). counts.limits.words) same_counts ∙ may.words;
    room =
        let sum = ap held_in_all held in
        let more = held-holding-le word (own_account first.seat.now) in
        omega (arith, may.room, sum, more, is_less);
  }

module _ {K G R W : Type 0} (view : K → View) where
  pub kept-may-hold : (first second : Search K G R W Standing) (count : ℕ) → Keeps view first second → MayHold first count
      → MayHold second count
  kept-may-hold first second count kept may = record {
    made = kept.seat.same_made ∙ may.made ∙ sym kept.same_worker;
    words = ap (λ (counts : Origin). counts.limits.words) kept.same_worker ∙ may.words;
    room = rw kept.seat.same_held may.room;
  }
