-- A right state with one more link that live links give, or with one more stone, is right.
use Rattle.std.proofs.lemmas.List.{take_all, take-append-le}
use Rattle.std.proofs.lemmas.Option.{slice_get_within}
use Rattle.std.proofs.Common.{◌≡◌, ℕ, ◌≤◌, [], ◌∷◌, ◌++◌, length, take, refl, inl, inr, Some, ◌⊎◌, arith, length-append}
use Rattle.std.specs.Prelude.{slice_get}
use Rattle.hx_board.specs.declared.colours.Colour.{Colour}
use Rattle.hx_board.specs.Positions.{IsBoard, IsEmpty, put}
use Rattle.hx_board.proofs.StoneLaws.{board-put}
use Rattle.hx_link.specs.declared.links.Link.{Link}
use Rattle.hx_link.specs.declared.steps.Step.{Step}
use Rattle.hx_linkset.specs.States.{IsLive, IsUntouched, State, GivesFromLive, IsRight, added, played}
use Rattle.hx_board.proofs.ListLaws.{get-push}
use Rattle.hx_linkset.proofs.GivenLaws.{given-from_live}
use Rattle.hx_linkset.proofs.KeptLaws.{live-before, untouched-live, gives-played}

module _ (player : Colour) (state : State) (step : Step) (link : Link) (r : IsRight player state)
    (g : GivesFromLive state.board player state.links step link) where
  given_more : (place : ℕ) (l : Link) (s : Step)
      → (slice_get state.links place ≡ Some l) ⊎ ((place ≡ length state.links) × (l ≡ link))
      → (slice_get state.steps place ≡ Some s) ⊎ ((place ≡ length state.steps) × (s ≡ step))
      → IsLive state.board player l → GivesFromLive state.board player (take place (state.links ++ link ∷ [])) s l
  given_more place l s (inl w) (inl w') live = let le : place ≤ length state.links =
      omega (arith, slice_get_within state.links place l w) in rw take-append-le (r.given place l s w w' live)
  given_more place l s (inl w) (inr w') live = absurd (omega (arith, r.steps_of, slice_get_within state.links place l w, w'.0))
  given_more place l s (inr w) (inl w') live = absurd (omega (arith, r.steps_of, w.0, slice_get_within state.steps place s w'))
  given_more place l s (inr w) (inr w') live =
      let le : length state.links ≤ length state.links = omega arith in
      let all : take place (state.links ++ link ∷ []) ≡ state.links = rw (w.0, take-append-le, take_all) refl in
      rw (all, w.1, w'.1) g

  pub right-added : IsRight player (added state link step)
  right-added = record {
    is_board = r.is_board;
    steps_of = simp length-append (omega (arith, r.steps_of));
    given = λ place l s there there'.
        given_more place l s (get-push state.links link l place there) (get-push state.steps step s place there');
  }

pub right-played : (player : Colour) (state : State) (colour : Colour) (cell : ℕ) → IsEmpty state.board cell → IsRight player state
    → IsRight player (played state colour cell)
right-played player state colour cell e r =
    let is_board : IsBoard (put state.board colour cell) = board-put state.board colour cell r.is_board e in
    record {
      is_board = is_board;
      steps_of = r.steps_of;
      given = λ place l s there there' live.
          let old : IsLive state.board player l = live-before state.board player colour cell l live in
          let untouched : IsUntouched player colour cell l = untouched-live state.board player colour cell l live in
          let was : GivesFromLive state.board player (take place state.links) s l = r.given place l s there there' old in
          given-from_live (put state.board colour cell) player (take place state.links) s l is_board.1
          (gives-played state.board player colour cell l (take place state.links) untouched s was.gives) live;
    }
