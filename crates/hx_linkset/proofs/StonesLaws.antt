-- Stones that are put one after the other, each on an empty cell. What holds of one stone holds of all of them
-- together.
use Rattle.std.proofs.Common.{◌≡◌, ◌≢◌, ℕ, zero, suc, ◌+◌, ◌<◌, ◌≤◌, List, [], ◌∷◌, ◌++◌, length, take, get_or, refl, sym, ap, ◌∙◌, subst}
use Rattle.std.proofs.Common.{arith}
use Rattle.hx_board.specs.declared.colours.Colour.{Colour}
use Rattle.hx_board.specs.Positions.{Board, IsBoard, IsEmpty, put}
use Rattle.hx_board.specs.Counts.{empty_count}
use Rattle.hx_board.proofs.StoneLaws.{board-put}
use Rattle.hx_board.proofs.EmptyCells.{empty_count-put}
use Rattle.hx_board.proofs.ListLaws.{take-read}
use Rattle.hx_link.specs.declared.links.Link.{Link}
use Rattle.hx_link.specs.declared.steps.Step.{Step}
use Rattle.hx_linkset.specs.States.{State, IsLive, IsRight, CanPut, put_all, played, played_all, LeaveAlone}
use Rattle.hx_linkset.specs.Plays.{HasMore}
use Rattle.hx_linkset.proofs.KeptLaws.{live-played, live-before, untouched-live}
use Rattle.hx_linkset.proofs.RightLaws.{right-played}

-- ---- the next stone

put_all-push : (board : Board) (stones : List (Colour × ℕ)) (stone : Colour × ℕ)
    → put_all board (stones ++ stone ∷ []) ≡ put (put_all board stones) stone.0 stone.1
put_all-push board [] stone = refl
put_all-push board (s ∷ ss) stone = put_all-push (put board s.0 s.1) ss stone

can-push : (board : Board) (stones : List (Colour × ℕ)) (stone : Colour × ℕ) → CanPut board stones → IsEmpty (put_all board stones) stone.1
    → CanPut board (stones ++ stone ∷ [])
can-push board [] stone can e = (e, tt)
can-push board (s ∷ ss) stone can e = (can.0, can-push (put board s.0 s.1) ss stone can.1 e)

can-next : (board : Board) (stones : List (Colour × ℕ)) (k : ℕ) (d : Colour × ℕ) → CanPut board stones → k < length stones
    → IsEmpty (put_all board (take k stones)) (get_or stones k d).1
can-next board [] k d can lt = absurd (omega arith)
can-next board (s ∷ ss) zero d can lt = can.0
can-next board (s ∷ ss) (suc k) d can lt = can-next (put board s.0 s.1) ss k d can.1 (omega arith)

module _ (board : Board) (stones : List (Colour × ℕ)) (k : ℕ) (stone : Colour × ℕ) where
  -- it comes to an empty cell
  pub next-empty : CanPut board stones → k < length stones → stone ≡ get_or stones k stone → IsEmpty (put_all board (take k stones)) stone.1
  next-empty can lt is = let P : Colour × ℕ → Type 0 = λ s. IsEmpty (put_all board (take k stones)) s.1 in
      subst P (sym is) (can-next board stones k stone can lt)

  -- it is put on the board with those before it
  pub next-put : k < length stones → stone ≡ get_or stones k stone
      → put_all board (take (k + 1) stones) ≡ put (put_all board (take k stones)) stone.0 stone.1
  next-put lt is = ap (put_all board) (take-read stones k stone lt is) ∙ put_all-push board (take k stones) stone

  -- and where it comes to an empty cell, it can be put after them
  pub next-can : k < length stones → stone ≡ get_or stones k stone → CanPut board (take k stones)
      → IsEmpty (put_all board (take k stones)) stone.1 → CanPut board (take (k + 1) stones)
  next-can lt is can e = let P : List (Colour × ℕ) → Type 0 = λ ss. CanPut board ss in
      subst P (sym (take-read stones k stone lt is)) (can-push board (take k stones) stone can e)

-- ---- the board after all stones

count-put_all : (board : Board) (stones : List (Colour × ℕ)) → IsBoard board → CanPut board stones
    → empty_count board ≡ length stones + empty_count (put_all board stones)
count-put_all board [] is can = omega arith
count-put_all board (s ∷ ss) is can =
    omega (arith, empty_count-put board s.0 s.1 is can.0, count-put_all (put board s.0 s.1) ss (board-put board s.0 s.1 is can.0) can.1)

-- ---- the links

module _ (player : Colour) (link : Link) where
  pub live-before_all : (board : Board) (stones : List (Colour × ℕ)) → IsLive (put_all board stones) player link → IsLive board player link
  live-before_all board [] live = live
  live-before_all board (s ∷ ss) live = live-before board player s.0 s.1 link (live-before_all (put board s.0 s.1) ss live)

  pub alone-live : (board : Board) (stones : List (Colour × ℕ)) → IsLive (put_all board stones) player link → LeaveAlone player stones link
  alone-live board [] live k d lt = absurd (omega arith)
  alone-live board (s ∷ ss) live zero d lt = untouched-live board player s.0 s.1 link (live-before_all (put board s.0 s.1) ss live)
  alone-live board (s ∷ ss) live (suc k) d lt = alone-live (put board s.0 s.1) ss live k d (omega arith)

  pub live-played_all : (board : Board) (stones : List (Colour × ℕ)) → IsLive board player link → LeaveAlone player stones link
      → IsLive (put_all board stones) player link
  live-played_all board [] live alone = live
  live-played_all board (s ∷ ss) live alone =
      live-played_all (put board s.0 s.1) ss (live-played board player s.0 s.1 link live (alone 0 s (omega arith)))
      (λ k d lt. alone (suc k) d (omega arith))

right-played_all : (player : Colour) (state : State) (stones : List (Colour × ℕ)) → CanPut state.board stones → IsRight player state
    → IsRight player (played_all state stones)
right-played_all player state [] can r = r
right-played_all player state (s ∷ ss) can r =
    right-played_all player (played state s.0 s.1) ss can.1 (right-played player state s.0 s.1 can.0 r)

-- ---- a board with some stones more

some-length : (stones : List (Colour × ℕ)) → stones ≢ [] → 1 ≤ length stones
some-length [] some = absurd (some refl)
some-length (s ∷ ss) some = omega arith

module _ (before after : Board) (more : HasMore before after) where
  pub more-fewer_live : (player : Colour) (link : Link) → IsLive after player link → IsLive before player link
  more-fewer_live player link live = let P : Board → Type 0 = λ b. IsLive b player link in
      live-before_all player link before more.stones (subst P more.after_is live)

  pub more-fewer_empty : IsBoard before → suc (empty_count after) ≤ empty_count before
  more-fewer_empty is =
      omega (arith, count-put_all before more.stones is more.can, some-length more.stones more.some, ap empty_count more.after_is)

  pub more-right : (player : Colour) (links : List Link) (steps : List Step)
      → IsRight player (record { board = before; links = links; steps = steps })
      → IsRight player (record { board = after; links = links; steps = steps })
  more-right player links steps r =
      let P : Board → Type 0 = λ b. IsRight player (record { board = b; links = links; steps = steps }) in
      subst P (sym more.after_is) (right-played_all player (record { board = before; links = links; steps = steps }) more.stones more.can r)
