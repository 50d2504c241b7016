-- What is joined after one more stone of the player: what was joined before, and any two that both were joined with the
-- stone's cell. A walk that comes over the cell leads to it and goes on from it.
use Rattle.std.proofs.Common.{◌≡◌, ℕ, List, [], ◌∷◌, refl, ap, subst, ◌⊎◌, inl, inr, ⊎_elim}
use Rattle.hx_board.specs.declared.colours.Colour.{Colour}
use Rattle.hx_board.specs.declared.vertices.Vertex.{Vertex}
use Rattle.hx_board.specs.declared.vertices.Vertex.TheVariants.{Of, First, Last}
use Rattle.hx_board.specs.Positions.{Board, put}
use Rattle.hx_board.specs.Graph.{IsOwn, Touches, Walk, Joined}
use Rattle.hx_board.proofs.StoneLaws.{size-put, stones-put}
use Rattle.hx_board.proofs.KeptStones.{keeps_put, joined_stays}
use Rattle.hx_board.proofs.Joins.{joined-over_own, joined-touches}

module _ (board : Board) (player : Colour) (cell : ℕ) where
  -- joined without the stone, or both joined with its cell
  abbrev pub JoinedAround : Vertex → Vertex → Type 0
  JoinedAround from to = Joined board player from to ⊎ (Joined board player from (Of cell) × Joined board player (Of cell) to)

  own_before : (v : Vertex) → IsOwn (put board player cell) player v → (v ≡ Of cell) ⊎ IsOwn board player v
  own_before (Of n) own = ⊎_elim (λ new. inl (ap Of new.1)) inr ((stones-put board player player cell n).0 own)
  own_before First own = inr tt
  own_before Last own = inr tt

  onto_cell : (from v to : Vertex) → v ≡ Of cell → Touches board.size player from v → JoinedAround v to → JoinedAround from to
  onto_cell from v to same touch rest =
      let here : Joined board player from v = joined-touches board player from v touch in
      let led : Joined board player from (Of cell) = (let P : Vertex → Type 0 = λ x. Joined board player from x in subst P same here) in
      let P : Vertex → Type 0 = λ x. Joined board player x to in
      inr (led, ⊎_elim (λ r. subst P same r) (λ r. r.1) rest)

  over_own : (from v to : Vertex) → IsOwn board player v → Touches board.size player from v → JoinedAround v to → JoinedAround from to
  over_own from v to own touch rest =
      let here : Joined board player from v = joined-touches board player from v touch in
      ⊎_elim (λ r. inl (joined-over_own board player from v to own here r))
      (λ r. inr (joined-over_own board player from v (Of cell) own here r.0, r.1)) rest

  walk_before : (inner : List Vertex) (from to : Vertex) → Walk (put board player cell) player from inner to → JoinedAround from to
  walk_before [] from to walk = inl (joined-touches board player from to (rw size-put at walk))
  walk_before (v ∷ vs) from to walk =
      let touch : Touches board.size player from v = rw size-put at walk.0 in
      let rest : JoinedAround v to = walk_before vs v to walk.2 in
      ⊎_elim (λ same. onto_cell from v to same touch rest) (λ own. over_own from v to own touch rest) (own_before v walk.1)

  pub joined_before : (from to : Vertex) → Joined (put board player cell) player from to → JoinedAround from to
  joined_before from to (inl same) = inl (inl same)
  joined_before from to (inr walk) = walk_before walk.0 from to walk.1

  pub joined_still : (from to : Vertex) → Joined board player from to → Joined (put board player cell) player from to
  joined_still from to joined = joined_stays player from to board (put board player cell) (keeps_put player board player cell) joined

  pub joined_over_stone : (from to : Vertex) → Joined board player from (Of cell) → Joined board player (Of cell) to
      → Joined (put board player cell) player from to
  joined_over_stone from to a b =
      joined-over_own (put board player cell) player from (Of cell) to ((stones-put board player player cell cell).1 (inl (refl, refl)))
      (joined_still from (Of cell) a) (joined_still (Of cell) to b)
