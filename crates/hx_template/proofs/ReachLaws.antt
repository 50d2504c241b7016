-- What is joined in a filling. A set that has all that a vertex was joined with at the start, and all that each new
-- stone in it was joined with, has all that is joined with the vertex in the filling, by induction on the walk.
use Rattle.std.proofs.Common.{◌≡◌, ◌≢◌, ℕ, not, eqb, ◌&&◌, List, [], ◌∷◌, Bool, true, false, refl, sym, ◌∙◌, ap}
use Rattle.std.proofs.Common.{subst, inl, inr, ⊎_elim, ◌⊎◌, ◌↔◌}
use Rattle.std.proofs.lemmas.Bool.{false≢true, and_from, and_parts, false_from_ne_true, cases_eq, ne_eqb}
use Rattle.hx_board.specs.declared.colours.Colour.{Colour}
use Rattle.hx_board.specs.declared.vertices.Vertex.{Vertex}
use Rattle.hx_board.specs.declared.vertices.Vertex.TheVariants.{Of, First, Last}
use Rattle.hx_board.specs.Sets.{has, union, remove}
use Rattle.hx_board.specs.Cells.{Extent, OnBoard}
use Rattle.hx_board.specs.Positions.{Board, stones_of}
use Rattle.hx_board.specs.Graph.{IsVertex, IsOwn, Touches, Walk, Joined}
use Rattle.hx_board.specs.VertexSets.{code_of, IsSetOf}
use Rattle.hx_board.proofs.SetLaws.{has-union_cases, has-union_left, has-union_right, has-remove, has-remove_before}
use Rattle.hx_board.proofs.Joins.{joined-over_own, joined-touches, touches-vertex}
use Rattle.hx_board.proofs.KeptStones.{KeepsStones, joined_stays}
use Rattle.hx_template.specs.Fillings.{IsFilling}
use Rattle.hx_template.specs.Reaches.{IsNew, IsReach}

module _ (start : Board) (carrier : ℕ) (board : Board) (player : Colour) (filling : IsFilling start carrier board) where
  keeps : KeepsStones player start board
  keeps = record { same_size = filling.size; own = filling.keeps player }

  joined_later : (v w : Vertex) → Joined start player v w → Joined board player v w
  joined_later v w = joined_stays player v w start board keeps

  -- a stone of the filling was there at the start, or is new
  old_or_new : (cell : ℕ) → has (stones_of board player) cell ≡ true → (b : Bool) → has carrier cell ≡ b
      → (has (stones_of start player) cell ≡ true) ⊎ IsNew carrier board player cell
  old_or_new cell own true inside = inr (record { inside = inside; own = own })
  old_or_new cell own false outside = inl (sym (filling.outside player cell outside) ∙ own)

  pub are_new : (stones own : ℕ) → stones ≡ stones_of board player → ((n : ℕ) → has own n ≡ (has stones n && has carrier n)) → (cell : ℕ)
      → (has own cell ≡ true) ↔ IsNew carrier board player cell
  are_new stones own same members cell = (
    (λ h. let both = and_parts (has stones cell) (has carrier cell) (sym (members cell) ∙ h) in
        record { inside = both.1; own = rw same at both.0 }),
    (λ new. members cell ∙ and_from (has stones cell) (has carrier cell) (rw same new.own) new.inside),
  )

  module _ (a : Vertex) where
    abbrev Reach : ℕ → ℕ → Type 0
    Reach left reach = IsReach start carrier board player a left reach

    pub reach_first : (own reach : ℕ) → IsSetOf start.size (Joined start player a) reach
        → ((cell : ℕ) → (has own cell ≡ true) ↔ IsNew carrier board player cell) → Reach own reach
    reach_first own reach is is_own = record {
      sound = λ v is_v h. joined_later a v ((is.members v is_v).0 h);
      from_a = λ v is_v join. (is.members v is_v).1 join;
      over_own = λ u v is_u is_v own_u h join. (is.members v is_v).1
          (joined-over_own start player a u v own_u ((is.members u is_u).0 h) join);
      over_new = λ cell v new gone is_v join. absurd (false≢true (sym gone ∙ (is_own cell).1 new));
      new = λ cell h. (is_own cell).0 h;
    }

    module _ (left reach : ℕ) (known : Reach left reach) where
      module _ (cell near : ℕ) (on : OnBoard start.size cell) (reached : has reach cell ≡ true) (waits : has left cell ≡ true)
          (is_near : IsSetOf start.size (Joined start player (Of cell)) near) where
        join_cell : (v : Vertex) → IsVertex start.size v → has near (code_of v) ≡ true → Joined board player a v
        join_cell v is_v h =
            joined-over_own board player a (Of cell) v (known.new cell waits).own (known.sound (Of cell) on reached)
            (joined_later (Of cell) v ((is_near.members v is_v).0 h))

        over_near : (u v : Vertex) → IsVertex start.size u → IsVertex start.size v → IsOwn start player u → has near (code_of u) ≡ true
            → Joined start player u v → has near (code_of v) ≡ true
        over_near u v is_u is_v own h join = (is_near.members v is_v).1
            (joined-over_own start player (Of cell) u v own ((is_near.members u is_u).0 h) join)

        in_either : (v : Vertex) → (has reach (code_of v) ≡ true) ⊎ (has near (code_of v) ≡ true)
            → has (union reach near) (code_of v) ≡ true
        in_either v = ⊎_elim (has-union_left reach near (code_of v)) (has-union_right reach near (code_of v))

        stays : (n : ℕ) → has left n ≡ true → n ≢ cell → has (remove left cell) n ≡ true
        stays n h differ = has-remove left cell n ∙ and_from (has left n) (not (eqb n cell)) h (ap not (ne_eqb n cell differ))

        -- a new stone that is no longer left was not left before, or is this one
        gone : (n : ℕ) → has (remove left cell) n ≡ false → (n ≡ cell) ⊎ (has left n ≡ false)
        gone n out = ⊎_elim inl (λ differ. inr (false_from_ne_true _ (λ h. false≢true (sym out ∙ stays n h differ)))) (cases_eq n cell)

        pub reach_next : Reach (remove left cell) (union reach near)
        reach_next = record {
          sound = λ v is_v h. ⊎_elim (known.sound v is_v) (join_cell v is_v) (has-union_cases reach near (code_of v) h);
          from_a = λ v is_v join. in_either v (inl (known.from_a v is_v join));
          over_own = λ u v is_u is_v own h join. in_either v
              (⊎_elim (λ k. inl (known.over_own u v is_u is_v own k join)) (λ k. inr (over_near u v is_u is_v own k join))
              (has-union_cases reach near (code_of u) h));
          over_new = λ n v new out is_v join. in_either v
              (⊎_elim
              (λ same. let P : ℕ → Type 0 = λ k. Joined start player (Of k) v in inr ((is_near.members v is_v).1 (subst P same join)))
              (λ before. inl (known.over_new n v new before is_v join))
              (gone n out));
          new = λ n h. known.new n (has-remove_before left cell n h);
        }

      -- no new stone that is left is reached
      module _ (through : (cell : ℕ) → OnBoard start.size cell → has reach cell ≡ true → has left cell ≡ true → ⊥) where
        abbrev Leads : Vertex → Type 0
        Leads v = (w : Vertex) → IsVertex start.size w → Touches start.size player v w → has reach (code_of w) ≡ true

        touch_start : (v w : Vertex) → Touches board.size player v w → Touches start.size player v w
        touch_start v w t = let P : Extent → Type 0 = λ s. Touches s player v w in subst P filling.size t

        leads : (v : Vertex) → IsVertex start.size v → IsOwn board player v → has reach (code_of v) ≡ true → Leads v
        leads (Of cell) on own h w is_w touch = ⊎_elim
            (λ old. known.over_own (Of cell) w on is_w old h (joined-touches start player (Of cell) w touch))
            (λ new. known.over_new cell w new (false_from_ne_true _ (λ waits. through cell on h waits)) is_w
            (joined-touches start player (Of cell) w touch))
            (old_or_new cell own (has carrier cell) refl)
        leads First is own h w is_w touch = known.over_own First w tt is_w tt h (joined-touches start player First w touch)
        leads Last is own h w is_w touch = known.over_own Last w tt is_w tt h (joined-touches start player Last w touch)

        walked : (inner : List Vertex) (from to : Vertex) → Leads from → Walk board player from inner to → has reach (code_of to) ≡ true
        walked [] from to lead walk = let touch = touch_start from to walk in lead to (touches-vertex start.size player from to touch) touch
        walked (next ∷ rest) from to lead walk =
            let touch = touch_start from next walk.0 in
            let is_next = touches-vertex start.size player from next touch in
            walked rest next to (leads next is_next walk.1 (lead next is_next touch)) walk.2

        all_reached : (v : Vertex) → IsVertex start.size a → Joined board player a v → has reach (code_of v) ≡ true
        all_reached v is_a (inl same) = let P : Vertex → Type 0 = λ w. has reach (code_of w) ≡ true in
            subst P same (known.from_a a is_a (inl refl))
        all_reached v is_a (inr walk) = walked walk.0 a v
            (λ w is_w touch. known.from_a w is_w (joined-touches start player a w touch)) walk.1

        pub reach_all : (v : Vertex) → IsVertex start.size a → IsVertex start.size v
            → (has reach (code_of v) ≡ true) ↔ Joined board player a v
        reach_all v is_a is_v = ((λ h. known.sound v is_v h), (λ join. all_reached v is_a join))
