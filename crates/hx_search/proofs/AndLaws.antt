-- The Ands of a link with all earlier ones, from those along the chains at its two ends. Two links that give something
-- share one end, the middle, so the earlier one is in a chain at that end of the later one. It is own for an And over a
-- stone or a side, and no own vertex for an And over an empty cell.
use Rattle.std.proofs.Common.{◌≡◌, ℕ, suc, ◌<◌, ◌≤◌, ◌+◌, ◌-◌, Bool, true, false, length, refl, sym, ◌∙◌, subst, inl}
use Rattle.std.proofs.Common.{inr, Some, None, Option, ◌⊎◌, ⊎_elim, arith}
use Rattle.std.specs.Prelude.{slice_get, MatchOption, ◌↔◌, IsTrue}
use Rattle.std.proofs.lemmas.Bool.{false≢true, cases_eq, cases_lt}
use Rattle.std.proofs.lemmas.Option.{same_Some}
use Rattle.hx_board.specs.declared.colours.Colour.{Colour}
use Rattle.hx_board.specs.declared.vertices.Vertex.{Vertex}
use Rattle.hx_board.specs.declared.vertices.Vertex.TheVariants.{Of}
use Rattle.hx_board.specs.Cells.{Extent, IsExtent}
use Rattle.hx_board.specs.Positions.{Board}
use Rattle.hx_board.specs.Graph.{IsVertex, IsOwn}
use Rattle.hx_board.specs.VertexSets.{code_of, IsVertexAt}
use Rattle.hx_link.specs.declared.links.Kind.TheVariants.{Full}
use Rattle.hx_link.specs.declared.links.Link.{Link}
use Rattle.hx_link.specs.declared.steps.Step.TheVariants.{AndStone, AndCell}
use Rattle.hx_link.specs.Steps.{HasEnds, GoesOver, GivesAndStone, GivesAndCell}
use Rattle.hx_linkset.specs.States.{Standing, IsLive, IsLiveAt, Names}
use Rattle.hx_linkset.specs.LiveOf.{IsLiveOf, IsFirstFrom}
use Rattle.hx_board.proofs.VertexSetLaws.{some-vertex, code-small}
use Rattle.hx_reach.specs.Growth.{IsGrown}
use Rattle.hx_search.specs.Closed.{IsSettled, IsStuck}
use Rattle.hx_search.specs.Progress.{IsUnsettled, IsPairSettled, AreRowsSettled, and_at, IsChainSettled}
use Rattle.hx_search.specs.Progress.{IsChainSettledTo, IsEndSettledBelow, IsEndSettled}
use Rattle.hx_search.proofs.SettledLaws.{settled-on, live_of-back}
use Rattle.hx_search.proofs.VertexLaws.{below-more, below-skip, swapped, live_of-swapped, live_of-vertex, empty-not_own}

pub stuck-and : (set : Standing) (own : Bool) (left right : ℕ) → IsUnsettled set (and_at own left right) → IsStuck set
stuck-and set true left right u = record { full = u.full; not_closed = λ closed. u.not_settled (closed.and_stones left right) }
stuck-and set false left right u = record { full = u.full; not_closed = λ closed. u.not_settled (closed.and_cells left right) }

named : (own : Bool) (left right bound place : ℕ) → left < bound → right < bound → Names (and_at own left right) place → place < bound
named true left right bound place l r (inl e) = omega (arith, e)
named true left right bound place l r (inr e) = omega (arith, e)
named false left right bound place l r (inl e) = omega (arith, e)
named false left right bound place l r (inr e) = omega (arith, e)

-- ---- along a chain

-- how many places a walk may still come to
abbrev pub chain_left : Option ℕ → ℕ → ℕ
chain_left None right = 0
chain_left (Some left) right = suc right - left

pub chain-start : (set : Standing) (own : Bool) (end to : Vertex) (right : ℕ) (next : Option ℕ)
    → MatchOption next ((place : ℕ) → IsLiveOf set Full end to place → ⊥) (IsFirstFrom set Full end to 0)
    → IsChainSettledTo set own end to right next
chain-start set own end to right None none = λ left lt is. absurd (none left is)
chain-start set own end to right (Some place) first = (first.is, λ left lt is. absurd (first.first left (omega arith) lt is))

pub chain-falls : (set : Standing) (end to : Vertex) (left right : ℕ) (next : Option ℕ) → left < right
    → MatchOption next ((place : ℕ) → left < place → IsLiveOf set Full end to place → ⊥) (IsFirstFrom set Full end to (left + 1))
    → chain_left next right < chain_left (Some left) right
chain-falls set end to left right None less none = omega arith
chain-falls set end to left right (Some place) less first = omega (arith, first.not_below)

module _ (was now : Standing) (g : IsGrown was now) (own : Bool) (end to : Vertex) (right : ℕ)
    (inside : right < length was.present.links) where
  pub chain-on : (bound : ℕ) → bound ≤ right → IsChainSettled was own end to bound right → IsChainSettled now own end to bound right
  chain-on bound le s left lt is =
      let l : left < length was.present.links = omega (arith, lt, le, inside) in
      settled-on was now (and_at own left right) g (λ place k. named own left right (length was.present.links) place l inside k)
      (s left lt (live_of-back was now g Full end to left l is))

  module _ (left : ℕ) (less : left < right) (to_here : IsChainSettledTo was own end to right (Some left))
      (here : IsSettled now (and_at own left right)) where
    through : (other : ℕ) → other < left + 1 → IsLiveOf now Full end to other → IsSettled now (and_at own other right)
    through other lt is = ⊎_elim
        (λ e. let P : ℕ → Type 0 = λ n. IsSettled now (and_at own n right) in subst P (sym e) here)
        (λ ne. chain-on left (omega (arith, less)) to_here.1 other (omega (arith, lt, ne)) is)
        (cases_eq other left)

    pub chain-next : (next : Option ℕ)
        → MatchOption next ((place : ℕ) → left < place → IsLiveOf now Full end to place → ⊥)
        (IsFirstFrom now Full end to (left + 1)) → IsChainSettledTo now own end to right next
    chain-next None none = λ other lt is.
        ⊎_elim (λ low. through other low is) (λ high. absurd (none other (omega (arith, high)) is)) (cases_lt other (left + 1))
    chain-next (Some place) first = (
      first.is,
      λ other lt is.
          ⊎_elim (λ low. through other low is) (λ high. absurd (first.first other high lt is)) (cases_lt other (left + 1)),
    )

pub chain-past : (set : Standing) (own : Bool) (end to : Vertex) (right left : ℕ) → right ≤ left
    → IsChainSettledTo set own end to right (Some left) → IsChainSettled set own end to right right
chain-past set own end to right left le s other lt is = s.1 other (omega (arith, lt, le)) is

-- ---- over one end

module _ (was now : Standing) (g : IsGrown was now) (own : Bool) (end : Vertex) (right : ℕ)
    (inside : right < length was.present.links) where
  pub end-on_below : (bound : ℕ) → IsEndSettledBelow was own end right bound → IsEndSettledBelow now own end right bound
  end-on_below bound s to is less =
      let P : Board → Type 0 = λ board. IsVertex board.size to in
      chain-on was now g own end to right inside right (omega arith) (s to (subst P g.same_board is) less)

  pub end-more : (size : Extent) → size ≡ now.present.board.size → IsExtent size.rows size.cols → (code : ℕ) (to : Vertex)
      → IsVertexAt size code to
      → IsEndSettledBelow was own end right code → IsChainSettled now own end to right right
      → IsEndSettledBelow now own end right (code + 1)
  end-more size is_size extent code to at before here =
      let P : Extent → Type 0 = λ s. (w : Vertex) → IsVertex s w → code_of w < code → IsChainSettled now own end w right right in
      let Q : Extent → Type 0 = λ s. (w : Vertex) → IsVertex s w → code_of w < code + 1 → IsChainSettled now own end w right right in
      subst Q is_size (below-more size (λ w. IsChainSettled now own end w right right) code
      (subst P (sym is_size) (end-on_below code before)) extent to at here)

  pub end-on : IsEndSettled was end right → IsEndSettled now end right
  end-on s to left lt is =
      let l : left < length was.present.links = omega (arith, lt, inside) in
      let w = s to left lt (live_of-back was now g Full end to left l is) in
      let own_back : IsOwn now.present.board now.player end → IsOwn was.present.board was.player end = λ own.
      (let P : Board → Type 0 = λ board. IsOwn board now.player end in
      let Q : Colour → Type 0 = λ player. IsOwn was.present.board player end in
      subst Q g.same_player (subst P g.same_board own)) in
      let own_on : IsOwn was.present.board was.player end → IsOwn now.present.board now.player end = λ own.
      (let P : Board → Type 0 = λ board. IsOwn board now.player end in
      let Q : Colour → Type 0 = λ player. IsOwn was.present.board player end in
      subst P (sym g.same_board) (subst Q (sym g.same_player) own)) in (
        λ own. settled-on was now (AndStone left right) g
            (λ place k. named true left right (length was.present.links) place l inside k) (w.0 (own_back own)),
        λ not_own. settled-on was now (AndCell left right) g
            (λ place k. named false left right (length was.present.links) place l inside k) (w.1 (λ own. not_own (own_on own))),
      )

pub end-skip : (set : Standing) (size : Extent) → size ≡ set.present.board.size → (code : ℕ) → ((v : Vertex) → IsVertexAt size code v → ⊥)
    → (own : Bool) (end : Vertex) (right : ℕ) → IsEndSettledBelow set own end right code → IsEndSettledBelow set own end right (code + 1)
end-skip set size is_size code none own end right before =
    let P : Extent → Type 0 = λ s. (v : Vertex) → IsVertexAt s code v → ⊥ in
    below-skip set.present.board.size (λ w. IsChainSettled set own end w right right) code before (subst P is_size none)

module _ (set : Standing) (extent : IsExtent set.present.board.size.rows set.present.board.size.cols) (end : Vertex) (right : ℕ) where
  by_own : (own : Bool) (left : ℕ) → IsTrue own ↔ IsOwn set.present.board set.player end → IsSettled set (and_at own left right)
      → (IsOwn set.present.board set.player end → IsSettled set (AndStone left right))
      × ((IsOwn set.present.board set.player end → ⊥) → IsSettled set (AndCell left right))
  by_own true left iff s = (λ own. s, λ not_own. absurd (not_own (iff.0 refl)))
  by_own false left iff s = (λ own. absurd (false≢true (iff.1 own)), λ not_own. s)

  pub end-done : (own : Bool) (code : ℕ) → 123 ≤ code → IsTrue own ↔ IsOwn set.present.board set.player end
      → IsEndSettledBelow set own end right code → IsEndSettled set end right
  end-done own code le iff s to left lt is =
      let vertex : IsVertex set.present.board.size to = live_of-vertex set Full to end left (live_of-swapped set Full end to left is) in
      by_own own left iff (s to vertex (omega (arith, code-small to (some-vertex set.present.board.size extent to vertex), le)) left lt is)

-- the test of an own vertex, of the position and the player as they were read
pub own-is : (set : Standing) (end : Vertex) (own : Bool) (position : Board) (colour : Colour) → position ≡ set.present.board
    → colour ≡ set.player → IsTrue own ↔ IsOwn position colour end → IsTrue own ↔ IsOwn set.present.board set.player end
own-is set end own position colour e f iff =
    let P : Board → Type 0 = λ board. IsTrue own ↔ IsOwn board set.player end in
    let Q : Colour → Type 0 = λ player. IsTrue own ↔ IsOwn position player end in
    subst P e (subst Q f iff)

-- and before links were added
pub own-on : (was now : Standing) (end : Vertex) (own : Bool) → IsGrown was now
    → IsTrue own ↔ IsOwn was.present.board was.player end → IsTrue own ↔ IsOwn now.present.board now.player end
own-on was now end own g iff =
    let P : Board → Type 0 = λ board. IsTrue own ↔ IsOwn board now.player end in
    let Q : Colour → Type 0 = λ player. IsTrue own ↔ IsOwn was.present.board player end in
    subst P (sym g.same_board) (subst Q (sym g.same_player) iff)

-- ---- of one link

module _ (set : Standing) (right : ℕ) where
  pub row-dead : ((link : Link) → (slice_get set.present.links right ≡ Some link) × IsLive set.present.board set.player link → ⊥)
      → (left : ℕ) → left < right → IsPairSettled set left right
  row-dead dead left lt = (
    λ link h. let w = h.from_live right (inr refl) in
        absurd (dead w.0 w.1),
    λ link h. let w = h.from_live right (inr refl) in absurd (dead w.0 w.1),
  )

  module _ (later : Link) (there : slice_get set.present.links right ≡ Some later) where
    module _ (over_a : IsEndSettled set later.a right) (over_b : IsEndSettled set later.b right) (left : ℕ) (less : left < right) where
      module _ (middle : Vertex) (link : Link) (meet : GoesOver set.present.links left right middle link)
          (at_left : IsLiveAt set.present.board set.player set.present.links left) where
        first_is : IsLiveOf set Full middle meet.from left
        first_is =
            let P : Link → Type 0 = λ l. IsLive set.present.board set.player l in
            record {
              link = meet.first;
              there = meet.first_there;
              live = subst P (same_Some at_left.0 meet.first (sym at_left.1.0 ∙ meet.first_there)) at_left.1.1;
              kind_is = meet.first_full;
              ends = swapped meet.first meet.from middle meet.first_ends;
            }

        at_end : (v : Vertex) → v ≡ middle → IsEndSettled set v right
            → (IsOwn set.present.board set.player middle → IsSettled set (AndStone left right))
            × ((IsOwn set.present.board set.player middle → ⊥) → IsSettled set (AndCell left right))
        at_end v e s = let P : Vertex → Type 0 = λ v. IsEndSettled set v right in subst P e s meet.from left less first_is

        over : (IsOwn set.present.board set.player middle → IsSettled set (AndStone left right))
            × ((IsOwn set.present.board set.player middle → ⊥) → IsSettled set (AndCell left right))
        over =
            let same : meet.second ≡ later = same_Some meet.second later (sym meet.second_there ∙ there) in
            let P : Link → Type 0 = λ l. HasEnds l middle meet.to in
            ⊎_elim (λ e. at_end later.a e.0 over_a) (λ e. at_end later.b e.1 over_b) (subst P same meet.second_ends)

      pub row-full : IsPairSettled set left right
      row-full = (
        λ link h. let g : GivesAndStone set.present.board set.player set.present.links left right link = h.gives.rule in
            (over g.middle link g.over (h.from_live left (inl refl))).0 g.own link h,
        λ link h. let g : GivesAndCell set.present.board set.present.links left right link = h.gives.rule in
            (over (Of g.cell) link g.over (h.from_live left (inl refl))).1
            (empty-not_own set.present.board set.player g.cell g.empty) link h,
      )

-- ---- of all links

pub rows-on : (old new : Standing) (bound : ℕ) → IsGrown old new → bound ≤ length old.present.links → AreRowsSettled old bound
    → AreRowsSettled new bound
rows-on old new bound g le s left right lt lt' =
    let l : left < length old.present.links = omega (arith, lt, lt', le) in
    let r : right < length old.present.links = omega (arith, lt', le) in
    let w = s left right lt lt' in (
      settled-on old new (AndStone left right) g (λ place k. named true left right (length old.present.links) place l r k) w.0,
      settled-on old new (AndCell left right) g (λ place k. named false left right (length old.present.links) place l r k) w.1,
    )

pub rows-more : (was now : Standing) (bound : ℕ) → IsGrown was now → bound < length was.present.links → AreRowsSettled was bound
    → ((left : ℕ) → left < bound → IsPairSettled now left bound) → AreRowsSettled now (bound + 1)
rows-more was now bound g lt before here left right l r = by_case (cases_eq right bound)
  where
    by_case : (right ≡ bound) ⊎ (right ≡ bound → ⊥) → IsPairSettled now left right
    by_case (inl e) = let P : ℕ → Type 0 = λ n. IsPairSettled now left n in subst P (sym e) (here left (omega (arith, e, l)))
    by_case (inr ne) = rows-on was now bound g (omega (arith, lt)) before left right l (omega (arith, r, ne))

pub rows-all : (set : Standing) (bound : ℕ) → length set.present.links ≤ bound → AreRowsSettled set bound
    → AreRowsSettled set (length set.present.links)
rows-all set bound le s left right lt lt' = s left right lt (omega (arith, lt', le))
