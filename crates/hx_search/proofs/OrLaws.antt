-- Ors of all vertices, from those of each vertex with the ones above it: two ends are forked in either order.
use Rattle.std.proofs.Common.{◌≡◌, ◌≢◌, ℕ, ◌<◌, ◌≤◌, ◌+◌, List, sym, ap, ◌∙◌, subst, inl, inr, ⊎_elim, arith}
use Rattle.std.proofs.lemmas.Bool.{cases_lt}
use Rattle.hx_board.specs.declared.vertices.Vertex.{Vertex}
use Rattle.hx_board.specs.Cells.{Extent, IsExtent}
use Rattle.hx_board.specs.Graph.{IsVertex}
use Rattle.hx_board.specs.VertexSets.{code_of, IsVertexAt}
use Rattle.hx_board.proofs.VertexSetLaws.{some-vertex, code-small}
use Rattle.hx_link.specs.declared.links.Kind.TheVariants.{Full, Semi}
use Rattle.hx_link.specs.declared.links.Link.{Link}
use Rattle.hx_link.specs.declared.steps.Step.TheVariants.{Or}
use Rattle.hx_link.specs.Steps.{HasEnds}
use Rattle.hx_link.proofs.OneLink.{step-unique}
use Rattle.hx_linkset.specs.States.{Standing, IsRight}
use Rattle.hx_linkset.specs.declared.sets.Added.{Added}
use Rattle.hx_linkset.specs.declared.sets.Added.TheVariants.{New, Covered, Refused, Limit}
use Rattle.hx_linkset.specs.Answers.{IsAdded, IsCovered, IsAtLimit}
use Rattle.hx_linkset.specs.LiveOf.{IsLiveOf}
use Rattle.hx_linkset.proofs.NextLaws.{live-is_link}
use Rattle.hx_search.specs.Closed.{IsForked, HasFull, IsStuck}
use Rattle.hx_search.specs.Progress.{IsFork, IsPassed, passed_by, IsJoinedWhereForked, AreForksOf, AreForksBelow}
use Rattle.hx_search.proofs.SettledLaws.{new-longer}
use Rattle.hx_search.proofs.VertexLaws.{below-more, below-skip, live_of-swapped, live_of-vertex}

-- ---- one Or

module _ (old new : Standing) (a b : Vertex) (parts : List ℕ) (fork : IsFork old a b parts) where
  or-covered : (place : ℕ) → IsCovered old new (Or parts) place → (new ≡ old) × IsJoinedWhereForked new a b
  or-covered place c =
      let same : c.link ≡ fork.link =
      step-unique old.present.board old.player old.present.links c.link fork.link (Or parts) c.gives.gives fork.gives.gives in
      let P : Standing → Type 0 = λ s. IsJoinedWhereForked s a b in
      let ends : HasEnds c.covers.by a b = ⊎_elim
      (λ e. inl (c.covers.cover.same_a ∙ (ap (λ (l : Link). l.a) same ∙ e.0), c.covers.cover.same_b ∙ (ap (λ (l : Link). l.b) same ∙ e.1)))
      (λ e. inr (c.covers.cover.same_a ∙ (ap (λ (l : Link). l.a) same ∙ e.0), c.covers.cover.same_b ∙ (ap (λ (l : Link). l.b) same ∙ e.1)))
      fork.ends in
      let full : HasFull old a b = (
        place,
        record {
          link = c.covers.by;
          there = c.covers.there;
          live = c.covers.live;
          kind_is = c.covers.cover.same_kind ∙ (ap (λ (l : Link). l.kind) same ∙ fork.kind_is);
          ends = ends;
        },
      ) in
      (c.same, subst P (sym c.same) (λ forked. full))

  or-full : ((place : ℕ) → IsLiveOf old Full a b place → ⊥) → IsAtLimit old new (Or parts) → IsStuck new
  or-full none f =
      let P : Standing → Type 0 = λ s. IsStuck s in
      subst P (sym f.same) record { full = f.full; not_closed = λ closed. let w = closed.ors a b fork.forked in none w.0 w.1 }

  pub or-passed : ((place : ℕ) → IsLiveOf old Full a b place → ⊥) → (added : Added) → IsAdded old new (Or parts) added
      → IsPassed old new (IsJoinedWhereForked new a b) (passed_by added)
  or-passed none (New place) n = omega (arith, new-longer old new (Or parts) place n)
  or-passed none (Covered place) c = or-covered place c
  or-passed none Refused r = (r.same, λ forked. absurd (r.none fork.link fork.gives))
  or-passed none Limit f = or-full none f

-- ---- of one vertex with others

module _ (set : Standing) (size : Extent) (is_size : size ≡ set.present.board.size) (code : ℕ) where
  module _ (extent : IsExtent size.rows size.cols) (v : Vertex) (at : IsVertexAt size code v) where
    pub forks-more : (a : Vertex) (from : ℕ) → AreForksOf set a from code → IsJoinedWhereForked set a v → AreForksOf set a from (code + 1)
    forks-more a from before here =
        let P : Extent → Type 0 = λ s. (w : Vertex) → IsVertex s w → code_of w < code → from ≤ code_of w → IsJoinedWhereForked set a w in
        let Q : Extent → Type 0 = λ s. (w : Vertex) → IsVertex s w → code_of w < code + 1 → from ≤ code_of w
        → IsJoinedWhereForked set a w in
        subst Q is_size (below-more size (λ w. from ≤ code_of w → IsJoinedWhereForked set a w) code
        (subst P (sym is_size) before) extent v at (λ le. here))

    pub forks-next : AreForksBelow set code → AreForksOf set v (code + 1) 123 → AreForksBelow set (code + 1)
    forks-next before here =
        let P : Extent → Type 0 = λ s. (w : Vertex) → IsVertex s w → code_of w < code → AreForksOf set w (code_of w + 1) 123 in
        let Q : Extent → Type 0 = λ s. (w : Vertex) → IsVertex s w → code_of w < code + 1 → AreForksOf set w (code_of w + 1) 123 in
        let R : ℕ → Type 0 = λ n. AreForksOf set v (n + 1) 123 in
        subst Q is_size (below-more size (λ w. AreForksOf set w (code_of w + 1) 123) code
        (subst P (sym is_size) before) extent v at (subst R (sym at.is_code) here))

  module _ (none : (v : Vertex) → IsVertexAt size code v → ⊥) where
    none_there : (v : Vertex) → IsVertexAt set.present.board.size code v → ⊥
    none_there = let P : Extent → Type 0 = λ s. (v : Vertex) → IsVertexAt s code v → ⊥ in subst P is_size none

    pub forks-skip : (a : Vertex) (from : ℕ) → AreForksOf set a from code → AreForksOf set a from (code + 1)
    forks-skip a from before =
        below-skip set.present.board.size (λ w. from ≤ code_of w → IsJoinedWhereForked set a w) code before none_there

    pub forks-none : AreForksBelow set code → AreForksBelow set (code + 1)
    forks-none before = below-skip set.present.board.size (λ w. AreForksOf set w (code_of w + 1) 123) code before none_there

-- ---- any two vertices

forked-swapped : (set : Standing) (a b : Vertex) → IsForked set a b → IsForked set b a
forked-swapped set a b f = record {
  first = f.first;
  second = f.second;
  first_semi = live_of-swapped set Semi a b f.first f.first_semi;
  second_semi = live_of-swapped set Semi a b f.second f.second_semi;
  differ = f.differ;
  none_in_all = λ cell. let w = f.none_in_all cell in
      record { place = w.place; semi = live_of-swapped set Semi a b w.place w.semi; lacks = w.lacks };
}

module _ (set : Standing) (right : IsRight set.player set.present) (all : AreForksBelow set 123) where
  extent : IsExtent set.present.board.size.rows set.present.board.size.cols
  extent = right.is_board.0

  above : (a b : Vertex) → code_of a < code_of b → IsForked set a b → HasFull set a b
  above a b less f =
      let va : IsVertex set.present.board.size a = live_of-vertex set Semi a b f.first f.first_semi in
      let vb : IsVertex set.present.board.size b =
      live_of-vertex set Semi b a f.first (live_of-swapped set Semi a b f.first f.first_semi) in
      all a va (code-small a (some-vertex set.present.board.size extent a va)) b vb
      (code-small b (some-vertex set.present.board.size extent b vb)) (omega (arith, less)) f

  differ : (a b : Vertex) (place : ℕ) (is : IsLiveOf set Semi a b place) → code_of a ≢ code_of b
  differ a b place is e =
      let ok = live-is_link set right place is.link is.there is.live in
      ⊎_elim
      (λ k. absurd (omega (arith, ok.lower_first, ap code_of k.0, ap code_of k.1, e)))
      (λ k. absurd (omega (arith, ok.lower_first, ap code_of k.0, ap code_of k.1, e)))
      is.ends

  pub forks-all : (a b : Vertex) → IsForked set a b → HasFull set a b
  forks-all a b f = ⊎_elim
      (λ less. above a b less f)
      (λ le. let ne = differ a b f.first f.first_semi in
      let w = above b a (omega (arith, le, ne)) (forked-swapped set a b f) in
      (w.0, live_of-swapped set Full b a w.0 w.1))
      (cases_lt (code_of a) (code_of b))
