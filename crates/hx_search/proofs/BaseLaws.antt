-- The Bases of all vertices, from those of each vertex with the ones above it: what is joined is joined both ways.
use Rattle.std.proofs.Common.{◌≡◌, ℕ, ◌<◌, ◌≤◌, ◌+◌, refl, sym, subst, inl, inr, arith}
use Rattle.hx_board.specs.declared.vertices.Vertex.{Vertex}
use Rattle.hx_board.specs.Cells.{Extent, IsExtent}
use Rattle.hx_board.specs.Positions.{Board}
use Rattle.hx_board.specs.Graph.{IsVertex, Joined}
use Rattle.hx_board.specs.VertexSets.{code_of, IsVertexAt}
use Rattle.hx_board.proofs.Joins.{joined-sym}
use Rattle.hx_board.proofs.VertexSetLaws.{some-vertex, code-small}
use Rattle.hx_link.specs.declared.links.Link.{Link}
use Rattle.hx_link.specs.declared.steps.Step.TheVariants.{Base}
use Rattle.hx_link.specs.Steps.{HasEnds, GivesBase}
use Rattle.hx_link.proofs.LinkLaws.{end-vertex}
use Rattle.hx_linkset.specs.States.{Standing}
use Rattle.hx_linkset.specs.Answers.{Gives}
use Rattle.hx_reach.specs.Growth.{IsGrown}
use Rattle.hx_search.specs.Closed.{IsSettled, IsStuck}
use Rattle.hx_search.specs.Progress.{IsUnsettled, AreBasesOf, AreBasesBelow}
use Rattle.hx_search.proofs.SettledLaws.{settled-on}
use Rattle.hx_search.proofs.VertexLaws.{below-more, below-skip}

pub stuck-base : (set : Standing) (a b : Vertex) → IsUnsettled set (Base a b) → IsStuck set
stuck-base set a b u = record { full = u.full; not_closed = λ closed. u.not_settled (closed.bases a b) }

module _ (was now : Standing) (g : IsGrown was now) where
  vertex_back : (v : Vertex) → IsVertex now.present.board.size v → IsVertex was.present.board.size v
  vertex_back v is = let P : Board → Type 0 = λ board. IsVertex board.size v in subst P g.same_board is

  pub base-on : (a b : Vertex) → IsSettled was (Base a b) → IsSettled now (Base a b)
  base-on a b s = settled-on was now (Base a b) g (λ place k. absurd k) s

  pub bases-on : (a : Vertex) (from bound : ℕ) → AreBasesOf was a from bound → AreBasesOf now a from bound
  bases-on a from bound s b is less le = base-on a b (s b (vertex_back b is) less le)

  pub below-on : (bound : ℕ) → AreBasesBelow was bound → AreBasesBelow now bound
  below-on bound s a is less = bases-on a (code_of a + 1) 123 (s a (vertex_back a is) less)

  module _ (size : Extent) (is_size : size ≡ now.present.board.size) (extent : IsExtent size.rows size.cols) (code : ℕ) (v : Vertex)
      (at : IsVertexAt size code v) where
    pub bases-more : (a : Vertex) (from : ℕ) → AreBasesOf was a from code → IsSettled now (Base a v) → AreBasesOf now a from (code + 1)
    bases-more a from before here =
        let P : Extent → Type 0 = λ s. (w : Vertex) → IsVertex s w → code_of w < code → from ≤ code_of w → IsSettled now (Base a w) in
        let Q : Extent → Type 0 = λ s. (w : Vertex) → IsVertex s w → code_of w < code + 1 → from ≤ code_of w → IsSettled now (Base a w) in
        subst Q is_size (below-more size (λ w. from ≤ code_of w → IsSettled now (Base a w)) code
        (subst P (sym is_size) (bases-on a from code before)) extent v at (λ le. here))

    pub below-next : AreBasesBelow was code → AreBasesOf now v (code + 1) 123 → AreBasesBelow now (code + 1)
    below-next before here =
        let P : Extent → Type 0 = λ s. (w : Vertex) → IsVertex s w → code_of w < code → AreBasesOf now w (code_of w + 1) 123 in
        let Q : Extent → Type 0 = λ s. (w : Vertex) → IsVertex s w → code_of w < code + 1 → AreBasesOf now w (code_of w + 1) 123 in
        let R : ℕ → Type 0 = λ n. AreBasesOf now v (n + 1) 123 in
        subst Q is_size (below-more size (λ w. AreBasesOf now w (code_of w + 1) 123) code
        (subst P (sym is_size) (below-on code before)) extent v at (subst R (sym at.is_code) here))

module _ (set : Standing) (size : Extent) (is_size : size ≡ set.present.board.size) (code : ℕ)
    (none : (v : Vertex) → IsVertexAt size code v → ⊥) where
  none_there : (v : Vertex) → IsVertexAt set.present.board.size code v → ⊥
  none_there = let P : Extent → Type 0 = λ s. (v : Vertex) → IsVertexAt s code v → ⊥ in subst P is_size none

  pub bases-skip : (a : Vertex) (from : ℕ) → AreBasesOf set a from code → AreBasesOf set a from (code + 1)
  bases-skip a from before = below-skip set.present.board.size (λ w. from ≤ code_of w → IsSettled set (Base a w)) code before none_there

  pub below-none : AreBasesBelow set code → AreBasesBelow set (code + 1)
  below-none before = below-skip set.present.board.size (λ w. AreBasesOf set w (code_of w + 1) 123) code before none_there

-- any two vertices
module _ (set : Standing) (extent : IsExtent set.present.board.size.rows set.present.board.size.cols) (all : AreBasesBelow set 123)
    (a b : Vertex) where
  in_order : (link : Link) → Gives set (Base a b) link → Gives set (Base link.a link.b) link
  in_order link h =
      let g : GivesBase set.present.board set.player a b link = h.gives.rule in record {
        gives = record {
          rule = record { joined = joined g.joined g.ends; kind = g.kind; carrier = g.carrier; ends = inl (refl, refl) };
          link_ok = h.gives.link_ok;
        };
        from_live = λ place k. absurd k;
      }
    where
      joined : Joined set.present.board set.player a b → HasEnds link a b → Joined set.present.board set.player link.a link.b
      joined j (inl e) =
          let P : Vertex → Type 0 = λ v. Joined set.present.board set.player v b in
          let Q : Vertex → Type 0 = λ v. Joined set.present.board set.player link.a v in
          subst Q (sym e.1) (subst P (sym e.0) j)
      joined j (inr e) =
          let P : Vertex → Type 0 = λ v. Joined set.present.board set.player v a in
          let Q : Vertex → Type 0 = λ v. Joined set.present.board set.player link.a v in
          subst Q (sym e.1) (subst P (sym e.0) (joined-sym set.present.board set.player a b j))

  pub bases-all : IsSettled set (Base a b)
  bases-all link h =
      let ok = h.gives.link_ok in
      let va = end-vertex set.present.board set.player link.a ok.a_end in
      let vb = end-vertex set.present.board set.player link.b ok.b_end in
      all link.a va (code-small link.a (some-vertex set.present.board.size extent link.a va)) link.b vb
      (code-small link.b (some-vertex set.present.board.size extent link.b vb)) (omega (arith, ok.lower_first)) link (in_order link h)
