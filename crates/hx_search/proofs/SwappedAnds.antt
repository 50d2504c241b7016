-- Ands in either order: that of two links gives what that of the same links in the other order gives, and a link gives
-- nothing with itself. So where each link is settled with the earlier ones, all Ands are.
use Rattle.std.proofs.Common.{◌≡◌, ◌≢◌, ℕ, ◌<◌, ◌≤◌, length, refl, sym, ap, ◌∙◌, subst, inl, inr, ◌⊎◌, ⊎_elim, arith, List}
use Rattle.std.proofs.lemmas.Bool.{false≢true, cases_eq, cases_lt, false_from_ne_true}
use Rattle.std.proofs.lemmas.Option.{slice_get_within, same_Some}
use Rattle.hx_board.specs.declared.vertices.Vertex.{Vertex}
use Rattle.hx_board.specs.declared.vertices.Vertex.TheVariants.{Of}
use Rattle.hx_board.specs.Sets.{has, insert}
use Rattle.hx_board.proofs.SetLaws.{union-comm}
use Rattle.hx_link.specs.declared.links.Link.{Link}
use Rattle.hx_link.specs.declared.steps.Step.TheVariants.{AndStone, AndCell}
use Rattle.hx_link.specs.Steps.{HasEnds, IsLink, GoesOver, GivesAndStone, GivesAndCell}
use Rattle.hx_link.proofs.LinkLaws.{ends_differ}
use Rattle.hx_linkset.specs.States.{Standing, IsLiveAt}
use Rattle.hx_linkset.specs.Answers.{Gives, Covers}
use Rattle.hx_search.specs.Progress.{AreRowsSettled}
use Rattle.hx_search.proofs.VertexLaws.{swapped}

over-swapped : (links : List Link) (left right : ℕ) (middle : Vertex) (link : Link)
    → GoesOver links left right middle link → GoesOver links right left middle link
over-swapped links left right middle link m = record {
  first = m.second;
  second = m.first;
  from = m.to;
  to = m.from;
  first_there = m.second_there;
  second_there = m.first_there;
  first_full = m.second_full;
  second_full = m.first_full;
  first_ends = swapped m.second middle m.to m.second_ends;
  second_ends = swapped m.first m.from middle m.first_ends;
  apart = λ n h. false_from_ne_true (has m.first.carrier n) (λ k. false≢true (sym (m.apart n k) ∙ h));
  ends = swapped link m.from m.to m.ends;
}

-- no link meets itself in one end alone
no_meet : (links : List Link) (n : ℕ) (middle : Vertex) (link : Link) (m : GoesOver links n n middle link) → m.from ≢ m.to → ⊥
no_meet links n middle link m differ =
    let same : m.first ≡ m.second = same_Some m.first m.second (sym m.first_there ∙ m.second_there) in
    let P : Link → Type 0 = λ l. HasEnds l middle m.to in
    ends m.first (swapped m.first m.from middle m.first_ends) (subst P (sym same) m.second_ends)
  where
    ends : (l : Link) → HasEnds l middle m.from → HasEnds l middle m.to → ⊥
    ends l (inl e) (inl g) = differ (sym e.1 ∙ g.1)
    ends l (inl e) (inr g) = differ (sym e.1 ∙ (g.1 ∙ (sym e.0 ∙ g.0)))
    ends l (inr e) (inl g) = differ (sym e.0 ∙ (g.0 ∙ (sym e.1 ∙ g.1)))
    ends l (inr e) (inr g) = differ (sym e.0 ∙ g.0)

module _ (set : Standing) (left right : ℕ) (link : Link) where
  stone-swapped : Gives set (AndStone left right) link → Gives set (AndStone right left) link
  unfolding over-swapped
  stone-swapped h = let g : GivesAndStone set.present.board set.player set.present.links left right link = h.gives.rule in record {
    gives = record {
      rule = record {
        middle = g.middle;
        over = over-swapped set.present.links left right g.middle link g.over;
        own = g.own;
        kind = g.kind;
        carrier = g.carrier ∙ union-comm g.over.first.carrier g.over.second.carrier;
      };
      link_ok = h.gives.link_ok;
    };
    from_live = λ place k. h.from_live place (⊎_elim inr inl k);
  }

  cell-swapped : Gives set (AndCell left right) link → Gives set (AndCell right left) link
  unfolding over-swapped
  cell-swapped h = let g : GivesAndCell set.present.board set.present.links left right link = h.gives.rule in record {
    gives = record {
      rule = record {
        cell = g.cell;
        over = over-swapped set.present.links left right (Of g.cell) link g.over;
        empty = g.empty;
        outside_first = g.outside_second;
        outside_second = g.outside_first;
        kind = g.kind;
        carrier = g.carrier ∙ ap (λ n. insert n g.cell) (union-comm g.over.first.carrier g.over.second.carrier);
      };
      link_ok = h.gives.link_ok;
    };
    from_live = λ place k. h.from_live place (⊎_elim inr inl k);
  }

-- where all rows are settled all Ands are
module _ (set : Standing) (rows : AreRowsSettled set (length set.present.links)) (left right : ℕ) (link : Link) where
  self_over : (middle : Vertex) → IsLink set.present.board set.player link → right ≡ left
      → GoesOver set.present.links left right middle link → ⊥
  self_over middle ok e over =
      let P : ℕ → Type 0 = λ n. GoesOver set.present.links left n middle link in
      let o : GoesOver set.present.links left left middle link = subst P e over in
      no_meet set.present.links left middle link o (ends_differ set.present.board set.player link o.from o.to ok o.ends)

  stone_case : left < length set.present.links → right < length set.present.links → Gives set (AndStone left right) link
      → (left ≡ right) ⊎ (left ≡ right → ⊥) → (left < right) ⊎ (right ≤ left) → (place : ℕ) × Covers set place link
  stone_case l r h (inl e) t =
      let g : GivesAndStone set.present.board set.player set.present.links left right link = h.gives.rule in
      absurd (self_over g.middle h.gives.link_ok (sym e) g.over)
  stone_case l r h (inr ne) (inl lt) = (rows left right lt r).0 link h
  stone_case l r h (inr ne) (inr le) = (rows right left (omega arith) l).0 link (stone-swapped set left right link h)

  cell_case : left < length set.present.links → right < length set.present.links → Gives set (AndCell left right) link
      → (left ≡ right) ⊎ (left ≡ right → ⊥) → (left < right) ⊎ (right ≤ left) → (place : ℕ) × Covers set place link
  cell_case l r h (inl e) t =
      let g : GivesAndCell set.present.board set.present.links left right link = h.gives.rule in
      absurd (self_over (Of g.cell) h.gives.link_ok (sym e) g.over)
  cell_case l r h (inr ne) (inl lt) = (rows left right lt r).1 link h
  cell_case l r h (inr ne) (inr le) = (rows right left (omega arith) l).1 link (cell-swapped set left right link h)

  there_at : (n : ℕ) → IsLiveAt set.present.board set.player set.present.links n → n < length set.present.links
  there_at n w = slice_get_within set.present.links n w.0 w.1.0

  pub all-stones : Gives set (AndStone left right) link → (place : ℕ) × Covers set place link
  all-stones h = stone_case (there_at left (h.from_live left (inl refl))) (there_at right (h.from_live right (inr refl))) h
      (cases_eq left right) (cases_lt left right)

  pub all-cells : Gives set (AndCell left right) link → (place : ℕ) × Covers set place link
  all-cells h = cell_case (there_at left (h.from_live left (inl refl))) (there_at right (h.from_live right (inr refl))) h
      (cases_eq left right) (cases_lt left right)
