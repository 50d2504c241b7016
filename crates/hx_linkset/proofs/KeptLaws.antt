-- What a stone on an empty cell keeps. A link is live after it exactly where it was live and the stone leaves it alone,
-- and a step that gave such a link gives it still.
use Rattle.std.proofs.Common.{◌≡◌, ◌≢◌, ℕ, true, false, List, refl, sym, ap, ◌∙◌, subst, inl, inr, ⊎_elim}
use Rattle.std.proofs.lemmas.Bool.{false≢true, false_from_ne_true}
use Rattle.hx_board.specs.declared.colours.Colour.{Colour}
use Rattle.hx_board.specs.declared.vertices.Vertex.{Vertex}
use Rattle.hx_board.specs.declared.vertices.Vertex.TheVariants.{Of, First, Last}
use Rattle.hx_board.specs.Sets.{has, union}
use Rattle.hx_board.specs.Colours.{other_of}
use Rattle.hx_board.specs.Positions.{Board, put}
use Rattle.hx_board.proofs.SetLaws.{has-insert_same}
use Rattle.hx_board.proofs.StoneLaws.{size-put, stones-put, empty-put}
use Rattle.hx_board.proofs.KeptStones.{keeps_put, own_stays, joined_stays}
use Rattle.hx_link.specs.declared.links.Link.{Link}
use Rattle.hx_link.specs.declared.steps.Step.{Step}
use Rattle.hx_link.specs.declared.steps.Step.TheVariants.{Base, AndStone, AndCell, Or}
use Rattle.hx_link.specs.Steps.{IsEnd, GivesByRule, StepGives}
use Rattle.hx_linkset.specs.States.{IsLive, IsUntouched}

module _ (board : Board) (player colour : Colour) (cell : ℕ) where
  abbrev after : Board
  after = put board colour cell

  end_kept : (vertex : Vertex) → (colour ≡ other_of player → vertex ≢ Of cell) → IsEnd board player vertex → IsEnd after player vertex
  end_kept First other h = tt
  end_kept Last other h = tt
  end_kept (Of n) other h = (
    rw (size-put board colour cell) h.0,
    false_from_ne_true _ (λ k.
        ⊎_elim (λ w. other w.0 (ap Of w.1)) (λ was. false≢true (sym h.1 ∙ was)) ((stones-put board colour (other_of player) cell n).0 k)),
  )

  end_before : (vertex : Vertex) → IsEnd after player vertex → IsEnd board player vertex
  end_before First h = tt
  end_before Last h = tt
  end_before (Of n) h = (
    rw (size-put board colour cell) at h.0,
    false_from_ne_true _ (λ k. false≢true (sym h.1 ∙ (stones-put board colour (other_of player) cell n).1 (inr k))),
  )

  end_is_other : (vertex : Vertex) → IsEnd after player vertex → colour ≡ other_of player → vertex ≢ Of cell
  end_is_other vertex h e same =
      let P : Vertex → Type 0 = λ w. IsEnd after player w in
      let here : IsEnd after player (Of cell) = subst P same h in
      false≢true (sym here.1 ∙ (stones-put board colour (other_of player) cell cell).1 (inl (e, refl)))

  module _ (link : Link) where
    not_here : has link.carrier cell ≡ false → (n : ℕ) → has link.carrier n ≡ true → n ≢ cell
    not_here out n h same = false≢true (sym out ∙ (ap (λ m. has link.carrier m) (sym same) ∙ h))

    pub live-played : IsLive board player link → IsUntouched player colour cell link → IsLive after player link
    live-played live u = record {
      empty = λ n h. (empty-put board colour cell n).1 (live.empty n h, not_here u.outside n h);
      a_end = end_kept link.a (λ e. (u.no_end e).0) live.a_end;
      b_end = end_kept link.b (λ e. (u.no_end e).1) live.b_end;
    }

    pub live-before : IsLive after player link → IsLive board player link
    live-before live = record {
      empty = λ n h. ((empty-put board colour cell n).0 (live.empty n h)).0;
      a_end = end_before link.a live.a_end;
      b_end = end_before link.b live.b_end;
    }

    pub untouched-live : IsLive after player link → IsUntouched player colour cell link
    untouched-live live = record {
      outside = false_from_ne_true (has link.carrier cell) (λ h. ((empty-put board colour cell cell).0 (live.empty cell h)).1 refl);
      no_end = λ e. (end_is_other link.a live.a_end e, end_is_other link.b live.b_end e);
    }

    module _ (before : List Link) (u : IsUntouched player colour cell link) where
      rule-played : (step : Step) → GivesByRule board player before step link → GivesByRule after player before step link
      rule-played (Base a b) g = record {
        joined = joined_stays player a b board after (keeps_put player board colour cell) g.joined;
        kind = g.kind;
        carrier = g.carrier;
        ends = g.ends;
      }
      rule-played (AndStone left right) g = record {
        middle = g.middle;
        over = g.over;
        own = own_stays player board after (keeps_put player board colour cell) g.middle g.own;
        kind = g.kind;
        carrier = g.carrier;
      }
      rule-played (AndCell left right) g = record {
        cell = g.cell;
        over = g.over;
        empty = (empty-put board colour cell g.cell).1
            (g.empty, not_here u.outside g.cell (rw g.carrier (has-insert_same (union g.over.first.carrier g.over.second.carrier) g.cell)));
        outside_first = g.outside_first;
        outside_second = g.outside_second;
        kind = g.kind;
        carrier = g.carrier;
      }
      rule-played (Or parts) g = g

      pub gives-played : (step : Step) → StepGives board player before step link → StepGives after player before step link
      gives-played step g = record {
        rule = rule-played step g.rule;
        link_ok = record {
          lower_first = g.link_ok.lower_first;
          a_end = end_kept link.a (λ e. (u.no_end e).0) g.link_ok.a_end;
          b_end = end_kept link.b (λ e. (u.no_end e).1) g.link_ok.b_end;
          outside = λ n empty at. g.link_ok.outside n ((empty-put board colour cell n).0 empty).0 at;
        };
      }
