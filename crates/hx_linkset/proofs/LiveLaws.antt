-- What a step names for a live link is live, so no mark has to be kept for it.
--
-- The carriers of the parts are inside the link's. Their outer ends are the link's ends, and the middle of an And is an
-- own vertex or an empty cell, so it is no stone of the opponent either.
use Rattle.std.proofs.Common.{◌≡◌, ℕ, true, List, sym, ap, ◌∙◌, inl, inr, ⊎_elim}
use Rattle.std.proofs.lemmas.Bool.{false≢true, false_from_ne_true}
use Rattle.std.specs.Prelude.{slice_get}
use Rattle.hx_board.specs.declared.colours.Colour.{Colour}
use Rattle.hx_board.specs.declared.colours.Colour.TheVariants.{Black, White}
use Rattle.hx_board.specs.declared.vertices.Vertex.{Vertex}
use Rattle.hx_board.specs.declared.vertices.Vertex.TheVariants.{Of, First, Last}
use Rattle.hx_board.specs.Sets.{has, union}
use Rattle.hx_board.specs.Positions.{Board, IsEmpty, IsPosition, stones_of}
use Rattle.hx_board.specs.Graph.{IsOwn}
use Rattle.hx_board.proofs.SetLaws.{has-insert_other, has-union_left, has-union_right}
use Rattle.hx_link.specs.declared.links.Link.{Link}
use Rattle.hx_link.specs.declared.steps.Step.{Step}
use Rattle.hx_link.specs.declared.steps.Step.TheVariants.{Base, AndStone, AndCell, Or}
use Rattle.hx_link.specs.Steps.{IsEnd, HasEnds, GoesOver, GivesByRule, StepGives}
use Rattle.hx_link.proofs.LinkLaws.{one_of-contains, in_carriers}
use Rattle.hx_link.proofs.PartLaws.{part_at}
use Rattle.hx_linkset.specs.States.{IsLive, Names, IsLiveAt}

module _ (board : Board) (player : Colour) where
  -- the ends of a link, however they are named
  ends_are : (link : Link) (x y : Vertex) → HasEnds link x y → IsEnd board player x → IsEnd board player y → IsEnd board player link.a
      × IsEnd board player link.b
  ends_are link x y (inl e) h k = (rw e.0 h, rw e.1 k)
  ends_are link x y (inr e) h k = (rw e.0 k, rw e.1 h)

  ends_of : (link : Link) (x y : Vertex) → HasEnds link x y → IsEnd board player link.a → IsEnd board player link.b → IsEnd board player x
      × IsEnd board player y
  ends_of link x y (inl e) h k = (rw e.0 at h, rw e.1 at k)
  ends_of link x y (inr e) h k = (rw e.1 at k, rw e.0 at h)

  own_is_end : IsPosition board.size board.black board.white → (vertex : Vertex) → IsOwn board player vertex → IsEnd board player vertex
  own_is_end p First own = tt
  own_is_end p Last own = tt
  own_is_end p (Of cell) own = own_cell player p cell own
    where
      own_cell : (who : Colour) → IsPosition board.size board.black board.white → (cell : ℕ) → has (stones_of board who) cell ≡ true
          → IsEnd board who (Of cell)
      own_cell Black p cell h = (p.black_inside cell h, p.apart cell h)
      own_cell White p cell h =
          (p.white_inside cell h, false_from_ne_true (has board.black cell) (λ k. false≢true (sym (p.apart cell k) ∙ h)))

  empty_is_end : (cell : ℕ) → IsEmpty board cell → IsEnd board player (Of cell)
  empty_is_end cell e = no_stone player
    where
      no_stone : (who : Colour) → IsEnd board who (Of cell)
      no_stone Black = (e.on_board, e.no_white)
      no_stone White = (e.on_board, e.no_black)

  module _ (before : List Link) (p : IsPosition board.size board.black board.white) where
    -- the two parts of an And
    over_parts : (left right : ℕ) (middle : Vertex) (link : Link) (over : GoesOver before left right middle link)
        → IsLive board player link → IsEnd board player middle
        → ((n : ℕ) → has (union over.first.carrier over.second.carrier) n ≡ true → IsEmpty board n)
        → IsLive board player over.first × IsLive board player over.second
    over_parts left right middle link over live middle_end empty =
        let outer : IsEnd board player over.from × IsEnd board player over.to =
        ends_of link over.from over.to over.ends live.a_end live.b_end in (
          (let ends : IsEnd board player over.first.a × IsEnd board player over.first.b =
              ends_are over.first over.from middle over.first_ends outer.0 middle_end in
              record {
                empty = λ n h. empty n (has-union_left over.first.carrier over.second.carrier n h);
                a_end = ends.0;
                b_end = ends.1;
              }),
          (let ends : IsEnd board player over.second.a × IsEnd board player over.second.b =
              ends_are over.second middle over.to over.second_ends middle_end outer.1 in
              record {
                empty = λ n h. empty n (has-union_right over.first.carrier over.second.carrier n h);
                a_end = ends.0;
                b_end = ends.1;
              }),
        )

    parts_by_rule : (step : Step) (link : Link) → GivesByRule board player before step link → IsLive board player link → (place : ℕ)
        → Names step place → IsLiveAt board player before place
    parts_by_rule (Base a b) link g live place named = absurd named
    parts_by_rule (AndStone left right) link g live place named =
        let o : GoesOver before left right g.middle link = g.over in
        let both : IsLive board player o.first × IsLive board player o.second =
        over_parts left right g.middle link o live (own_is_end p g.middle g.own) (λ n h. live.empty n (rw g.carrier h)) in
        ⊎_elim (λ e. (o.first, (ap (λ n. slice_get before n) e ∙ o.first_there, both.0)))
        (λ e. (o.second, (ap (λ n. slice_get before n) e ∙ o.second_there, both.1))) named
    parts_by_rule (AndCell left right) link g live place named =
        let o : GoesOver before left right (Of g.cell) link = g.over in
        let both : IsLive board player o.first × IsLive board player o.second =
        over_parts left right (Of g.cell) link o live (empty_is_end g.cell g.empty)
        (λ n h. live.empty n (rw g.carrier (has-insert_other (union o.first.carrier o.second.carrier) g.cell n h))) in
        ⊎_elim (λ e. (o.first, (ap (λ n. slice_get before n) e ∙ o.first_there, both.0)))
        (λ e. (o.second, (ap (λ n. slice_get before n) e ∙ o.second_there, both.1))) named
    parts_by_rule (Or parts) link g live place named =
        let w = part_at before parts g.links g.there named.0 place named.1 in
        let ends : IsEnd board player w.0.a × IsEnd board player w.0.b =
        ends_are w.0 link.a link.b (g.same_ends w.0 (one_of-contains g.links w.0 w.1.0)) live.a_end live.b_end in (
          w.0,
          (
            w.1.1,
            record {
              empty = λ n h. live.empty n (rw g.carrier (in_carriers g.links w.1.0.0 w.0 w.1.0.1 n h));
              a_end = ends.0;
              b_end = ends.1;
            },
          ),
        )

    pub parts_live : (step : Step) (link : Link) → StepGives board player before step link → IsLive board player link → (place : ℕ)
        → Names step place → IsLiveAt board player before place
    parts_live step link g = parts_by_rule step link g.rule
