-- What stays as links are added: each place holds what it held, so a live link stays live, and a settled step of places
-- that were there stays settled, since it gives the same link.
use Rattle.std.proofs.Common.{◌≡◌, ℕ, suc, ◌+◌, ◌<◌, List, [], ◌∷◌, map, length}
use Rattle.std.proofs.Common.{refl, sym, ◌∙◌, subst, inl, inr, Some}
use Rattle.std.proofs.lemmas.Option.{slice_get_within}
use Rattle.std.specs.Prelude.{slice_get}
use Rattle.hx_board.specs.declared.colours.Colour.{Colour}
use Rattle.hx_board.specs.declared.vertices.Vertex.{Vertex}
use Rattle.hx_board.specs.declared.vertices.Vertex.TheVariants.{Of}
use Rattle.hx_board.specs.Positions.{Board}
use Rattle.hx_link.specs.declared.links.Kind.{Kind}
use Rattle.hx_link.specs.declared.links.Link.{Link}
use Rattle.hx_link.specs.declared.steps.Step.{Step}
use Rattle.hx_link.specs.declared.steps.Step.TheVariants.{Base, AndStone, AndCell, Or}
use Rattle.hx_link.specs.Steps.{GoesOver, GivesByRule}
use Rattle.hx_link.specs.Named.{links_at}
use Rattle.hx_link.proofs.OneLink.{step-unique}
use Rattle.hx_linkset.specs.States.{Standing, IsLive, Names, GivesFromLive, added}
use Rattle.hx_linkset.specs.declared.sets.Added.{Added}
use Rattle.hx_linkset.specs.declared.sets.Added.TheVariants.{New, Covered, Refused, Limit}
use Rattle.hx_linkset.specs.Answers.{Gives, Covers, IsAdded, IsNew, IsPutAt, IsCovered, IsAtLimit}
use Rattle.hx_linkset.specs.LiveOf.{IsLiveOf}
use Rattle.hx_linkset.proofs.GivenLaws.{from_live-live}
use Rattle.hx_board.proofs.ListLaws.{get-there, get-push_last}
use Rattle.hx_reach.specs.Growth.{IsGrown}
use Rattle.hx_reach.proofs.GrowthLaws.{grown-same, put-grown, put-longer}
use Rattle.hx_search.specs.Closed.{IsSettled}
use Rattle.hx_search.specs.Progress.{IsUnsettled, IsTriedStep, tried_by}

-- a place that was there holds what it held
module _ (links more : List Link)
    (kept : (place : ℕ) (link : Link) → slice_get links place ≡ Some link → slice_get more place ≡ Some link) where
  held : (place : ℕ) (link : Link) → place < length links → slice_get more place ≡ Some link → slice_get links place ≡ Some link
  held place link lt h = let w = get-there links place lt in w.1 ∙ (sym (kept place w.0 w.1) ∙ h)

  over_held : (left right : ℕ) (middle : Vertex) (link : Link) → left < length links → right < length links
      → GoesOver more left right middle link → GoesOver links left right middle link
  over_held left right middle link l r m = record {
    first = m.first;
    second = m.second;
    from = m.from;
    to = m.to;
    first_there = held left m.first l m.first_there;
    second_there = held right m.second r m.second_there;
    first_full = m.first_full;
    second_full = m.second_full;
    first_ends = m.first_ends;
    second_ends = m.second_ends;
    apart = m.apart;
    ends = m.ends;
  }

  parts_held : (parts : List ℕ) (found : List Link) → ((k place : ℕ) → slice_get parts k ≡ Some place → place < length links)
      → links_at more parts ≡ map (λ (l : Link). Some l) found → links_at links parts ≡ map (λ (l : Link). Some l) found
  parts_held [] found below e = e
  parts_held (p ∷ ps) [] below e = cc
  parts_held (p ∷ ps) (l ∷ ls) below e =
      let here : slice_get links p ≡ Some l = held p l (below 0 p refl) cc in
      let rest : links_at links ps ≡ map (λ (l : Link). Some l) ls = parts_held ps ls (λ k place h. below (suc k) place h) cc in
      cc

  module _ (board : Board) (player : Colour) (link : Link) where
    rule_held : (step : Step) → ((place : ℕ) → Names step place → place < length links) → GivesByRule board player more step link
        → GivesByRule board player links step link
    unfolding over_held
    rule_held (Base a b) below g = g
    rule_held (AndStone left right) below g =
        record {
          middle = g.middle;
          over = over_held left right g.middle link (below left (inl refl)) (below right (inr refl)) g.over;
          own = g.own;
          kind = g.kind;
          carrier = g.carrier;
        }
    rule_held (AndCell left right) below g =
        record {
          cell = g.cell;
          over = over_held left right (Of g.cell) link (below left (inl refl)) (below right (inr refl)) g.over;
          empty = g.empty;
          outside_first = g.outside_first;
          outside_second = g.outside_second;
          kind = g.kind;
          carrier = g.carrier;
        }
    rule_held (Or parts) below g =
        record {
          links = g.links;
          there = parts_held parts g.links (λ k place h. below place (k, h)) g.there;
          several = g.several;
          few =
              g.few;
          semi = g.semi;
          same_ends = g.same_ends;
          none_in_all = g.none_in_all;
          kind = g.kind;
          carrier = g.carrier;
        }

    gives_held : (step : Step) → ((place : ℕ) → Names step place → place < length links) → GivesFromLive board player more step link
        → GivesFromLive board player links step link
    gives_held step below g = record {
      gives = record { rule = rule_held step below g.gives.rule; link_ok = g.gives.link_ok };
      from_live = λ place h. let w = g.from_live place h in (w.0, (held place w.0 (below place h) w.1.0, w.1.1));
    }

-- the step gives in the longer set what it gave before
pub gives-before : (old new : Standing) (step : Step) (link : Link) → IsGrown old new
    → ((place : ℕ) → Names step place → place < length old.present.links) → Gives new step link → Gives old step link
gives-before old new step link g below h =
    let P : Board → Type 0 = λ b. GivesFromLive b new.player new.present.links step link in
    let Q : Colour → Type 0 = λ p. GivesFromLive old.present.board p new.present.links step link in
    gives_held old.present.links new.present.links g.links_stay old.present.board old.player link step below
    (subst Q g.same_player (subst P g.same_board h))

pub covers-on : (old new : Standing) (place : ℕ) (link : Link) → IsGrown old new → Covers old place link → Covers new place link
covers-on old new place link g c = record {
  by = c.by;
  there = g.links_stay place c.by c.there;
  live = (let P : Board → Type 0 = λ b. IsLive b new.player c.by in let Q : Colour → Type 0 = λ p. IsLive old.present.board p c.by in
      subst P (sym g.same_board) (subst Q (sym g.same_player) c.live));
  cover = c.cover;
}

-- a settled step of places that were there stays settled
pub settled-on : (old new : Standing) (step : Step) → IsGrown old new → ((place : ℕ) → Names step place → place < length old.present.links)
    → IsSettled old step → IsSettled new step
settled-on old new step g below s link h = let w = s link (gives-before old new step link g below h) in
    (w.0, covers-on old new w.0 link g w.1)

module _ (old new : Standing) (step : Step) where
  -- a new link is one that was put at the end
  new-put : (place : ℕ) → IsNew old new step place → IsPutAt old new step place
  new-put place n = record { link = n.link; gives = n.gives; place_is = n.place_is; small = n.small; grown = n.grown }

  new-grown : (place : ℕ) → IsNew old new step place → IsGrown old new
  new-grown place n = put-grown old new step place (new-put place n)

  pub new-longer : (place : ℕ) → IsNew old new step place → length new.present.links ≡ length old.present.links + 1
  new-longer place n = put-longer old new step place (new-put place n)

  new-settled : (place : ℕ) → IsNew old new step place → IsSettled new step
  new-settled place n link h =
      let grown : IsGrown old new = new-grown place n in
      let below : (p : ℕ) → Names step p → p < length old.present.links = λ p k.
      (let w = n.gives.from_live p k in slice_get_within old.present.links p w.0 w.1.0) in
      let was : Gives old step link = gives-before old new step link grown below h in
      let same : n.link ≡ link = step-unique old.present.board old.player old.present.links n.link link step n.gives.gives was.gives in
      let covers : Covers (record old { present = added old.present n.link step }) (length old.present.links) n.link = record {
        by = n.link;
        there = get-push_last old.present.links n.link;
        live = from_live-live old.present.board old.player old.present.links step n.link n.gives;
        cover = record { same_kind = refl; same_a = refl; same_b = refl; inside = λ m k. k };
      } in
      let P : Standing → Type 0 = λ s. Covers s (length old.present.links) n.link in
      let Q : Link → Type 0 = λ l. Covers new (length old.present.links) l in
      (length old.present.links, subst Q same (subst P (sym n.grown) covers))

  covered-settled : (place : ℕ) → IsCovered old new step place → IsSettled new step
  covered-settled place c = let P : Standing → Type 0 = λ s. IsSettled s step in subst P (sym c.same)
      (λ link h. let same : c.link ≡ link =
      step-unique old.present.board old.player old.present.links c.link link step c.gives.gives h.gives in
      let Q : Link → Type 0 = λ l. Covers old place l in (place, subst Q same c.covers))

  full-unsettled : IsAtLimit old new step → IsUnsettled new step
  full-unsettled f = let P : Standing → Type 0 = λ s. IsUnsettled s step in subst P (sym f.same) record {
    full = f.full;
    not_settled = λ settled. let w = settled f.link f.gives in f.uncovered w.0 w.1;
  }

  pub added-grown : (added : Added) → IsAdded old new step added → IsGrown old new
  added-grown (New place) n = new-grown place n
  added-grown (Covered place) c = grown-same old new c.same
  added-grown Refused r = grown-same old new r.same
  added-grown Limit f = grown-same old new f.same

  pub added-tried : (added : Added) → IsAdded old new step added → IsTriedStep new step (tried_by added)
  added-tried (New place) n = new-settled place n
  added-tried (Covered place) c = covered-settled place c
  added-tried Refused r =
      let P : Standing → Type 0 = λ s. IsSettled s step in subst P (sym r.same) (λ link gives. absurd (r.none link gives))
  added-tried Limit f = full-unsettled f

-- a live link of a kind and ends stays one
module _ (old new : Standing) (g : IsGrown old new) (kind : Kind) (a b : Vertex) (place : ℕ) where
  live_on : (link : Link) → IsLive old.present.board old.player link → IsLive new.present.board new.player link
  live_on link live =
      let P : Board → Type 0 = λ board. IsLive board new.player link in
      let Q : Colour → Type 0 = λ player. IsLive old.present.board player link in
      subst P (sym g.same_board) (subst Q (sym g.same_player) live)

  live_back : (link : Link) → IsLive new.present.board new.player link → IsLive old.present.board old.player link
  live_back link live =
      let P : Board → Type 0 = λ board. IsLive board new.player link in
      let Q : Colour → Type 0 = λ player. IsLive old.present.board player link in
      subst Q g.same_player (subst P g.same_board live)

  pub live_of-on : IsLiveOf old kind a b place → IsLiveOf new kind a b place
  live_of-on is = record {
    link = is.link;
    there = g.links_stay place is.link is.there;
    live = live_on is.link is.live;
    kind_is =
        is.kind_is;
    ends = is.ends;
  }

  -- and at a place that was there it was one
  pub live_of-back : place < length old.present.links → IsLiveOf new kind a b place → IsLiveOf old kind a b place
  live_of-back less is = record {
    link = is.link;
    there = held old.present.links new.present.links g.links_stay place is.link less is.there;
    live = live_back is.link is.live;
    kind_is = is.kind_is;
    ends = is.ends;
  }
