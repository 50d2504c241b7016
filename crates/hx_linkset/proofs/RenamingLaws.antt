-- A step that is renamed gives the same link, where each link that it names stands under its new name.
use Rattle.std.proofs.lemmas.List.{length-map, map-append, get_or_default}
use Rattle.std.proofs.Common.{◌≡◌, ℕ, suc, ◌+◌, ◌<◌, List, [], ◌∷◌, ◌++◌, length, map, take, get_or, refl, sym, ap, ◌∙◌, inl, inr, Some}
use Rattle.hx_board.proofs.ListLaws.{take-read}
use Rattle.std.specs.Prelude.{slice_get}
use Rattle.hx_board.specs.declared.colours.Colour.{Colour}
use Rattle.hx_board.specs.declared.vertices.Vertex.{Vertex}
use Rattle.hx_board.specs.declared.vertices.Vertex.TheVariants.{Of}
use Rattle.hx_board.specs.Positions.{Board}
use Rattle.hx_link.specs.declared.links.Link.{Link}
use Rattle.hx_link.specs.declared.steps.Step.{Step}
use Rattle.hx_link.specs.declared.steps.Step.TheVariants.{Base, AndStone, AndCell, Or}
use Rattle.hx_link.specs.Steps.{GoesOver, GivesByRule, StepGives}
use Rattle.hx_link.specs.Named.{links_at}
use Rattle.hx_link.proofs.LinkLaws.{same_front}
use Rattle.hx_linkset.specs.States.{Names}
use Rattle.hx_linkset.specs.Derivations.{renamed}

-- the names of the places so far, and of one more
pub names-more : (name : ℕ → ℕ) (places : List ℕ) (k : ℕ) (old new : List ℕ) → k < length places → old ≡ map name (take k places)
    → new ≡ old ++ name (get_or places k 0) ∷ [] → new ≡ map name (take (k + 1) places)
names-more name places k old new less is more =
    let place : ℕ = get_or places k 0 in
    let front : take (k + 1) places ≡ take k places ++ place ∷ [] = take-read places k place less (get_or_default places k 0 place less) in
    more ∙ ap (λ (ns : List ℕ). ns ++ name place ∷ []) is
    ∙ sym (map-append name (take k places) (place ∷ []))
    ∙ ap (λ (ps : List ℕ). map name ps) (sym front)

module _ (name : ℕ → ℕ) (before after : List Link) where
  links_at-renamed : (parts : List ℕ)
      → ((k place : ℕ) → slice_get parts k ≡ Some place → slice_get after (name place) ≡ slice_get before place)
      → links_at after (map name parts) ≡ links_at before parts
  links_at-renamed [] same = refl
  links_at-renamed (p ∷ ps) same = same_front (same 0 p refl) (links_at-renamed ps (λ k place h. same (suc k) place h))

  over-renamed : (left right : ℕ) (middle : Vertex) (link : Link) → slice_get after (name left) ≡ slice_get before left
      → slice_get after (name right) ≡ slice_get before right
      → GoesOver before left right middle link → GoesOver after (name left) (name right) middle link
  over-renamed left right middle link l r m = record {
    first = m.first;
    second = m.second;
    from = m.from;
    to = m.to;
    first_there = l ∙ m.first_there;
    second_there = r ∙ m.second_there;
    first_full = m.first_full;
    second_full = m.second_full;
    first_ends = m.first_ends;
    second_ends = m.second_ends;
    apart = m.apart;
    ends = m.ends;
  }

  rule-renamed : (board : Board) (player : Colour) (step : Step) (link : Link)
      → ((place : ℕ) → Names step place → slice_get after (name place) ≡ slice_get before place)
      → GivesByRule board player before step link → GivesByRule board player after (renamed name step) link
  unfolding over-renamed
  rule-renamed board player (Base a b) link same g = g
  rule-renamed board player (AndStone left right) link same g = record {
    middle = g.middle;
    over = over-renamed left right g.middle link (same left (inl refl)) (same right (inr refl)) g.over;
    own = g.own;
    kind = g.kind;
    carrier = g.carrier;
  }
  rule-renamed board player (AndCell left right) link same g = record {
    cell = g.cell;
    over = over-renamed left right (Of g.cell) link (same left (inl refl)) (same right (inr refl)) g.over;
    empty = g.empty;
    outside_first = g.outside_first;
    outside_second = g.outside_second;
    kind = g.kind;
    carrier = g.carrier;
  }
  rule-renamed board player (Or parts) link same g = record {
    links = g.links;
    there = links_at-renamed parts (λ k place h. same place (k, h)) ∙ g.there;
    several = rw length-map g.several;
    few = rw length-map g.few;
    semi = g.semi;
    same_ends = g.same_ends;
    none_in_all = g.none_in_all;
    kind = g.kind;
    carrier = g.carrier;
  }

  pub gives-renamed : (board : Board) (player : Colour) (step : Step) (link : Link)
      → ((place : ℕ) → Names step place → slice_get after (name place) ≡ slice_get before place)
      → StepGives board player before step link → StepGives board player after (renamed name step) link
  gives-renamed board player step link same g = record { rule = rule-renamed board player step link same g.rule; link_ok = g.link_ok }
