-- A step gives one link at most.
--
-- Two links of the same kind, ends and carrier are one, since both have the lower end first (`same_link`). Each rule
-- fixes the kind, the carrier and the ends: an And since two places have one meeting, an Or since places have one list
-- of links.
use Rattle.std.proofs.Common.{◌≡◌, ℕ, ◌<◌, List, refl, sym, ap, ◌∙◌, subst, inl, inr, arith}
use Rattle.std.specs.Prelude.{Contains}
use Rattle.hx_board.specs.declared.colours.Colour.{Colour}
use Rattle.hx_board.specs.declared.vertices.Vertex.{Vertex}
use Rattle.hx_board.specs.declared.vertices.Vertex.TheVariants.{Of}
use Rattle.hx_board.specs.Positions.{Board}
use Rattle.hx_board.specs.VertexSets.{code_of}
use Rattle.hx_link.specs.declared.links.Kind.{Kind}
use Rattle.hx_link.specs.declared.links.Link.{Link}
use Rattle.hx_link.specs.declared.meetings.Met.{Met}
use Rattle.hx_link.specs.declared.steps.Step.{Step}
use Rattle.hx_link.specs.declared.steps.Step.TheVariants.{Base, AndStone, AndCell, Or}
use Rattle.hx_link.specs.Steps.{IsLink, HasEnds, GoesOver, carriers_of, GivesByRule, StepGives}
use Rattle.hx_link.specs.Named.{IsMade, IsMet, IsMiddle}
use Rattle.hx_link.proofs.MeetingLaws.{met-over, stone-to, cell-to}
use Rattle.hx_link.proofs.PartLaws.{same_links, ends_back}

equal_links : (k k' : Kind) (a a' b b' : Vertex) (c c' : ℕ) → k ≡ k' → a ≡ a' → b ≡ b' → c ≡ c'
    → (let l : Link = record { kind = k; a = a; b = b; carrier = c } in l) ≡ record { kind = k'; a = a'; b = b'; carrier = c' }
equal_links k k' a a' b b' c c' e f g h = cc

module _ (l m : Link) (x y : Vertex) (kinds : l.kind ≡ m.kind) (carriers : l.carrier ≡ m.carrier) (low : code_of l.a < code_of l.b)
    (low' : code_of m.a < code_of m.b) where
  crossed : l.a ≡ m.b → l.b ≡ m.a → l ≡ m
  crossed e f = absurd (omega (arith, ap code_of e, ap code_of f))

  same_link : HasEnds l x y → HasEnds m x y → l ≡ m
  same_link (inl e) (inl f) = equal_links l.kind m.kind l.a m.a l.b m.b l.carrier m.carrier kinds (e.0 ∙ sym f.0) (e.1 ∙ sym f.1) carriers
  same_link (inl e) (inr f) = crossed (e.0 ∙ sym f.1) (e.1 ∙ sym f.0)
  same_link (inr e) (inl f) = crossed (e.0 ∙ sym f.1) (e.1 ∙ sym f.0)
  same_link (inr e) (inr f) = equal_links l.kind m.kind l.a m.a l.b m.b l.carrier m.carrier kinds (e.0 ∙ sym f.0) (e.1 ∙ sym f.1) carriers

module _ (board : Board) (player : Colour) (before : List Link) (l m : Link) where
  same_made : (kind : Kind) (x y : Vertex) (carrier : ℕ) → IsMade board player kind x y carrier l → IsMade board player kind x y carrier m
      → l ≡ m
  same_made kind x y carrier g h =
      same_link l m x y (g.kind_is ∙ sym h.kind_is)
      (g.carrier_is ∙ sym h.carrier_is) g.link_ok.lower_first h.link_ok.lower_first g.ends h.ends

  by_rule : (step : Step) → GivesByRule board player before step l → IsLink board player l → GivesByRule board player before step m
      → IsLink board player m → l ≡ m
  by_rule (Base a b) g ok h ok' =
      same_link l m a b (g.kind ∙ sym h.kind) (g.carrier ∙ sym h.carrier) ok.lower_first ok'.lower_first g.ends h.ends
  by_rule (AndStone left right) g ok h ok' =
      let o : GoesOver before left right g.middle l = g.over in
      let met : Met = record { first = o.first; second = o.second; at = record { from = o.from; middle = g.middle; to = o.to } } in
      let is : IsMet before left right met = met-over before left right board player l g.middle ok o in
      same_made _ _ _ _ (stone-to before left right board player l met _ refl is g ok).1
      (stone-to before left right board player m met _ refl is h ok').1
  by_rule (AndCell left right) g ok h ok' =
      let o : GoesOver before left right (Of g.cell) l = g.over in
      let met : Met = record { first = o.first; second = o.second; at = record { from = o.from; middle = Of g.cell; to = o.to } } in
      let is : IsMet before left right met = met-over before left right board player l (Of g.cell) ok o in
      let mid : IsMiddle board met g.cell =
      record { is_cell = refl; empty = g.empty; outside_first = g.outside_first; outside_second = g.outside_second } in
      same_made _ _ _ _ (cell-to before left right board player l met g.cell _ refl is mid g ok)
      (cell-to before left right board player m met g.cell _ refl is mid h ok')
  by_rule (Or parts) g ok h ok' =
      let links : g.links ≡ h.links = same_links g.links h.links (sym g.there ∙ h.there) in
      let w = g.none_in_all 0 in
      let P : List Link → Type 0 = λ ls. Contains ls w.0 in
      same_link l m w.0.a w.0.b (g.kind ∙ sym h.kind) (g.carrier ∙ (ap carriers_of links ∙ sym h.carrier)) ok.lower_first ok'.lower_first
      (ends_back w.0 l (g.same_ends w.0 w.1.0)) (ends_back w.0 m (h.same_ends w.0 (subst P links w.1.0)))

  pub step-unique : (step : Step) → StepGives board player before step l → StepGives board player before step m → l ≡ m
  step-unique step g h = by_rule step g.rule g.link_ok h.rule h.link_ok
