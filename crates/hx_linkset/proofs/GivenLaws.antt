-- Given by live links and live are one: a live link that is given is given by live links (`given-from_live`), and what
-- live links give is live (`from_live-live`), since each cell of its carrier is in a carrier of theirs or is an empty
-- middle.
use Rattle.std.proofs.Common.{◌≡◌, ℕ, zero, suc, true, List, [], ◌∷◌, refl, sym, ap, ◌∙◌, subst, inl, inr, Some, ⊎_elim}
use Rattle.std.specs.Prelude.{slice_get}
use Rattle.std.proofs.lemmas.Bool.{false≢true}
use Rattle.std.proofs.lemmas.Option.{same_Some}
use Rattle.hx_board.specs.declared.colours.Colour.{Colour}
use Rattle.hx_board.specs.Sets.{has, union}
use Rattle.hx_board.specs.Positions.{Board, IsEmpty, IsPosition}
use Rattle.hx_board.proofs.SetLaws.{has-empty, has-insert_cases, has-union_cases}
use Rattle.hx_link.specs.declared.links.Link.{Link}
use Rattle.hx_link.specs.declared.steps.Step.{Step}
use Rattle.hx_link.specs.declared.steps.Step.TheVariants.{Base, AndStone, AndCell, Or}
use Rattle.hx_link.specs.Steps.{carriers_of, StepGives, GivesByRule}
use Rattle.hx_link.specs.Named.{IsOneOf}
use Rattle.hx_link.proofs.LinkLaws.{place_of}
use Rattle.hx_linkset.specs.States.{IsLive, IsLiveAt, Names, GivesFromLive}
use Rattle.hx_linkset.proofs.LiveLaws.{parts_live}

pub given-from_live : (board : Board) (player : Colour) (links : List Link) (step : Step) (link : Link)
    → IsPosition board.size board.black board.white → StepGives board player links step link → IsLive board player link
    → GivesFromLive board player links step link
given-from_live board player links step link p g live =
    record { gives = g; from_live = λ place named. parts_live board player links p step link g live place named }

carriers_cases : (links : List Link) (n : ℕ) → has (carriers_of links) n ≡ true → (part : Link)
    × (IsOneOf part links × (has part.carrier n ≡ true))
carriers_cases [] n h = absurd (false≢true (sym (has-empty n) ∙ h))
carriers_cases (l ∷ ls) n h =
    ⊎_elim (λ k. (l, ((zero, refl), k))) (λ k. let w = carriers_cases ls n k in (w.0, ((suc w.1.0.0, w.1.0.1), w.1.1)))
    (has-union_cases l.carrier (carriers_of ls) n h)

module _ (board : Board) (player : Colour) (held : List Link) where
  named_empty : (place : ℕ) (part : Link) → IsLiveAt board player held place → slice_get held place ≡ Some part → (n : ℕ)
      → has part.carrier n ≡ true → IsEmpty board n
  named_empty place part w there n h = let same : w.0 ≡ part = same_Some w.0 part (sym w.1.0 ∙ there) in
      w.1.1.empty n (ap (λ (l : Link). has l.carrier n) same ∙ h)

  rule_empty : (step : Step) (link : Link) → GivesByRule board player held step link
      → ((place : ℕ) → Names step place → IsLiveAt board player held place)
      → (n : ℕ) → has link.carrier n ≡ true → IsEmpty board n
  rule_empty (Base a b) link g live n h = absurd (false≢true (sym (has-empty n) ∙ (ap (λ c. has c n) (sym g.carrier) ∙ h)))
  rule_empty (AndStone left right) link g live n h = ⊎_elim
      (named_empty left g.over.first (live left (inl refl)) g.over.first_there n)
      (named_empty right g.over.second (live right (inr refl)) g.over.second_there n)
      (has-union_cases g.over.first.carrier g.over.second.carrier n (ap (λ c. has c n) (sym g.carrier) ∙ h))
  rule_empty (AndCell left right) link g live n h = ⊎_elim
      (λ e. let P : ℕ → Type 0 = λ m. IsEmpty board m in subst P (sym e) g.empty)
      (λ k. ⊎_elim
      (named_empty left g.over.first (live left (inl refl)) g.over.first_there n)
      (named_empty right g.over.second (live right (inr refl)) g.over.second_there n)
      (has-union_cases g.over.first.carrier g.over.second.carrier n k))
      (has-insert_cases (union g.over.first.carrier g.over.second.carrier) g.cell n (ap (λ c. has c n) (sym g.carrier) ∙ h))
  rule_empty (Or parts) link g live n h =
      let w = carriers_cases g.links n (ap (λ c. has c n) (sym g.carrier) ∙ h) in
      let p = place_of held parts g.links g.there w.1.0.0 w.0 w.1.0.1 in
      named_empty p.0 w.0 (live p.0 (w.1.0.0, p.1.0)) p.1.1 n w.1.1

  pub from_live-live : (step : Step) (link : Link) → GivesFromLive board player held step link → IsLive board player link
  from_live-live step link g =
      record { empty = rule_empty step link g.gives.rule g.from_live; a_end = g.gives.link_ok.a_end; b_end = g.gives.link_ok.b_end }
