-- How two links meet, and that what the And rules give depends on the meeting alone.
--
-- Two links whose ends are given in either order meet at one end at the most (`meets_once`, by the sixteen cases of the
-- four orders). So two places have one meeting at the most (`met-same`), and what a rule says of some meeting holds of
-- the one that was found: `stone-from` and `stone-to`, `cell-from` and `cell-to` go from the one to the other and back.
use Rattle.std.proofs.Common.{◌≡◌, ◌≢◌, ℕ, List, refl, sym, ap, ◌∙◌, subst, inl, inr, ⊎_elim, Some, None, Option}
use Rattle.std.proofs.lemmas.Option.{same_Some}
use Rattle.std.specs.Prelude.{slice_get}
use Rattle.hx_board.specs.declared.colours.Colour.{Colour}
use Rattle.hx_board.specs.declared.vertices.Vertex.{Vertex}
use Rattle.hx_board.specs.declared.vertices.Vertex.TheVariants.{Of}
use Rattle.hx_board.specs.Finds.{Finds}
use Rattle.hx_board.specs.Sets.{insert, union}
use Rattle.hx_board.specs.Positions.{Board}
use Rattle.hx_board.specs.Graph.{IsOwn}
use Rattle.hx_link.specs.declared.links.Kind.TheVariants.{Full, Semi}
use Rattle.hx_link.specs.declared.links.Link.{Link}
use Rattle.hx_link.specs.declared.steps.Step.TheVariants.{AndStone, AndCell}
use Rattle.hx_link.specs.declared.meetings.Meeting.{Meeting}
use Rattle.hx_link.specs.declared.meetings.Met.{Met}
use Rattle.hx_link.specs.Steps.{IsLink, HasEnds, GoesOver, GivesAndStone, GivesAndCell, StepGives}
use Rattle.hx_link.specs.Named.{MeetIn, IsMeetingAt, IsMade, IsMet, IsMiddle}
use Rattle.hx_link.proofs.LinkLaws.{ends_differ}

-- two links share at most one end
meets_once : (f s : Link) (x z y x' z' y' : Vertex) → HasEnds f x z → HasEnds s z y → x ≢ y → HasEnds f x' z' → HasEnds s z' y' → x' ≢ y'
    → (x ≡ x') × (z ≡ z') × (y ≡ y')
meets_once f s x z y x' z' y' (inl a) (inl b) d (inl a') (inl b') d' = (cc, cc, cc)
meets_once f s x z y x' z' y' (inl a) (inl b) d (inl a') (inr b') d' = (cc, cc, cc)
meets_once f s x z y x' z' y' (inl a) (inl b) d (inr a') (inl b') d' = (cc, cc, cc)
meets_once f s x z y x' z' y' (inl a) (inl b) d (inr a') (inr b') d' = absurd (d cc)
meets_once f s x z y x' z' y' (inl a) (inr b) d (inl a') (inl b') d' = (cc, cc, cc)
meets_once f s x z y x' z' y' (inl a) (inr b) d (inl a') (inr b') d' = (cc, cc, cc)
meets_once f s x z y x' z' y' (inl a) (inr b) d (inr a') (inl b') d' = absurd (d cc)
meets_once f s x z y x' z' y' (inl a) (inr b) d (inr a') (inr b') d' = (cc, cc, cc)
meets_once f s x z y x' z' y' (inr a) (inl b) d (inl a') (inl b') d' = (cc, cc, cc)
meets_once f s x z y x' z' y' (inr a) (inl b) d (inl a') (inr b') d' = absurd (d cc)
meets_once f s x z y x' z' y' (inr a) (inl b) d (inr a') (inl b') d' = (cc, cc, cc)
meets_once f s x z y x' z' y' (inr a) (inl b) d (inr a') (inr b') d' = (cc, cc, cc)
meets_once f s x z y x' z' y' (inr a) (inr b) d (inl a') (inl b') d' = absurd (d cc)
meets_once f s x z y x' z' y' (inr a) (inr b) d (inl a') (inr b') d' = (cc, cc, cc)
meets_once f s x z y x' z' y' (inr a) (inr b) d (inr a') (inl b') d' = (cc, cc, cc)
meets_once f s x z y x' z' y' (inr a) (inr b) d (inr a') (inr b') d' = (cc, cc, cc)

-- how two links meet is how the one meets the other at one of its ends, seen from the other end
pub meets-at_one : (f s : Link) (o : Option Meeting) → ((m : Meeting) → IsMeetingAt f.a f.b s m → ⊥)
    → Finds o (IsMeetingAt f.b f.a s) → Finds o (MeetIn f s)
meets-at_one f s None none none' = λ m meet. ⊎_elim
    (λ (at : (f.a ≡ m.from) × (f.b ≡ m.middle)). none m (at_end (sym at.0) (sym at.1) meet))
    (λ (at : (f.a ≡ m.middle) × (f.b ≡ m.from)). none' m (at_end (sym at.1) (sym at.0) meet)) meet.first_ends
  where
    at_end : {x y : Vertex} {m : Meeting} → m.from ≡ x → m.middle ≡ y → MeetIn f s m → IsMeetingAt x y s m
    at_end from middle meet = record {
      from_is = from;
      middle_is = middle;
      second_ends = rw (sym middle) meet.second_ends;
      other_ends_differ = rw (sym from) meet.other_ends_differ;
    }
meets-at_one f s (Some m) none at = record {
  first_ends = inr (sym at.middle_is, sym at.from_is);
  second_ends = rw at.middle_is at.second_ends;
  other_ends_differ = rw at.from_is at.other_ends_differ;
}

met_eq : (f f' s s' : Link) (x x' z z' y y' : Vertex) → f ≡ f' → s ≡ s' → x ≡ x' → z ≡ z' → y ≡ y'
    → (let m : Met = record { first = f; second = s; at = record { from = x; middle = z; to = y } } in m) ≡ record {
      first = f';
      second =
          s';
      at = record { from = x'; middle = z'; to = y' };
    }
met_eq f f' s s' x x' z z' y y' a b d e g = cc

module _ (before : List Link) (left right : ℕ) where
  pub met-of : (z : Vertex) (link : Link) (m : GoesOver before left right z link) → m.from ≢ m.to
      → IsMet before left right record { first = m.first; second = m.second; at = record { from = m.from; middle = z; to = m.to } }
  met-of z link m differ = record {
    first_there = m.first_there;
    second_there = m.second_there;
    first_full = m.first_full;
    second_full = m.second_full;
    meet = record { first_ends = m.first_ends; second_ends = m.second_ends; other_ends_differ = differ };
    apart = m.apart;
  }

  pub meet-of : (m : Met) (link : Link) → IsMet before left right m → HasEnds link m.at.from m.at.to
      → GoesOver before left right m.at.middle link
  meet-of m link h ends = record {
    first = m.first;
    second = m.second;
    from = m.at.from;
    to = m.at.to;
    first_there = h.first_there;
    second_there = h.second_there;
    first_full = h.first_full;
    second_full = h.second_full;
    first_ends = h.meet.first_ends;
    second_ends = h.meet.second_ends;
    apart = h.apart;
    ends = ends;
  }

  -- there is one meeting of two places at most
  pub met-same : (m n : Met) → IsMet before left right m → IsMet before left right n → m ≡ n
  met-same m n h k =
      let first : m.first ≡ n.first = same_Some m.first n.first (sym h.first_there ∙ k.first_there) in
      let second : m.second ≡ n.second = same_Some m.second n.second (sym h.second_there ∙ k.second_there) in
      let once : (m.at.from ≡ n.at.from) × (m.at.middle ≡ n.at.middle) × (m.at.to ≡ n.at.to) =
      meets_once m.first m.second m.at.from m.at.middle m.at.to n.at.from n.at.middle n.at.to h.meet.first_ends h.meet.second_ends
      h.meet.other_ends_differ
      (rw first k.meet.first_ends) (rw second k.meet.second_ends) k.meet.other_ends_differ in
      met_eq m.first n.first m.second n.second m.at.from n.at.from m.at.middle n.at.middle m.at.to n.at.to first second once.0 once.1 once.2

  module _ (board : Board) (player : Colour) (link : Link) where
    pub met-over : (z : Vertex) → IsLink board player link → (o : GoesOver before left right z link)
        → IsMet before left right record { first = o.first; second = o.second; at = record { from = o.from; middle = z; to = o.to } }
    met-over z ok o = met-of z link o (ends_differ board player link o.from o.to ok o.ends)

    pub no_stone : ((m : Met) → IsMet before left right m → ⊥) → GivesAndStone board player before left right link
        → IsLink board player link → ⊥
    no_stone none g ok = none _ (met-over g.middle ok g.over)

    pub no_cell : ((m : Met) → IsMet before left right m → ⊥) → GivesAndCell board before left right link → IsLink board player link → ⊥
    no_cell none g ok = none _ (met-over (Of g.cell) ok g.over)

    pub stone-from : (m : Met) (carrier : ℕ) → carrier ≡ union m.first.carrier m.second.carrier → IsMet before left right m
        → IsOwn board player m.at.middle → IsMade board player Full m.at.from m.at.to carrier link
        → GivesAndStone board player before left right link × IsLink board player link
    unfolding meet-of
    stone-from m carrier e h own is = (
      record {
        middle = m.at.middle;
        over = meet-of m link h is.ends;
        own = own;
        kind = is.kind_is;
        carrier = is.carrier_is ∙ e;
      },
      is.link_ok,
    )

    pub stone-to : (m : Met) (carrier : ℕ) → carrier ≡ union m.first.carrier m.second.carrier → IsMet before left right m
        → GivesAndStone board player before left right link → IsLink board player link → IsOwn board player m.at.middle
        × IsMade board player Full m.at.from m.at.to carrier link
    stone-to m carrier e h g ok =
        let o : GoesOver before left right g.middle link = g.over in
        let same : m ≡ record { first = o.first; second = o.second; at = record { from = o.from; middle = g.middle; to = o.to } } =
        met-same m _ h (met-over g.middle ok o) in (
          let P : Met → Type 0 = λ w. IsOwn board player w.at.middle in subst P (sym same) g.own,
          record {
            kind_is = g.kind;
            carrier_is = g.carrier ∙ (ap (λ (w : Met). union w.first.carrier w.second.carrier) (sym same) ∙ sym e);
            ends = let P : Met → Type 0 = λ w. HasEnds link w.at.from w.at.to in subst P (sym same) o.ends;
            link_ok = ok;
          },
        )

    over_cell : (m : Met) {cell : ℕ} → IsMet before left right m → m.at.middle ≡ Of cell → HasEnds link m.at.from m.at.to
        → GoesOver before left right (Of cell) link
    over_cell m h is_cell ends =
        let P : Vertex → Type 0 = λ v. GoesOver before left right v link in subst P is_cell (meet-of m link h ends)

    pub cell-from : (m : Met) (cell carrier : ℕ) → carrier ≡ insert (union m.first.carrier m.second.carrier) cell
        → IsMet before left right m → IsMiddle board m cell → IsMade board player Semi m.at.from m.at.to carrier link
        → GivesAndCell board before left right link × IsLink board player link
    unfolding over_cell meet-of
    cell-from m cell carrier e h mid is = (
      record {
        cell = cell;
        over = over_cell m h mid.is_cell is.ends;
        empty = mid.empty;
        outside_first = mid.outside_first;
        outside_second = mid.outside_second;
        kind = is.kind_is;
        carrier = is.carrier_is ∙ e;
      },
      is.link_ok,
    )

    pub cell-middle : (m : Met) → IsMet before left right m → GivesAndCell board before left right link → IsLink board player link
        → (cell : ℕ) × IsMiddle board m cell
    cell-middle m h g ok =
        let o : GoesOver before left right (Of g.cell) link = g.over in
        let same : m ≡ record { first = o.first; second = o.second; at = record { from = o.from; middle = Of g.cell; to = o.to } } =
        met-same m _ h (met-over (Of g.cell) ok o) in (
          g.cell,
          let P : Met → Type 0 = λ w. IsMiddle board w g.cell in
              subst P (sym same) record {
                is_cell = refl;
                empty = g.empty;
                outside_first = g.outside_first;
                outside_second =
                    g.outside_second;
              },
        )

    pub cell-to : (m : Met) (cell carrier : ℕ) → carrier ≡ insert (union m.first.carrier m.second.carrier) cell → IsMet before left right m
        → IsMiddle board m cell → GivesAndCell board before left right link → IsLink board player link
        → IsMade board player Semi m.at.from m.at.to carrier link
    cell-to m cell carrier e h mid g ok =
        let o : GoesOver before left right (Of g.cell) link = g.over in
        let same : m ≡ record { first = o.first; second = o.second; at = record { from = o.from; middle = Of g.cell; to = o.to } } =
        met-same m _ h (met-over (Of g.cell) ok o) in
        let here : Of g.cell ≡ Of cell = ap (λ (w : Met). w.at.middle) (sym same) ∙ mid.is_cell in
        let cells : g.cell ≡ cell = cc in
        record {
          kind_is = g.kind;
          carrier_is = g.carrier
              ∙ (ap (λ (w : Met). insert (union w.first.carrier w.second.carrier) g.cell) (sym same)
              ∙ (ap (λ n. insert (union m.first.carrier m.second.carrier) n) cells ∙ sym e));
          ends = let P : Met → Type 0 = λ w. HasEnds link w.at.from w.at.to in subst P (sym same) o.ends;
          link_ok = ok;
        }

  pub stone-made : (board : Board) (player : Colour) (m : Met) (carrier : ℕ) (o : Option Link)
      → carrier ≡ union m.first.carrier m.second.carrier → IsMet before left right m → IsOwn board player m.at.middle
      → Finds o (IsMade board player Full m.at.from m.at.to carrier)
      → Finds o (StepGives board player before (AndStone left right))
  stone-made board player m carrier None e h own none = λ link g. none link (stone-to board player link m carrier e h g.rule g.link_ok).1
  stone-made board player m carrier (Some link) e h own is = let w = stone-from board player link m carrier e h own is in
      record { rule = w.0; link_ok = w.1 }

  pub cell-made : (board : Board) (player : Colour) (m : Met) (cell carrier : ℕ) (o : Option Link)
      → carrier ≡ insert (union m.first.carrier m.second.carrier) cell → IsMet before left right m → IsMiddle board m cell
      → Finds o (IsMade board player Semi m.at.from m.at.to carrier)
      → Finds o (StepGives board player before (AndCell left right))
  cell-made board player m cell carrier None e h mid none = λ link g.
      none link (cell-to board player link m cell carrier e h mid g.rule g.link_ok)
  cell-made board player m cell carrier (Some link) e h mid is = let w = cell-from board player link m cell carrier e h mid is in
      record { rule = w.0; link_ok = w.1 }

-- two links that are there and do not meet
pub no_meeting : (before : List Link) (left right : ℕ) (f s : Link) → slice_get before left ≡ Some f → slice_get before right ≡ Some s
    → ((meeting : Meeting) → MeetIn f s meeting → ⊥) → (m : Met) → IsMet before left right m → ⊥
no_meeting before left right f s there there' none m h =
    let first : f ≡ m.first = same_Some f m.first (sym there ∙ h.first_there) in
    let second : s ≡ m.second = same_Some s m.second (sym there' ∙ h.second_there) in
    none m.at (rw (first, second) h.meet)
