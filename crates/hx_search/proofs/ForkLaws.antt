-- Parts for an Or. Each of them lacks a cell that those before it share, so they are few (`parts-more`); what is
-- shared, all live Semi links of the two ends have (`share-more`). Where a cell is shared in the end, the ends are not
-- forked (`not-forked`); where none is, each cell is lacking in some part, and then the Or of the parts gives a link
-- (`fork-of`).
use Rattle.std.proofs.Common.{◌≡◌, ◌≢◌, ℕ, zero, suc, ◌<◌, ◌≤◌, ◌+◌, true, false, List, [], ◌∷◌, ◌++◌, map, length, refl, sym, ap}
use Rattle.std.proofs.Common.{◌∙◌, subst, Some, ⊎_elim, ◌⊎◌, inl, inr, arith, length-append}
use Rattle.std.specs.Prelude.{slice_get}
use Rattle.std.proofs.lemmas.Bool.{false≢true, cases_lt, true_from_ne_false, or_from}
use Rattle.std.proofs.lemmas.Option.{slice_get_within, same_Some}
use Rattle.hx_board.specs.declared.colours.Colour.{Colour}
use Rattle.hx_board.specs.declared.vertices.Vertex.{Vertex}
use Rattle.hx_board.specs.declared.vertices.Vertex.TheVariants.{Of}
use Rattle.hx_board.specs.Positions.{Board}
use Rattle.hx_board.specs.Sets.{has, union, intersection, difference, IsSubset}
use Rattle.hx_board.proofs.CellLaws.{on_board-small}
use Rattle.hx_board.proofs.SetLaws.{has-empty, has-union, has-insert_same, has-intersection_left, has-intersection_right}
use Rattle.hx_board.proofs.SetLaws.{has-difference_left, has-difference_right, has-difference_both, has_not-intersection}
use Rattle.hx_link.specs.declared.links.Kind.TheVariants.{Full, Semi}
use Rattle.hx_link.specs.declared.links.Link.{Link}
use Rattle.hx_link.specs.declared.steps.Step.{Step}
use Rattle.hx_link.specs.declared.steps.Step.TheVariants.{Base, AndStone, AndCell, Or}
use Rattle.hx_link.specs.Steps.{HasEnds, IsLink, carriers_of, GivesByRule}
use Rattle.hx_link.specs.Named.{links_at, IsOneOf}
use Rattle.hx_link.proofs.LinkLaws.{ends_along, one_of-contains, contains-one_of, one_of_later, same_front, place_of}
use Rattle.hx_link.proofs.PartLaws.{part_at}
use Rattle.hx_linkset.specs.States.{Standing, IsRight}
use Rattle.hx_linkset.specs.LiveOf.{IsLiveOf, IsFirstFrom}
use Rattle.hx_board.proofs.ListLaws.{get-there, get-push, get-push_before, get-push_last}
use Rattle.hx_linkset.proofs.NextLaws.{live-is_link}
use Rattle.hx_search.specs.Closed.{IsForked}
use Rattle.hx_search.specs.Progress.{AreParts, AllShare, IsFork}
use Rattle.hx_board.proofs.CountLaws.{count-small, count-less}

-- ---- sets

-- what an empty difference leaves nothing of
no_difference : (set other : ℕ) → difference set other ≡ 0 → IsSubset set other
no_difference set other none n h =
    true_from_ne_false (has other n)
    (λ lacks. false≢true (sym (ap (λ s. has s n) none ∙ has-empty n) ∙ has-difference_both set other n h lacks))

-- ---- a live Semi link has a cell

semi_cell : (board : Board) (player : Colour) (before : List Link) (step : Step) (link : Link) → GivesByRule board player before step link
    → link.kind ≡ Semi → (n : ℕ) × (has link.carrier n ≡ true)
semi_cell board player before (Base a b) link g semi = let e : Full ≡ Semi = sym g.kind ∙ semi in cc
semi_cell board player before (AndStone left right) link g semi = let e : Full ≡ Semi = sym g.kind ∙ semi in cc
semi_cell board player before (AndCell left right) link g semi =
    (g.cell, ap (λ s. has s g.cell) g.carrier ∙ has-insert_same (union g.over.first.carrier g.over.second.carrier) g.cell)
semi_cell board player before (Or parts) link g semi = let e : Full ≡ Semi = sym g.kind ∙ semi in cc

module _ (set : Standing) (right : IsRight set.player set.present) (a b : Vertex) where
  some_cell : (place : ℕ) (is : IsLiveOf set Semi a b place) → (n : ℕ) × (has is.link.carrier n ≡ true)
  some_cell place is =
      let step = get-there set.present.steps place
      (omega (arith, right.steps_of, slice_get_within set.present.links place is.link is.there)) in
      semi_cell set.present.board set.player _ step.0 is.link
      (right.given place is.link step.0 is.there step.1 is.live).gives.rule is.kind_is

  small_cells : (place : ℕ) (is : IsLiveOf set Semi a b place) (n : ℕ) → has is.link.carrier n ≡ true → n < 121
  small_cells place is n h = on_board-small set.present.board.size n right.is_board.0 (is.live.empty n h).on_board

  same_link : (place : ℕ) (is : IsLiveOf set Semi a b place) (link : Link) → slice_get set.present.links place ≡ Some link → link ≡ is.link
  same_link place is link there = same_Some link is.link (sym there ∙ is.there)

  -- ---- the first part

  module _ (first : ℕ) (is : IsFirstFrom set Semi a b 0 first) (carrier : ℕ) (e : carrier ≡ is.is.link.carrier) where
    pub parts-one : AreParts set a b (first ∷ []) carrier
    parts-one = record {
      each = each;
      some = (first, refl);
      lacking = λ cell lacks. (0, (first, (refl, (is.is.link, (is.is.there, ap (λ s. has s cell) (sym e) ∙ lacks)))));
      few = omega (arith, count-small carrier (λ n h. small_cells first is.is n (ap (λ s. has s n) (sym e) ∙ h)));
    }
      where
        each : (k place : ℕ) → slice_get (first ∷ []) k ≡ Some place → IsLiveOf set Semi a b place
        each zero place h = let P : ℕ → Type 0 = λ n. IsLiveOf set Semi a b n in subst P (same_Some first place h) is.is
        each (suc k) place h = cc

    pub share-one : AllShare set a b carrier first
    share-one place le semi n h = ⊎_elim
        (λ less. absurd (is.first place (omega arith) less semi))
        (λ more. let same : is.is.link ≡ semi.link =
        same_link place semi is.is.link (ap (λ k. slice_get set.present.links k) (placed le more) ∙ is.is.there) in
        ap (λ (l : Link). has l.carrier n) (sym same) ∙ (ap (λ s. has s n) (sym e) ∙ h))
        (cases_lt place first)
      where
        placed : {p q : ℕ} → p ≤ q → q ≤ p → p ≡ q
        placed le ge = omega (arith, le, ge)

  -- ---- one more

  module _ (parts : List ℕ) (shared last next carrier : ℕ) (at : IsLiveOf set Semi a b last) (parts_ok : AreParts set a b parts shared)
      (all_share : AllShare set a b shared last) (is : IsFirstFrom set Semi a b (last + 1) next) (e : carrier ≡ is.is.link.carrier) where
    share_on : (keep : ℕ) → IsSubset keep shared → IsSubset keep carrier → AllShare set a b keep next
    share_on keep inside held place le semi n h = ⊎_elim
        (λ low. all_share place (omega (arith, low)) semi n (inside n h))
        (λ high. ⊎_elim
        (λ less. absurd (is.first place high less semi))
        (λ more. let same : is.is.link ≡ semi.link =
        same_link place semi is.is.link (ap (λ k. slice_get set.present.links k) (placed le more) ∙ is.is.there) in
        ap (λ (l : Link). has l.carrier n) (sym same) ∙ (ap (λ s. has s n) (sym e) ∙ held n h))
        (cases_lt place next))
        (cases_lt place (last + 1))
      where
        placed : {p q : ℕ} → p ≤ q → q ≤ p → p ≡ q
        placed le ge = omega (arith, le, ge)

    pub share-same : difference shared carrier ≡ 0 → AllShare set a b shared next
    share-same none = share_on shared (λ n h. h) (no_difference shared carrier none)

    pub share-more : AllShare set a b (intersection shared carrier) next
    share-more = share_on (intersection shared carrier) (λ n h. has-intersection_left shared carrier n h)
        (λ n h. has-intersection_right shared carrier n h)

    pub parts-more : (n : ℕ) → has (difference shared carrier) n ≡ true
        → AreParts set a b (parts ++ next ∷ []) (intersection shared carrier)
    parts-more n gone =
        let member : has shared n ≡ true = has-difference_left shared carrier n gone in
        let small : n < 121 = small_cells last at n (all_share last (omega arith) at n member) in
        let fewer = count-less shared carrier n (omega (arith, small)) member (has-difference_right shared carrier n gone) in
        let P : ℕ → Type 0 = λ m. IsLiveOf set Semi a b m in
        record {
          each = λ k place h. ⊎_elim (λ w. parts_ok.each k place w) (λ w. subst P (sym w.1) is.is) (get-push parts next place k h);
          some = (parts_ok.some.0, get-push_before parts next 0 parts_ok.some.0 parts_ok.some.1);
          lacking = λ cell lacks. ⊎_elim
              (λ k. let w = parts_ok.lacking cell k in (w.0, (w.1.0, (get-push_before parts next w.0 w.1.0 w.1.1.0, w.1.1.1))))
              (λ k. (length parts, (next, (get-push_last parts next, (is.is.link, (is.is.there, ap (λ s. has s cell) (sym e) ∙ k))))))
              (has_not-intersection shared carrier cell lacks);
          few = simp length-append (omega (arith, parts_ok.few, fewer));
        }

  -- ---- a cell is shared

  pub not-forked : (shared last n : ℕ) → has shared n ≡ true → AllShare set a b shared last
      → ((place : ℕ) → last < place → IsLiveOf set Semi a b place → ⊥) → IsForked set a b → ⊥
  not-forked shared last n member all_share none forked =
      let w = forked.none_in_all n in
      ⊎_elim
      (λ less. none w.place less w.semi)
      (λ le. false≢true (sym w.lacks ∙ all_share w.place le w.semi n member))
      (cases_lt last w.place)

-- ---- none is shared

-- the links at places at which there are links
links_there : (held : List Link) (parts : List ℕ)
    → ((k place : ℕ) → slice_get parts k ≡ Some place → (link : Link) × (slice_get held place ≡ Some link))
    → (links : List Link) × (links_at held parts ≡ map (λ (l : Link). Some l) links)
links_there held [] there = ([], refl)
links_there held (p ∷ ps) there =
    let here = there 0 p refl in
    let rest = links_there held ps (λ k place e. there (suc k) place e) in
    (here.0 ∷ rest.0, same_front here.1 rest.1)

carriers_lack : (links : List Link) (cell : ℕ) → ((part : Link) → IsOneOf part links → has part.carrier cell ≡ false)
    → has (carriers_of links) cell ≡ false
carriers_lack [] cell none = has-empty cell
carriers_lack (l ∷ ls) cell none = has-union l.carrier (carriers_of ls) cell
    ∙ or_from (has l.carrier cell) (has (carriers_of ls) cell) (none l (0, refl))
    (carriers_lack ls cell (λ part h. none part (one_of_later part l ls h)))

-- one of two ends, however they are named
one_end : (part : Link) (x y v : Vertex) → HasEnds part x y → (x ≡ v) ⊎ (y ≡ v) → (part.a ≡ v) ⊎ (part.b ≡ v)
one_end part x y v (inl e) (inl f) = inl (e.0 ∙ f)
one_end part x y v (inl e) (inr f) = inr (e.1 ∙ f)
one_end part x y v (inr e) (inl f) = inr (e.1 ∙ f)
one_end part x y v (inr e) (inr f) = inl (e.0 ∙ f)

module _ (set : Standing) (right : IsRight set.player set.present) (a b : Vertex) (parts : List ℕ) (shared : ℕ) (none : shared ≡ 0)
    (ok : AreParts set a b parts shared) where
  lacks : (cell : ℕ) → (k : ℕ)
      × ((place : ℕ) × ((slice_get parts k ≡ Some place)
      × ((link : Link) × ((slice_get set.present.links place ≡ Some link) × (has link.carrier cell ≡ false)))))
  lacks cell = ok.lacking cell (ap (λ s. has s cell) none ∙ has-empty cell)

  abbrev first : ℕ
  first = ok.some.0

  first_is : IsLiveOf set Semi a b first
  first_is = ok.each 0 first ok.some.1

  -- a cell of the first part, and a part that lacks it
  abbrev Other : Type 0
  Other = (k : ℕ) × ((place : ℕ) × ((slice_get parts k ≡ Some place) × (first ≢ place)))

  other : Other
  other =
      let cell = some_cell set right a b first first_is in
      let w = lacks cell.0 in (
        w.0,
        (
          w.1.0,
          (
            w.1.1.0,
            λ e.
                (let there : slice_get set.present.links first ≡ Some w.1.1.1.0 = ap (λ n. slice_get set.present.links n) e ∙ w.1.1.1.1.0 in
                let same : w.1.1.1.0 ≡ first_is.link = same_link set right a b first first_is w.1.1.1.0 there in
                false≢true (sym w.1.1.1.1.1 ∙ (ap (λ (l : Link). has l.carrier cell.0) same ∙ cell.1))),
          ),
        ),
      )

  forked : IsForked set a b
  forked = record {
    first = first;
    second = other.1.0;
    first_semi = first_is;
    second_semi = ok.each other.0 other.1.0 other.1.1.0;
    differ = other.1.1.1;
    none_in_all = λ cell.
        let w = lacks cell in
        let semi : IsLiveOf set Semi a b w.1.0 = ok.each w.0 w.1.0 w.1.1.0 in
        let same : w.1.1.1.0 ≡ semi.link = same_link set right a b w.1.0 semi w.1.1.1.0 w.1.1.1.1.0 in
        record { place = w.1.0; semi = semi; lacks = ap (λ (l : Link). has l.carrier cell) (sym same) ∙ w.1.1.1.1.1 };
  }

  several : 2 ≤ length parts
  several = by_place other.0 other.1.0 other.1.1.0 other.1.1.1
    where
      by_place : (k place : ℕ) → slice_get parts k ≡ Some place → first ≢ place → 2 ≤ length parts
      by_place zero place e differ = absurd (differ (same_Some first place (sym ok.some.1 ∙ e)))
      by_place (suc k) place e differ = omega (arith, slice_get_within parts (suc k) place e)

  found : (links : List Link) × (links_at set.present.links parts ≡ map (λ (l : Link). Some l) links)
  found = links_there set.present.links parts (λ k place e. let is = ok.each k place e in (is.link, is.there))

  -- each of them is a live Semi link of the ends
  part_is : (part : Link) → IsOneOf part found.0 → (place : ℕ) × ((is : IsLiveOf set Semi a b place) × (part ≡ is.link))
  part_is part h =
      let w = place_of set.present.links parts found.0 found.1 h.0 part h.1 in
      let is : IsLiveOf set Semi a b w.0 = ok.each h.0 w.0 w.1.0 in
      (w.0, (is, same_link set right a b w.0 is part w.1.1))

  part_ends : (part : Link) → IsOneOf part found.0 → HasEnds part first_is.link.a first_is.link.b
  part_ends part h =
      let w = part_is part h in
      let P : Link → Type 0 = λ l. HasEnds l first_is.link.a first_is.link.b in
      subst P (sym w.1.1) (ends_along first_is.link w.1.0.link a b first_is.ends w.1.0.ends)

  part_ok : (part : Link) → IsOneOf part found.0 → IsLink set.present.board set.player part
  part_ok part h =
      let w = part_is part h in
      let P : Link → Type 0 = λ l. IsLink set.present.board set.player l in
      subst P (sym w.1.1) (live-is_link set right w.0 w.1.0.link w.1.0.there w.1.0.live)

  given : Link
  given = record { kind = Full; a = first_is.link.a; b = first_is.link.b; carrier = carriers_of found.0 }

  given_ok : IsLink set.present.board set.player given
  unfolding given
  given_ok =
      let first_ok : IsLink set.present.board set.player first_is.link =
      live-is_link set right first first_is.link first_is.there first_is.live in
      record {
        lower_first = first_ok.lower_first;
        a_end = first_ok.a_end;
        b_end = first_ok.b_end;
        outside = λ cell empty at. carriers_lack found.0 cell (λ part h. (part_ok part h).outside cell empty
            (one_end part first_is.link.a first_is.link.b (Of cell) (part_ends part h) at));
      }

  pub fork-of : IsFork set a b parts
  unfolding given
  fork-of = record {
    forked = forked;
    link = given;
    gives = record {
      gives = record {
        rule = record {
          links = found.0;
          there = found.1;
          several = several;
          few = omega (arith, ok.few);
          semi = λ part h. let w = part_is part (contains-one_of found.0 part h) in ap (λ (l : Link). l.kind) w.1.1 ∙ w.1.0.kind_is;
          same_ends = λ part h. part_ends part (contains-one_of found.0 part h);
          none_in_all = λ cell.
              let w = lacks cell in
              let p = part_at set.present.links parts found.0 found.1 w.0 w.1.0 w.1.1.0 in
              let same : p.0 ≡ w.1.1.1.0 = same_Some p.0 w.1.1.1.0 (sym p.1.1 ∙ w.1.1.1.1.0) in
              (p.0, (one_of-contains found.0 p.0 p.1.0, ap (λ (l : Link). has l.carrier cell) same ∙ w.1.1.1.1.1));
          kind = refl;
          carrier = refl;
        };
        link_ok = given_ok;
      };
      from_live = λ place h. let is = ok.each h.0 place h.1 in (is.link, (is.there, is.live));
    };
    kind_is = refl;
    ends = first_is.ends;
  }
