-- Threats are links that were looked at one by one. What they share is less at each link that is kept, and at no other.
use Rattle.std.proofs.Common.{◌≡◌, ℕ, ◌+◌, ◌<◌, ◌≤◌, true, List, [], ◌∷◌, ◌++◌, length, get_or, length-append, append_assoc, refl, sym, ap}
use Rattle.std.proofs.Common.{◌∙◌, subst, ⊎_elim, arith, ◌↔◌, Some}
use Rattle.std.specs.Prelude.{slice_get, take, map, Contains}
use Rattle.std.specs.List.{All}
use Rattle.std.specs.List.Sorted.{IsPermutation}
use Rattle.std.proofs.lemmas.List.{take_all, take-append-le, map-append, append-nil}
use Rattle.std.proofs.lemmas.List.Sorted.{All-permutation, Contains-permutation, IsPermutation-map}
use Rattle.std.proofs.lemmas.List.Elements.{All-nil, All-more, All-map, All-weaker, All-push, All-contains, Contains-push}
use Rattle.std.proofs.lemmas.List.Elements.{Contains-push_cases, Contains-append_left, Contains-append_right}
use Rattle.std.proofs.lemmas.Option.{slice_get_within, same_Some}
use Rattle.hx_board.specs.declared.vertices.Vertex.TheVariants.{First, Last}
use Rattle.hx_board.specs.Sets.{has, intersection, count_below, IsSubset}
use Rattle.hx_board.specs.Positions.{IsEmpty}
use Rattle.hx_board.proofs.SetLaws.{has-intersection_left, has-intersection_right, has-intersection_both}
use Rattle.hx_board.proofs.CellLaws.{on_board-small}
use Rattle.hx_board.proofs.CountLaws.{count-small, count-less, lacks_one}
use Rattle.hx_board.proofs.ListLaws.{get-push}
use Rattle.hx_link.specs.declared.links.Link.{Link}
use Rattle.hx_linkset.specs.States.{Standing, IsRight}
use Rattle.hx_linkset.specs.LivePairs.{IsLivePair}
use Rattle.hx_fill.specs.Musts.{HasCell, TakesAway, EachTakesAway, IsBetween, AreBetween, AreKept, IsTaken, AreAllTaken}
use Rattle.hx_fill.specs.declared.threats.Between.{Between}

module _ (set : Standing) (right : IsRight set.player set.present) where
  cells_small : (cells : ℕ) → ((cell : ℕ) → has cells cell ≡ true → IsEmpty set.present.board cell) → (n : ℕ) → has cells n ≡ true → n < 121
  cells_small cells empty n h = on_board-small set.present.board.size n right.is_board.0 (empty n h).on_board

  pub threats_none : (cells : ℕ) → ((cell : ℕ) → (has cells cell ≡ true) ↔ IsEmpty set.present.board cell) → AreKept set [] cells
  threats_none cells is = record {
    live = All-nil (IsLivePair set First Last);
    shared = λ cell. (
      (λ h. record { empty = (is cell).0 h; in_each = λ place at. absurd (omega (arith, at.1)) }),
      (λ shared. (is cell).1 shared.empty),
    );
    few = let few = count-small cells (cells_small cells (λ cell h. (is cell).0 h)) in omega arith;
    each_takes = λ k place at. absurd (none_there k place at);
  }
    where
      none_there : (k place : ℕ) → slice_get {X = ℕ} [] k ≡ Some place → ⊥
      none_there k place at = absurd (omega (arith, slice_get_within [] k place at))

  -- ---- a link more

  module _ (place : ℕ) (live : IsLivePair set First Last place) (carrier : ℕ) (carrier_is : carrier ≡ live.0.carrier) where
    has_cell : (cell : ℕ) → has carrier cell ≡ true → HasCell set cell place
    has_cell cell h link there =
        let same : live.0 ≡ link = same_Some live.0 link (sym live.1.0 ∙ there) in ap (λ (l : Link). has l.carrier cell) (sym same)
        ∙ ap (λ (c : ℕ). has c cell) (sym carrier_is) ∙ h

    pub taken_same : (places : List ℕ) (cells : ℕ) → AreKept set places cells → IsSubset cells carrier
        → IsTaken set place cells places cells
    taken_same places cells threats inside = record { threats = threats; less = λ n h. h; inside = λ cell h. has_cell cell (inside cell h) }

    pub taken_more : (places : List ℕ) (cells : ℕ) → AreKept set places cells → (IsSubset cells carrier → ⊥)
        → IsTaken set place cells (places ++ place ∷ []) (intersection cells carrier)
    taken_more places cells threats outside = record {
      threats = record {
        live = All-push (IsLivePair set First Last) places place threats.live live;
        shared = λ cell. (
          (λ h. let before = (threats.shared cell).0 (has-intersection_left cells carrier cell h) in record {
            empty = before.empty;
            in_each = λ other at. ⊎_elim (before.in_each other)
                (λ (same : place ≡ other). let P : ℕ → Type 0 = λ p. HasCell set cell p in
                subst P same (has_cell cell (has-intersection_right cells carrier cell h)))
                (Contains-push_cases places place other at);
          }),
          (λ shared. has-intersection_both cells carrier cell
              ((threats.shared cell).1
              (record {
                empty = shared.empty;
                in_each = λ other at.
                    shared.in_each other (Contains-append_left places (place ∷ []) other at);
              }))
              (ap (λ (c : ℕ). has c cell) carrier_is ∙ shared.in_each place (Contains-push places place) live.0 live.1.0)),
        );
        few = fewer;
        each_takes = more_take;
      };
      less = has-intersection_left cells carrier;
      inside = λ cell h. has_cell cell (has-intersection_right cells carrier cell h);
    }
      where
        fewer : length (places ++ place ∷ []) + count_below 128 (intersection cells carrier) ≤ 121
        fewer =
            let small : (n : ℕ) → has cells n ≡ true → n < 121 = cells_small cells (λ cell h. ((threats.shared cell).0 h).empty) in
            let gone = lacks_one cells carrier small outside in
            let below = small gone.cell gone.member in
            let less = count-less cells carrier gone.cell (omega arith) gone.member gone.lacks in
            let before = threats.few in
            let longer = length-append places (place ∷ []) in
            omega arith

        here : TakesAway set places place
        here =
            let small : (n : ℕ) → has cells n ≡ true → n < 121 = cells_small cells (λ cell h. ((threats.shared cell).0 h).empty) in
            let gone = lacks_one cells carrier small outside in
            record {
              cell = gone.cell;
              had = (threats.shared gone.cell).0 gone.member;
              lacks = λ link there.
                  let same : live.0 ≡ link = same_Some live.0 link (sym live.1.0 ∙ there) in
                  ap (λ (l : Link). has l.carrier gone.cell) (sym same) ∙ ap (λ (c : ℕ). has c gone.cell) (sym carrier_is) ∙ gone.lacks;
            }

        more_take : EachTakesAway set (places ++ place ∷ [])
        more_take k other at = ⊎_elim early late (get-push places place other k at)
          where
            early : slice_get places k ≡ Some other → TakesAway set (take k (places ++ place ∷ [])) other
            early before = let low = slice_get_within places k other before in
                rw (take-append-le k places (place ∷ []) (omega arith)) (threats.each_takes k other before)

            late : (k ≡ length places) × (other ≡ place) → TakesAway set (take k (places ++ place ∷ [])) other
            late last =
                let P : ℕ → Type 0 = λ i. TakesAway set (take i (places ++ place ∷ [])) other in
                let Q : ℕ → Type 0 = λ p. TakesAway set places p in
                subst P (sym last.0)
                (rw (take-append-le (length places) places (place ∷ []) (omega arith), take_all (length places) places (omega arith))
                (subst Q (sym last.1) here))

-- ---- all links between the sides

module _ (set : Standing) (links : List Between) where
  -- what the cells are is in each of the first links
  abbrev pub AreInFirst : ℕ → ℕ → Type 0
  AreInFirst count cells = All (λ (link : Between). (cell : ℕ) → has cells cell ≡ true → HasCell set cell link.place) (take count links)

  pub in_none : (cells : ℕ) → AreInFirst 0 cells
  in_none cells = All-nil (λ (link : Between). (cell : ℕ) → has cells cell ≡ true → HasCell set cell link.place)

  pub in_first-more : (count before cells : ℕ) (link : Between) (places : List ℕ) → count < length links → link ≡ get_or links count link
      → AreInFirst count before
      → IsTaken set link.place before places cells → AreInFirst (count + 1) cells
  in_first-more count before cells link places low is first taken =
      All-more (λ (each : Between). (cell : ℕ) → has cells cell ≡ true → HasCell set cell each.place) links count link low
      (All-weaker (λ (each : Between). (cell : ℕ) → has before cell ≡ true → HasCell set cell each.place)
      (λ (each : Between). (cell : ℕ) → has cells cell ≡ true → HasCell set cell each.place)
      (λ each old cell h. old cell (taken.less cell h)) (take count links) first)
      (let P : Between → Type 0 = λ each. (cell : ℕ) → has cells cell ≡ true → HasCell set cell each.place in subst P is taken.inside)

  pub all_taken : (count : ℕ) (places : List ℕ) (cells : ℕ) → AreBetween set links → length links ≤ count → AreKept set places cells
      → AreInFirst count cells → AreAllTaken set places cells
  all_taken count places cells between all kept first = record {
    threats = kept;
    shared_by_all = λ cell. (
      (λ h. record { empty = ((kept.shared cell).0 h).empty; in_each = λ place live. in_link cell h place live }),
      (λ shared. (kept.shared cell).1 (record {
        empty = shared.empty;
        in_each = λ place at. shared.in_each place (All-contains (IsLivePair set First Last) places place kept.live at);
      })),
    );
  }
    where
      in_all : All (λ (link : Between). (cell : ℕ) → has cells cell ≡ true → HasCell set cell link.place) links
      in_all = rw (take_all count links all) at first

      in_link : (cell : ℕ) → has cells cell ≡ true → (place : ℕ) → IsLivePair set First Last place → HasCell set cell place
      in_link cell h place live =
          All-contains (λ (p : ℕ). (n : ℕ) → has cells n ≡ true → HasCell set n p) (map (λ (link : Between). link.place) links) place
          (All-map (λ (p : ℕ). (n : ℕ) → has cells n ≡ true → HasCell set n p) (λ (link : Between). link.place) links in_all)
          (between.all place live) cell h

-- ---- the links, as they are gathered and sorted

pub places_more : (links : List Between) (link : Between) (rest all : List ℕ) → map (λ (each : Between). each.place) links
    ++ link.place ∷ rest ≡ all
    → map (λ (each : Between). each.place) (links ++ link ∷ []) ++ rest ≡ all
places_more links link rest all split =
    ap (λ (places : List ℕ). places ++ rest) (map-append (λ (each : Between). each.place) links (link ∷ []))
    ∙ append_assoc (map (λ (each : Between). each.place) links) (link.place ∷ []) rest ∙ split

pub between_sorted : (set : Standing) (links sorted : List Between) (places : List ℕ) → All (IsBetween set) links
    → map (λ (each : Between). each.place) links ++ [] ≡ places
    → ((place : ℕ) → IsLivePair set First Last place → Contains places place) → IsPermutation links sorted → AreBetween set sorted
between_sorted set links sorted places each split all moved = record {
  each = All-permutation (IsBetween set) links sorted moved each;
  all = λ place live. Contains-permutation (map (λ (link : Between). link.place) links) (map (λ (link : Between). link.place) sorted) place
      (IsPermutation-map (λ (link : Between). link.place) links sorted moved)
      (let P : List ℕ → Type 0 = λ xs. Contains xs place in
      subst P (sym split ∙ append-nil (map (λ (each : Between). each.place) links)) (all place live));
}

-- each of the places that come is one of a live link
pub next_live : (set : Standing) (places : List ℕ) (links : List Between) (place : ℕ) (rest : List ℕ)
    → All (IsLivePair set First Last) places
    → map (λ (each : Between). each.place) links ++ place ∷ rest ≡ places → IsLivePair set First Last place
next_live set places links place rest live split =
    All-contains (IsLivePair set First Last) places place live
    (let P : List ℕ → Type 0 = λ xs. Contains xs place in
    subst P split (Contains-append_right (map (λ (each : Between). each.place) links) (place ∷ rest) place (0, omega arith, refl)))
