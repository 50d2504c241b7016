-- The open neighbours of a cell as a set: the cells that touch it without those of the opponent's stones, and the sides
-- that it lies along. Each of the three parts has numbers of its own.
use Rattle.std.proofs.Common.{◌≡◌, ℕ, ◌<◌, Bool, true, false, ◌&&◌, ◌||◌, not, eqb, ltb}
use Rattle.std.proofs.Common.{refl, sym, ap, ◌∙◌, ⊎_elim, ◌↔◌, eq-eqb, eqb-true, arith}
use Rattle.std.proofs.lemmas.Bool.{lt-ltb, not-true, and_from, or_left, or_right, or_cases}
use Rattle.hx_board.specs.declared.colours.Colour.{Colour}
use Rattle.hx_board.specs.declared.vertices.Vertex.{Vertex}
use Rattle.hx_board.specs.declared.vertices.Vertex.TheVariants.{Of, First, Last}
use Rattle.hx_board.specs.Sets.{has}
use Rattle.hx_board.specs.Colours.{other_of}
use Rattle.hx_board.specs.Cells.{OnBoard, IsExtent, CellsTouch}
use Rattle.hx_board.specs.Positions.{Board, stones_of}
use Rattle.hx_board.specs.Graph.{IsVertex, IsFirstLine, IsLastLine}
use Rattle.hx_board.specs.VertexSets.{code_of, IsSetOf}
use Rattle.hx_board.proofs.SetLaws.{first_of_both, second_of_both}
use Rattle.hx_board.proofs.CellLaws.{on_board-small}
use Rattle.hx_inferior.specs.Inferior.{IsOpenNeighbour}

-- what is known of the sets that the code computes
pub record Parts (board : Board) (player : Colour) (cell touched cells with_first all : ℕ) (at_first at_last : Bool) : Type 0 where
  pub extent : IsExtent board.size.rows board.size.cols
  pub on_board : OnBoard board.size cell
  pub is_touched : (n : ℕ) → (has touched n ≡ true) ↔ (OnBoard board.size n × CellsTouch cell n)
  pub is_first : (at_first ≡ true) ↔ IsFirstLine player cell
  pub is_last : (at_last ≡ true) ↔ IsLastLine board.size player cell
  pub is_cells : (n : ℕ) → has cells n ≡ ((has touched n && not (has (stones_of board (other_of player)) n)) && ltb n 121)
  pub is_with_first : (n : ℕ) → has with_first n ≡ ((at_first && eqb n 121) || has cells n)
  pub is_all : (n : ℕ) → has all n ≡ ((at_last && eqb n 122) || has with_first n)

module _ (board : Board) (player : Colour) (cell touched cells with_first all : ℕ) (at_first at_last : Bool)
    (k : Parts board player cell touched cells with_first all at_first at_last) where
  abbrev IsOpenCell : ℕ → Type 0
  IsOpenCell n = OnBoard board.size n × CellsTouch cell n × (has (stones_of board (other_of player)) n ≡ false)

  small : (n : ℕ) → OnBoard board.size n → n < 121
  small n on = on_board-small board.size n k.extent on

  cases : {P : Type 0} (n : ℕ) → has all n ≡ true → (at_last ≡ true → n ≡ 122 → P) → (at_first ≡ true → n ≡ 121 → P)
      → (IsOpenCell n → P) → P
  cases n h last first rest = ⊎_elim
      (λ w. last (first_of_both at_last _ w) (eqb-true n 122 (second_of_both at_last _ w)))
      (λ w. ⊎_elim
      (λ v. first (first_of_both at_first _ v) (eqb-true n 121 (second_of_both at_first _ v)))
      (λ v.
      let t = first_of_both (has touched n && not (has (stones_of board (other_of player)) n)) _ (sym (k.is_cells n) ∙ v) in
      let touch = (k.is_touched n).0 (first_of_both (has touched n) _ t) in
      rest (touch.0, touch.1, not-true _ (second_of_both (has touched n) _ t)))
      (or_cases _ _ (sym (k.is_with_first n) ∙ w)))
      (or_cases _ _ (sym (k.is_all n) ∙ h))

  in_cells : (n : ℕ) → IsOpenCell n → has all n ≡ true
  in_cells n w =
      let is = k.is_cells n ∙ and_from _ _ (and_from _ _ ((k.is_touched n).1 (w.0, w.1)) (ap not w.2)) (lt-ltb n 121 (small n w.0)) in
      k.is_all n ∙ or_right _ _ (k.is_with_first n ∙ or_right _ _ is)

  members : (v : Vertex) → IsVertex board.size v → (has all (code_of v) ≡ true) ↔ IsOpenNeighbour board player cell v
  members (Of n) on = let low : n < 121 = small n on in (
    (λ h. cases n h (λ _ e. absurd (omega arith)) (λ _ e. absurd (omega arith))
        (λ w. record { touch = (k.on_board, w.0, w.1); is_open = w.2 })),
    (λ o. in_cells n (o.touch.1, o.touch.2, o.is_open)),
  )
  members First on = (
    (λ h. cases 121 h (λ _ e. absurd (omega arith)) (λ at _. record { touch = (k.on_board, k.is_first.0 at); is_open = tt })
        (λ w. let low : 121 < 121 = small 121 w.0 in absurd (omega arith))),
    (λ o. k.is_all 121 ∙ or_right _ _ (k.is_with_first 121 ∙ or_left _ _ (and_from _ _ (k.is_first.1 o.touch.1) (eq-eqb 121 121 refl)))),
  )
  members Last on = (
    (λ h. cases 122 h (λ at _. record { touch = (k.on_board, k.is_last.0 at); is_open = tt }) (λ _ e. absurd (omega arith))
        (λ w. let low : 122 < 121 = small 122 w.0 in absurd (omega arith))),
    (λ o. k.is_all 122 ∙ or_left _ _ (and_from _ _ (k.is_last.1 o.touch.1) (eq-eqb 122 122 refl))),
  )

  pub parts-are_open : IsSetOf board.size (IsOpenNeighbour board player cell) all
  parts-are_open = record {
    vertices = λ n h. cases n h
        (λ _ e. record { vertex = Last; is_vertex = tt; is_code = sym e })
        (λ _ e. record { vertex = First; is_vertex = tt; is_code = sym e })
        (λ w. record { vertex = Of n; is_vertex = w.0; is_code = refl });
    members = members;
  }
