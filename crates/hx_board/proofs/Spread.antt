-- The vertices that touch a set of vertices.
use Rattle.std.proofs.Common.{◌≡◌, ℕ, ◌<◌, Bool, true, ◌&&◌, refl, sym, ◌∙◌, arith, ⊎_elim, ◌↔◌, IsTrue}
use Rattle.std.proofs.lemmas.Bool.{and_from}
use Rattle.hx_board.specs.declared.colours.Colour.{Colour}
use Rattle.hx_board.specs.declared.vertices.Vertex.{Vertex}
use Rattle.hx_board.specs.declared.vertices.Vertex.TheVariants.{Of, First, Last}
use Rattle.hx_board.specs.Sets.{has, insert, union, ShareOne}
use Rattle.hx_board.specs.Cells.{Extent, IsExtent, OnBoard}
use Rattle.hx_board.specs.Graph.{IsFirstLine, IsLastLine, IsVertex, Touches}
use Rattle.hx_board.specs.VertexSets.{IsVertexCode, IsSetOf, code_of}
use Rattle.hx_board.specs.Floods.{TouchesCellOf, TouchesOneOf}
use Rattle.hx_board.proofs.SetLaws.{has-union_left, has-union_right, has-union_cases, has-insert_same, first_of_both, second_of_both}
use Rattle.hx_board.proofs.CellLaws.{on_board-small}
use Rattle.hx_board.proofs.FloodLaws.{has-single}

-- what is known of the sets that the code computes
pub record Parts (size : Extent) (player : Colour)
    (set first last cells from_first from_last to_first to_last : ℕ)
    (at_first at_last : Bool) : Type 0 where
  pub extent : IsExtent size.rows size.cols
  pub is_first : (n : ℕ) → (has first n ≡ true) ↔ (OnBoard size n × IsFirstLine player n)
  pub is_last : (n : ℕ) → (has last n ≡ true) ↔ (OnBoard size n × IsLastLine size player n)
  pub is_cells : (n : ℕ) → (has cells n ≡ true) ↔ TouchesCellOf size set n
  pub is_from_first : (n : ℕ) → has from_first n ≡ (has set 121 && has first n)
  pub is_from_last : (n : ℕ) → has from_last n ≡ (has set 122 && has last n)
  pub is_at_first : IsTrue at_first ↔ ShareOne set first
  pub is_at_last : IsTrue at_last ↔ ShareOne set last
  pub is_to_first : (n : ℕ) → has to_first n ≡ (at_first && has (insert 0 121) n)
  pub is_to_last : (n : ℕ) → has to_last n ≡ (at_last && has (insert 0 122) n)

module _ (size : Extent) (player : Colour) (set first last cells from_first from_last to_first to_last : ℕ) (at_first at_last : Bool)
    (k : Parts size player set first last cells from_first from_last to_first to_last at_first at_last) where
  abbrev all_parts : ℕ
  all_parts = union (union (union cells from_first) from_last) (union to_first to_last)

  within : (n : ℕ) → OnBoard size n → n < 121
  within n on = on_board-small size n k.extent on

  five : {P : Type 0} (n : ℕ) → has all_parts n ≡ true
      → (has cells n ≡ true → P) → (has from_first n ≡ true → P)
      → (has from_last n ≡ true → P) → (has to_first n ≡ true → P)
      → (has to_last n ≡ true → P) → P
  five n h a b c d e =
      ⊎_elim
      (λ w. ⊎_elim (λ v. ⊎_elim a b (has-union_cases cells from_first n v)) c (has-union_cases (union cells from_first) from_last n w))
      (λ w. ⊎_elim d e (has-union_cases to_first to_last n w))
      (has-union_cases (union (union cells from_first) from_last) (union to_first to_last) n h)

  from_parts : (vertex : Vertex) → IsVertex size vertex → has all_parts (code_of vertex) ≡ true → TouchesOneOf size player set vertex
  from_parts (Of n) on h =
      let small : n < 121 = within n on in
      five n h
      (λ w. let t : TouchesCellOf size set n = (k.is_cells n).0 w in
      record { by = Of t.by; by_vertex = t.by_on_board; by_member = t.by_member; touch = (t.by_on_board, on, t.touch) })
      (λ w. record {
        by = First;
        by_vertex = tt;
        by_member = first_of_both (has set 121) _ (sym (k.is_from_first n) ∙ w);
        touch = (k.is_first n).0 (second_of_both (has set 121) _ (sym (k.is_from_first n) ∙ w));
      })
      (λ w. record {
        by = Last;
        by_vertex = tt;
        by_member = first_of_both (has set 122) _ (sym (k.is_from_last n) ∙ w);
        touch = (k.is_last n).0 (second_of_both (has set 122) _ (sym (k.is_from_last n) ∙ w));
      })
      (λ w. let e : n ≡ 121 = has-single 121 n (second_of_both at_first _ (sym (k.is_to_first n) ∙ w)) in absurd (omega arith))
      (λ w. let e : n ≡ 122 = has-single 122 n (second_of_both at_last _ (sym (k.is_to_last n) ∙ w)) in absurd (omega arith))
  from_parts First on h =
      five 121 h
      (λ w. let t : TouchesCellOf size set 121 = (k.is_cells 121).0 w in
      let small : 121 < 121 = within 121 t.on_board in absurd (omega arith))
      (λ w. let small : 121 < 121 = within 121 ((k.is_first 121).0 (second_of_both (has set 121) _ (sym (k.is_from_first 121) ∙ w))).0 in
      absurd (omega arith))
      (λ w. let small : 121 < 121 = within 121 ((k.is_last 121).0 (second_of_both (has set 122) _ (sym (k.is_from_last 121) ∙ w))).0 in
      absurd (omega arith))
      (λ w. let s : ShareOne set first = k.is_at_first.0 (first_of_both at_first _ (sym (k.is_to_first 121) ∙ w)) in
      record {
        by = Of s.shared;
        by_vertex = ((k.is_first s.shared).0 s.in_other).0;
        by_member = s.in_set;
        touch = (k.is_first s.shared).0 s.in_other;
      })
      (λ w. let e : 121 ≡ 122 = has-single 122 121 (second_of_both at_last _ (sym (k.is_to_last 121) ∙ w)) in absurd (omega arith))
  from_parts Last on h =
      five 122 h
      (λ w. let t : TouchesCellOf size set 122 = (k.is_cells 122).0 w in
      let small : 122 < 121 = within 122 t.on_board in absurd (omega arith))
      (λ w. let small : 122 < 121 = within 122 ((k.is_first 122).0 (second_of_both (has set 121) _ (sym (k.is_from_first 122) ∙ w))).0 in
      absurd (omega arith))
      (λ w. let small : 122 < 121 = within 122 ((k.is_last 122).0 (second_of_both (has set 122) _ (sym (k.is_from_last 122) ∙ w))).0 in
      absurd (omega arith))
      (λ w. let e : 122 ≡ 121 = has-single 121 122 (second_of_both at_first _ (sym (k.is_to_first 122) ∙ w)) in absurd (omega arith))
      (λ w. let s : ShareOne set last = k.is_at_last.0 (first_of_both at_last _ (sym (k.is_to_last 122) ∙ w)) in
      record {
        by = Of s.shared;
        by_vertex = ((k.is_last s.shared).0 s.in_other).0;
        by_member = s.in_set;
        touch = (k.is_last s.shared).0 s.in_other;
      })

  in_cells : (n : ℕ) → has cells n ≡ true → has all_parts n ≡ true
  in_cells n h =
      has-union_left (union (union cells from_first) from_last) _ n
      (has-union_left (union cells from_first) _ n (has-union_left cells _ n h))

  in_from_first : (n : ℕ) → has from_first n ≡ true → has all_parts n ≡ true
  in_from_first n h =
      has-union_left (union (union cells from_first) from_last) _ n
      (has-union_left (union cells from_first) _ n (has-union_right cells _ n h))

  in_from_last : (n : ℕ) → has from_last n ≡ true → has all_parts n ≡ true
  in_from_last n h = has-union_left (union (union cells from_first) from_last) _ n (has-union_right (union cells from_first) _ n h)

  in_to_first : (n : ℕ) → has to_first n ≡ true → has all_parts n ≡ true
  in_to_first n h = has-union_right (union (union cells from_first) from_last) _ n (has-union_left to_first _ n h)

  in_to_last : (n : ℕ) → has to_last n ≡ true → has all_parts n ≡ true
  in_to_last n h = has-union_right (union (union cells from_first) from_last) _ n (has-union_right to_first _ n h)

  reached : (by vertex : Vertex) → has set (code_of by) ≡ true → Touches size player by vertex → has all_parts (code_of vertex) ≡ true
  reached (Of m) (Of n) h t =
      in_cells n ((k.is_cells n).1 (record { on_board = t.1; by = m; by_on_board = t.0; by_member = h; touch = t.2 }))
  reached (Of m) First h t =
      in_to_first 121 (k.is_to_first 121
      ∙ and_from _ _ (k.is_at_first.1 (record { shared = m; in_set = h; in_other = (k.is_first m).1 t })) (has-insert_same 0 121))
  reached (Of m) Last h t =
      in_to_last 122 (k.is_to_last 122
      ∙ and_from _ _ (k.is_at_last.1 (record { shared = m; in_set = h; in_other = (k.is_last m).1 t })) (has-insert_same 0 122))
  reached First (Of n) h t = in_from_first n (k.is_from_first n ∙ and_from _ _ h ((k.is_first n).1 t))
  reached First First h t = absurd t
  reached First Last h t = absurd t
  reached Last (Of n) h t = in_from_last n (k.is_from_last n ∙ and_from _ _ h ((k.is_last n).1 t))
  reached Last First h t = absurd t
  reached Last Last h t = absurd t

  codes : (n : ℕ) → has all_parts n ≡ true → IsVertexCode size n
  codes n h =
      five n h (λ w. cell n ((k.is_cells n).0 w).on_board)
      (λ w. cell n ((k.is_first n).0 (second_of_both (has set 121) _ (sym (k.is_from_first n) ∙ w))).0)
      (λ w. cell n ((k.is_last n).0 (second_of_both (has set 122) _ (sym (k.is_from_last n) ∙ w))).0)
      (λ w. record {
        vertex = First;
        is_vertex = tt;
        is_code = sym (has-single 121 n (second_of_both at_first _ (sym (k.is_to_first n) ∙ w)));
      })
      (λ w. record {
        vertex = Last;
        is_vertex = tt;
        is_code = sym (has-single 122 n (second_of_both at_last _ (sym (k.is_to_last n) ∙ w)));
      })
    where
      cell : (n : ℕ) → OnBoard size n → IsVertexCode size n
      cell n on = record { vertex = Of n; is_vertex = on; is_code = refl }

  pub parts-are_set : IsSetOf size (TouchesOneOf size player set) all_parts
  parts-are_set = record { vertices = codes; members = λ v is. (from_parts v is, λ t. reached t.by v t.by_member t.touch) }
