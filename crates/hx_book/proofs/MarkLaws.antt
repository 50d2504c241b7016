-- What a mark more changes: the marked places are those of before and the new one. So after a mark on each child of
-- some lines the marked ones are those of before and these.
use Rattle.std.proofs.Common.{◌≡◌, ℕ, ◌+◌, ◌<◌, List, [], ◌∷◌, ◌++◌, length, take, get_or, refl, sym, ◌∙◌, subst, inl, inr, Bool, ◌⊎◌}
use Rattle.std.proofs.Common.{⊎_elim, Some, arith}
use Rattle.std.proofs.lemmas.Option.{slice_get_read, slice_get_within}
use Rattle.hx_board.proofs.ListLaws.{get-push, get-push_before, get-push_last, take-read}
use Rattle.hx_tree.specs.declared.nodes.Line.{Line}
use Rattle.hx_tree.specs.declared.nodes.Rule.{Rule}
use Rattle.hx_tree.specs.declared.nodes.Rule.TheVariants.{Chain, Links, Move, All, Fill, Turned}
use Rattle.hx_packed.specs.Children.{child_of, lines_of}
use Rattle.hx_book.specs.Trees.{NamesChild, HasLine, Names}
use Rattle.hx_book.specs.Renaming.{MarksMore}

mark-then : (A B : ℕ → Type 0) (old middle new : List Bool) → MarksMore A old middle → MarksMore B middle new
    → MarksMore (λ p. A p ⊎ B p) old new
mark-then A B old middle new m n = record {
  long = n.long ∙ m.long;
  stay = λ p h. n.stay p (m.stay p h);
  each = λ p k. ⊎_elim (λ a. n.stay p (m.each p a)) (λ b. n.each p b) k;
  only = λ p h. ⊎_elim (λ k. ⊎_elim (λ was. inl was) (λ a. inr (inl a)) (m.only p k)) (λ b. inr (inr b)) (n.only p h);
}

mark-as : (A B : ℕ → Type 0) (old new : List Bool) → ((p : ℕ) → A p → B p) → ((p : ℕ) → B p → A p) → MarksMore A old new
    → MarksMore B old new
mark-as A B old new to from m = record {
  long = m.long;
  stay = m.stay;
  each = λ p b. m.each p (from p b);
  only = λ p h. ⊎_elim (λ was. inl was) (λ a. inr (to p a)) (m.only p h);
}

no_line : (place : ℕ) → HasLine [] place → ⊥
no_line place has = absurd (omega (arith, slice_get_within [] has.k has.line has.there))

pub lines-none : (lines : List Line) (marks : List Bool) → MarksMore (HasLine (take 0 lines)) marks marks
lines-none lines marks = record { long = refl; stay = λ p h. h; each = λ p has. absurd (no_line p has); only = λ p h. inl h }

module _ (lines : List Line) (line : Line) where
  lines-push : (place : ℕ) → HasLine lines place ⊎ NamesChild line place → HasLine (lines ++ line ∷ []) place
  lines-push place (inl has) =
      record { k = has.k; line = has.line; there = get-push_before lines line has.k has.line has.there; names = has.names }
  lines-push place (inr names) = record { k = length lines; line = line; there = get-push_last lines line; names = names }

  lines-cases : (place : ℕ) → HasLine (lines ++ line ∷ []) place → HasLine lines place ⊎ NamesChild line place
  lines-cases place has = ⊎_elim
      (λ was. inl (record { k = has.k; line = has.line; there = was; names = has.names }))
      (λ last. inr (subst (λ (l : Line). NamesChild l place) last.1 has.names))
      (get-push lines line has.line has.k has.there)

module _ (lines : List Line) (i : ℕ) (line : Line) (inside : i < length lines) (is : line ≡ get_or lines i line) where
  pub line-in : (place : ℕ) → NamesChild line place → HasLine lines place
  line-in place names = record { k = i; line = line; there = slice_get_read lines _ i line refl inside is; names = names }

  pub lines-more : (old middle new : List Bool) → MarksMore (HasLine (take i lines)) old middle → MarksMore (NamesChild line) middle new
      → MarksMore (HasLine (take (i + 1) lines)) old new
  lines-more old middle new m n =
      let up_to : take (i + 1) lines ≡ take i lines ++ line ∷ [] = take-read lines i line inside is in
      let more : MarksMore (HasLine (take i lines ++ line ∷ [])) old new =
      mark-as (λ p. HasLine (take i lines) p ⊎ NamesChild line p) (HasLine (take i lines ++ line ∷ [])) old new
      (lines-push (take i lines) line) (lines-cases (take i lines) line)
      (mark-then (HasLine (take i lines)) (NamesChild line) old middle new m n) in
      subst (λ (ls : List Line). MarksMore (HasLine ls) old new) (sym up_to) more

-- ---- a rule names its one child, or the children of its lines

pub child-named : (rule : Rule) (child : ℕ) → Some child ≡ child_of rule → Names rule child
child-named Chain child is = absurd (cc)
child-named (Links steps) child is = absurd (cc)
child-named (Move cell named) child is = cc
child-named (All steps threats lines) child is = absurd (cc)
child-named (Fill steps named) child is = cc
child-named (Turned named) child is = cc

pub lines-named : (rule : Rule) (place : ℕ) → HasLine (lines_of rule) place → Names rule place
lines-named Chain place has = absurd (no_line place has)
lines-named (Links steps) place has = absurd (no_line place has)
lines-named (Move cell named) place has = absurd (no_line place has)
lines-named (All steps threats lines) place has = has
lines-named (Fill steps named) place has = absurd (no_line place has)
lines-named (Turned named) place has = absurd (no_line place has)
