-- The blocks beside the links, as links come and go; and a link that a play does not touch, which is live after it if
-- it was before.
use Rattle.std.proofs.Common.{◌≡◌, ◌≢◌, ℕ, zero, suc, ◌+◌, ◌*◌, ◌-◌, ◌/◌, ◌%◌, ◌^◌, ◌<◌, ◌≤◌, true, false, List, [], ◌∷◌, ◌++◌, length, take, refl, sym, ap}
use Rattle.std.proofs.Common.{◌∙◌, subst, Some, ⊎_elim, inl, inr, ◌⊎◌, Bool, not, arith, bit_and, length-append, length-take, eqb}
use Rattle.std.proofs.Math.ListN.{set}
use Rattle.std.specs.Prelude.{slice_get}
use Rattle.std.specs.Int.Count.{count_trailing_zeros}
use Rattle.std.proofs.lemmas.Bool.{false≢true, false_from_ne_true, cases_eq, cases_lt}
use Rattle.std.proofs.lemmas.List.{length-set}
use Rattle.std.proofs.lemmas.Nat.{and_le_l, div-add-mod', row_below_turned}
use Rattle.std.proofs.Math.Nat.{mod-lt}
use Rattle.std.proofs.Math.Pow.{pow_pos}
use Rattle.std.proofs.lemmas.Nat.Bits.{bit_at_above}
use Rattle.std.proofs.lemmas.Option.{slice_get_within}
use Rattle.hx_board.specs.declared.colours.Colour.{Colour}
use Rattle.hx_board.specs.declared.vertices.Vertex.{Vertex}
use Rattle.hx_board.specs.declared.vertices.Vertex.TheVariants.{Of, First, Last}
use Rattle.hx_board.specs.Sets.{has, intersection, ShareNone}
use Rattle.hx_board.specs.Positions.{Board, IsBoard}
use Rattle.hx_board.specs.VertexSets.{code_of, IsSomeVertex}
use Rattle.hx_board.proofs.CellLaws.{on_board-small}
use Rattle.hx_board.proofs.ListLaws.{get-push}
use Rattle.hx_board.proofs.SetLaws.{has-empty, has-earlier, has_not-intersection, has-intersection_right}
use Rattle.hx_link.specs.declared.links.Allowed.{Allowed}
use Rattle.hx_link.specs.declared.links.Link.{Link}
use Rattle.hx_link.specs.Steps.{IsEnd, IsAllowed}
use Rattle.hx_linkset.specs.declared.blocks.Block.{Block}
use Rattle.hx_linkset.specs.declared.liveness.Losses.{Losses}
use Rattle.hx_linkset.specs.States.{IsLive}
use Rattle.hx_linkset.specs.Losses.{AreLosses}
use Rattle.hx_linkset.specs.Held.{IsIn}
use Rattle.hx_linkset.specs.Logs.{AreOthers}
use Rattle.hx_linkset.specs.Touches.{IsOf, Touch, RowHas, AreBlocksOf, HasTouched, Sought, TouchedAreLogged}
use Rattle.hx_linkset.proofs.BlockLaws.{IsLowestOf, lowest-of_word}
use Rattle.hx_linkset.proofs.HeadLaws.{live-some}
use Rattle.hx_linkset.proofs.LossLaws.{untaken-end, untaken-live}

-- ---- lists

get-set_same : {X : Type 0} (xs : List X) (place : ℕ) (x y : X) → slice_get (set xs place x) place ≡ Some y → y ≡ x
get-set_same [] place x y e = cc
get-set_same (z ∷ zs) zero x y e = cc
get-set_same (z ∷ zs) (suc place) x y e = get-set_same zs place x y e

get-set_other : {X : Type 0} (xs : List X) (place other : ℕ) (x : X) → (other ≡ place → ⊥)
    → slice_get (set xs place x) other ≡ slice_get xs other
get-set_other [] place other x ne = refl
get-set_other (z ∷ zs) zero zero x ne = absurd (ne refl)
get-set_other (z ∷ zs) zero (suc other) x ne = refl
get-set_other (z ∷ zs) (suc place) zero x ne = refl
get-set_other (z ∷ zs) (suc place) (suc other) x ne = get-set_other zs place other x (λ e. ne (ap suc e))

get-take : {X : Type 0} (count : ℕ) (xs : List X) (place : ℕ) (x : X) → slice_get (take count xs) place ≡ Some x
    → (place < count) × (slice_get xs place ≡ Some x)
get-take zero xs place x e = cc
get-take (suc n) [] place x e = cc
get-take (suc n) (z ∷ zs) zero x e = (omega arith, e)
get-take (suc n) (z ∷ zs) (suc place) x e = let t = get-take n zs place x e in (omega (arith, t.0), t.1)

-- ---- blocks

pub blocks-none : AreBlocksOf [] []
blocks-none = record { enough = omega arith; rows = λ place number cell block link small there at of. cc }

-- a block more, of no link yet
pub blocks-room : (links : List Link) (blocks : List Block) (block : Block) → length links / 64 ≡ length blocks → AreBlocksOf links blocks
    → AreBlocksOf links (blocks ++ block ∷ [])
blocks-room links blocks block full are = record {
  enough = omega (arith, are.enough, length-append blocks (block ∷ []));
  rows = λ place number cell found link small there at of. ⊎_elim
      (λ old. are.rows place number cell found link small old at of)
      (λ new. absurd (omega (arith, new.0, full, slice_get_within links (64 * place + number) link at, are.enough, div-add-mod' (length links) 64)))
      (get-push blocks block found place there);
}

-- a link more, whose number came to the rows of its cells
pub blocks-more : (links : List Link) (blocks : List Block) (link : Link) (place number : ℕ) (old new : Block) → AreBlocksOf links blocks
    → length links ≡ 64 * place + number → number < 64 → place < length blocks → slice_get blocks place ≡ Some old
    → ((cell other : ℕ) → RowHas old cell other → RowHas new cell other) → ((cell : ℕ) → IsOf cell link → RowHas new cell number)
    → AreBlocksOf (links ++ link ∷ []) (set blocks place new)
blocks-more links blocks link place number old new are count small inside there kept entered = record {
  enough = omega (arith, count, small, inside, length-set blocks place new, length-append links (link ∷ []));
  rows = λ at other cell block l less found in_links of. ⊎_elim
      (λ same. rw (get-set_same blocks place new block (let P : ℕ → Type 0 = λ x. slice_get (set blocks place new) x ≡ Some block in subst P same found))
      (⊎_elim
      (λ before. kept cell other (let Q : ℕ → Type 0 = λ x. slice_get links (64 * x + other) ≡ Some l in
      are.rows place other cell old l less there (subst Q same before) of))
      (λ last. let numbers : number ≡ other = omega (arith, last.0, count, same) in
      let R : ℕ → Type 0 = λ x. RowHas new cell x in
      let S : Link → Type 0 = λ x. IsOf cell x in
      subst R numbers (entered cell (subst S last.1 of)))
      (get-push links link l (64 * at + other) in_links)))
      (λ ne. ⊎_elim
      (λ before. are.rows at other cell block l less (sym (get-set_other blocks place at new ne) ∙ found) before of)
      (λ last. absurd (ne (omega (arith, last.0, count, small, less))))
      (get-push links link l (64 * at + other) in_links))
      (cases_eq at place);
}

pub below-block : (place : ℕ) → place % 64 < 64
below-block place = let some : 0 < 64 = omega arith in mod-lt place some

pub block-left : (links : List Link) (blocks : List Block) (count : ℕ) → AreBlocksOf links blocks → count < length links
    → count / 64 < length (take (count / 64 + 1) blocks)
block-left links blocks count are less =
    omega (arith, length-take (count / 64 + 1) blocks, are.enough, div-add-mod' count 64)

-- links fewer, where the last block that is left keeps the numbers below one
pub blocks-fewer : (links : List Link) (blocks : List Block) (count : ℕ) (old new : Block) → AreBlocksOf links blocks
    → count < length links → slice_get (take (count / 64 + 1) blocks) (count / 64) ≡ Some old
    → ((cell other : ℕ) → other < count % 64 → RowHas old cell other → RowHas new cell other)
    → AreBlocksOf (take count links) (set (take (count / 64 + 1) blocks) (count / 64) new)
blocks-fewer links blocks count old new are less there kept = record {
  enough = rw (length-set (take (count / 64 + 1) blocks) (count / 64) new)
      (omega (arith, length-take count links, block-left links blocks count are less, below-block count, div-add-mod' count 64));
  rows = λ at other cell block l small found in_links of.
      let t = get-take count links (64 * at + other) l in_links in
      ⊎_elim
      (λ same. rw (get-set_same (take (count / 64 + 1) blocks) (count / 64) new block
      (let P : ℕ → Type 0 = λ x. slice_get (set (take (count / 64 + 1) blocks) (count / 64) new) x ≡ Some block in subst P same found))
      (kept cell other (omega (arith, t.0, same, div-add-mod' count 64))
      (let Q : ℕ → Type 0 = λ x. slice_get links (64 * x + other) ≡ Some l in
      are.rows (count / 64) other cell old l small (get-take (count / 64 + 1) blocks (count / 64) old there).1 (subst Q same t.1) of)))
      (λ ne. are.rows at other cell block l small
      (get-take (count / 64 + 1) blocks at block (sym (get-set_other (take (count / 64 + 1) blocks) (count / 64) at new ne) ∙ found)).1
      t.1 of)
      (cases_eq at (count / 64));
}

-- ---- the next link that is touched and not on the log

pub logged-more : (sought : Sought) (log : List ℕ) (from at bound : ℕ) → TouchedAreLogged sought log from at
    → TouchedAreLogged sought log at bound → TouchedAreLogged sought log from bound
logged-more sought log from at bound before more place link low high there touch = ⊎_elim
    (λ less. before place link low less there touch)
    (λ le. more place link le high there touch)
    (cases_lt place at)

pub logged-fewer : (sought : Sought) (log : List ℕ) (from bound less : ℕ) → less ≤ bound → TouchedAreLogged sought log from bound
    → TouchedAreLogged sought log from less
logged-fewer sought log from bound less le logged place link low high there touch =
    logged place link low (omega (arith, le, high)) there touch

above-word : (word n : ℕ) → word < 2 ^ 64 → has word n ≡ true → n < 64
unfolding has
above-word word n small h = ⊎_elim
    (λ less. less)
    (λ le. absurd (false≢true (sym (ap (λ (b : ℕ). eqb b 1) (bit_at_above word 64 n small le)) ∙ h)))
    (cases_lt n 64)

not-true : (b : Bool) → not b ≡ true → b ≡ false
not-true true e = sym e
not-true false e = refl

not-false : (b : Bool) → not b ≡ false → b ≡ true
not-false true e = refl
not-false false e = sym e

-- the numbers of those links of a block that are touched, of which those are left that are not on the log
module _ (sought : Sought) (log : List ℕ) (at numbers others : ℕ) (touched : HasTouched sought.links sought.cells (at / 64) numbers)
    (off : AreOthers log (at / 64) others) where
  abbrev left : ℕ
  left = bit_and numbers others

  abbrev rest : ℕ
  rest = left / 2 ^ (at % 64)

  left-out : (number : ℕ) → has left number ≡ false → (has numbers number ≡ false) ⊎ (has others number ≡ false)
  unfolding intersection
  left-out number lacks = has_not-intersection numbers others number lacks

  left-off : (number : ℕ) → has left number ≡ true → has others number ≡ true
  unfolding intersection
  left-off number is = has-intersection_right numbers others number is

  untold : (place : ℕ) (link : Link) → at ≤ place → place - at + at % 64 < 64 → has rest (place - at) ≡ false
      → slice_get sought.links place ≡ Some link → Touch sought.cells link → IsIn log place
  untold place link low small lacks there touch =
      let number : ℕ = place - at + at % 64 in
      let same : place ≡ 64 * (at / 64) + number = omega (arith, low, div-add-mod' at 64) in
      let P : ℕ → Type 0 = λ x. slice_get sought.links x ≡ Some link in
      let Q : ℕ → Type 0 = λ x. IsIn log x in
      ⊎_elim
      (λ told. absurd (false≢true (sym told ∙ touched number link small (subst P same there) touch)))
      (λ out. subst Q (sym same) (not-false _ (sym (off number small) ∙ out)))
      (left-out number (sym (has-earlier left (at % 64) (place - at)) ∙ lacks))

  pub logged-past : rest ≡ 0 → TouchedAreLogged sought log at (at + (64 - at % 64))
  logged-past none place link low high there touch =
      untold place link low (omega (arith, low, high)) (ap (λ (s : ℕ). has s (place - at)) none ∙ has-empty (place - at)) there touch

  module _ (some : rest ≢ 0) (small : numbers < 2 ^ 64) where
    abbrev first : ℕ
    first = count_trailing_zeros 64 rest

    small_left : left < 2 ^ 64
    small_left = omega (arith, small, and_le_l numbers others)

    lowest : IsLowestOf rest first
    lowest = lowest-of_word rest some (row_below_turned left (2 ^ (at % 64)) (2 ^ 64) 1 (omega (arith, small_left)) (pow_pos (at % 64))).1

    member : has left (first + at % 64) ≡ true
    member = sym (has-earlier left (at % 64) first) ∙ lowest.lowest.member

    inside : first + at % 64 < 64
    inside = above-word left (first + at % 64) small_left member

    pub logged-before : TouchedAreLogged sought log at (at + first)
    logged-before place link low high there touch =
        untold place link low (omega (arith, low, high, inside)) (lowest.lowest.first (place - at) (omega (arith, low, high))) there touch

    pub first-off : IsIn log (at + first) → ⊥
    first-off logged =
        let same : at + first ≡ 64 * (at / 64) + (first + at % 64) = omega (arith, div-add-mod' at 64) in
        let P : ℕ → Type 0 = λ x. IsIn log x in
        let out = not-true _ (sym (off (first + at % 64) inside) ∙ left-off (first + at % 64) member) in
        false≢true (sym out ∙ subst P same logged)

-- ---- a link that a play does not touch

module _ (losses : Losses) (before after : Allowed) (l : AreLosses losses before after) (old new : Board) (player : Colour)
    (was_allowed : IsAllowed before old player) (is_allowed : IsAllowed after new player) (is_board : IsBoard old) (link : Link)
    (untouched : Touch losses.taken link → ⊥) (live : IsLive old player link) where
  unfilled : ShareNone link.carrier losses.filled
  unfilled n h = false_from_ne_true (has losses.filled n) (λ k.
      let small : n < 121 = on_board-small old.size n is_board.0 (live.empty n h).on_board in
      untouched (n, (l.taken_cells n small k, (small, inl h))))

  end-left : (vertex : Vertex) → ((cell : ℕ) → cell < 121 → cell ≡ code_of vertex → IsOf cell link) → IsSomeVertex vertex
      → IsEnd old player vertex → IsEnd new player vertex
  end-left (Of cell) of some end = untaken-end losses before after l new player is_allowed old was_allowed (Of cell) some
      (false_from_ne_true (has losses.ends cell) (λ k. untouched (cell, (l.taken_ends cell some k, of cell some refl)))) end
  end-left First of some end = tt
  end-left Last of some end = tt

  pub untouched-live : IsLive new player link
  untouched-live =
      let some = live-some old is_board player link live in
      untaken-live losses before after l new player is_allowed old was_allowed link unfilled live (
        end-left link.a (λ cell small e. (small, inr (inl e))) some.0 live.a_end,
        end-left link.b (λ cell small e. (small, inr (inr e))) some.1 live.b_end,
      )
