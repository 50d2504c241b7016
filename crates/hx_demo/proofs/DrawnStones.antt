-- The cells of stones as they are drawn one after the other.
use Rattle.std.proofs.Common.{◌≡◌, ℕ, ◌+◌, ◌<◌, List, length, refl, sym, arith}
use Rattle.std.specs.Prelude.{slice_index, remove}
use Rattle.hx_board.specs.Sets.{insert}
use Rattle.rand_pcg.specs.Lcg.{Lcg}
use Rattle.rand_pcg.specs.Pcg.{pcg32}
use Rattle.hx_demo.specs.Generators.{next_words, words_later}
use Rattle.hx_demo.specs.DrawnPositions.{place_of, drawn_from, set_of}
use Rattle.hx_demo.specs.CellsLeft.{left_after}
use Rattle.hx_demo.proofs.WordLaws.{next_words-none, next_words-one, words_later-none, words_later-one}
use Rattle.hx_demo.proofs.DrawnLists.{drawn_from-append, left_after-append, length-left}
use Rattle.hx_demo.proofs.DrawnSets.{set_of-push}

-- so many cells are drawn from a list by the words of a generator: the set of them, the cells that are left, and the
-- generator now
pub record AreDrawn (cells : List ℕ) (first : Lcg) (count set : ℕ) (left : List ℕ) (now : Lcg) : Type 0 where
  pub drawn : set ≡ set_of (drawn_from cells (next_words count first))
  pub rest : left ≡ left_after cells (next_words count first)
  pub further : now ≡ words_later count first
  pub room : length left + count ≡ length cells

pub drawn_none : (cells : List ℕ) (first : Lcg) (set : ℕ) → set ≡ 0 → AreDrawn cells first 0 set cells first
drawn_none cells first set none = record {
  drawn = rw next_words-none none;
  rest = rw next_words-none refl;
  further = sym (words_later-none first);
  room = omega arith;
}

pub drawn_more : (cells : List ℕ) (first : Lcg) (count set : ℕ) (left rest : List ℕ) (now next : Lcg) (cell : ℕ)
    → AreDrawn cells first count set left now → 0 < length left
    → cell ≡ slice_index left (place_of (pcg32 now).0 left) → rest ≡ remove left (place_of (pcg32 now).0 left) → next ≡ (pcg32 now).1
    → AreDrawn cells first (count + 1) (insert set cell) rest next
drawn_more cells first count set left rest now next cell before some cell_is rest_is next_is =
    let word : ℕ = (pcg32 now).0 in
    let less = length-left word left some in
    let all = before.room in record {
      drawn = rw (cell_is, before.drawn, before.rest, before.further, next_words-one count first, drawn_from-append, set_of-push) refl;
      rest = rw (rest_is, before.rest, before.further, next_words-one count first, left_after-append) refl;
      further = rw (next_is, before.further) (sym (words_later-one count first));
      room = rw rest_is (omega arith);
    }
