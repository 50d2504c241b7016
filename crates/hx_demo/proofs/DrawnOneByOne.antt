-- Positions that are drawn one after the other: one more stands behind those that were drawn before it.
use Rattle.std.proofs.Common.{◌≡◌, ℕ, zero, suc, ◌+◌, ◌*◌, List, [], ◌∷◌, ◌++◌, length, refl, sym, ap, ◌∙◌, arith}
use Rattle.rand_pcg.specs.Lcg.{Lcg}
use Rattle.hx_board.specs.Positions.{Board}
use Rattle.hx_demo.specs.Generators.{next_words, words_later}
use Rattle.hx_demo.specs.DrawnPositions.{drawn_position}
use Rattle.hx_demo.specs.Draws.{positions_from}
use Rattle.hx_demo.proofs.WordLaws.{words_later-none, words_later-add}

-- where so many positions leave the generator
abbrev pub positions_later : ℕ → Lcg → Lcg
positions_later count generator = words_later (count * 16) generator

pub positions_later-none : (generator : Lcg) → positions_later 0 generator ≡ generator
positions_later-none generator = words_later-none generator

pub positions_later-more : (count : ℕ) (generator : Lcg)
    → positions_later (count + 1) generator ≡ words_later 16 (positions_later count generator)
positions_later-more count generator =
    let words : (count + 1) * 16 ≡ count * 16 + 16 = omega arith in
    ap (λ (n : ℕ). words_later n generator) words ∙ words_later-add (count * 16) 16 generator

positions_later-first : (count : ℕ) (generator : Lcg)
    → positions_later (suc count) generator ≡ positions_later count (words_later 16 generator)
positions_later-first count generator =
    let words : suc count * 16 ≡ 16 + count * 16 = omega arith in
    ap (λ (n : ℕ). words_later n generator) words ∙ words_later-add 16 (count * 16) generator

pub positions_from-none : (generator : Lcg) → positions_from 0 generator ≡ []
unfolding positions_from
positions_from-none generator = refl

-- the position that is drawn after so many
abbrev pub position_after : ℕ → Lcg → Board
position_after count generator = drawn_position (next_words 16 (positions_later count generator))

more : (count : ℕ) (generator : Lcg)
    → positions_from (suc count) generator ≡ positions_from count generator ++ position_after count generator ∷ []
unfolding positions_from
more zero generator =
    ap (λ (g : Lcg). drawn_position (next_words 16 g) ∷ []) (sym (positions_later-none generator))
more (suc count) generator =
    ap (λ (boards : List Board). drawn_position (next_words 16 generator) ∷ boards) (more count (words_later 16 generator))
    ∙ ap (λ (g : Lcg). positions_from (suc count) generator ++ drawn_position (next_words 16 g) ∷ [])
    (sym (positions_later-first count generator))

pub positions_from-more : (count : ℕ) (generator : Lcg)
    → positions_from (count + 1) generator ≡ positions_from count generator ++ position_after count generator ∷ []
positions_from-more count generator =
    let one : count + 1 ≡ suc count = omega arith in
    ap (λ (n : ℕ). positions_from n generator) one ∙ more count generator

pub length-positions_from : (count : ℕ) (generator : Lcg) → length (positions_from count generator) ≡ count
unfolding positions_from
length-positions_from zero generator = refl
length-positions_from (suc count) generator = ap suc (length-positions_from count (words_later 16 generator))

-- ---- where a generator stands after so many positions

pub drawn_next : (count : ℕ) (generator now : Lcg) (board : Board)
    → now ≡ positions_later count generator → board ≡ drawn_position (next_words 16 now)
    → board ≡ position_after count generator
drawn_next count generator now board stands drawn = drawn ∙ ap (λ (g : Lcg). drawn_position (next_words 16 g)) stands

pub stands_next : (count : ℕ) (generator now next : Lcg) → now ≡ positions_later count generator → next ≡ words_later 16 now
    → next ≡ positions_later (count + 1) generator
stands_next count generator now next stands further = further ∙ ap (words_later 16) stands ∙ sym (positions_later-more count generator)
