-- What is left of a set when another is taken out of it.
use Rattle.std.proofs.Common.{◌≡◌, ℕ, ◌<◌, ◌≤◌, Bool, true, false, ◌||◌, ◌&&◌, not, refl, sym, ap, ◌∙◌}
use Rattle.std.proofs.lemmas.Bool.{false≢true}
use Rattle.std.proofs.Math.Arith.{lt_of_le-ne}
use Rattle.hx_board.specs.Sets.{has, union, intersection, difference}
use Rattle.hx_board.proofs.SetLaws.{has-union, has-intersection, has-difference, has-difference_right, same_set}
use Rattle.hx_board.proofs.FloodLaws.{le-union}

parts : (a b : Bool) → ((a && not b) || (a && b)) ≡ a
parts true true = refl
parts true false = refl
parts false b = refl

difference-le : (s t : ℕ) → difference s t ≤ s
difference-le s t = rw whole at (le-union (difference s t) (intersection s t))
  where
    whole : union (difference s t) (intersection s t) ≡ s
    whole = same_set _ _ (λ n.
        rw (has-union (difference s t) (intersection s t) n, has-difference s t n, has-intersection s t n) (parts (has s n) (has t n)))

-- the number falls where the two share a member
pub difference-lt : (s t n : ℕ) → has s n ≡ true → has t n ≡ true → difference s t < s
difference-lt s t n in_s in_t =
    lt_of_le-ne (difference-le s t)
    (λ e. false≢true (sym (has-difference_right s t n (ap (λ (x : ℕ). has x n) e ∙ in_s)) ∙ in_t))
