-- What is found by going through a list.
use Rattle.std.proofs.Common.{◌≡◌, ℕ, ◌+◌, ◌<◌, ◌≤◌, List, length, take, get_or, sym, subst, ⊎_elim, arith}
use Rattle.std.specs.Prelude.{Contains}
use Rattle.std.proofs.lemmas.Bool.{cases_lt}
use Rattle.hx_board.proofs.ListLaws.{all_read-more}
use Rattle.hx_tree.specs.declared.nodes.Line.{Line}
use Rattle.hx_tree.specs.declared.nodes.Line.TheVariants.{Child}

-- what holds of each place before one, and of it, holds of each before the next
pub before-more : (P : ℕ → Type 0) (i : ℕ) → ((p : ℕ) → p < i → P p) → P i → (p : ℕ) → p < i + 1 → P p
before-more P i before here p less =
    ⊎_elim (before p) (λ (from : i ≤ p). let same : i ≡ p = omega arith in subst P same here) (cases_lt p i)

-- an item that is read is contained
pub read-contained : {X : Type 0} → (xs : List X) (i : ℕ) (x : X) → i < length xs → x ≡ get_or xs i x → Contains xs x
read-contained xs i x less is = (i, less, sym is)

-- a line more that has no child for the cell
pub child-more : (cell : ℕ) (lines : List Line) (i : ℕ) (item : Line) → i < length lines → item ≡ get_or lines i item
    → ((line : Line) → Contains (take i lines) line → (child : ℕ) → line ≡ Child cell child → ⊥)
    → ((child : ℕ) → item ≡ Child cell child → ⊥)
    → (line : Line) → Contains (take (i + 1) lines) line → (child : ℕ) → line ≡ Child cell child → ⊥
child-more cell lines i item less is before here =
    all_read-more (λ l. (child : ℕ) → l ≡ Child cell child → ⊥) lines i item less is before here
