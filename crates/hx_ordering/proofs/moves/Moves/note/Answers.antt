use Rattle.std.proofs.Common.{◌≡◌, ◌≢◌, ℕ, zero, suc, ◌<◌, List, [], ◌∷◌, length, set, Some, refl, ap, arith}
use Rattle.std.specs.Prelude.{slice_get}
use Rattle.std.proofs.Math.Seq.{map-set_same}
use Rattle.hx_ordering.specs.declared.children.Child.{Child}
use Rattle.hx_ordering.proofs.moves.Moves.note.Goals as goal

get-set_same : {A : Type 0} → (xs : List A) (place : ℕ) (x : A) → place < length xs → slice_get (set xs place x) place ≡ Some x
get-set_same [] place x inside = absurd (omega arith)
get-set_same (y ∷ ys) zero x inside = refl
get-set_same (y ∷ ys) (suc place) x inside = get-set_same ys place x (omega arith)

get-set_other : {A : Type 0} → (xs : List A) (place : ℕ) (x : A) (other : ℕ) → other ≢ place
    → slice_get (set xs place x) other ≡ slice_get xs other
get-set_other [] place x other differ = refl
get-set_other (y ∷ ys) zero x zero differ = absurd (differ refl)
get-set_other (y ∷ ys) zero x (suc other) differ = refl
get-set_other (y ∷ ys) (suc place) x zero differ = refl
get-set_other (y ∷ ys) (suc place) x (suc other) differ = get-set_other ys place x other (λ same. differ (ap suc same))

pub returns-then-place-len-clause-same_cells : goal.returns-then-place-len-clause-same_cells
returns-then-place-len-clause-same_cells c =
    map-set_same (λ (child : Child). child.cell) c.args.self.now.children.items c.args.place _ c.index_mut.result.now
    (ap (λ (child : Child). child.cell) c.index_mut.ensures.value)

pub returns-then-place-len-clause-same_keys : goal.returns-then-place-len-clause-same_keys
returns-then-place-len-clause-same_keys c =
    map-set_same (λ (child : Child). child.key) c.args.self.now.children.items c.args.place _ c.index_mut.result.now
    (ap (λ (child : Child). child.key) c.index_mut.ensures.value)

pub returns-then-place-len-clause-noted : goal.returns-then-place-len-clause-noted
returns-then-place-len-clause-noted c = λ inside. rw (get-set_same c.args.self.now.children.items c.args.place _ inside) refl

pub returns-then-place-len-clause-others : goal.returns-then-place-len-clause-others
returns-then-place-len-clause-others c = λ other differ. get-set_other c.args.self.now.children.items c.args.place _ other differ
