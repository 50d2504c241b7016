-- Lists of nodes that begin with others.
use Rattle.std.proofs.Common.{◌≡◌, ℕ, ◌≤◌, List, [], ◌∷◌, ◌++◌, length, refl, sym, ap, ◌∙◌, subst, arith, true, false, if◌then◌else◌}
use Rattle.std.proofs.Common.{nat_le}
use mathlib.Core.Logic.{dite}
use native.Mathlib.Decide.{dec_le}
use Rattle.std.proofs.lemmas.Bool.Decides.{nat_tests}
use Rattle.hx_tree.specs.declared.nodes.Node.{Node}
use Rattle.hx_tree.specs.Entries.{Extends}
use Rattle.hx_tree.proofs.EntryLaws.{extends-itself}
use Rattle.hx_share.specs.Fronts.{AreFronts, longer}

pub extends-nothing : (xs : List Node) → Extends [] xs
extends-nothing xs = (xs, refl)

begins : (xs ys more others : List Node) → xs ++ more ≡ ys ++ others → length xs ≤ length ys → Extends xs ys
begins [] ys more others same short = (ys, refl)
begins (x ∷ xs) [] more others same short = absurd (omega arith)
begins (x ∷ xs) (y ∷ ys) more others same short =
    let first : x ≡ y = cc in let rest : xs ++ more ≡ ys ++ others = cc in let t = begins xs ys more others rest (omega arith) in
    (t.0, (λ i. sym first i ∷ t.1 i))

-- of two fronts of one list, the longer begins with the shorter
pub extends-shorter : (whole one other : List Node) → Extends one whole → Extends other whole → length one ≤ length other
    → Extends one other
extends-shorter whole one other first second short = begins one other first.0 second.0 (sym first.1 ∙ second.1) short

-- a front that begins with both
pub record IsLonger (whole one other long : List Node) : Type 0 where
  pub front : Extends long whole
  pub of_one : Extends one long
  pub of_other : Extends other long

le-true : (a b : ℕ) → a ≤ b → nat_le a b ≡ true
le-true a b le = grind (arith, nat_tests)

le-false : (a b : ℕ) → ¬ (a ≤ b) → nat_le a b ≡ false
le-false a b gt = grind (arith, nat_tests)

pub longer-begins : (whole one other : List Node) → Extends one whole → Extends other whole → IsLonger whole one other (longer one other)
longer-begins whole one other first second = dite (dec_le (length one) (length other))
    (λ le. let is : longer one other ≡ other = ap (λ b. if b then other else one) (le-true (length one) (length other) le) in
    subst (IsLonger whole one other) (sym is)
    (record { front = second; of_one = extends-shorter whole one other first second le; of_other = extends-itself other }))
    (λ gt. let is : longer one other ≡ one = ap (λ b. if b then other else one) (le-false (length one) (length other) gt) in
    subst (IsLonger whole one other) (sym is)
    (record { front = first; of_one = extends-itself one; of_other = extends-shorter whole other one second first (omega arith) }))

pub longer-both : (one other : List Node) → AreFronts one other → IsLonger (longer one other) one other (longer one other)
longer-both one other fronts = let t = longer-begins fronts.whole one other fronts.of_one fronts.of_other in
    record { front = extends-itself (longer one other); of_one = t.of_one; of_other = t.of_other }
