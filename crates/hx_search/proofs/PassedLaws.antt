-- Ors that are tried one after the other: how far they have come.
use Rattle.std.proofs.Common.{◌≡◌, ◌<◌, Bool, true, false, length, refl, sym, subst, arith}
use Rattle.std.proofs.lemmas.Bool.{true≢false, false≢true}
use Rattle.hx_linkset.specs.States.{Standing}
use Rattle.hx_reach.specs.Growth.{IsGrown}
use Rattle.hx_reach.proofs.GrowthLaws.{grown-itself, grown-on}
use Rattle.hx_search.specs.Progress.{PassedSoFar}

pub so_far-begins : {Fact : Type 0} (set : Standing) → Fact → PassedSoFar set set false Fact
so_far-begins set fact = record { grown = grown-itself set; same = λ no. (refl, fact); longer = λ yes. absurd (false≢true yes) }

pub so_far-as : {old now : Standing} {more : Bool} {Fact Other : Type 0} → PassedSoFar old now more Fact → (Fact → Other)
    → PassedSoFar old now more Other
so_far-as so_far other =
    record { grown = so_far.grown; same = λ no. ((so_far.same no).0, other (so_far.same no).1); longer = so_far.longer }

module _ {old now : Standing} {more : Bool} where
  -- none was added by the next
  pub so_far-same : {next : Standing} {Passes Other : Type 0} (Fact : Standing → Type 0) → PassedSoFar old now more (Fact now)
      → (next ≡ now) × Passes → (Fact next → Passes → Other) → PassedSoFar old next more Other
  so_far-same {next} Fact so_far passed both =
      let P : Standing → Type 0 = λ s. PassedSoFar old s more (Fact s) in
      let there : PassedSoFar old next more (Fact next) = subst P (sym passed.0) so_far in
      so_far-as there (λ fact. both fact passed.1)

  -- some were
  pub so_far-more : {next : Standing} {Fact Other : Type 0} → PassedSoFar old now more Fact → IsGrown now next
      → length now.present.links < length next.present.links → PassedSoFar old next true Other
  so_far-more so_far grown less = record {
    grown = grown-on _ _ _ so_far.grown grown;
    same = λ no. absurd (true≢false no);
    longer = λ yes. omega (arith, so_far.grown.longer);
  }
