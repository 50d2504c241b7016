use Rattle.std.proofs.Common.{◌≡◌, ℕ, ◌<◌, ◌+◌, List, [], ◌∷◌, ◌++◌, sym, ap, ◌∙◌, subst, arith, rules}
use Rattle.std.proofs.lemmas.Option.{slice_get_within}
use Rattle.std.specs.Prelude.{MatchOption}
use Rattle.std.specs.declared.option.Option.{Option}
use Rattle.hx_link.specs.declared.links.Kind.TheVariants.{Semi}
use Rattle.hx_linkset.specs.LiveOf.{IsLiveOf, IsFirstFrom}
use Rattle.hx_search.specs.Progress.{AreParts, IsFork}
use Rattle.hx_search.proofs.ForkLaws.{parts-one, share-one, share-same, share-more, parts-more, not-forked, fork-of}
use Rattle.hx_search.proofs.parts.parts_of.Goals as goal

pub returns-in_default : goal.returns-in_default
returns-in_default c = λ forked. c.in_default.ensures forked.first forked.first_semi

pub loop-shared-init : goal.loop-shared-init
loop-shared-init c =
    let is : IsFirstFrom c.args.set.now Semi c.args.a.now c.args.b.now 0 c.in-Some.first = c.in-Some.ensures in
    let pushed : c.push.new.self.items ≡ c.new-parts.result.items ++ c.in-Some.first ∷ [] = search rules in
    let items : c.push.new.self.items ≡ c.in-Some.first ∷ [] = pushed
    ∙ ap (λ (xs : List ℕ). xs ++ c.in-Some.first ∷ []) c.new-parts.ensures.items in
    let carrier : c.carrier-shared.result ≡ is.is.link.carrier = c.carrier-shared.ensures.held is.is.link is.is.there in
    let P : List ℕ → Type 0 = λ xs. AreParts c.args.set.now c.args.a.now c.args.b.now xs c.carrier-shared.result in
    record {
      at = is.is;
      parts_ok = subst P (sym items)
          (parts-one c.args.set.now c.keeps.ensures.right c.args.a.now c.args.b.now c.in-Some.first is c.carrier-shared.result carrier);
      all_share = share-one c.args.set.now c.keeps.ensures.right c.args.a.now c.args.b.now c.in-Some.first is c.carrier-shared.result
          carrier;
    }

pub returns-then-done : goal.returns-then-done
returns-then-done c =
    let P : List ℕ → Type 0 = λ xs. IsFork c.args.set.now c.args.a.now c.args.b.now xs in
    subst P (sym c.new.ensures)
    (fork-of c.args.set.now c.keeps.ensures.right c.args.a.now c.args.b.now c.loop-shared.parts.items c.loop-shared.shared
    (c.is_empty-done.ensures.empty.0 c.if-done.true) c.loop-shared.invariant.parts_ok)

pub returns-in_default-next_of : goal.returns-in_default-next_of
returns-in_default-next_of c =
    let some = c.is_empty-done.ensures.some c.if-done.false in
    let M : Option ℕ → Type 0 = λ next.
    MatchOption next ((place : ℕ) → c.loop-shared.last < place → IsLiveOf c.args.set.now Semi c.args.a.now c.args.b.now place → ⊥)
    (IsFirstFrom c.args.set.now Semi c.args.a.now c.args.b.now (c.loop-shared.last + 1)) in
    not-forked c.args.set.now c.keeps.ensures.right c.args.a.now c.args.b.now c.loop-shared.shared c.loop-shared.last some.0 some.1
    c.loop-shared.invariant.all_share
    (subst M c.in_default-next_of.is (c.next_of.ensures Semi c.args.a.now c.args.b.now c.loop-shared.invariant.at))

pub loop-shared-smaller-then-has_all : goal.loop-shared-smaller-then-has_all
loop-shared-smaller-then-has_all c =
    let M : Option ℕ → Type 0 = λ next.
    MatchOption next ((place : ℕ) → c.loop-shared.last < place → IsLiveOf c.args.set.now Semi c.args.a.now c.args.b.now place → ⊥)
    (IsFirstFrom c.args.set.now Semi c.args.a.now c.args.b.now (c.loop-shared.last + 1)) in
    let is : IsFirstFrom c.args.set.now Semi c.args.a.now c.args.b.now (c.loop-shared.last + 1) c.in-Some-next_of.next =
    subst M c.in-Some-next_of.is (c.next_of.ensures Semi c.args.a.now c.args.b.now c.loop-shared.invariant.at) in
    let at : IsLiveOf c.args.set.now Semi c.args.a.now c.args.b.now c.loop-shared.last = c.loop-shared.invariant.at in
    omega (arith, is.not_below, slice_get_within c.args.set.now.present.links c.loop-shared.last at.link at.there)

pub loop-shared-preserved-then-has_all : goal.loop-shared-preserved-then-has_all
loop-shared-preserved-then-has_all c =
    let M : Option ℕ → Type 0 = λ next.
    MatchOption next ((place : ℕ) → c.loop-shared.last < place → IsLiveOf c.args.set.now Semi c.args.a.now c.args.b.now place → ⊥)
    (IsFirstFrom c.args.set.now Semi c.args.a.now c.args.b.now (c.loop-shared.last + 1)) in
    let is : IsFirstFrom c.args.set.now Semi c.args.a.now c.args.b.now (c.loop-shared.last + 1) c.in-Some-next_of.next =
    subst M c.in-Some-next_of.is (c.next_of.ensures Semi c.args.a.now c.args.b.now c.loop-shared.invariant.at) in
    record {
      at = is.is;
      parts_ok = c.loop-shared.invariant.parts_ok;
      all_share = share-same c.args.set.now c.keeps.ensures.right c.args.a.now c.args.b.now c.loop-shared.parts.items c.loop-shared.shared
          c.loop-shared.last c.in-Some-next_of.next c.carrier-carrier.result
          c.loop-shared.invariant.at c.loop-shared.invariant.parts_ok c.loop-shared.invariant.all_share is
          (c.carrier-carrier.ensures.held is.is.link is.is.there)
          (sym c.minus.ensures.set ∙ c.is_empty-has_all.ensures.empty.0 c.if-has_all.true);
    }

pub loop-shared-smaller : goal.loop-shared-smaller
loop-shared-smaller c =
    let M : Option ℕ → Type 0 = λ next.
    MatchOption next ((place : ℕ) → c.loop-shared.last < place → IsLiveOf c.args.set.now Semi c.args.a.now c.args.b.now place → ⊥)
    (IsFirstFrom c.args.set.now Semi c.args.a.now c.args.b.now (c.loop-shared.last + 1)) in
    let is : IsFirstFrom c.args.set.now Semi c.args.a.now c.args.b.now (c.loop-shared.last + 1) c.in-Some-next_of.next =
    subst M c.in-Some-next_of.is (c.next_of.ensures Semi c.args.a.now c.args.b.now c.loop-shared.invariant.at) in
    let at : IsLiveOf c.args.set.now Semi c.args.a.now c.args.b.now c.loop-shared.last = c.loop-shared.invariant.at in
    omega (arith, is.not_below, slice_get_within c.args.set.now.present.links c.loop-shared.last at.link at.there)

pub loop-shared-preserved : goal.loop-shared-preserved
loop-shared-preserved c =
    let M : Option ℕ → Type 0 = λ next.
    MatchOption next ((place : ℕ) → c.loop-shared.last < place → IsLiveOf c.args.set.now Semi c.args.a.now c.args.b.now place → ⊥)
    (IsFirstFrom c.args.set.now Semi c.args.a.now c.args.b.now (c.loop-shared.last + 1)) in
    let is : IsFirstFrom c.args.set.now Semi c.args.a.now c.args.b.now (c.loop-shared.last + 1) c.in-Some-next_of.next =
    subst M c.in-Some-next_of.is (c.next_of.ensures Semi c.args.a.now c.args.b.now c.loop-shared.invariant.at) in
    let e : c.carrier-carrier.result ≡ is.is.link.carrier = c.carrier-carrier.ensures.held is.is.link is.is.there in
    let items : c.push-in-loop-shared.new.self.items ≡ c.loop-shared.parts.items ++ c.in-Some-next_of.next ∷ [] = search rules in
    let some = c.is_empty-has_all.ensures.some c.if-has_all.false in
    let gone = rw c.minus.ensures.set at some.1 in
    rw (items, c.meet-shared.ensures.set) record {
      at = is.is;
      parts_ok = parts-more c.args.set.now c.keeps.ensures.right c.args.a.now c.args.b.now c.loop-shared.parts.items c.loop-shared.shared
          c.loop-shared.last c.in-Some-next_of.next c.carrier-carrier.result
          c.loop-shared.invariant.at c.loop-shared.invariant.parts_ok c.loop-shared.invariant.all_share is e some.0 gone;
      all_share = share-more c.args.set.now c.keeps.ensures.right c.args.a.now c.args.b.now c.loop-shared.parts.items c.loop-shared.shared
          c.loop-shared.last c.in-Some-next_of.next c.carrier-carrier.result
          c.loop-shared.invariant.at c.loop-shared.invariant.parts_ok c.loop-shared.invariant.all_share is e;
    }
