use Rattle.std.proofs.Common.{◌≡◌, ℕ, ◌<◌, ◌++◌, ◌∷◌, [], List, length, take, refl, sym, ◌∙◌, ap, subst, true, false}
use Rattle.std.proofs.Common.{Result, Ok, Err, arith}
use Rattle.std.proofs.lemmas.Bool.{true≢false, false≢true}
use Rattle.std.proofs.lemmas.List.{take_all, take-append-le}
use Rattle.std.specs.Result.{is_ok, OnOk, OnErr}
use Rattle.hx_linkset.specs.States.{Standing, GivesFromLive, added}
use Rattle.hx_link.specs.declared.links.Link.{Link}
use Rattle.hx_linkset.specs.Answers.{Gives}
use Rattle.hx_linkset.specs.Fulls.{AreFullLists}
use Rattle.hx_linkset.specs.Rings.{grown}
use Rattle.hx_linkset.proofs.GivenLaws.{from_live-live}
use Rattle.hx_linkset.proofs.HistoryLaws.{head-inside}
use Rattle.hx_linkset.proofs.FieldLaws.{now, added-small, fields-same, fields-added, seen-added}
use Rattle.hx_linkset.proofs.sets.LinkSet.append.Goals as goal

when-ok : {T E : Type 0} (result : Result T E) (P : Type 0) → is_ok result ≡ true → OnOk result P → P
when-ok (Ok value) P ok holds = holds
when-ok (Err error) P ok holds = absurd (false≢true ok)

when-err : {T E : Type 0} (result : Result T E) (P : Type 0) → is_ok result ≡ false → OnErr result P → P
when-err (Ok value) P err holds = absurd (true≢false err)
when-err (Err error) P err holds = holds

-- a link more, and cut off again
cut-again : (links : List Link) (link : Link) (count : ℕ) (more : List Link) → count ≡ length links → more ≡ links ++ link ∷ []
    → take count more ≡ links
cut-again links link count more is pushed = rw (is, pushed) (take-append-le (length links) links (link ∷ []) (omega arith)
    ∙ take_all (length links) links (omega arith))

pub grow-requires-clause-inside : goal.grow-requires-clause-inside
grow-requires-clause-inside c =
    let P : Standing → Type 0 = λ s. Gives s c.args.step c.args.link.now in
    let g : GivesFromLive c.self.inside.position c.self.inside.colour c.self.inside.links c.args.step c.args.link.now =
    subst P (sym c.self.view_is) c.requires.gives in
    rw c.head_for-head.ensures.value
    (head-inside _ _ _ _ _ (now _ _ _ _ _ _ _ _ _ _ _ c.self.invariant) c.args.link.now (from_live-live _ _ _ c.args.step c.args.link.now g)
    (added-small _ _ _ _ _ _ _ _ _ _ _ c.self.invariant c.args.link.now c.args.step g))

pub grow-requires-clause-room : goal.grow-requires-clause-room
grow-requires-clause-room c =
    let held = (now _ _ _ _ _ _ _ _ _ _ _ c.self.invariant).hold in
    omega (arith, held.next_long, c.self.invariant.keeps.few)

pub invariant_of-self-2 : goal.invariant_of-self-2
invariant_of-self-2 c =
    let P : Standing → Type 0 = λ s. Gives s c.args.step c.args.link.now in
    let g : GivesFromLive c.self.inside.position c.self.inside.colour c.self.inside.links c.args.step c.args.link.now =
    subst P (sym c.self.view_is) c.requires.gives in
    let count : c.len-count.result ≡ length c.self.inside.links =
    c.len-count.ensures.count in
    let pushed : c.push.new.self ≡ c.self.inside.links ++ c.args.link.now ∷ [] =
    when-ok c.push.result _ (rw c.if-is_err-2.false at c.is_err-2.ensures.negation) c.push.ensures.ok in
    let room : length c.self.inside.links < 8192 =
    omega (arith, c.requires.room, ap (λ (s : Standing). length s.present.links) c.self.view_is) in
    let rings : c.grow.new.self ≡ grown c.self.inside.chains c.head_for-head.result =
    when-ok c.grow.result _ (rw c.if-is_err-4.false at c.is_err-4.ensures.negation) c.grow.ensures.ok in
    let lists : (links : List Link) → length links ≡ c.len-count.result → AreFullLists links c.self.inside.fulls
    → AreFullLists (links ++ c.args.link.now ∷ []) c.add.new.self =
    when-ok c.add.result _ (rw c.if-is_err-3.false at c.is_err-3.ensures.negation) c.add.ensures.ok in
    fields-added _ _ _ _ _ _ _ _ _ _ _ c.self.invariant c.args.link.now c.args.step g _ _ c.grow.new.self
    pushed
    (rw (c.push_reserved.ensures.items, c.reserve.ensures.items) refl)
    (omega arith) (rw (← c.head_for-head.ensures.value) rings) _ (lists c.self.inside.links (sym count) c.self.invariant.fulls_are)

pub invariant_of-self-then-is_err-4 : goal.invariant_of-self-then-is_err-4
invariant_of-self-then-is_err-4 c =
    let count : c.len-count.result ≡ length c.self.inside.links =
    c.len-count.ensures.count in
    let rings : c.grow.new.self ≡ c.self.inside.chains =
    when-err c.grow.result _ (rw c.if-is_err-4.true at c.is_err-4.ensures.negation) c.grow.ensures.err in
    let lists : (links : List Link) → length links ≡ c.len-count.result → AreFullLists links c.self.inside.fulls
    → AreFullLists (links ++ c.args.link.now ∷ []) c.add.new.self =
    when-ok c.add.result _ (rw c.if-is_err-3.false at c.is_err-3.ensures.negation) c.add.ensures.ok in
    let pushed : c.push.new.self ≡ c.self.inside.links ++ c.args.link.now ∷ [] =
    when-ok c.push.result _ (rw c.if-is_err-2.false at c.is_err-2.ensures.negation) c.push.ensures.ok in
    fields-same _ _ _ _ _ _ _ _ _ _ _ c.self.invariant _ _ _ _
    (c.truncate-then-is_err-4.ensures ∙ cut-again _ c.args.link.now _ c.push.new.self count pushed) c.reserve.ensures.items rings
    (c.cut.ensures c.self.inside.links (lists c.self.inside.links (sym count) c.self.invariant.fulls_are))

pub returns-clause-appended : goal.returns-clause-appended
returns-clause-appended c =
    let P : Standing → Type 0 = λ s. Gives s c.args.step c.args.link.now in
    let g : GivesFromLive c.self.inside.position c.self.inside.colour c.self.inside.links c.args.step c.args.link.now =
    subst P (sym c.self.view_is) c.requires.gives in
    let count : c.len-count.result ≡ length c.self.inside.links =
    c.len-count.ensures.count in
    let pushed : c.push.new.self ≡ c.self.inside.links ++ c.args.link.now ∷ [] =
    when-ok c.push.result _ (rw c.if-is_err-2.false at c.is_err-2.ensures.negation) c.push.ensures.ok in (
      count ∙ ap (λ (s : Standing). length s.present.links) c.self.view_is,
      seen-added _ _ _ _ _ _ _ _ _ _ _ c.self.invariant c.args.link.now c.args.step g _ _ c.grow.new.self
          pushed
          (rw (c.push_reserved.ensures.items, c.reserve.ensures.items) refl)
          ∙ ap (λ (s : Standing). let t : Standing = record s { present = added s.present c.args.link.now c.args.step } in t) c.self.view_is,
    )
