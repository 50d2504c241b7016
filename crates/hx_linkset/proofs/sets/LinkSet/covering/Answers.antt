use Rattle.std.proofs.Common.{◌≡◌, get_or, ◌+◌, ◌-◌, ◌<◌, length, refl, sym, ◌∙◌, subst, arith}
use Rattle.std.proofs.lemmas.Bool.{false≢true}
use Rattle.hx_board.specs.Sets.{IsSubset}
use Rattle.hx_link.specs.declared.links.Link.{Link}
use Rattle.hx_linkset.specs.States.{Standing}
use Rattle.hx_linkset.specs.Held.{head_of, IsLiveThere}
use Rattle.hx_linkset.specs.Answers.{Covers}
use Rattle.hx_linkset.proofs.CoverLaws.{read-at, covers-at}
use Rattle.hx_linkset.proofs.WalkLaws.{WalkedTo, LinkAt, walk-start, walk-in_list, walk-link, walk-on, walk-falls}
use Rattle.hx_linkset.proofs.FieldLaws.{now, right}
use Rattle.hx_linkset.proofs.sets.LinkSet.covering.Goals as goal

pub after-node-requires : goal.after-node-requires
after-node-requires c =
    let held = (now _ _ _ _ _ _ _ _ _ _ _ c.self.invariant).hold in
    omega (arith, held.next_long, c.head_for-head.ensures.small)

pub loop-node-init : goal.loop-node-init
loop-node-init c =
    let held = (now _ _ _ _ _ _ _ _ _ _ _ c.self.invariant).hold in
    rw c.after-node.ensures
    (walk-start _ _ _ held c.head_for-head.result c.head_for-head.ensures.small
    (λ (link : Link). IsSubset link.carrier c.args.link.now.carrier))

pub returns-then-covers : goal.returns-then-covers
returns-then-covers c =
    let held = (now _ _ _ _ _ _ _ _ _ _ _ c.self.invariant).hold in
    let walked : WalkedTo c.self.inside.links (IsLiveThere c.self.inside.position c.self.inside.colour)
    (λ (link : Link). IsSubset link.carrier c.args.link.now.carrier) c.head_for-head.result c.loop-node.node = c.loop-node.invariant in
    let at : LinkAt c.self.inside.links (IsLiveThere c.self.inside.position c.self.inside.colour)
    (head_of c.args.link.now) c.loop-node.node =
    rw c.head_for-head.ensures.value at (walk-link _ _ _ held c.head_for-head.result c.head_for-head.ensures.small _ c.loop-node.node walked
    c.loop-node-test.true) in
    let same : get_or c.as_slice.result.now (c.loop-node.node - 30258) c.index-as_slice-place.result ≡ at.link =
    sym c.index-as_slice-place.is
    ∙ read-at _ _ _ c.loop-node.node (c.loop-node.node - 30258) at c.index-as_slice-place.result refl
    (rw c.as_slice.ensures at c.index-as_slice-place.is) in
    let P : Link → Type 0 = λ link. IsSubset link.carrier c.args.link.now.carrier in
    let Q : Standing → Type 0 = λ s. Covers s (c.loop-node.node - 30258) c.args.link.now in
    subst Q c.self.view_is
    (covers-at _ (right _ _ _ _ _ _ _ _ _ _ _ c.self.invariant).is_board c.args.link.now c.head_for-head.ensures.a
    c.head_for-head.ensures.b
    c.loop-node.node (c.loop-node.node - 30258) refl at (subst P same (c.inside-covers.ensures.0 c.if-covers.true)))

pub after-node-requires-in-loop-node : goal.after-node-requires-in-loop-node
after-node-requires-in-loop-node c =
    let held = (now _ _ _ _ _ _ _ _ _ _ _ c.self.invariant).hold in
    let less : c.loop-node.node < 30258 + length c.self.inside.links =
    walk-in_list _ _ _ held c.head_for-head.result c.head_for-head.ensures.small _ c.loop-node.node c.loop-node.invariant in
    omega (arith, held.next_long)

pub loop-node-smaller : goal.loop-node-smaller
loop-node-smaller c =
    let held = (now _ _ _ _ _ _ _ _ _ _ _ c.self.invariant).hold in
    rw c.after-node-in-loop-node.ensures
    (walk-falls _ _ _ held c.head_for-head.result c.head_for-head.ensures.small _ c.loop-node.node c.loop-node.invariant
    c.loop-node-test.true c.self.invariant.keeps.few)

pub loop-node-preserved : goal.loop-node-preserved
loop-node-preserved c =
    let held = (now _ _ _ _ _ _ _ _ _ _ _ c.self.invariant).hold in
    let walked : WalkedTo c.self.inside.links (IsLiveThere c.self.inside.position c.self.inside.colour)
    (λ (link : Link). IsSubset link.carrier c.args.link.now.carrier) c.head_for-head.result c.loop-node.node = c.loop-node.invariant in
    let at : LinkAt c.self.inside.links
    (IsLiveThere c.self.inside.position c.self.inside.colour) c.head_for-head.result c.loop-node.node =
    walk-link _ _ _ held c.head_for-head.result c.head_for-head.ensures.small _ c.loop-node.node walked c.loop-node-test.true in
    let same : get_or c.as_slice.result.now (c.loop-node.node - 30258) c.index-as_slice-place.result ≡ at.link =
    sym c.index-as_slice-place.is
    ∙ read-at _ _ _ c.loop-node.node (c.loop-node.node - 30258) at c.index-as_slice-place.result refl
    (rw c.as_slice.ensures at c.index-as_slice-place.is) in
    let P : Link → Type 0 = λ link. IsSubset link.carrier c.args.link.now.carrier in
    rw c.after-node-in-loop-node.ensures
    (walk-on _ _ _ held c.head_for-head.result c.head_for-head.ensures.small _ c.loop-node.node walked c.loop-node-test.true
    (λ inside. false≢true (sym c.if-covers.false ∙ c.inside-covers.ensures.1 (subst P (sym same) inside))))
