use Rattle.std.proofs.Common.{◌≡◌, ◌∷◌, length, vec_len, refl, sym, ◌∙◌, ap, subst, rules}
use Rattle.hx_linkset.specs.States.{Standing}
use Rattle.hx_linkset.specs.Plays.{HasMore}
use Rattle.hx_linkset.proofs.FieldLaws.{now, stage, fields-room, fields-played, seen-played}
use Rattle.hx_linkset.proofs.sets.LinkSet.play_to.Goals as goal

pub drop_dead-requires-clause-hold : goal.drop_dead-requires-clause-hold
drop_dead-requires-clause-hold c = (now _ _ _ _ _ _ _ _ _ _ _ c.self.invariant).hold

pub drop_dead-requires-clause-log_ok : goal.drop_dead-requires-clause-log_ok
drop_dead-requires-clause-log_ok c = (now _ _ _ _ _ _ _ _ _ _ _ c.self.invariant).log_ok

pub drop_dead-requires-clause-others_live : goal.drop_dead-requires-clause-others_live
drop_dead-requires-clause-others_live c = (now _ _ _ _ _ _ _ _ _ _ _ c.self.invariant).others_live

pub push_reserved-requires : goal.push_reserved-requires
push_reserved-requires c =
    let P : Standing → Type 0 = λ s. HasMore s.present.board c.args.after.now in
    let more : HasMore c.self.inside.position c.args.after.now = subst P (sym c.self.view_is) c.requires in
    let plays_length : vec_len c.self.inside.plays ≡ length c.self.inside.plays.items = search rules in
    rw plays_length (fields-room _ _ _ _ _ _ _ _ _ _ _ c.self.invariant c.args.after.now more)

pub invariant_of-self : goal.invariant_of-self
invariant_of-self c =
    let P : Standing → Type 0 = λ s. HasMore s.present.board c.args.after.now in
    let more : HasMore c.self.inside.position c.args.after.now = subst P (sym c.self.view_is) c.requires in
    let stage_is : c.stage_of-now.result ≡ stage _ _ _ _ _ _ _ _ _ _ _ c.self.invariant =
    rw (c.stage_of-now.ensures, c.as_slice.ensures, c.as_slice-2.ensures) refl in
    fields-played _ _ _ _ _ _ _ _ _ _ _ c.self.invariant c.args.after.now more _ _ stage_is c.push_reserved.ensures.items _ _
    c.drop_dead.ensures _ _ _ c.of.ensures c.allowed_on-self-inside.ensures c.push_reserved.ensures.capacity

pub returns : goal.returns
returns c =
    let P : Standing → Type 0 = λ s. HasMore s.present.board c.args.after.now in
    let more : HasMore c.self.inside.position c.args.after.now = subst P (sym c.self.view_is) c.requires in
    let stage_is : c.stage_of-now.result ≡ stage _ _ _ _ _ _ _ _ _ _ _ c.self.invariant =
    rw (c.stage_of-now.ensures, c.as_slice.ensures, c.as_slice-2.ensures) refl in
    seen-played _ _ _ _ _ _ _ _ _ _ _ c.self.invariant c.args.after.now more _ _ stage_is c.push_reserved.ensures.items
    ∙ ap (λ (s : Standing). let t : Standing =
    record { player = s.player; present = record s.present { board = c.args.after.now }; past = s.present ∷ s.past } in
    t) c.self.view_is
