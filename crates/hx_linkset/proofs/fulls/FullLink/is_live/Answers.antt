use Rattle.std.proofs.Common.{◌≡◌, Bool, true, false, ◌&&◌, sym, ap, ◌∙◌, eq-eqb, eqb-true}
use Rattle.std.proofs.lemmas.Bool.{false≢true, false_from_ne_true}
use Rattle.std.specs.Prelude.{nat_eq}
use Rattle.hx_board.specs.Sets.{has, intersection}
use Rattle.hx_board.specs.VertexSets.{code_of}
use Rattle.hx_board.proofs.SetLaws.{intersection-is_subset, is_subset-intersection}
use Rattle.hx_linkset.proofs.fulls.FullLink.is_live.Goals as goal

pub returns-then-inside : goal.returns-then-inside
returns-then-inside c =
    let carrier = c.args.self.now.carrier in
    let inside : nat_eq (intersection carrier c.args.empties) carrier ≡ true =
    eq-eqb _ _ (is_subset-intersection carrier c.args.empties (c.inside.ensures.0 c.if-inside.true)) in
    c.has.ensures ∙ sym (ap (λ (b : Bool). b && has c.args.ends (code_of c.args.self.now.to)) inside)

pub returns-else-inside : goal.returns-else-inside
returns-else-inside c =
    let carrier = c.args.self.now.carrier in
    let outside : nat_eq (intersection carrier c.args.empties) carrier ≡ false =
    false_from_ne_true _ (λ e.
    false≢true (sym c.if-inside.false ∙ c.inside.ensures.1 (intersection-is_subset carrier c.args.empties (eqb-true _ _ e)))) in
    c.if-inside.false ∙ sym (ap (λ (b : Bool). b && has c.args.ends (code_of c.args.self.now.to)) outside)
