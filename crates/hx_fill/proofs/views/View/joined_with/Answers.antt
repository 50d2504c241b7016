use Rattle.std.proofs.Common.{true, false, sym, ◌∙◌, subst}
use Rattle.hx_board.specs.Graph.{Grouped, Joined}
use Rattle.hx_board.specs.VertexSets.{IsSetOf}
use Rattle.hx_fill.proofs.ViewLaws.{joined-widened}
use Rattle.hx_fill.proofs.views.View.joined_with.Goals as goal

pub returns-in-None : goal.returns-in-None
returns-in-None c =
    let now = rw c.in-None.is at (c.self.invariant.now c.args.vertex c.joined_with-joined.result c.joined_with-joined.ensures) in
    let P : Grouped → Type 0 = λ g. IsSetOf g.board.size (Joined g.board g.player c.args.vertex) c.joined_with-joined.result in
    subst P c.self.view_is now

pub returns-then-is_joined : goal.returns-then-is_joined
returns-then-is_joined c =
    let now = joined-widened _ _ _ c.self.inside.stone c.self.inside.joint c.self.invariant c.in-Some.cell c.in-Some.is c.args.vertex
    c.joined_with-joined.result
    c.joined_with-joined.ensures true (sym c.if-is_joined.true ∙ c.has-is_joined.ensures) in
    let P : Grouped → Type 0 = λ g. IsSetOf g.board.size (Joined g.board g.player c.args.vertex) c.union.result in
    subst P c.self.view_is (rw c.union.ensures.set now)

pub returns-else-is_joined : goal.returns-else-is_joined
returns-else-is_joined c =
    let now = joined-widened _ _ _ c.self.inside.stone c.self.inside.joint c.self.invariant c.in-Some.cell c.in-Some.is c.args.vertex
    c.joined_with-joined.result
    c.joined_with-joined.ensures false (sym c.if-is_joined.false ∙ c.has-is_joined.ensures) in
    let P : Grouped → Type 0 = λ g. IsSetOf g.board.size (Joined g.board g.player c.args.vertex) c.joined_with-joined.result in
    subst P c.self.view_is now
