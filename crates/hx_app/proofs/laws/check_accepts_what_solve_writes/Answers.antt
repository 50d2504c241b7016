use Rattle.std.proofs.Common.{subst, List, ℕ}
use Rattle.std.specs.Prelude.{Option, IfSome}
use Rattle.hx_cmd_check.specs.Promises.{Answers}
use Rattle.hx_app.proofs.laws.check_accepts_what_solve_writes.Goals as goal

-- what `solve` wrote is the text of a valid tree with no more nodes than `check` accepts
pub returns : goal.returns
returns c = λ plain_tree input taken taken_now solved source source_now sink sink_now status is kept.
    let AreKept : Option (List ℕ) → Type 0 = λ left. IfSome left (λ text. Answers text sink.taken sink_now.taken status) in
    let answers : Answers solved.tree sink.taken sink_now.taken status = subst AreKept is kept.answers in
    answers.proof (record { nodes = solved.nodes; text = solved.is_text; few = solved.few; valid = solved.valid })
