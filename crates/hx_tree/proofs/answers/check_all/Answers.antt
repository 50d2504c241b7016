-- The steps have one list of links, so the moves are answered by these links, or by none.
use Rattle.std.proofs.Common.{◌≡◌, ℕ, List, Bool, IsTrue, ◌↔◌, subst, rules}
use Rattle.hx_board.specs.Colours.{other_of}
use Rattle.hx_board.specs.Positions.{IsEmpty}
use Rattle.hx_link.specs.declared.links.Link.{Link}
use Rattle.hx_link.specs.declared.steps.Step.{Step}
use Rattle.hx_tree.specs.declared.nodes.Heading.{Heading}
use Rattle.hx_tree.specs.declared.nodes.Line.{Line}
use Rattle.hx_tree.specs.Steps.{GiveLinks}
use Rattle.hx_tree.specs.Answers.{AreAnswered, IsRightAll}
use Rattle.hx_tree.proofs.StepGrowth.{same_links}
use Rattle.hx_tree.proofs.answers.check_all.Goals as goal

right_all : (before : List Heading) (heading : Heading) (steps : List Step) (threats : List ℕ) (lines : List Line) (links : List Link)
    (answer : Bool)
    → heading.to_move ≡ other_of heading.winner → ((some : ℕ) × IsEmpty heading.position some)
    → GiveLinks heading.position heading.winner steps links
    → IsTrue answer ↔ AreAnswered before heading links threats lines → IsTrue answer ↔ IsRightAll before heading steps threats lines
right_all before heading steps threats lines links answer mover some given answers = (
  λ yes. let answered : AreAnswered before heading links threats lines = answers.0 yes in
      record {
        mover = mover;
        some = some.0;
        some_empty = some.1;
        links = links;
        steps_right = given;
        threats_right = answered.threats_right;
        cells = answered.cells;
        lines_right = answered.lines_right;
      },
  λ right. let P : List Link → Type 0 = λ ls. AreAnswered before heading ls threats lines in
      answers.1 (subst P (same_links heading.position heading.winner steps right.links links right.steps_right given)
      (record { threats_right = right.threats_right; cells = right.cells; lines_right = right.lines_right })),
)

pub returns-in-Some-clause-right : goal.returns-in-Some-clause-right
returns-in-Some-clause-right c =
    let given : GiveLinks c.args.heading.now.position c.args.heading.now.winner c.args.steps.now c.in-Some.links.items =
    rw (c.in-Some.is, c.items.ensures) at c.in_ok-links.ensures.links in
    right_all c.args.before.now c.args.heading.now c.args.steps.now c.args.threats.now c.args.lines.now c.in-Some.links.items _
    (search rules) (search rules) given
    (rw (c.as_slice.ensures.value, c.items-in-Some.ensures, c.items-in-Some-2.ensures) at c.check_answers.ensures)
