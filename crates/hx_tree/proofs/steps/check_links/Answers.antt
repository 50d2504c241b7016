-- The steps have one list of links, so what the last of these shows is what the last link of the steps shows.
use Rattle.std.proofs.Common.{List, subst, IsTrue, ◌↔◌, Bool}
use Rattle.hx_link.specs.declared.links.Link.{Link}
use Rattle.hx_link.specs.declared.steps.Step.{Step}
use Rattle.hx_tree.specs.declared.nodes.Heading.{Heading}
use Rattle.hx_tree.specs.Steps.{GiveLinks, AreRightLinks, ShowWin}
use Rattle.hx_tree.proofs.StepGrowth.{same_links}
use Rattle.hx_tree.proofs.steps.check_links.Goals as goal

right_links : (heading : Heading) (steps : List Step) (links : List Link) (answer : Bool)
    → GiveLinks heading.position heading.winner steps links
    → IsTrue answer ↔ ShowWin heading links → IsTrue answer ↔ AreRightLinks heading steps
right_links heading steps links answer given shows = (
  λ yes. let shown : ShowWin heading links = shows.0 yes in
      record {
        links = links;
        steps_right = given;
        last = shown.last;
        is_last = shown.is_last;
        joins = shown.joins;
        in_time = shown.in_time;
      },
  λ right. shows.1 (subst (ShowWin heading)
      (same_links heading.position heading.winner steps right.links links right.steps_right given)
      (record { last = right.last; is_last = right.is_last; joins = right.joins; in_time = right.in_time })),
)

pub returns-in-Some-clause-right : goal.returns-in-Some-clause-right
returns-in-Some-clause-right c =
    right_links c.args.heading.now c.args.steps.now c.in-Some.links.items _ (rw c.in-Some.is at c.in_ok-links.ensures.links)
    (rw c.as_slice.ensures.value at c.shows_win.ensures)
