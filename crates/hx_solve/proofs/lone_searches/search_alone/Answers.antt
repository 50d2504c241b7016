use Rattle.std.proofs.Common.{◌≡◌, ◌<◌, ℕ, List, [], ◌∷◌, ◌++◌, length, sym, ap, ◌∙◌, subst, Any, true, arith}
use Rattle.std.proofs.lemmas.List.{nil_from_length}
use Rattle.std.specs.List.{sum_by}
use Rattle.std.specs.Prelude.{Result}
use Rattle.hx_board.specs.Graph.{HasNoChain}
use Rattle.hx_tree.specs.declared.entries.Found.{Found}
use Rattle.hx_book.specs.Entries.{Contents}
use Rattle.hx_count.specs.declared.views.Limits.{Limits}
use Rattle.hx_count.specs.Seats.{Origin, Seat, own}
use Rattle.hx_worker.specs.declared.ended.Ended.{Ended}
use Rattle.hx_worker.specs.Ends.{found_of}
use Rattle.hx_limits.specs.declared.ran_out.RanOut.{RanOut}
use Rattle.hx_pool.specs.Ends.{EndsSpent}
use Rattle.hx_pool.specs.Searches.{IsClosedEnd}
use Rattle.hx_solve.specs.Searches.{IsProofOf}
use Rattle.hx_solve.proofs.LoneEnds.{lone-closed, lone-no_chain}
use Rattle.hx_solve.proofs.lone_searches.search_alone.Goals as goal

pub returns : goal.returns
returns g c =
    let settings = c.args.settings.now in
    let board = c.args.position.now in
    let work = c.work_off-book.ensures in
    let seat : Seat = c.work_off-book.result.seat in
    let nodes = c.work_off-book.result.book.nodes in
    let end : Ended = c.work_off-book.result.ended in
    let close = c.close-totals.ensures in
    let granted : ℕ = c.close-totals.result.granted in
    let one : length c.in_ok-counts.seats.items ≡ 1 = ap length c.in_ok-counts.ensures.seats in
    let none : c.pop.new.self.items ≡ [] =
    nil_from_length c.pop.new.self.items (omega (arith, one, c.in_ok-counts.seats.ok, c.in-Some.ensures.cases, c.pop.new.self.ok)) in
    let all : c.push_reserved.new.self.items ≡ seat ∷ [] =
    c.push_reserved.ensures.items ∙ ap (λ (seats : List Seat). seats ++ seat ∷ []) none in
    let budget : c.in_ok-counts.counts.limits.budget ≡ settings.budget = ap (λ (l : Limits). l.budget) c.in_ok-counts.ensures.limits in
    let slots : c.work_off-book.result.book.slots ≡ settings.slots =
    work.slots ∙ ap (λ (b : Contents). b.slots) c.in_ok-book.ensures in
    let full : Any (λ (s : Seat). (own s).refused ≡ true) (seat ∷ []) → granted ≡ settings.budget =
    λ some. close.refused (subst (Any (λ (s : Seat). (own s).refused ≡ true)) (sym all) some) ∙ budget in
    let sum : granted ≡ (own seat).granted =
    close.granted.0 ∙ ap (λ (seats : List Seat). sum_by (λ (s : Seat). (own s).granted) seats) all ∙ omega arith in
    let same : c.found.result ≡ found_of end = c.found.ensures in
    let closed = lone-closed settings board c.args.to_move c.work_off-book.result.book seat granted end slots
    (ap (λ (o : Origin). o.limits.budget) work.made ∙ budget) full work.ended in
    record {
      is_book = c.keeps.ensures.book;
      slots = slots;
      ended = subst (IsClosedEnd (IsProofOf board c.args.to_move) nodes granted settings) (sym same) closed;
      has_tried = subst (λ (found : Result Found RanOut). EndsSpent found → 0 < settings.budget → HasNoChain board) (sym same)
          (lone-no_chain settings board c.args.to_move nodes seat granted end sum work.no_chain closed);
    }
