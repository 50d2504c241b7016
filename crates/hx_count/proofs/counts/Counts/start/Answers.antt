use Rattle.std.proofs.Common.{◌+◌, ◌∙◌, ap, sym, subst, arith}
use Rattle.std.specs.Prelude.{slice_index}
use Rattle.std.specs.List.{All}
use Rattle.hx_count.specs.Machine.{HasNothing}
use Rattle.hx_count.specs.Seats.{own}
use Rattle.hx_count.proofs.DealLaws.{new-nothing}
use Rattle.hx_count.proofs.Keeps.{opens}
use Rattle.hx_count.proofs.MachineLaws.{index-zeros}
use Rattle.hx_count.proofs.counts.Counts.start.Goals as goal

pub of_words-requires : goal.of_words-requires
of_words-requires c =
    let zeros = c.deref.ensures.value ∙ c.in-Ok.ensures.items_if_clones_equal (λ y same. same) in
    opens _ c.deref.result.now (record { budget = c.requires.budget; words = c.requires.words.1; workers = c.requires.seats.1 })
    (omega (arith, c.deref.ensures.len, c.in-Ok.ensures.len)) (λ k. ap (λ l. slice_index l k) zeros ∙ index-zeros (c.args.words + 1) k)

pub returns-clause-nothing : goal.returns-clause-nothing
returns-clause-nothing c = subst (All (λ s. HasNothing (own s))) (sym c.in_ok-dealt.ensures.seats) (new-nothing _ 0 _)
