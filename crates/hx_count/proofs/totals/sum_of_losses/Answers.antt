use Rattle.std.proofs.Common.{◌≡◌, ◌+◌, ℕ, List, [], ◌∷◌, suc, ap, sym, ◌∙◌, arith, drop, take}
use Rattle.std.specs.Prelude.{sum}
use Rattle.std.specs.Slots.{slots_items}
use Rattle.std.proofs.lemmas.List.Sums.{sum_by_more, sum_by-take-le}
use mathlib.Core.Option.{some, some-ne-none}
use lib.ListN.{get_elem?}
use Rattle.hx_count.proofs.Terms.{at-within, at-get}
use Rattle.hx_count.proofs.totals.sum_of_losses.Goals as goal

-- one word more of those after the first
more : (words : List ℕ) (word number : ℕ) → get_elem? words (word + 1) ≡ some number
    → sum (take (word + 1) (drop 1 words)) ≡ sum (take word (drop 1 words)) + number
more [] word number there = absurd (some-ne-none number (sym there))
more (w ∷ words) word number there =
    let next : word + 1 ≡ suc word = omega arith in let at : get_elem? words word ≡ some number = ap (get_elem? (w ∷ words)) (sym next)
    ∙ there in
    sum_by_more (λ n. n) words word 0 (at-within words word number at) ∙ ap (λ n. sum (take word words) + n) (at-get words word number 0 at)

pub overflow_add-sum : goal.overflow_add-sum
overflow_add-sum c = let ws = slots_items c.args.closed.now.words in
    omega (
      arith,
      c.loop-word.invariant,
      more ws c.loop-word.word c.word-sum.result c.word-sum.ensures,
      sum_by-take-le (λ n. n) (drop 1 ws) (c.loop-word.word + 1),
      c.requires.small,
    )

pub loop-word-preserved : goal.loop-word-preserved
loop-word-preserved c = let ws = slots_items c.args.closed.now.words in
    omega (arith, c.loop-word.invariant, more ws c.loop-word.word c.word-sum.result c.word-sum.ensures)
