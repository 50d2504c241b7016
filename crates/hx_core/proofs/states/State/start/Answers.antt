use Rattle.std.proofs.Common.{vec_capacity, arith}
use Rattle.hx_core.proofs.FieldLaws.{fields-begun}
use Rattle.hx_core.proofs.states.State.start.Goals as goal

pub invariant_of-result : goal.invariant_of-result
invariant_of-result c =
    fields-begun c.args.workers c.args.slots c.args.budget c.args.words
    (vec_capacity c.in-Ok.nodes) c.in-Ok.nodes.items c.in-Ok-vec.seen.items c.in_ok-accounts.accounts.items
    (record {
      some_worker = c.requires.some_worker;
      few_workers = c.requires.few_workers;
      few_slots = c.requires.few_slots;
      small_budget = c.requires.small_budget;
      some_word = c.requires.some_word;
      few_words = c.requires.few_words;
    })
    c.in-Ok.ensures.items (c.in-Ok-vec.ensures.items_if_clones_equal (λ y same. same)) c.in_ok-accounts.ensures
    (omega (arith, c.in-Ok.ensures.exact))
