-- What each step of the machine keeps, and so each run of steps.
use Rattle.std.proofs.Common.{◌≡◌, ℕ, List, [], ◌∷◌, ◌++◌, sym, ap, ◌∙◌, subst, append_assoc, arith}
use Rattle.std.proofs.lemmas.List.{append-nil}
use Rattle.hx_tree.proofs.TreeGrowth.{valid_tree}
use Rattle.hx_count.specs.Machine.{CountsState, counts_step}
use Rattle.hx_count.specs.declared.events.CountEvent.TheVariants.{Spend as SpendUnit, Hold as HoldWord, Release as ReleaseWord}
use Rattle.hx_core.specs.declared.events.Event.{Event}
use Rattle.hx_core.specs.declared.events.Event.TheVariants.{Look, Store, Tell, Spend, Hold, Release, LookAtWord}
use Rattle.hx_core.specs.declared.events.Reply.{Reply}
use Rattle.hx_core.specs.Machine.{MachineState, machine_start, CanHappen, MachineStep, LeadsTo}
use Rattle.hx_core.specs.Runs.{IsBook, AreCounts, IsKept, EveryRunKeeps, EveryRunGivesATree, IsLaterState, EveryRunGrows, EveryRunGoesOn}
use Rattle.hx_core.proofs.BookSteps.{BookGrows, book-begun, look-kept, look-grows, told-kept, told-grows, store-kept, store-grows}
use Rattle.hx_core.proofs.CountSteps.{counts-begun, counts-kept}

pub begun-kept : (workers slots budget words : ℕ) → IsKept workers slots budget words (machine_start workers slots budget words)
begun-kept workers slots budget words = record { book = book-begun workers slots; counts = counts-begun workers budget words }

-- ---- one step

module _ (workers slots budget words : ℕ) (old : MachineState) (kept : IsKept workers slots budget words old) where
  -- the book is changed, and the counts stay
  book-changed : (new : MachineState) → IsBook workers slots new.book → new.counts ≡ old.counts → IsKept workers slots budget words new
  book-changed new book same =
      record { book = book; counts = subst (λ (c : CountsState). AreCounts workers budget words c) (sym same) kept.counts }

  -- only the counts are changed
  counts-changed : (counts : CountsState) (new : MachineState) → AreCounts workers budget words counts
      → new ≡ record old { counts = counts }
      → IsKept workers slots budget words new
  counts-changed counts new are same =
      subst (λ (s : MachineState). IsKept workers slots budget words s) (sym same) (record { book = kept.book; counts = are })

  pub step-kept : (event : Event) (reply : Reply) (new : MachineState) → CanHappen old event → MachineStep old event reply new
      → IsKept workers slots budget words new
  step-kept (Look worker position to_move) reply new can step =
      book-changed new (look-kept workers slots old.book kept.book worker position to_move new.book reply step.0) step.1
  step-kept (Store worker node) reply new can step =
      book-changed new (store-kept workers slots old.book kept.book worker node can.1 new.book reply step.0) step.1
  step-kept (Tell from to) reply new can step =
      subst (λ (s : MachineState). IsKept workers slots budget words s) (sym step.1)
      (record { book = told-kept workers slots old.book kept.book from to; counts = kept.counts })
  step-kept (Spend worker) reply new can step =
      counts-changed (counts_step old.counts (SpendUnit worker)) new
      (counts-kept workers budget words old.counts kept.counts (SpendUnit worker) can) step.1
  step-kept (Hold worker word) reply new can step =
      counts-changed (counts_step old.counts (HoldWord worker word)) new
      (counts-kept workers budget words old.counts kept.counts (HoldWord worker word) can) step.1
  step-kept (Release worker word) reply new can step =
      counts-changed (counts_step old.counts (ReleaseWord worker word)) new
      (counts-kept workers budget words old.counts kept.counts (ReleaseWord worker word) can) step.1
  step-kept (LookAtWord worker word) reply new can step =
      subst (λ (s : MachineState). IsKept workers slots budget words s) (sym step.1) kept

  -- ---- growth

  book_stays : (counts : CountsState) (new : MachineState) → new ≡ record old { counts = counts } → BookGrows old.book new.book
  book_stays counts new same = subst (λ (s : MachineState). BookGrows old.book s.book) (sym same)
      (record { extends = ([], sym (append-nil old.book.nodes)); seen = λ worker. omega arith })

  step-grows : (event : Event) (reply : Reply) (new : MachineState) → CanHappen old event → MachineStep old event reply new
      → BookGrows old.book new.book
  step-grows (Look worker position to_move) reply new can step =
      look-grows workers slots old.book kept.book worker position to_move new.book reply step.0
  step-grows (Store worker node) reply new can step = store-grows workers slots old.book kept.book worker node can.1 new.book reply step.0
  step-grows (Tell from to) reply new can step =
      subst (λ (s : MachineState). BookGrows old.book s.book) (sym step.1) (told-grows workers slots old.book kept.book from to)
  step-grows (Spend worker) reply new can step = book_stays (counts_step old.counts (SpendUnit worker)) new step.1
  step-grows (Hold worker word) reply new can step = book_stays (counts_step old.counts (HoldWord worker word)) new step.1
  step-grows (Release worker word) reply new can step = book_stays (counts_step old.counts (ReleaseWord worker word)) new step.1
  step-grows (LookAtWord worker word) reply new can step = book_stays old.counts new step.1

-- ---- runs

module _ (workers slots budget words : ℕ) where
  run-kept : (old : MachineState) (events : List Event) (new : MachineState) → IsKept workers slots budget words old
      → LeadsTo old events new
      → IsKept workers slots budget words new
  run-kept old [] new kept run = subst (λ (s : MachineState). IsKept workers slots budget words s) (sym run) kept
  run-kept old (event ∷ events) new kept run =
      run-kept run.1.1.0 events new (step-kept workers slots budget words old kept event run.1.0 run.1.1.0 run.0 run.1.1.1.0) run.1.1.1.1

  run-grows : (old : MachineState) (events : List Event) (new : MachineState) → IsKept workers slots budget words old
      → LeadsTo old events new → IsLaterState old new
  run-grows old [] new kept run = subst (λ (s : MachineState). IsLaterState old s) (sym run)
      (record { extends = ([], sym (append-nil old.book.nodes)); seen = λ worker. omega arith })
  run-grows old (event ∷ events) new kept run =
      let between : MachineState = run.1.1.0 in
      let first : BookGrows old.book between.book =
      step-grows workers slots budget words old kept event run.1.0 between run.0 run.1.1.1.0 in
      let rest : IsLaterState between new =
      run-grows between events new (step-kept workers slots budget words old kept event run.1.0 between run.0 run.1.1.1.0) run.1.1.1.1 in
      record {
        extends = (
          first.extends.0 ++ rest.extends.0,
          rest.extends.1 ∙ ap (λ (nodes : List _). nodes ++ rest.extends.0) first.extends.1
              ∙ append_assoc old.book.nodes first.extends.0 rest.extends.0,
        );
        seen = λ worker. omega (arith, first.seen worker, rest.seen worker);
      }

pub every_run-keeps : EveryRunKeeps
every_run-keeps workers slots budget words events state run =
    run-kept workers slots budget words (machine_start workers slots budget words) events state (begun-kept workers slots budget words) run

pub every_run-gives_a_tree : EveryRunGivesATree
every_run-gives_a_tree workers slots budget words events state run some =
    valid_tree state.book.nodes some (every_run-keeps workers slots budget words events state run).book.right

pub every_run-grows : EveryRunGrows
every_run-grows workers slots budget words earlier later old new before after =
    run-grows workers slots budget words old later new (every_run-keeps workers slots budget words earlier old before) after

pub every_run-goes_on : EveryRunGoesOn
every_run-goes_on old between new [] later first rest = subst (λ (s : MachineState). LeadsTo s later new) first rest
every_run-goes_on old between new (event ∷ earlier) later first rest =
    (first.0, (first.1.0, (first.1.1.0, (first.1.1.1.0, every_run-goes_on first.1.1.0 between new earlier later first.1.1.1.1 rest))))
