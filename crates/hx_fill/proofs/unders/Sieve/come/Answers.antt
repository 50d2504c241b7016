use Rattle.std.proofs.Common.{◌≡◌, ℕ, ◌<◌, true, length, sym, ap, ◌∙◌}
use Rattle.std.proofs.lemmas.Bool.{false≢true, false_from_ne_true}
use Rattle.hx_board.specs.Sets.{has, remove, difference}
use Rattle.hx_board.proofs.SetLaws.{has-remove_before, has-difference_left, has-intersection_left, removed}
use Rattle.hx_board.proofs.GroupLaws.{read-is}
use Rattle.hx_fill.proofs.ComingLaws.{killed_possible}
use Rattle.hx_fill.proofs.unders.Sieve.come.Goals as goal

pub kill_all-killed-requires : goal.kill_all-killed-requires
kill_all-killed-requires c =
    let free_is : c.without-free.result ≡ remove (difference c.args.self.now.without_line c.args.self.now.betters) c.args.better =
    c.without-free.ensures.set ∙ ap (λ (x : ℕ). remove x c.args.better) c.minus.ensures.set in
    let inside : (n : ℕ) → has c.meet-possible.result n ≡ true
    → has (remove (difference c.args.self.now.without_line c.args.self.now.betters) c.args.better) n ≡ true = λ n h.
    rw free_is at (has-intersection_left c.without-free.result _ n (rw c.meet-possible.ensures.set at h)) in
    record {
      size = c.requires.size;
      cells = λ n h. c.requires.cells n (has-difference_left c.args.self.now.without_line c.args.self.now.betters n
          (has-remove_before (difference c.args.self.now.without_line c.args.self.now.betters) c.args.better n (inside n h)));
      better = c.requires.cells c.args.better c.requires.better;
      differ = false_from_ne_true _
          (λ h. false≢true (sym (removed (difference c.args.self.now.without_line c.args.self.now.betters) c.args.better)
          ∙ inside c.args.better h));
    }

pub returns-clause-comes : goal.returns-clause-comes
returns-clause-comes c =
    let free_is : c.without-free.result ≡ remove (difference c.args.self.now.without_line c.args.self.now.betters) c.args.better =
    c.without-free.ensures.set ∙ ap (λ (x : ℕ). remove x c.args.better) c.minus.ensures.set in
    let within : c.args.better < length c.args.candidates.now = rw c.requires.candidates.count c.index-index.ensures.small in
    let row = rw c.index-index.ensures.value at c.index-candidates-index.is in
    let possible_is = rw (
      c.index-index.ensures.value,
      read-is c.args.candidates.now c.args.better
          c.index-candidates-index.result within row,
    ) at c.meet-possible.ensures.set in
    let inside : (n : ℕ) → has c.without-free.result n ≡ true → has c.args.self.now.without_line n ≡ true = λ n h.
    has-difference_left c.args.self.now.without_line c.args.self.now.betters n
    (has-remove_before (difference c.args.self.now.without_line c.args.self.now.betters) c.args.better n (rw free_is at h)) in
    let kills = killed_possible c.args.both.now.position c.args.both.now.mover c.args.better c.args.self.now.without_line
    c.without-free.result c.meet-possible.result
    c.kill_all-killed.result c.args.candidates.now c.args.self.now.choices c.kill_all-killed.new.choices c.requires.candidates
    c.requires.better inside possible_is c.kill_all-killed.ensures in
    record {
      killed = c.kill_all-killed.result;
      kills = rw free_is at kills;
      lines = c.minus-self.ensures.set;
      waits = c.without-self.ensures.set ∙ ap (λ (x : ℕ). remove x c.args.better) c.minus-2.ensures.set;
      grows = c.with_killer-self.ensures;
    }
