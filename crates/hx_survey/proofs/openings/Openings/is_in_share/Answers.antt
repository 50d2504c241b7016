use Rattle.std.proofs.Common.{arith, ◌≡◌, ℕ, ◌-◌, ◌*◌, ◌/◌, ◌%◌, ◌<◌, ◌≤◌, ap, ◌∙◌, ◌↔◌, eqb-true, eq-eqb}
use Rattle.std.proofs.Math.Nat.{mul-mod_left}
use Rattle.hx_board.specs.Cells.{Extent}
use Rattle.hx_survey.specs.Shares.{place_of, IsInShare}
use Rattle.hx_survey.proofs.openings.Openings.is_in_share.Goals as goal

-- what a place lacks of the worker's number is a multiple of the number of workers
by_rest : (size : Extent) (workers worker cell later : ℕ) → 0 < workers → worker ≤ place_of size cell → later ≡ place_of size cell - worker
    → (later % workers ≡ 0) ↔ IsInShare size workers worker cell
by_rest size workers worker cell later some low is = (
  (λ none. record { round = later / workers; place = omega (arith, none, is, low) }),
  (λ share. let place = share.place in
      let same : later ≡ share.round * workers = omega (arith, is, place) in
      ap (λ (n : ℕ). n % workers) same ∙ mul-mod_left share.round workers),
)

pub returns-in-Some : goal.returns-in-Some
returns-in-Some c =
    let some = c.args.self.now.some in
    let place = c.place_of.ensures in
    let low : c.args.worker ≤ place_of c.args.self.now.size c.args.cell = omega (arith, c.in-Some.ensures.0, place) in
    let is : c.in-Some.later ≡ place_of c.args.self.now.size c.args.cell - c.args.worker = omega (arith, c.in-Some.ensures.1, place) in
    let rest = by_rest c.args.self.now.size c.args.self.now.workers c.args.worker c.args.cell c.in-Some.later some low is in
    ((λ h. rest.0 (eqb-true _ _ h)), (λ h. eq-eqb _ _ (rest.1 h)))
