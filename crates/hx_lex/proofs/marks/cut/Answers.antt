-- The search passed no mark up to the place that it found, so the bytes before that place lack it.
use Rattle.std.proofs.Common.{arith, ◌≡◌, ◌≢◌, ℕ, suc, ◌+◌, ◌<◌, ◌≤◌, List, [], ◌∷◌, ◌++◌, length, length-take, get_or, take, drop, sym, ap}
use Rattle.std.proofs.Common.{◌∙◌, drop-cons, add-one}
use Rattle.std.proofs.lemmas.Bool.{eq-eqb, eqb-true}
use Rattle.std.proofs.lemmas.List.{get_or-take, take-append-drop, take_rest}
use Rattle.memchr.specs.Find.{Nowhere, Passes, is_byte}
use Rattle.hx_lex.specs.Marks.{Lacks}
use Rattle.hx_lex.proofs.marks.cut.Goals as goal

Lacks-each : (mark : ℕ) (bytes : List ℕ) → ((i : ℕ) → i < length bytes → get_or bytes i 0 ≢ mark) → Lacks mark bytes
Lacks-each mark [] none = tt
Lacks-each mark (byte ∷ bytes) none = (none 0 (omega arith), Lacks-each mark bytes (λ i within. none (suc i) (omega arith)))

-- a search that passed no mark up to a place
Lacks-take : (mark : ℕ) (bytes : List ℕ) (k : ℕ) → k ≤ length bytes → Nowhere (Passes (is_byte mark) bytes) 0 k → Lacks mark (take k bytes)
Lacks-take mark bytes k within none =
    Lacks-each mark (take k bytes)
    (λ i below. let before : i < k = omega (arith, length-take k bytes) in
    λ e. none i (omega arith) before (eq-eqb (get_or bytes i 0) mark (sym (get_or-take k bytes i 0 before) ∙ e)))

-- the bytes around the mark at a place
parts_at : (mark : ℕ) (bytes : List ℕ) (k : ℕ) → k < length bytes → get_or bytes k 0 ≡ mark → bytes ≡ take k bytes
    ++ mark ∷ drop (k + 1) bytes
parts_at mark bytes k within is =
    sym (take-append-drop k bytes)
    ∙ ap (λ (t : List ℕ). take k bytes ++ t)
    (drop-cons bytes k 0 within ∙ ap (λ (byte : ℕ). byte ∷ drop (suc k) bytes) is ∙ ap (λ (n : ℕ). mark ∷ drop n bytes) (sym (add-one k)))

pub returns-in_err-place : goal.returns-in_err-place
returns-in_err-place c =
    rw c.from_residual.ensures
    (Lacks-each c.args.mark c.args.bytes.now
    (λ i below. λ e. c.in_err-place.ensures i (omega arith) below (eq-eqb (get_or c.args.bytes.now i 0) c.args.mark e)))

pub returns : goal.returns
returns c =
    let found = c.in_ok-place.ensures in
    let mark : get_or c.args.bytes.now c.in_ok-place.place 0 ≡ c.args.mark = eqb-true _ _ found.1 in (
      Lacks-take c.args.mark c.args.bytes.now c.in_ok-place.place (omega (arith, found.0.high)) found.0.before,
      rw take_rest (parts_at c.args.mark c.args.bytes.now c.in_ok-place.place found.0.high mark),
    )
