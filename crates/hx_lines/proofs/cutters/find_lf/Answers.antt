use Rattle.std.proofs.Common.{◌≡◌, ◌<◌, ℕ, List, length, length-take, get_or, take, sym, ◌∙◌, arith, Option, Some, None}
use Rattle.std.specs.Prelude.{MatchOption, slice_index}
use Rattle.std.proofs.lemmas.Bool.{eq-eqb, eqb-true}
use Rattle.std.proofs.lemmas.List.{get_or_default, get_or-take}
use Rattle.memchr.specs.Find.{IsFirstByte, is_byte}
use Rattle.hx_lines.specs.Lines.{HasLf}
use Rattle.hx_lines.proofs.cutters.find_lf.Goals as goal

first_lf : (bytes : List ℕ) (found : Option ℕ) → IsFirstByte (is_byte 10) bytes found
    → MatchOption found (¬ HasLf bytes) (λ place. (place < length bytes) × (slice_index bytes place ≡ 10) × ¬ HasLf (take place bytes))
first_lf bytes None none = λ lf. none lf.0 (omega arith) lf.1 (eq-eqb (get_or bytes lf.0 0) 10 (get_or_default bytes lf.0 0 10 lf.1 ∙ lf.2))
first_lf bytes (Some place) found = (
  found.0.high,
  eqb-true _ _ found.1,
  λ lf.
      let below : lf.0 < place = omega (arith, length-take place bytes, lf.1) in
      found.0.before lf.0 (omega arith) below
      (eq-eqb (get_or bytes lf.0 0) 10
      (sym (get_or-take place bytes lf.0 0 below) ∙ get_or_default (take place bytes) lf.0 0 10 lf.1 ∙ lf.2)),
)

pub returns : goal.returns
returns c = first_lf c.args.bytes.now c.memchr.result c.memchr.ensures
