-- The lines of an input of which some were read, with some bytes behind them: where the source tells its input, these
-- are its first lines, and a cut tells the next.
use Rattle.std.proofs.Common.{◌≡◌, ℕ, List, [], ◌∷◌, ◌++◌, Option, Some, None, ap, ◌∙◌, append_assoc, append-nil}
use Rattle.std.proofs.lemmas.List.Concat.{flat_map-append}
use Rattle.std.proofs.lemmas.Option.{same_Some}
use Rattle.std.specs.Prelude.{IfSome, All}
use Rattle.hx_io.specs.Sources.{prepend}
use Rattle.hx_lines.specs.Lines.{HasLf, ended_lines, lines_of}
use Rattle.hx_lines.specs.declared.cutters.Cut.{Cut}
use Rattle.hx_lines.specs.Cutters.{Cutter, IsCut, TellsLines}
use Rattle.hx_lines.proofs.LineLaws.{lines_of-ended_lines}
use Rattle.hx_lines.proofs.StreamParts.{some_not_none, tells_stream}

pub ended_lines-push : (lines : List (List ℕ)) (line : List ℕ) → ended_lines (lines ++ line ∷ []) ≡ ended_lines lines ++ (line ++ 10 ∷ [])
ended_lines-push lines line =
    flat_map-append (λ (l : List ℕ). l ++ 10 ∷ []) lines (line ∷ [])
    ∙ ap (λ bytes. ended_lines lines ++ bytes) (append-nil (line ++ 10 ∷ []))

-- What a cut tells of the lines of an input: behind those that were read come these, and the cut tells the first of
-- them.
pub record TellsNext (lines : List (List ℕ)) (new : Cutter) (then_left : Option (List ℕ)) (cut : Cut) (input : List ℕ) : Type 0 where
  pub others : List (List ℕ)
  pub rest : List ℕ
  pub left : then_left ≡ Some rest
  pub parts : lines_of input ≡ lines ++ others
  pub tells : TellsLines others new.line (lines_of (new.held ++ rest)) cut

pub tells_next : (before : Option (List ℕ)) (lines : List (List ℕ)) (old new : Cutter) (left then_left : Option (List ℕ)) (cut : Cut)
    → All (λ line. ¬ HasLf line) lines
    → before ≡ prepend (ended_lines lines ++ old.held) left → IsCut old new left then_left cut
    → IfSome before (TellsNext lines new then_left cut)
tells_next None lines old new left then_left cut plain parts is = tt
tells_next (Some input) lines old new None then_left cut plain parts is = absurd (some_not_none input parts)
tells_next (Some input) lines old new (Some left) then_left cut plain parts is =
    let told = tells_stream old new left then_left cut is in
    record {
      others = lines_of (old.held ++ left);
      rest = told.later;
      left = told.left;
      parts = ap lines_of (same_Some input ((ended_lines lines ++ old.held) ++ left) parts ∙ append_assoc (ended_lines lines) old.held left)
          ∙ lines_of-ended_lines lines (old.held ++ left) plain;
      tells = told.tells;
    }
