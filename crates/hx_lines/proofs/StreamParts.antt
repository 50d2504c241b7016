-- The bytes of an input of which some were cut off, with those that are held behind them. What a cut does to the held
-- bytes and to what the source has left is put behind the bytes that were cut off before; where the source tells what
-- it has left, the cut tells the next of its lines.
use Rattle.std.proofs.Common.{◌≡◌, ℕ, List, [], ◌++◌, Option, Some, None, refl, sym, ap, ◌∙◌, append_assoc, append-nil}
use Rattle.hx_io.specs.Sources.{prepend}
use Rattle.hx_io.proofs.SourceLaws.{prepend-prepend}
use Rattle.hx_lines.specs.Lines.{lines_of}
use Rattle.hx_lines.specs.declared.cutters.Cut.{Cut}
use Rattle.hx_lines.specs.declared.cutters.Cut.TheVariants.{Line, TooLong, Over}
use Rattle.hx_lines.specs.Cutters.{Cutter, Loses, Stays, IsCut, TellsLines}
use Rattle.hx_lines.proofs.LineLaws.{cut_tells_lines}

-- the bytes that were cut off come behind those in front
pub parts-lost : (before : Option (List ℕ)) (front held kept bytes : List ℕ) (left then_left : Option (List ℕ))
    → before ≡ prepend (front ++ held) left
    → Loses bytes held kept left then_left → before ≡ prepend ((front ++ bytes) ++ kept) then_left
parts-lost before front held kept bytes left then_left parts loses =
    parts ∙ ap (prepend (front ++ held)) loses.took ∙ prepend-prepend (front ++ held) loses.read then_left
    ∙ ap (λ xs. prepend xs then_left)
    (append_assoc front held loses.read ∙ ap (λ xs. front ++ xs) loses.moved ∙ sym (append_assoc front bytes kept))

pub parts-stay : (before : Option (List ℕ)) (front : List ℕ) (old new : Cutter) (left then_left : Option (List ℕ))
    → before ≡ prepend (front ++ old.held) left
    → Stays old new left then_left → before ≡ prepend (front ++ new.held) then_left
parts-stay before front old new left then_left parts stays =
    parts-lost before front old.held new.held [] left then_left parts stays.same
    ∙ ap (λ xs. prepend (xs ++ new.held) then_left) (append-nil front)

-- some bytes were read
record Takes (left then_left : Option (List ℕ)) : Type 0 where
  read : List ℕ
  took : left ≡ prepend read then_left

cut_takes : (old new : Cutter) (left then_left : Option (List ℕ)) (cut : Cut) → IsCut old new left then_left cut → Takes left then_left
cut_takes old new left then_left (Line ended) is = record { read = is.loses.read; took = is.loses.took }
cut_takes old new left then_left TooLong is = record { read = is.0.same.read; took = is.0.same.took }
cut_takes old new left then_left Over is = record { read = is.0.same.read; took = is.0.same.took }

pub some_not_none : (bytes : List ℕ) → Some bytes ≡ None → ⊥
some_not_none bytes is = cc

-- what a cut tells where the source tells what it had left
pub record TellsStream (old new : Cutter) (rest : List ℕ) (then_left : Option (List ℕ)) (cut : Cut) : Type 0 where
  pub later : List ℕ
  pub left : then_left ≡ Some later
  pub is : IsCut old new (Some rest) (Some later) cut
  pub tells : TellsLines (lines_of (old.held ++ rest)) new.line (lines_of (new.held ++ later)) cut

pub tells_stream : (old new : Cutter) (rest : List ℕ) (then_left : Option (List ℕ)) (cut : Cut) → IsCut old new (Some rest) then_left cut
    → TellsStream old new rest then_left cut
tells_stream old new rest None cut is = absurd (some_not_none rest (cut_takes old new (Some rest) None cut is).took)
tells_stream old new rest (Some later) cut is =
    record { later = later; left = refl; is = is; tells = cut_tells_lines old new rest later cut is }
