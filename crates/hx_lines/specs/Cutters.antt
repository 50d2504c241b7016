-- What a cutter takes from its stream, which is the bytes that it holds and then what its source has left.
use Rattle.std.specs.Prelude.{◌≡◌, ℕ, ◌<◌, ◌≤◌, List, [], ◌∷◌, ◌++◌, Bool, true, false, length, Option, if◌then◌else◌}
use Rattle.hx_io.specs.Sources.{prepend, IsAtEnd}
use Rattle.hx_lines.specs.declared.cutters.Cut.{Cut}
use Rattle.hx_lines.specs.declared.cutters.Cut.TheVariants.{Line, TooLong, Over}
use Rattle.hx_lines.specs.Lines.{HasLf, longest}

-- the bytes that were read and not cut, the line last cut, and whether the end of the source was met
pub record Cutter : Type 0 where
  pub held : List ℕ
  pub line : List ℕ
  pub met_end : Bool

-- the stream lost these bytes from its front, and nothing else; some bytes may have been read
pub record Loses (bytes held_before held_after : List ℕ) (left_before left_after : Option (List ℕ)) : Type 0 where
  pub read : List ℕ
  pub took : left_before ≡ prepend read left_after
  pub moved : held_before ++ read ≡ bytes ++ held_after

-- the stream lost nothing, and the line last cut is the same
pub record Stays (before after : Cutter) (left_before left_after : Option (List ℕ)) : Type 0 where
  pub same : Loses [] before.held after.held left_before left_after
  pub line : after.line ≡ before.line

-- a line with its LF, if it has one
abbrev pub whole_line : List ℕ → Bool → List ℕ
whole_line line ended = if ended then line ++ 10 ∷ [] else line

-- the next line was cut, with its LF or as a last piece
pub record CutsLine (before after : Cutter) (left_before left_after : Option (List ℕ)) (ended : Bool) : Type 0 where
  pub loses : Loses (whole_line after.line ended) before.held after.held left_before left_after
  pub plain : ¬ HasLf after.line
  pub short : length after.line ≤ longest
  pub last : ended ≡ false → (0 < length after.line) × (after.held ≡ []) × IsAtEnd left_after

-- the stream begins with more bytes without LF than a line may have
pub record IsTooLong (cutter : Cutter) : Type 0 where
  pub front : List ℕ
  pub more : List ℕ
  pub held : cutter.held ≡ front ++ more
  pub plain : ¬ HasLf front
  pub long : longest < length front

-- no byte is left: none is held, and the end of the source was met
pub record IsOver (cutter : Cutter) : Type 0 where
  pub none : cutter.held ≡ []
  pub met_end : cutter.met_end ≡ true

-- what each answer says
abbrev pub IsCut : Cutter → Cutter → Option (List ℕ) → Option (List ℕ) → Cut → Type 0
IsCut before after left_before left_after (Line ended) = CutsLine before after left_before left_after ended
IsCut before after left_before left_after TooLong = Stays before after left_before left_after × IsTooLong after
IsCut before after left_before left_after Over =
    Stays before after left_before left_after × IsOver after × IsAtEnd left_after

-- what is held tells the answer: the next line is whole or too long, or nothing comes any more
pub data TellsAnswer (cutter : Cutter) : Type 0 where
  Has_lf : HasLf cutter.held → TellsAnswer cutter
  Is_long : longest < length cutter.held → TellsAnswer cutter
  Met_end : cutter.met_end ≡ true → TellsAnswer cutter

-- the first of some lines has more bytes than a line may have
abbrev pub BeginLong : List (List ℕ) → Type 0
BeginLong [] = ⊥
BeginLong (line ∷ lines) = longest < length line

-- what each answer says of the lines of the stream, before and after it, and of the line last cut
abbrev pub TellsLines : List (List ℕ) → List ℕ → List (List ℕ) → Cut → Type 0
TellsLines before line after (Line ended) = before ≡ line ∷ after
TellsLines before line after TooLong = BeginLong before
TellsLines before line after Over = before ≡ []
