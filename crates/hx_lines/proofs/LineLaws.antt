-- The lines of bytes that begin with a line, and what cuts tell of them. Each lemma goes over the bytes of one line;
-- none of them is an LF, so `lines_of` puts each to the front of the first line.
use Rattle.std.proofs.Common.{◌≡◌, ℕ, suc, ◌<◌, ◌≤◌, Bool, true, false, cond, List, [], ◌∷◌, ◌++◌, length, eqb, refl, sym, ap, ◌∙◌, subst}
use Rattle.std.proofs.Common.{append_assoc, append-nil, arith}
use Rattle.std.proofs.lemmas.Bool.{eqb-true, false_from_ne_true}
use Rattle.std.proofs.lemmas.Option.{same_Some}
use Rattle.std.proofs.lemmas.List.Elements.{All-head, All-tail}
use Rattle.std.specs.Prelude.{Some, All}
use Rattle.hx_lines.specs.Lines.{HasLf, longest, ended_lines, onto_first, lines_of}
use Rattle.hx_lines.specs.declared.cutters.Cut.{Cut}
use Rattle.hx_lines.specs.declared.cutters.Cut.TheVariants.{Line, TooLong, Over}
use Rattle.hx_lines.specs.Cutters.{Cutter, Loses, CutsLine, IsCut, BeginLong, TellsLines}

first_is_no_lf : (byte : ℕ) (bytes : List ℕ) → ¬ HasLf (byte ∷ bytes) → eqb byte 10 ≡ false
first_is_no_lf byte bytes plain = false_from_ne_true (eqb byte 10) (λ e. plain (0, omega arith, eqb-true byte 10 e))

rest_has_no_lf : (byte : ℕ) (bytes : List ℕ) → ¬ HasLf (byte ∷ bytes) → ¬ HasLf bytes
rest_has_no_lf byte bytes plain lf = plain (suc lf.0, omega (arith, lf.1), lf.2)

-- a byte that is no LF goes onto the first line
lines_of-plain : (byte : ℕ) (bytes : List ℕ) → eqb byte 10 ≡ false → lines_of (byte ∷ bytes) ≡ onto_first byte (lines_of bytes)
unfolding lines_of
lines_of-plain byte bytes plain = ap (λ b. cond b ([] ∷ lines_of bytes) (onto_first byte (lines_of bytes))) plain

pub lines_of-nil : lines_of [] ≡ []
unfolding lines_of
lines_of-nil = refl

pub lines_of-line : (line rest : List ℕ) → ¬ HasLf line → lines_of (line ++ 10 ∷ rest) ≡ line ∷ lines_of rest
unfolding lines_of
lines_of-line [] rest plain = refl
lines_of-line (byte ∷ bytes) rest plain =
    lines_of-plain byte (bytes ++ 10 ∷ rest) (first_is_no_lf byte bytes plain)
    ∙ ap (onto_first byte) (lines_of-line bytes rest (rest_has_no_lf byte bytes plain))

pub lines_of-last_piece : (line : List ℕ) → ¬ HasLf line → 0 < length line → lines_of line ≡ line ∷ []
lines_of-last_piece [] plain some = absurd (omega (arith, some))
lines_of-last_piece (byte ∷ []) plain some =
    lines_of-plain byte [] (first_is_no_lf byte [] plain) ∙ ap (onto_first byte) lines_of-nil
lines_of-last_piece (byte ∷ next ∷ bytes) plain some =
    lines_of-plain byte (next ∷ bytes) (first_is_no_lf byte (next ∷ bytes) plain)
    ∙ ap (onto_first byte) (lines_of-last_piece (next ∷ bytes) (rest_has_no_lf byte (next ∷ bytes) plain) (omega arith))

pub lines_of-ended_lines : (lines : List (List ℕ)) (rest : List ℕ) → All (λ line. ¬ HasLf line) lines
    → lines_of (ended_lines lines ++ rest) ≡ lines ++ lines_of rest
lines_of-ended_lines [] rest plain = refl
lines_of-ended_lines (line ∷ lines) rest plain =
    ap lines_of (append_assoc (line ++ 10 ∷ []) (ended_lines lines) rest ∙ append_assoc line (10 ∷ []) (ended_lines lines ++ rest))
    ∙ lines_of-line line (ended_lines lines ++ rest) (All-head (λ line. ¬ HasLf line) line lines plain)
    ∙ ap (λ (others : List (List ℕ)). line ∷ others) (lines_of-ended_lines lines rest (All-tail (λ line. ¬ HasLf line) line lines plain))

-- the first line has so many bytes at least
FirstHas : ℕ → List (List ℕ) → Type 0
FirstHas n [] = ⊥
FirstHas n (line ∷ lines) = n ≤ length line

first_has-onto : (n byte : ℕ) (lines : List (List ℕ)) → FirstHas n lines → FirstHas (suc n) (onto_first byte lines)
unfolding FirstHas
first_has-onto n byte [] has = absurd has
first_has-onto n byte (line ∷ lines) has = omega (arith, has)

first_has-one : (byte : ℕ) (lines : List (List ℕ)) → FirstHas 1 (onto_first byte lines)
unfolding FirstHas
first_has-one byte [] = omega arith
first_has-one byte (line ∷ lines) = omega arith

first_has-front : (front rest : List ℕ) → ¬ HasLf front → 0 < length front → FirstHas (length front) (lines_of (front ++ rest))
first_has-front [] rest plain some = absurd (omega (arith, some))
first_has-front (byte ∷ []) rest plain some =
    subst (FirstHas 1) (sym (lines_of-plain byte rest (first_is_no_lf byte [] plain))) (first_has-one byte (lines_of rest))
first_has-front (byte ∷ next ∷ front) rest plain some =
    subst (FirstHas (suc (length (next ∷ front)))) (sym (lines_of-plain byte (next ∷ front ++ rest)
    (first_is_no_lf byte (next ∷ front) plain)))
    (first_has-onto (length (next ∷ front)) byte (lines_of (next ∷ front ++ rest))
    (first_has-front (next ∷ front) rest (rest_has_no_lf byte (next ∷ front) plain) (omega arith)))

begin_long : (n : ℕ) (lines : List (List ℕ)) → longest < n → FirstHas n lines → BeginLong lines
unfolding FirstHas
begin_long n [] long has = absurd has
begin_long n (line ∷ lines) long has = omega (arith, long, has)

pub begin_long-front : (front rest : List ℕ) → ¬ HasLf front → longest < length front → BeginLong (lines_of (front ++ rest))
begin_long-front front rest plain long =
    begin_long (length front) (lines_of (front ++ rest)) long (first_has-front front rest plain (omega (arith, long)))

-- what is held and left, before and after
pub stream-loses : (bytes held_before held_after left_before left_after : List ℕ)
    → Loses bytes held_before held_after (Some left_before) (Some left_after)
    → held_before ++ left_before ≡ bytes ++ (held_after ++ left_after)
stream-loses bytes held_before held_after left_before left_after loses =
    ap (λ left. held_before ++ left) (same_Some left_before (loses.read ++ left_after) loses.took)
    ∙ sym (append_assoc held_before loses.read left_after)
    ∙ ap (λ held. held ++ left_after) loses.moved
    ∙ append_assoc bytes held_after left_after

line_is_first : (ended : Bool) (before after : Cutter) (left_before left_after : List ℕ)
    → CutsLine before after (Some left_before) (Some left_after) ended
    → lines_of (before.held ++ left_before) ≡ after.line ∷ lines_of (after.held ++ left_after)
line_is_first true before after left_before left_after cuts =
    ap lines_of (stream-loses _ _ _ _ _ cuts.loses ∙ append_assoc after.line (10 ∷ []) (after.held ++ left_after))
    ∙ lines_of-line after.line (after.held ++ left_after) cuts.plain
line_is_first false before after left_before left_after cuts =
    let last = cuts.last refl in
    let none : after.held ++ left_after ≡ [] = ap (λ held. held ++ left_after) last.1 ∙ last.2 in
    ap lines_of (stream-loses _ _ _ _ _ cuts.loses ∙ ap (λ rest. after.line ++ rest) none ∙ append-nil after.line)
    ∙ lines_of-last_piece after.line cuts.plain last.0
    ∙ ap (λ (others : List (List ℕ)). after.line ∷ others) (sym lines_of-nil ∙ ap lines_of (sym none))

pub cut_tells_lines : (before after : Cutter) (left_before left_after : List ℕ) (cut : Cut)
    → IsCut before after (Some left_before) (Some left_after) cut
    → TellsLines (lines_of (before.held ++ left_before)) after.line (lines_of (after.held ++ left_after)) cut
cut_tells_lines before after left_before left_after (Line ended) is = line_is_first ended before after left_before left_after is
cut_tells_lines before after left_before left_after TooLong is =
    let long = is.1 in
    let stream : before.held ++ left_before ≡ long.front ++ (long.more ++ left_after) =
    stream-loses _ _ _ _ _ is.0.same ∙ ap (λ held. held ++ left_after) long.held ∙ append_assoc long.front long.more left_after in
    subst (λ bytes. BeginLong (lines_of bytes)) (sym stream) (begin_long-front long.front (long.more ++ left_after) long.plain long.long)
cut_tells_lines before after left_before left_after Over is =
    ap lines_of (stream-loses _ _ _ _ _ is.0.same ∙ ap (λ held. held ++ left_after) is.1.none ∙ is.2) ∙ lines_of-nil
