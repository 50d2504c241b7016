-- What a cutter holds after a read and after a cut. A read moves the line last cut and the held bytes to the front of
-- the buffer, from `line_start` on, and reads behind them. So the front of the new buffer is the old one from
-- `line_start` on, and line and held bytes are parts of that front.
use Rattle.std.proofs.Common.{◌≡◌, refl, ℕ, ◌+◌, ◌-◌, ◌<◌, ◌≤◌, List, [], ◌∷◌, ◌++◌, true, take, drop, length, get_or, suc, length-take}
use Rattle.std.proofs.Common.{subst, ap, sym, ◌∙◌, append_assoc, append-nil, arith}
use Rattle.std.proofs.Math.Seq.{take-add, drop-cons}
use Rattle.std.proofs.lemmas.List.{take-append-drop, drop-take, drop-drop, take-take}
use Rattle.std.proofs.lemmas.Bool.{false≢true}
use Rattle.std.specs.Prelude.{Option, Result, Ok, Err, OnErr}
use Rattle.hx_io.specs.Sources.{prepend}
use Rattle.hx_io.proofs.SourceLaws.{prepend-prepend, prepend-nil}
use Rattle.hx_lines.specs.Lines.{HasLf, longest}
use Rattle.hx_lines.specs.declared.cutters.Cut.{Cut}
use Rattle.hx_lines.specs.declared.cutters.Cut.TheVariants.{Line, TooLong, Over}
use Rattle.hx_lines.specs.Cutters.{Cutter, Loses, Stays, CutsLine, IsTooLong, IsCut}

loses_then : (bytes a b c : List ℕ) (first second third : Option (List ℕ)) → Loses [] a b first second → Loses bytes b c second third
    → Loses bytes a c first third
loses_then bytes a b c first second third s t = record {
  read = s.read ++ t.read;
  took = s.took ∙ ap (prepend s.read) t.took ∙ prepend-prepend s.read t.read third;
  moved = sym (append_assoc a s.read t.read) ∙ ap (λ xs. xs ++ t.read) s.moved ∙ t.moved;
}

pub stays_here : (cutter : Cutter) (left : Option (List ℕ)) → Stays cutter cutter left left
stays_here cutter left = record {
  same = record { read = []; took = sym (prepend-nil left); moved = append-nil cutter.held };
  line = refl;
}

pub stays_then : (a b c : Cutter) (first second third : Option (List ℕ)) → Stays a b first second → Stays b c second third
    → Stays a c first third
stays_then a b c first second third s t = record {
  same = loses_then [] a.held b.held c.held first second third s.same t.same;
  line = t.line ∙ s.line;
}

-- reads, and then a cut
pub is_cut_then : (a b c : Cutter) (first second : Option (List ℕ)) (cut : Cut) → Stays a b first second → IsCut b c second second cut
    → IsCut a c first second cut
is_cut_then a b c first second (Line ended) s is = record {
  loses = loses_then _ a.held b.held c.held first second second s.same is.loses;
  plain = is.plain;
  short = is.short;
  last = is.last;
}
is_cut_then a b c first second TooLong s is = (stays_then a b c first second second s is.0, is.1)
is_cut_then a b c first second Over s is = (stays_then a b c first second second s is.0, is.1, is.2)

-- bytes behind a gap, in the old buffer and in the new one
moved_part : (old new : List ℕ) (line_start gap n : ℕ) → take (gap + n) new ≡ take (gap + n) (drop line_start old)
    → take n (drop gap new) ≡ take n (drop (line_start + gap) old)
moved_part old new line_start gap n same =
    sym (drop-take gap n new) ∙ ap (drop gap) same ∙ drop-take gap n (drop line_start old) ∙ ap (take n) (drop-drop gap line_start old)

-- the buffer before and after the front was moved, and after the read behind it
pub record IsMoved (old moved new : List ℕ) (line_start start end len : ℕ) : Type 0 where
  pub line_first : line_start + len ≤ start
  pub order : start ≤ end
  pub to_front : take (end - line_start) moved ≡ take (end - line_start) (drop line_start old)
  pub same : take (end - line_start) new ≡ take (end - line_start) moved

moved_held : (old moved new : List ℕ) (line_start start end len : ℕ) → IsMoved old moved new line_start start end len
    → take (end - start) (drop (start - line_start) new) ≡ take (end - start) (drop start old)
moved_held old moved new line_start start end len is =
    let line_first = is.line_first in
    let order = is.order in
    let gap_is : line_start + (start - line_start) ≡ start = omega arith in
    let all_is : start - line_start + (end - start) ≡ end - line_start = omega arith in
    let whole : take (start - line_start + (end - start)) new ≡ take (start - line_start + (end - start)) (drop line_start old) =
    ap (λ k. take k new) all_is ∙ is.same ∙ is.to_front ∙ sym (ap (λ k. take k (drop line_start old)) all_is) in
    moved_part old new line_start (start - line_start) (end - start) whole ∙ ap (λ k. take (end - start) (drop k old)) gap_is

moved_line : (old moved new : List ℕ) (line_start start end len : ℕ) → IsMoved old moved new line_start start end len
    → take len new ≡ take len (drop line_start old)
moved_line old moved new line_start start end len is =
    let line_first = is.line_first in
    let order = is.order in
    let short : len ≤ end - line_start = omega arith in
    sym (take-take len (end - line_start) new short) ∙ ap (take len) (is.same ∙ is.to_front)
    ∙ take-take len (end - line_start) (drop line_start old) short

pub refilled : (before after : Cutter) (left_before left_after : Option (List ℕ)) (old moved new : List ℕ)
    (line_start start end len count : ℕ)
    → IsMoved old moved new line_start start end len
    → before.held ≡ take (end - start) (drop start old) → before.line ≡ take len (drop line_start old)
    → left_before ≡ prepend (take count (drop (end - line_start) new)) left_after
    → after.held ≡ take (end - line_start + count - (start - line_start)) (drop (start - line_start) new) → after.line ≡ take len new
    → Stays before after left_before left_after
refilled before after left_before left_after old moved new line_start start end len count is held line took more kept =
    let line_first = is.line_first in
    let order = is.order in
    let all_is : start - line_start + (end - start) ≡ end - line_start = omega arith in
    let more_is : end - line_start + count - (start - line_start) ≡ end - start + count = omega arith in
    let tail : List ℕ = drop (start - line_start) new in
    let behind : drop (end - line_start) new ≡ drop (end - start) tail = ap (λ k. drop k new) (sym all_is)
    ∙ sym (drop-drop (end - start) (start - line_start) new) in
    record {
      same = record {
        read = take count (drop (end - line_start) new);
        took = took;
        moved =
            ap (λ xs. xs ++ take count (drop (end - line_start) new)) (held ∙ sym (moved_held old moved new line_start start end len is))
            ∙ ap (λ xs. take (end - start) tail ++ take count xs) behind
            ∙ sym (take-add (end - start) count tail)
            ∙ ap (λ k. take k tail) (sym more_is)
            ∙ sym more;
      };
      line = kept ∙ moved_line old moved new line_start start end len is ∙ sym line;
    }

same_cutter : (a b : Cutter) → a.held ≡ b.held → a.line ≡ b.line → a.met_end ≡ b.met_end → a ≡ b
same_cutter a b held line met_end =
    ap (λ xs. record { held = xs; line = a.line; met_end = a.met_end }) held
    ∙ ap (λ xs. record { held = b.held; line = xs; met_end = a.met_end }) line
    ∙ ap (λ met. record { held = b.held; line = b.line; met_end = met }) met_end

-- where nothing was read, the cutter is as before, wherever its bytes lie now
pub refill_failed : (before after : Cutter) (old moved new : List ℕ) (line_start start end len : ℕ)
    → IsMoved old moved new line_start start end len
    → before.held ≡ take (end - start) (drop start old) → before.line ≡ take len (drop line_start old)
    → after.held ≡ take (end - line_start - (start - line_start)) (drop (start - line_start) new) → after.line ≡ take len new
    → after.met_end ≡ before.met_end
    → after ≡ before
refill_failed before after old moved new line_start start end len is held line now kept met_end =
    let line_first = is.line_first in
    let order = is.order in
    let more_is : end - line_start - (start - line_start) ≡ end - start = omega arith in
    same_cutter after before
    (now ∙ ap (λ k. take k (drop (start - line_start) new)) more_is ∙ moved_held old moved new line_start start end len is ∙ sym held)
    (kept ∙ moved_line old moved new line_start start end len is ∙ sym line)
    met_end

-- what is held is the line, its LF and the rest
pub cut_held : (buffer : List ℕ) (start n len m : ℕ) → n ≡ suc len + m → len < length (take n (drop start buffer))
    → get_or (take n (drop start buffer)) len 0 ≡ 10
    → take n (drop start buffer) ≡ (take len (drop start buffer) ++ 10 ∷ []) ++ take m (drop (start + (len + 1)) buffer)
cut_held buffer start n len m n_is within lf =
    let rest : List ℕ = drop start buffer in
    let held : List ℕ = take n rest in
    let front : take len held ≡ take len rest = take-take len n rest (omega arith) in
    let tail : drop len held ≡ get_or held len 0 ∷ drop (suc len) held = drop-cons held len 0 within in
    let behind : drop (suc len) held ≡ take m (drop (suc len) rest) = ap (λ k. drop (suc len) (take k rest)) n_is
    ∙ drop-take (suc len) m rest in
    let place : start + suc len ≡ start + (len + 1) = omega arith in
    let far : drop (suc len) rest ≡ drop (start + (len + 1)) buffer = drop-drop (suc len) start buffer ∙ ap (λ k. drop k buffer) place in
    sym (take-append-drop len held)
    ∙ ap (λ xs. xs ++ drop len held) front
    ∙ ap (λ xs. take len rest ++ xs) (tail ∙ ap (λ byte. byte ∷ drop (suc len) held) lf ∙ ap (λ xs. 10 ∷ xs) (behind ∙ ap (take m) far))
    ∙ sym (append_assoc (take len rest) (10 ∷ []) (take m (drop (start + (len + 1)) buffer)))

-- each answer of a cut, where these bytes are held

pub ended_line : (before after : Cutter) (left : Option (List ℕ)) (bytes : List ℕ) (place : ℕ) → bytes ≡ before.held
    → after.line ≡ take place before.held
    → before.held ≡ (after.line ++ 10 ∷ []) ++ after.held → ¬ HasLf (take place bytes) → place ≤ longest
    → CutsLine before after left left true
ended_line before after left bytes place is line held plain short = record {
  loses = record { read = []; took = sym (prepend-nil left); moved = append-nil before.held ∙ held };
  plain = λ lf. plain (subst HasLf (line ∙ ap (take place) (sym is)) lf);
  short = omega (arith, ap length line, length-take place before.held, short);
  last = λ e. absurd (false≢true (sym e));
}

pub too_long_before_lf : (cutter : Cutter) (bytes : List ℕ) (place : ℕ) → bytes ≡ cutter.held → place < length bytes
    → ¬ HasLf (take place bytes) → longest < place → IsTooLong cutter
too_long_before_lf cutter bytes place is within plain long = record {
  front = take place bytes;
  more = drop place bytes;
  held = sym is ∙ sym (take-append-drop place bytes);
  plain = plain;
  long = omega (arith, length-take place bytes);
}

pub on_err : {T E : Type 0} (result : Result T E) (P : Type 0) → P → OnErr result P
on_err (Ok x) P p = tt
on_err (Err e) P p = p
