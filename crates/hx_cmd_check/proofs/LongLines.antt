-- A line that is too long comes first or not at all: the lines of a tree's text are short, so where a line is too long,
-- each other way to read the input has gone wrong before, or not yet.
use Rattle.std.proofs.Common.{◌≡◌, ℕ, suc, zero, ◌<◌, ◌≤◌, List, [], ◌∷◌, ◌++◌, length, get_or, sym, ap, ◌∙◌, subst, arith, append_assoc}
use Rattle.std.proofs.Common.{inl, inr, length-append}
use Rattle.std.proofs.lemmas.List.{append-nil}
use Rattle.hx_lines.specs.Lines.{HasLf, lines_of}
use Rattle.hx_lines.specs.Cutters.{BeginLong}
use Rattle.hx_lines.proofs.LineLaws.{lines_of-line, begin_long-front}
use Rattle.hx_lex.specs.Marks.{Lacks}
use Rattle.hx_text.specs.Grammars.{text_of, Begins}
use Rattle.hx_text.specs.TreeTexts.{AreTreeLines}
use Rattle.hx_text.specs.Lengths.{longest_line}
use Rattle.hx_text.proofs.Cuts.{AllLack, Agree, Second_goes_on, First_goes_on, agree, Lacks-middle}
use Rattle.hx_text.proofs.OneFault.{no_more}
use Rattle.hx_text.proofs.ShortLines.{AllShort, AllShort-middle, AllShort-front, AllShort-tree_lines}
use Rattle.hx_text.proofs.TreeLacks.{AllLack-tree_lines, AllLack-begun}
use Rattle.hx_cmd_check.specs.Limits.{BeginsLong}
use Rattle.hx_cmd_check.specs.Judging.{Demand, EndedIn, IsNoText, IsNoNode, IsLongLine}
use Rattle.hx_cmd_check.specs.Judgements.{IsLong}
use Rattle.hx_cmd_check.proofs.Demands.{AsksRight}
use Rattle.hx_cmd_check.proofs.EndedNodes.{begins_of}
use Rattle.hx_cmd_check.proofs.Readings.{many_not_fault, many_not_wrong}
use Rattle.hx_cmd_check.proofs.Readings.{GoOn, node_end, node_begins, right_among}
use Rattle.hx_cmd_check.proofs.Readings.{many_lines, AllLack-many_lines, AllShort-many_lines, too_many}
use Rattle.hx_cmd_check.proofs.OneAnswer.{front_nodes}
use Rattle.hx_cmd_check.proofs.ManyNodes.{ManyNodes, many_of}

-- ---- the two words for bytes without LF

pub lacks_of : (bytes : List ℕ) → ¬ HasLf bytes → Lacks 10 bytes
lacks_of [] plain = tt
lacks_of (byte ∷ bytes) plain = (λ is. plain (0, omega arith, is), lacks_of bytes (λ lf. plain (suc lf.0, omega (arith, lf.1), lf.2)))

plain_at : (bytes : List ℕ) → Lacks 10 bytes → (k : ℕ) → k < length bytes → get_or bytes k 10 ≡ 10 → ⊥
plain_at [] lacks k inside is = omega (arith, inside)
plain_at (byte ∷ bytes) lacks zero inside is = lacks.0 is
plain_at (byte ∷ bytes) lacks (suc k) inside is = plain_at bytes lacks.1 k (omega (arith, inside)) is

plain_of : (bytes : List ℕ) → Lacks 10 bytes → ¬ HasLf bytes
plain_of bytes lacks lf = plain_at bytes lacks lf.0 lf.1 lf.2

-- ---- where the next line is short

-- the first of the lines is the one that is too long
pub long_first : (rest : List ℕ) → BeginsLong rest → BeginLong (lines_of rest)
long_first rest long =
    subst (λ bytes. BeginLong (lines_of bytes)) (sym long.parts) (begin_long-front long.front long.more long.plain long.long)

pub none_not_long : (rest : List ℕ) → rest ≡ [] → ¬ BeginsLong rest
none_not_long rest none long = omega (arith, long.long, ap length long.parts, ap length none, length-append long.front long.more)

short_not_long : (line later : List ℕ) → Lacks 10 line → length line ≤ longest_line → ¬ BeginsLong (line ++ 10 ∷ later)
short_not_long line later lacks short long =
    let first : BeginLong (line ∷ lines_of later) =
    subst BeginLong (lines_of-line line later (plain_of line lacks)) (long_first (line ++ 10 ∷ later) long) in
    omega (arith, short, first)

pub lines_not_long : (line : List ℕ) (more : List (List ℕ)) (rest : List ℕ) → Lacks 10 line → length line ≤ longest_line
    → ¬ BeginsLong (text_of (line ∷ more) ++ rest)
unfolding text_of
lines_not_long line more rest lacks short long =
    short_not_long line (text_of more ++ rest) lacks short (subst BeginsLong (append_assoc line (10 ∷ text_of more) rest) long)

pub long_begins : {Meets : Demand} {input : List ℕ} (long : IsLongLine Meets input) → Begins AreTreeLines long.lines
long_begins long = begins_of long.lines long.faultless.nodes long.faultless.ended

-- ---- the lines before a line that is too long go on behind other lines, and not the other way round

pub record GoesOn {Meets : Demand} {input : List ℕ} (long : IsLongLine Meets input) (lines : List (List ℕ)) (rest : List ℕ) : Type 0 where
  pub more : List (List ℕ)
  pub is : long.lines ≡ lines ++ more
  pub left : rest ≡ text_of more ++ long.rest

goes_on_by : {Meets : Demand} (input : List ℕ) (long : IsLongLine Meets input) (lines : List (List ℕ)) (rest : List ℕ) → AllLack lines
    → AllShort lines → Agree long.lines lines long.rest rest → GoesOn long lines rest
unfolding text_of
goes_on_by input long lines rest lack short (First_goes_on more is left) = record { more = more; is = is; left = left }
goes_on_by input long lines rest lack short (Second_goes_on [] is left) =
    record { more = []; is = sym (append-nil long.lines) ∙ sym is ∙ sym (append-nil lines); left = sym left }
goes_on_by input long lines rest lack short (Second_goes_on (next ∷ more) is left) =
    absurd (lines_not_long next more rest
    (Lacks-middle long.lines next more (subst AllLack (is ∙ sym (append_assoc long.lines (next ∷ []) more)) lack))
    (AllShort-middle long.lines next more (subst AllShort is short)) (subst BeginsLong left long.long))

pub goes_on : {Meets : Demand} (input : List ℕ) (long : IsLongLine Meets input) (lines : List (List ℕ)) (rest : List ℕ) → AllLack lines
    → AllShort lines → input ≡ text_of lines ++ rest → GoesOn long lines rest
goes_on input long lines rest lack short parts =
    goes_on_by input long lines rest lack short
    (agree long.lines lines long.rest rest (AllLack-begun long.lines (long_begins long)) lack (sym long.parts ∙ parts))

pub AllShort-begun : (lines : List (List ℕ)) → Begins AreTreeLines lines → AllShort lines
AllShort-begun lines begins = AllShort-front lines begins.0 (AllShort-tree_lines (lines ++ begins.0) begins.1)

-- ---- so no other answer fits

long_not_fault : {Meets : Demand} (input : List ℕ) (line : ℕ) → IsLongLine Meets input → IsNoText Meets input line → ⊥
unfolding text_of
long_not_fault input line long text =
    let on : GoesOn long text.fault.before text.fault.rest =
    goes_on input long text.fault.before text.fault.rest (AllLack-begun text.fault.before text.fault.right)
    (AllShort-begun text.fault.before text.fault.right) text.fault.parts in
    let none : on.more ≡ [] =
    no_more AreTreeLines AllLack-tree_lines input line text.fault long.lines on.more long.rest on.is on.left (long_begins long) in
    let same : text.fault.rest ≡ long.rest = on.left ∙ ap (λ (ls : List (List ℕ)). text_of ls ++ long.rest) none in
    text.short (subst BeginsLong (sym same) long.long)

long_not_node : {Meets : Demand} → AsksRight Meets → (input : List ℕ) (k : ℕ) → IsLongLine Meets input → IsNoNode Meets input k
    → ⊥
long_not_node asks input k long node =
    let on : GoesOn long (node_end node) node.rest =
    goes_on input long (node_end node) node.rest (AllLack-begun (node_end node) (node_begins node))
    (AllShort-begun (node_end node) (node_begins node)) node.parts in
    let nodes : GoOn (node.earlier ++ node.node ∷ []) long.faultless.nodes =
    front_nodes (node_end node) on.more (node.earlier ++ node.node ∷ []) long.faultless.nodes node.ended
    (subst (λ (ls : List (List ℕ)). EndedIn ls long.faultless.nodes) on.is long.faultless.ended)
    (subst (Begins AreTreeLines) on.is (long_begins long)) in
    node.wrong (right_among node.earlier node.node long.faultless.nodes nodes
    (asks long.lines long.faultless.nodes long.faultless.meets (length node.earlier)))

pub long_not_many : {Meets : Demand} (input : List ℕ) → IsLongLine Meets input → ManyNodes Meets input → ⊥
long_not_many input long many =
    let on : GoesOn long (many_lines many) many.rest =
    goes_on input long (many_lines many) many.rest (AllLack-many_lines many) (AllShort-many_lines many) many.parts in
    too_many many long.lines on.more long.faultless.nodes on.is long.faultless.ended

-- an input that is above a limit has no other fault before
pub long_not_line : {Meets : Demand} (input : List ℕ) (line : ℕ) → IsLong Meets input → IsNoText Meets input line → ⊥
long_not_line input line (inl long) text = long_not_fault input line long text
long_not_line input line (inr many) text = many_not_fault input line (many_of many) text

pub long_not_wrong : {Meets : Demand} → AsksRight Meets → (input : List ℕ) (k : ℕ) → IsLong Meets input → IsNoNode Meets input k → ⊥
long_not_wrong asks input k (inl long) node = long_not_node asks input k long node
long_not_wrong asks input k (inr many) node = many_not_wrong asks input k (many_of many) node
