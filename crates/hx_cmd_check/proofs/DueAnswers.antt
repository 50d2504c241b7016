-- Which fault is due, from what is known of the lines and nodes before a line and from what the next cut tells. The
-- nodes before the fault are the ones that are known, so it is due under each demand that they meet.
use Rattle.std.proofs.Common.{◌≡◌, ◌≢◌, ℕ, ◌+◌, ◌-◌, ◌<◌, ◌≤◌, ◌^◌, inl, inr, Bool, true, false, List, [], ◌∷◌, ◌++◌, length, refl, sym, ap}
use Rattle.std.proofs.Common.{◌∙◌, subst, arith, append_assoc, append-nil, Option, Some, None}
use Rattle.std.proofs.lemmas.Bool.{false≢true}
use Rattle.std.proofs.lemmas.List.{length-map}
use Rattle.std.specs.declared.result.Result.{Result}
use Rattle.std.specs.declared.result.Result.TheVariants.{Ok, Err}
use Rattle.std.proofs.lemmas.Option.{same_Some}
use Rattle.std.specs.Prelude.{IfSome, IsTrue, flat_map}
use Rattle.hx_io.specs.Causes.{next_count}
use Rattle.hx_io.specs.Sources.{prepend}
use Rattle.hx_lines.specs.Lines.{HasLf, longest, lines_of}
use Rattle.hx_lines.specs.declared.cutters.Cut.{Cut}
use Rattle.hx_lines.specs.declared.cutters.Cut.TheVariants.{Line, TooLong as Is_too_long, Over}
use Rattle.hx_lines.specs.Cutters.{Cutter, Stays, CutsLine, IsTooLong, IsCut, BeginLong}
use Rattle.hx_lines.proofs.LineLaws.{lines_of-nil, stream-loses}
use Rattle.hx_lines.proofs.StreamParts.{parts-stay, some_not_none, TellsStream, tells_stream}
use Rattle.hx_tree.specs.declared.nodes.Node.{Node}
use Rattle.hx_tree.specs.Rules.{IsRightNode}
use Rattle.hx_parse.specs.declared.places.Place.{Place}
use Rattle.hx_lex.specs.Marks.{Lacks}
use Rattle.hx_text.specs.Grammars.{text_of, Begins}
use Rattle.hx_text.specs.TreeTexts.{AreTreeLines, front_lines, node_lines, head_line}
use Rattle.hx_parse.specs.Places.{Stands, StandsSoFar, IsNextNode}
use Rattle.hx_text.specs.Lengths.{most_nodes}
use Rattle.hx_parse.specs.Reader.{HasRead, lines_fed}
use Rattle.hx_parse.proofs.BegunNodes.{node_of_head}
use Rattle.hx_parse.proofs.Completions.{Begins-stands}
use Rattle.hx_text.proofs.Cuts.{text_of-push}
use Rattle.hx_text.proofs.NodeParts.{first_line-head}
use Rattle.hx_parse.proofs.Faults.{missing, wrong_line}
use Rattle.hx_cmd_check.specs.declared.faults.Fault.{Fault}
use Rattle.hx_cmd_check.specs.declared.faults.Fault.TheVariants.{NoText, NoNode, ReadFault, OutOfMemory, TooLong}
use Rattle.hx_cmd_check.specs.declared.judgements.Judgement.{Judgement}
use Rattle.hx_cmd_check.specs.declared.judgements.Judgement.TheVariants.{Yes, No}
use Rattle.hx_cmd_check.specs.declared.judges.Brought.{Brought}
use Rattle.hx_cmd_check.specs.declared.judges.Brought.TheVariants.{Line as Brought_line, Node as Brought_node, End}
use Rattle.hx_cmd_check.specs.declared.judges.Judge.{Judge}
use Rattle.hx_cmd_check.specs.Limits.{BeginsLong}
use Rattle.hx_cmd_check.specs.Judging.{Demand, NodesAreRight, AreThese, IsNoText, IsNoNode, IsTooManyNodes, ReadsNoFault}
use Rattle.hx_cmd_check.specs.Judgements.{IsLong, IsFaultDue, IsDue}
use Rattle.hx_cmd_check.specs.Standings.{HasJudged, JudgedUpTo, HasReadAll, Brings, AnswersNode}
use Rattle.hx_cmd_check.proofs.JudgedNodes.{faultless, few_fed, count_more, judged_node}
use Rattle.hx_cmd_check.proofs.ManyNodes.{too_many_of}
use Rattle.hx_cmd_check.proofs.LongLines.{lacks_of, long_first, none_not_long}
use Rattle.hx_cmd_check.proofs.Standings.{ended_in, few_nodes, not_whole}

-- ---- the input, where it is told

-- what is said of an input whose first lines were read
pub says_of : (before : Option (List ℕ)) (front held : List ℕ) (left : Option (List ℕ)) (Says : List ℕ → Type 0)
    → before ≡ prepend (front ++ held) left
    → ((input rest : List ℕ) → left ≡ Some rest → input ≡ front ++ (held ++ rest) → Says input) → IfSome before Says
says_of None front held left Says parts says = tt
says_of (Some input) front held None Says parts says = absurd (some_not_none input parts)
says_of (Some input) front held (Some rest) Says parts says =
    says input rest refl (same_Some input ((front ++ held) ++ rest) parts ∙ append_assoc front held rest)

-- the bytes that come next, where a line was cut off them or nothing was there
stream_of : (old new : Cutter) (rest : List ℕ) (then_left : Option (List ℕ)) (told : TellsStream old new rest then_left (Line true))
    → old.held ++ rest ≡ new.line ++ 10 ∷ (new.held ++ told.later)
stream_of old new rest then_left told = stream-loses _ _ _ _ _ told.is.loses ∙ append_assoc new.line (10 ∷ []) (new.held ++ told.later)

last_of : (old new : Cutter) (rest : List ℕ) (then_left : Option (List ℕ)) (told : TellsStream old new rest then_left (Line false))
    → old.held ++ rest ≡ new.line
last_of old new rest then_left told =
    let last = told.is.last refl in
    let none : new.held ++ told.later ≡ [] = ap (λ held. held ++ told.later) last.1 ∙ last.2 in
    stream-loses _ _ _ _ _ told.is.loses ∙ ap (λ bytes. new.line ++ bytes) none ∙ append-nil new.line

pub none_of : (old new : Cutter) (rest : List ℕ) (then_left : Option (List ℕ)) (told : TellsStream old new rest then_left Over)
    → old.held ++ rest ≡ []
none_of old new rest then_left told = stream-loses _ _ _ _ _ told.is.0.same ∙ ap (λ held. held ++ told.later) told.is.1.none ∙ told.is.2

long_stream : (cutter : Cutter) (rest : List ℕ) → IsTooLong cutter → BeginsLong (cutter.held ++ rest)
long_stream cutter rest long = record {
  front = long.front;
  more = long.more ++ rest;
  parts = ap (λ held. held ++ rest) long.held ∙ append_assoc long.front long.more rest;
  plain = long.plain;
  long = long.long;
}

pub cut_not_long : (ended : Bool) (old new : Cutter) (rest : List ℕ) (then_left : Option (List ℕ))
    → TellsStream old new rest then_left (Line ended) → ¬ BeginsLong (old.held ++ rest)
cut_not_long ended old new rest then_left told long =
    let first : BeginLong (new.line ∷ lines_of (new.held ++ told.later)) =
    subst BeginLong told.tells (long_first (old.held ++ rest) long) in
    omega (arith, told.is.short, first)

pub cut_some : (ended : Bool) (old new : Cutter) (rest : List ℕ) (then_left : Option (List ℕ))
    → TellsStream old new rest then_left (Line ended) → old.held ++ rest ≢ []
cut_some ended old new rest then_left told none =
    let lines : [] ≡ new.line ∷ lines_of (new.held ++ told.later) = sym lines_of-nil ∙ ap lines_of (sym none) ∙ told.tells in cc

lacks_same : (bytes other : List ℕ) → bytes ≡ other → Lacks 10 other → Lacks 10 bytes
lacks_same bytes other is lacks = subst (Lacks 10) (sym is) lacks

pub told_of : (old new : Cutter) (left then_left : Option (List ℕ)) (cut : Cut) (rest : List ℕ) → left ≡ Some rest
    → IsCut old new left then_left cut → TellsStream old new rest then_left cut
told_of old new left then_left cut rest is cuts =
    tells_stream old new rest then_left cut (subst (λ (l : Option (List ℕ)). IsCut old new l then_left cut) is cuts)

module _ (Meets : Demand) (before : Option (List ℕ)) (judge : Judge) (nodes : List Node) (lines : List (List ℕ)) (old new : Cutter)
    (left then_left : Option (List ℕ)) (upto : JudgedUpTo before judge nodes lines old.held left) (meets : Meets lines nodes) where
  -- the next line is too long
  pub long_answer : IsCut old new left then_left Is_too_long → IfSome before (IsLong Meets)
  long_answer cut =
      says_of before (text_of lines) old.held left (IsLong Meets) upto.parts
      (λ input rest is parts.
      let told : TellsStream old new rest then_left Is_too_long = told_of old new left then_left Is_too_long rest is cut in
      inl (record {
        lines = lines;
        rest = old.held ++ rest;
        parts = parts;
        faultless = faultless judge nodes lines upto.judged Meets meets;
        long = subst BeginsLong (sym (stream-loses _ _ _ _ _ told.is.0.same)) (long_stream new told.later told.is.1);
      }))

  -- a read failed
  pub fault_answer : Stays old new left then_left → ¬ HasLf new.held → length new.held ≤ longest → ReadsNoFault Meets before then_left
  fault_answer stays plain short = record {
    lines = lines;
    held = new.held;
    parts = parts-stay before (text_of lines) old new left then_left upto.parts stays;
    faultless = faultless judge nodes lines upto.judged Meets meets;
    plain = plain;
    short = short;
  }

  -- the next line is missing or has no LF, and the text is not whole
  no_line : (input : List ℕ) (number : ℕ) (stream : List ℕ) → ¬ HasReadAll judge → input ≡ text_of lines ++ stream
      → number ≡ length lines + 1 → Lacks 10 stream → ¬ BeginsLong stream → IsNoText Meets input number
  no_line input number stream unended parts place lacks short = record {
    fault = missing input lines stream number parts place (Begins-stands judge.reader.place nodes lines upto.judged.read)
        (not_whole judge.reader.place nodes lines unended upto.judged.read) lacks;
    faultless = faultless judge nodes lines upto.judged Meets meets;
    short = short;
  }

  pub missing_answer : (number : ℕ) → IsCut old new left then_left Over → ¬ HasReadAll judge → number ≡ lines_fed judge.reader + 1
      → IfSome before (λ input. IsNoText Meets input number)
  missing_answer number cut unended is =
      says_of before (text_of lines) old.held left (λ input. IsNoText Meets input number) upto.parts
      (λ input rest told parts.
      let none : old.held ++ rest ≡ [] = none_of old new rest then_left (told_of old new left then_left Over rest told cut) in
      no_line input number (old.held ++ rest) unended parts (is ∙ ap (λ (n : ℕ). n + 1) upto.judged.counted)
      (lacks_same (old.held ++ rest) [] none tt) (none_not_long (old.held ++ rest) none))

  -- the next line is not of the grammar in its place, or has no LF
  wrong_by : (ended : Bool) (number : ℕ) → CutsLine old new left then_left ended → ¬ HasReadAll judge → number ≡ length lines + 1
      → (IsTrue ended → Begins AreTreeLines (lines ++ new.line ∷ []) → ⊥) → IfSome before (λ input. IsNoText Meets input number)
  wrong_by true number cut unended place wrong =
      says_of before (text_of lines) old.held left (λ input. IsNoText Meets input number) upto.parts
      (λ input rest is parts.
      let told : TellsStream old new rest then_left (Line true) = told_of old new left then_left (Line true) rest is cut in
      let stream : old.held ++ rest ≡ new.line ++ 10 ∷ (new.held ++ told.later) = stream_of old new rest then_left told in
      record {
        fault =
            wrong_line input lines new.line (new.held ++ told.later) number (parts ∙ ap (λ bytes. text_of lines ++ bytes) stream) place
            (Begins-stands judge.reader.place nodes lines upto.judged.read) (lacks_of new.line cut.plain) (wrong refl);
        faultless = faultless judge nodes lines upto.judged Meets meets;
        short = subst (λ bytes. ¬ BeginsLong bytes) stream (cut_not_long true old new rest then_left told);
      })
  wrong_by false number cut unended place wrong =
      says_of before (text_of lines) old.held left (λ input. IsNoText Meets input number) upto.parts
      (λ input rest is parts.
      let told : TellsStream old new rest then_left (Line false) = told_of old new left then_left (Line false) rest is cut in
      no_line input number (old.held ++ rest) unended parts place
      (lacks_same (old.held ++ rest) new.line (last_of old new rest then_left told) (lacks_of new.line cut.plain))
      (cut_not_long false old new rest then_left told))

  pub wrong_answer : (ended : Bool) (fed number : ℕ) → CutsLine old new left then_left ended → ¬ HasReadAll judge
      → fed ≡ next_count (lines_fed judge.reader)
      → (number ≡ fed) × (IsTrue ended → Begins AreTreeLines (lines ++ new.line ∷ []) → ⊥)
      → IfSome before (λ input. IsNoText Meets input number)
  wrong_answer ended fed number cut unended counts told =
      wrong_by ended number cut unended (told.0 ∙ count_more judge nodes lines upto.judged fed counts) told.1

  -- the first line of one node too many
  pub many_answer : CutsLine old new left then_left true → (length nodes ≡ most_nodes) × IsNextNode judge.reader.place new.line
      → IfSome before (IsLong Meets)
  many_answer cut many =
      says_of before (text_of lines) old.held left (IsLong Meets) upto.parts
      (λ input rest is parts.
      let told : TellsStream old new rest then_left (Line true) = told_of old new left then_left (Line true) rest is cut in
      inr (too_many input (new.held ++ told.later) (parts ∙ ap (λ bytes. text_of lines ++ bytes) (stream_of old new rest then_left told))))
    where
      too_many : (input later : List ℕ) → input ≡ text_of lines ++ (new.line ++ 10 ∷ later) → IsTooManyNodes Meets input
      too_many input later parts =
          let next : IsNextNode judge.reader.place new.line = many.1 in
          let stands : StandsSoFar next.so_far nodes lines =
          subst (λ (p : Place). Stands p nodes lines) next.is upto.judged.read in
          let whole = node_of_head next.so_far.preamble next.head stands.is_size next.fits in
          too_many_of (record {
            preamble = next.so_far.preamble;
            is_size = stands.is_size;
            nodes = nodes;
            each = stands.each;
            meets = subst (λ (ls : List (List ℕ)). Meets ls nodes) stands.same meets;
            full = many.0;
            next = whole.0;
            next_fits = whole.1;
            rest = later;
            parts = parts ∙ sym (text_of-push lines new.line later)
                ∙ ap (λ (ls : List (List ℕ)). text_of (ls ++ new.line ∷ []) ++ later) stands.same
                ∙ ap (λ (l : List ℕ). text_of ((front_lines next.so_far.preamble ++ flat_map node_lines nodes) ++ l ∷ []) ++ later)
                (next.same ∙ ap head_line (sym whole.2) ∙ sym (first_line-head whole.0));
          })

  -- a node that is not right
  wrong_node : (new_judge : Judge) (node : Node) (k : ℕ) → CutsLine old new left then_left true → ¬ HasReadAll new_judge
      → HasRead new_judge.reader (nodes ++ node ∷ []) (lines ++ new.line ∷ []) → ¬ IsRightNode judge.checker node
      → k ≡ length judge.checker → IfSome before (λ input. IsNoNode Meets input k)
  wrong_node new_judge node k cut unended reads wrong place =
      says_of before (text_of lines) old.held left (λ input. IsNoNode Meets input k) upto.parts
      (λ input rest is parts.
      let told : TellsStream old new rest then_left (Line true) = told_of old new left then_left (Line true) rest is cut in
      record {
        lines = lines;
        last = new.line;
        rest = new.held ++ told.later;
        parts = parts ∙ ap (λ bytes. text_of lines ++ bytes) (stream_of old new rest then_left told)
            ∙ sym (text_of-push lines new.line (new.held ++ told.later));
        earlier = nodes;
        node = node;
        ended = ended_in new_judge.reader.place (nodes ++ node ∷ []) (lines ++ new.line ∷ []) reads
            (few_nodes new_judge.reader.place (nodes ++ node ∷ []) (lines ++ new.line ∷ []) unended reads);
        meets = meets;
        count = place ∙ ap length upto.judged.same ∙ length-map nodes (λ (n : Node). n.heading);
        wrong = rw upto.judged.same at wrong;
      })

-- what judging a node brings
pub node_answer : (before : Option (List ℕ)) (judge new_judge : Judge) (nodes : List Node) (lines : List (List ℕ)) (old new : Cutter)
    (left then_left : Option (List ℕ)) → JudgedUpTo before judge nodes lines old.held left → (rose : Type 0) (node : Node)
    (answer : Result Brought Fault) → CutsLine old new left then_left true
    → lines_fed new_judge.reader ≡ next_count (lines_fed judge.reader) → ¬ HasReadAll new_judge
    → HasRead new_judge.reader (nodes ++ node ∷ []) (lines ++ new.line ∷ [])
    → AnswersNode judge.checker node new_judge.checker answer → Brings before nodes lines new_judge new then_left rose answer
node_answer before judge new_judge nodes lines old new left then_left upto rose node (Ok (Brought_node brought)) cut counts unended reads
    says = (
      unended,
      subst (λ (n : Node). JudgedUpTo before new_judge (nodes ++ n ∷ []) (lines ++ new.line ∷ []) new.held then_left) (sym says.1)
          (judged_node before judge new_judge nodes lines old new left then_left upto cut counts node unended reads says.0 says.2),
    )
node_answer before judge new_judge nodes lines old new left then_left upto rose node (Err (NoNode k)) cut counts unended reads says =
    wrong_node (AreThese lines nodes) before judge nodes lines old new left then_left upto (refl, refl) new_judge node k cut unended reads says.0 says.1
node_answer before judge new_judge nodes lines old new left then_left upto rose node (Err OutOfMemory) cut counts unended reads says = tt
node_answer before judge new_judge nodes lines old new left then_left upto rose node (Ok Brought_line) cut counts unended reads says =
    absurd says
node_answer before judge new_judge nodes lines old new left then_left upto rose node (Ok End) cut counts unended reads says = absurd says
node_answer before judge new_judge nodes lines old new left then_left upto rose node (Err (NoText l)) cut counts unended reads says =
    absurd says
node_answer before judge new_judge nodes lines old new left then_left upto rose node (Err ReadFault) cut counts unended reads says =
    absurd says
node_answer before judge new_judge nodes lines old new left then_left upto rose node (Err TooLong) cut counts unended reads says =
    absurd says

-- what is due where a call failed is due where one failed in a longer time
pub fault_due_later : (Meets : Demand) (before after : Option (List ℕ)) (rose then_rose : Type 0) (fault : Fault) → (rose → then_rose)
    → IsFaultDue Meets before after rose fault → IsFaultDue Meets before after then_rose fault
fault_due_later Meets before after rose then_rose (NoText line) more due = due
fault_due_later Meets before after rose then_rose (NoNode node) more due = due
fault_due_later Meets before after rose then_rose ReadFault more due = (more due.0, due.1)
fault_due_later Meets before after rose then_rose OutOfMemory more due = due
fault_due_later Meets before after rose then_rose TooLong more due = due

pub due_later : (before after : Option (List ℕ)) (rose then_rose : Type 0) (judgement : Judgement) → (rose → then_rose)
    → IsDue before after rose judgement → IsDue before after then_rose judgement
due_later before after rose then_rose (Yes root) more due = due
due_later before after rose then_rose (No fault) more due = fault_due_later NodesAreRight before after rose then_rose fault more due

-- a cut of a line that is ended
pub ended_cut : (ended : Bool) (old new : Cutter) (left then_left : Option (List ℕ)) → IsTrue ended → CutsLine old new left then_left ended
    → CutsLine old new left then_left true
ended_cut true old new left then_left is cut = cut
ended_cut false old new left then_left is cut = absurd (false≢true is)

-- the fault that names the next line
pub due_next : (Meets : Demand) (before after : Option (List ℕ)) (rose : Type 0) (judge : Judge) (nodes : List Node)
    (lines : List (List ℕ)) (count : ℕ) (fault : Fault) → HasJudged judge nodes lines → count ≡ lines_fed judge.reader
    → (count < 2 ^ 64 - 1 → fault ≡ NoText (count + 1)) → IfSome before (λ input. IsNoText Meets input (count + 1))
    → IsFaultDue Meets before after rose fault
due_next Meets before after rose judge nodes lines count fault judged is says found =
    subst (IsFaultDue Meets before after rose) (sym (says (omega (arith, is, few_fed judge nodes lines judged)))) found
