-- What a run of `play` answers to an input: the refusal that is due to it alone, or a game where one can be played.
use Rattle.std.proofs.Common.{◌≡◌, inl, inr, ℕ, List, ◌++◌, refl, sym, ap, ◌∙◌, subst, Option, Some, None}
use Rattle.std.proofs.lemmas.Option.{same_Some}
use Rattle.std.specs.Prelude.{IfSome}
use Rattle.hx_io.specs.Sources.{Reading, SomeReadFailed, prepend}
use Rattle.hx_io.specs.Sinks.{Writing, append}
use Rattle.hx_lines.proofs.StreamParts.{some_not_none}
use Rattle.hx_tree.specs.declared.nodes.Node.{Node}
use Rattle.hx_answers.specs.Endings.{IsWritten, Whole, Cut, AnswersUnlessStopped}
use Rattle.hx_cmd_check.specs.declared.faults.Fault.TheVariants.{ReadFault}
use Rattle.hx_cmd_play.specs.declared.refusals.Refusal.{Refusal}
use Rattle.hx_cmd_play.specs.declared.refusals.Refusal.TheVariants.{NoTree}
use Rattle.hx_cmd_play.specs.Promises.{PlaysUnlessStopped, Game, No_read, No_memory}
use Rattle.hx_cmd_play.specs.Refusals.{IsDue, refusal_text, status_of_refusal}
use Rattle.hx_cmd_play.specs.Runs.{IsPlayRun, PlaysBy, Played, Refused}
use Rattle.hx_cmd_play.specs.Trees.{IsPlayable}
use Rattle.hx_cmd_play.proofs.OneRefusal.{AreSameTexts, one_text, IsStop, IsOrStopped, stops_alone}

-- what is said of an input, where the source tells it
pub of_input : (left : Option (List ℕ)) (Says : List ℕ → Type 0) → ((input : List ℕ) → left ≡ Some input → Says input)
    → IfSome left Says
of_input None Says says = tt
of_input (Some input) Says says = says input refl

-- the bytes behind a text with which an input begins
record Behind (input text : List ℕ) (stream : Option (List ℕ)) : Type 0 where
  rest : List ℕ
  told : stream ≡ Some rest
  parts : input ≡ text ++ rest

behind : (input text : List ℕ) (stream : Option (List ℕ)) → Some input ≡ prepend text stream → Behind input text stream
behind input text None parts = absurd (some_not_none input parts)
behind input text (Some rest) parts = record { rest = rest; told = refl; parts = same_Some input (text ++ rest) parts }

module _ (source source_now : Reading) (sink sink_now : Writing) (status : ℕ) where
  abbrev IsDueHere : Option (List ℕ) → Refusal → Type 0
  IsDueHere before refusal = IsDue before source_now.left (SomeReadFailed source source_now) refusal

  abbrev IsWrittenHere : Refusal → Type 0
  IsWrittenHere refusal = IsWritten sink sink_now (refusal_text refusal) (status_of_refusal refusal) status

  abbrev Answers : Refusal → Type 0
  Answers refusal =
      AnswersUnlessStopped (refusal_text refusal) (status_of_refusal refusal) sink.taken sink_now.taken status

  answered_by : (refusal other : Refusal) → IsOrStopped refusal other → IsWrittenHere other → Answers refusal
  answered_by refusal other (inl is) (Whole same wrote) =
      inl (same ∙ ap status_of_refusal is, wrote ∙ ap (λ (r : Refusal). append sink.taken (refusal_text r)) is)
  answered_by refusal other (inr (inl is)) (Whole same wrote) = inr (inl (same ∙ ap status_of_refusal is))
  answered_by refusal other (inr (inr is)) (Whole same wrote) = inr (inr (inr (same ∙ ap status_of_refusal is)))
  answered_by refusal other alone (Cut six cause front) = inr (inr (inl six))

  stopped_by : (nodes : List Node) (rest : List ℕ) (refusal : Refusal) → IsStop refusal → IsDueHere source.left refusal
      → IsWrittenHere refusal → PlaysUnlessStopped nodes rest source source_now sink sink_now status
  stopped_by nodes rest refusal (inl is) due written =
      let failed : IsDueHere source.left (NoTree ReadFault) = subst (IsDueHere source.left) is due in
      No_read failed.0 (subst IsWrittenHere is written)
  stopped_by nodes rest refusal (inr is) due written = No_memory (subst IsWrittenHere is written)

  module _ (input : List ℕ) (is : source.left ≡ Some input) where
    due_there : (refusal : Refusal) → IsDueHere source.left refusal → IsDueHere (Some input) refusal
    due_there refusal due = subst (λ (left : Option (List ℕ)). IsDueHere left refusal) is due

    -- no other refusal is due, and no tree is to be played by
    pub answered : (refusal : Refusal) → ((other : Refusal) → IsDueHere (Some input) other → IsOrStopped refusal other)
        → ((text rest : List ℕ) (nodes : List Node) → IsPlayable text nodes → input ≡ text ++ rest → ⊥)
        → IsPlayRun source source_now sink sink_now status → Answers refusal
    answered refusal alone none (Played ended plays same) =
        let there : Behind input plays.text plays.stream = behind input plays.text plays.stream (sym is ∙ plays.parts) in
        absurd (none plays.text there.rest plays.nodes plays.playable there.parts)
    answered refusal alone none (Refused other due written) = answered_by refusal other (alone other (due_there other due)) written

    -- a tree is to be played by
    pub game_for : (text rest : List ℕ) (nodes : List Node) → IsPlayable text nodes → input ≡ text ++ rest
        → IsPlayRun source source_now sink sink_now status → PlaysUnlessStopped nodes rest source source_now sink sink_now status
    game_for text rest nodes playable parts (Played ended plays same) =
        let there : Behind input plays.text plays.stream = behind input plays.text plays.stream (sym is ∙ plays.parts) in
        let one : AreSameTexts text plays.text nodes plays.nodes rest there.rest =
        one_text playable plays.playable rest there.rest (sym parts ∙ there.parts) in
        let stream : plays.stream ≡ Some rest = there.told ∙ ap Some (sym one.rests) in
        Game ended
        (subst (λ (ns : List Node). PlaysBy ns (Some rest) ended source_now sink sink_now) (sym one.trees)
        (subst (λ (bytes : Option (List ℕ)). PlaysBy plays.nodes bytes ended source_now sink sink_now) stream plays.game))
        same
    game_for text rest nodes playable parts (Refused other due written) =
        stopped_by nodes rest other
        (stops_alone input source_now.left (SomeReadFailed source source_now) text rest nodes playable parts other (due_there other due))
        due written
