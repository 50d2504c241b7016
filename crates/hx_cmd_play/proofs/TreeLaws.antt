-- What one more line does to the reading of a tree that is to be played by.
use Rattle.std.proofs.Common.{◌≡◌, ◌≢◌, ◌⊎◌, inl, inr, ℕ, ◌+◌, ◌<◌, ◌≤◌, Bool, true, false, List, [], ◌∷◌, ◌++◌, length, refl, sym, ap, ◌∙◌}
use Rattle.std.proofs.Common.{subst, arith, append-nil, length-append, Option}
use Rattle.std.proofs.lemmas.Option.{IfSome_then}
use Rattle.std.proofs.lemmas.List.Elements.{All-push}
use Rattle.std.specs.Prelude.{IfSome, Ok, Err}
use Rattle.hx_lines.specs.Cutters.{Cutter}
use Rattle.hx_tree.specs.declared.nodes.Node.{Node as TreeNode}
use Rattle.hx_tree.specs.Plain.{IsPlain, ArePlain}
use Rattle.hx_tree.proofs.TreeGrowth.{valid_tree}
use Rattle.hx_lex.proofs.Ends.{push-some}
use Rattle.hx_text.specs.Grammars.{text_of}
use Rattle.hx_text.proofs.Cuts.{text_of-push}
use Rattle.hx_parse.specs.declared.places.Place.{Place}
use Rattle.hx_parse.specs.declared.places.Place.TheVariants.{After}
use Rattle.hx_parse.specs.Places.{Stands}
use Rattle.hx_cmd_check.specs.declared.faults.Fault.{Fault}
use Rattle.hx_cmd_check.specs.declared.faults.Fault.TheVariants.{NoText, NoNode, ReadFault, OutOfMemory, TooLong}
use Rattle.hx_cmd_check.specs.declared.judges.Judge.{Judge}
use Rattle.hx_cmd_check.specs.declared.judges.Brought.{Brought}
use Rattle.hx_cmd_check.specs.declared.judges.Brought.TheVariants.{Line, Node, End}
use Rattle.hx_cmd_check.specs.Judging.{AreThese}
use Rattle.hx_cmd_check.specs.Judgements.{IsFaultDue, IsLong}
use Rattle.hx_cmd_check.specs.Standings.{Brings, HasJudged, HasReadAll, JudgedUpTo}
use Rattle.hx_cmd_check.proofs.JudgedNodes.{judged_nothing}
use Rattle.hx_cmd_check.proofs.Demands.{due_behind}
use Rattle.hx_cmd_check.proofs.DueAnswers.{says_of}
use Rattle.hx_cmd_check.proofs.Readings.{right_among}
use Rattle.hx_cmd_check.proofs.Standings.{ended_in, not_whole}
use Rattle.hx_cmd_play.specs.declared.refusals.Refusal.{Refusal}
use Rattle.hx_cmd_play.specs.declared.refusals.Refusal.TheVariants.{NoPlain, NoTree}
use Rattle.hx_cmd_play.specs.declared.trees.TreeSoFar.{TreeSoFar}
use Rattle.hx_cmd_play.specs.Refusals.{IsDue, IsTreeFaultDue}
use Rattle.hx_cmd_play.specs.Standings.{HasNodes, HasTaken, IsGoing, KeepsBrought, Takes}
use Rattle.hx_cmd_play.specs.Trees.{ArePlayable, HasReadTree, IsNoPlain, IsTooLarge, most_bytes}

-- ---- the lines so far

length-text_of-push : (lines : List (List ℕ)) (line : List ℕ)
    → length (text_of (lines ++ line ∷ [])) ≡ length (text_of lines) + (length line + 1)
length-text_of-push lines line =
    let parts : text_of (lines ++ line ∷ []) ++ [] ≡ text_of lines ++ (line ++ 10 ∷ []) = text_of-push lines line [] in
    ap length (sym (append-nil (text_of (lines ++ line ∷ []))) ∙ parts)
    ∙ length-append (text_of lines) (line ++ 10 ∷ [])
    ∙ ap (λ (n : ℕ). length (text_of lines) + n) (length-append line (10 ∷ []))

-- nothing was read
pub nothing_taken : (before : Option (List ℕ)) (so_far : TreeSoFar) → HasJudged so_far.judge [] [] → ¬ HasReadAll so_far.judge
    → so_far.nodes.items ≡ [] → so_far.bytes ≡ 0 → HasTaken before so_far [] [] before
unfolding text_of
nothing_taken before so_far judged unended none zero = record {
  upto = subst (λ (ns : List TreeNode). JudgedUpTo before so_far.judge ns [] [] before) (sym none)
      (judged_nothing before so_far.judge [] judged refl);
  plain = subst ArePlain (sym none) (λ k node inside. absurd (omega (arith, inside)));
  bytes = zero;
  small = omega (arith, zero);
  unended = unended;
}

-- behind a line that did not end the text more lines are to come
pub going_after : (before : Option (List ℕ)) (nodes : List TreeNode) (lines : List (List ℕ)) (judge : Judge) (cutter : Cutter)
    (left : Option (List ℕ)) (rose : Type 0) (mid now : TreeSoFar) (brought : Brought)
    → Brings before nodes lines judge cutter left rose (Ok brought) → KeepsBrought mid brought now (Ok false) → mid.judge ≡ judge
    → now.bytes ≤ most_bytes → IsGoing now
going_after before nodes lines judge cutter left rose mid now Line brings keeps same small =
    let is : now.judge ≡ judge = keeps.1.judge ∙ same in
    record {
      judged = rw is (record { nodes = nodes; lines = lines ++ cutter.line ∷ []; judged = brings.1.judged });
      unended = rw is brings.0;
      small = small;
    }
going_after before nodes lines judge cutter left rose mid now (Node node) brings keeps same small =
    let is : now.judge ≡ judge = keeps.1.1.judge ∙ same in
    record {
      judged = rw is (record { nodes = nodes ++ node ∷ []; lines = lines ++ cutter.line ∷ []; judged = brings.1.judged });
      unended = rw is brings.0;
      small = small;
    }
going_after before nodes lines judge cutter left rose mid now End brings keeps same small = absurd cc

-- the nodes, with the one that a line brought
abbrev nodes_with : Brought → List TreeNode → List TreeNode
nodes_with Line nodes = nodes
nodes_with (Node node) nodes = nodes ++ node ∷ []
nodes_with End nodes = nodes

module _ (before : Option (List ℕ)) (old : TreeSoFar) (lines : List (List ℕ)) (held : List ℕ) (left : Option (List ℕ))
    (taken : HasTaken before old lines held left) where
  meets : ArePlayable lines old.nodes.items
  meets = record {
    right = taken.upto.judged.right;
    plain = taken.plain;
    small = subst (λ (n : ℕ). n ≤ most_bytes) taken.bytes taken.small;
    unended = not_whole old.judge.reader.place old.nodes.items lines taken.unended taken.upto.judged.read;
  }

  -- a fault of the next line
  pub fault_due : (then_left : Option (List ℕ)) (rose : Type 0) (fault : Fault)
      → IsFaultDue (AreThese lines old.nodes.items) before then_left rose fault → IsTreeFaultDue before then_left rose fault
  fault_due then_left rose (NoText line) due = due_behind ArePlayable lines old.nodes.items meets before then_left rose (NoText line) due
  fault_due then_left rose (NoNode node) due = due_behind ArePlayable lines old.nodes.items meets before then_left rose (NoNode node) due
  fault_due then_left rose ReadFault due = due_behind ArePlayable lines old.nodes.items meets before then_left rose ReadFault due
  fault_due then_left rose OutOfMemory due = tt
  fault_due then_left rose TooLong due =
      IfSome_then before (due_behind ArePlayable lines old.nodes.items meets before then_left rose TooLong due) (λ input long. inl long)

  module _ (judge : Judge) (cutter : Cutter) (then_left : Option (List ℕ)) (rose : Type 0) where
    -- the node that the line ended is not plain
    no_plain : (node : TreeNode) (k : ℕ)
        → Brings before old.nodes.items lines judge cutter then_left rose (Ok (Node node)) → ¬ IsPlain node
        → k ≡ length old.nodes.items → IfSome before (λ input. IsNoPlain input k)
    no_plain node k brings not_plain count =
        let upto = brings.1 in
        let nodes : List TreeNode = old.nodes.items ++ node ∷ [] in
        says_of before (text_of (lines ++ cutter.line ∷ [])) cutter.held then_left (λ input. IsNoPlain input k) upto.parts
        (λ input rest told parts. record {
          lines = lines;
          last = cutter.line;
          rest = cutter.held ++ rest;
          parts = parts;
          earlier = old.nodes.items;
          node = node;
          ended = ended_in judge.reader.place nodes (lines ++ cutter.line ∷ []) upto.judged.read upto.judged.few;
          meets = meets;
          is_right = right_among old.nodes.items node nodes (record { more = []; same = sym (append-nil nodes) })
              (upto.judged.right (length old.nodes.items));
          not_plain = not_plain;
          count = count;
        })

    -- what became of what the line brought, where that is a refusal
    pub keep_due : (mid now : TreeSoFar) (brought : Brought) (refusal : Refusal) → mid.nodes.items ≡ old.nodes.items
        → Brings before old.nodes.items lines judge cutter then_left rose (Ok brought) → KeepsBrought mid brought now (Err refusal)
        → IsDue before then_left rose refusal
    keep_due mid now Line refusal same brings keeps = absurd cc
    keep_due mid now (Node node) (NoPlain k) same brings keeps =
        no_plain node k brings keeps.0 (keeps.1 ∙ ap length same)
    keep_due mid now (Node node) (NoTree fault) same brings keeps =
        subst (λ (f : Fault). IsTreeFaultDue before then_left rose f) (sym keeps) tt
    keep_due mid now End refusal same brings keeps = absurd cc

    -- what was judged with the line
    brought_upto : (brought : Brought) → Brings before old.nodes.items lines judge cutter then_left rose (Ok brought)
        → JudgedUpTo before judge (nodes_with brought old.nodes.items) (lines ++ cutter.line ∷ []) cutter.held then_left
    brought_upto Line brings = brings.1
    brought_upto (Node node) brings = brings.1
    brought_upto End brings = brings.1

    -- what was kept with it
    kept_nodes : (mid now : TreeSoFar) (brought : Brought) (ended : Bool) → KeepsBrought mid brought now (Ok ended)
        → HasNodes mid now (nodes_with brought mid.nodes.items)
    kept_nodes mid now Line ended keeps = keeps.1
    kept_nodes mid now (Node node) ended keeps = keeps.1.1
    kept_nodes mid now End ended keeps = keeps.1

    kept_plain : (mid now : TreeSoFar) (brought : Brought) (ended : Bool) → KeepsBrought mid brought now (Ok ended)
        → ArePlain (nodes_with brought old.nodes.items)
    kept_plain mid now Line ended keeps = taken.plain
    kept_plain mid now (Node node) ended keeps = All-push IsPlain old.nodes.items node taken.plain keeps.1.0
    kept_plain mid now End ended keeps = taken.plain

    module _ (mid now : TreeSoFar) (brought : Brought) (ended : Bool) (same_judge : mid.judge ≡ judge)
        (same_nodes : mid.nodes.items ≡ old.nodes.items) (counts : mid.bytes ≡ old.bytes + (length cutter.line + 1))
        (brings : Brings before old.nodes.items lines judge cutter then_left rose (Ok brought))
        (keeps : KeepsBrought mid brought now (Ok ended)) where
      bytes_now : now.bytes ≡ length (text_of (lines ++ cutter.line ∷ []))
      bytes_now = (kept_nodes mid now brought ended keeps).bytes ∙ counts ∙ ap (λ (n : ℕ). n + (length cutter.line + 1)) taken.bytes
          ∙ sym (length-text_of-push lines cutter.line)

      items_now : now.nodes.items ≡ nodes_with brought old.nodes.items
      items_now = (kept_nodes mid now brought ended keeps).items ∙ ap (nodes_with brought) same_nodes

      upto_now : JudgedUpTo before now.judge now.nodes.items (lines ++ cutter.line ∷ []) cutter.held then_left
      upto_now =
          let judged : now.judge ≡ judge = (kept_nodes mid now brought ended keeps).judge ∙ same_judge in
          subst (λ (j : Judge). JudgedUpTo before j now.nodes.items (lines ++ cutter.line ∷ []) cutter.held then_left) (sym judged)
          (subst (λ (ns : List TreeNode). JudgedUpTo before judge ns (lines ++ cutter.line ∷ []) cutter.held then_left) (sym items_now)
          (brought_upto brought brings))

      plain_now : ArePlain now.nodes.items
      plain_now = subst ArePlain (sym items_now) (kept_plain mid now brought ended keeps)

      -- with the line the text is too large
      pub too_large : most_bytes < now.bytes → IfSome before (λ input. IsLong ArePlayable input ⊎ IsTooLarge input)
      too_large large =
          let upto = upto_now in
          says_of before (text_of (lines ++ cutter.line ∷ [])) cutter.held then_left
          (λ input. IsLong ArePlayable input ⊎ IsTooLarge input) upto.parts
          (λ input rest told parts. inr (record {
            lines = lines;
            last = cutter.line;
            rest = cutter.held ++ rest;
            parts = parts;
            nodes = now.nodes.items;
            ended = ended_in now.judge.reader.place now.nodes.items (lines ++ cutter.line ∷ []) upto.judged.read upto.judged.few;
            right = upto.judged.right;
            plain = plain_now;
            small = meets.small;
            unended = meets.unended;
            large = subst (λ (n : ℕ). most_bytes < n) bytes_now large;
          }))

      -- more lines are to come
      pub taken_more : now.bytes ≤ most_bytes → ¬ HasReadAll now.judge
          → HasTaken before now (lines ++ cutter.line ∷ []) cutter.held then_left
      taken_more small unended =
          record { upto = upto_now; plain = plain_now; bytes = bytes_now; small = small; unended = unended }

      -- it was the last line
      pub whole_tree : now.bytes ≤ most_bytes → HasReadAll now.judge → HasReadTree before now.nodes.items cutter.held then_left
      whole_tree small all =
          let upto = upto_now in
          let are : Stands (After all.0) now.nodes.items (lines ++ cutter.line ∷ []) =
          subst (λ (p : Place). Stands p now.nodes.items (lines ++ cutter.line ∷ [])) all.1 upto.judged.read in
          let some : now.nodes.items ≢ [] = λ none. push-some are.1.root.last.front are.1.root.root (sym are.1.root.last.same ∙ none) in
          record {
            text = text_of (lines ++ cutter.line ∷ []);
            is = record {
              is_text = record {
                preamble = all.0;
                winner = are.0;
                lines = lines ++ cutter.line ∷ [];
                are = are.1;
                same = refl;
              };
              valid = valid_tree now.nodes.items some upto.judged.right;
              plain = plain_now;
              few = upto.judged.few;
              small = subst (λ (n : ℕ). n ≤ most_bytes) bytes_now small;
            };
            parts = upto.parts;
          }

      -- whether it was the last line is what was said
      ends_all : (b : Brought) → Brings before old.nodes.items lines judge cutter then_left rose (Ok b)
          → KeepsBrought mid b now (Ok true) → HasReadAll judge
      ends_all Line brings keeps = absurd cc
      ends_all (Node node) brings keeps = absurd cc
      ends_all End brings keeps = brings.0

      unended_by : (b : Brought) → Brings before old.nodes.items lines judge cutter then_left rose (Ok b)
          → KeepsBrought mid b now (Ok false) → ¬ HasReadAll judge
      unended_by Line brings keeps = brings.0
      unended_by (Node node) brings keeps = brings.0
      unended_by End brings keeps = absurd cc

      judge_now : now.judge ≡ judge
      judge_now = (kept_nodes mid now brought ended keeps).judge ∙ same_judge

      takes_by : (e : Bool) → ended ≡ e → now.bytes ≤ most_bytes → Takes before lines now cutter then_left rose (Ok e)
      takes_by true is small = whole_tree small (subst HasReadAll (sym judge_now)
          (ends_all brought brings (subst (λ (e : Bool). KeepsBrought mid brought now (Ok e)) is keeps)))
      takes_by false is small = taken_more small (subst (λ (j : Judge). ¬ HasReadAll j) (sym judge_now)
          (unended_by brought brings (subst (λ (e : Bool). KeepsBrought mid brought now (Ok e)) is keeps)))

      pub takes : now.bytes ≤ most_bytes → Takes before lines now cutter then_left rose (Ok ended)
      takes small = takes_by ended refl small

-- a refusal that is due is due when more reads have failed
pub due_later : (before after : Option (List ℕ)) (rose then_rose : Type 0) (refusal : Refusal) → (rose → then_rose)
    → IsDue before after rose refusal → IsDue before after then_rose refusal
due_later before after rose then_rose (NoPlain k) more due = due
due_later before after rose then_rose (NoTree (NoText line)) more due = due
due_later before after rose then_rose (NoTree (NoNode node)) more due = due
due_later before after rose then_rose (NoTree ReadFault) more due = (more due.0, due.1)
due_later before after rose then_rose (NoTree OutOfMemory) more due = tt
due_later before after rose then_rose (NoTree TooLong) more due = due
