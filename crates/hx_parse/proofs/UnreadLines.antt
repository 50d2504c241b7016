-- A text that is read line by line: where it goes on behind one line more, and that a line that is not read is its
-- first faulty one.
use Rattle.std.proofs.Common.{◌≡◌, ◌≢◌, ℕ, List, [], ◌∷◌, ◌++◌, Bor, refl, sym, ap, ◌∙◌, subst, arith, length-append}
use Rattle.std.proofs.lemmas.List.{append-nil}
use Rattle.hx_lex.specs.Marks.{Lacks, IsCut}
use Rattle.hx_lex.proofs.Cuts.{cut_same, Lacks-append_mark}
use Rattle.hx_text.specs.Grammars.{text_of, Begins, IsFaultyLine}
use Rattle.hx_text.proofs.Cuts.{AllLack, Lacks-middle}
use Rattle.hx_text.proofs.LineGrammars.{one_line_on, surplus_is_faulty}
use Rattle.hx_parse.specs.TextLines.{Unread, StandsBehind, TakesLine, LacksLine}

-- no line can be cut off
pub lacks_each : {Holds : List ℕ → Type 0} {unread : Unread} (rest : List ℕ) (number : ℕ) → unread ≡ record { rest = rest; number = number }
    → Lacks 10 rest → LacksLine Holds unread number
lacks_each rest number is lacks = rw is (record {
  named = refl;
  holds = λ line later cut. absurd (Lacks-append_mark 10 line later (subst (Lacks 10) cut.1 lacks));
})

-- this line is the only one that can be
pub lacks_this : {Holds : List ℕ → Type 0} {unread : Unread} (rest : List ℕ) (number : ℕ) (line later : List ℕ)
    → unread ≡ record { rest = rest; number = number } → IsCut 10 rest line later → Holds line → LacksLine Holds unread number
lacks_this {Holds} rest number line later is cut holds = rw is (record {
  named = refl;
  holds = λ other more again. subst Holds (cut_same 10 line other later more cut.0 again.0 (sym cut.1 ∙ again.1)) holds;
})

pub stands_first : (unread : Unread) → unread.number ≡ 1 → StandsBehind unread.rest [] unread
unfolding text_of
stands_first unread first = record { parts = refl; number = first }

-- nothing is left
pub stands_whole : {text : List ℕ} {lines : List (List ℕ)} {unread : Unread} → StandsBehind text lines unread → unread.rest ≡ []
    → text ≡ text_of lines
stands_whole {text} {lines} {unread} stands none =
    stands.parts ∙ ap (λ (bytes : List ℕ). text_of lines ++ bytes) none ∙ append-nil (text_of lines)

-- a reader was given this line, and this was met
abbrev pub GivenLine : (Bor (List ℕ) → Type 0) → List ℕ → Type 0
GivenLine Met line = (given : Bor (List ℕ)) × Met given × (given.now ≡ line)

-- one line more was read, and is spelled so
pub stands_on : {Met : Bor (List ℕ) → Type 0} {text : List ℕ} {before : List (List ℕ)} {old new : Unread} → StandsBehind text before old
    → TakesLine (λ next. GivenLine Met next) old new → (line : List ℕ) → ((given : Bor (List ℕ)) → Met given → given.now ≡ line)
    → StandsBehind text (before ++ line ∷ []) new
stands_on {Met} {text} {before} {old} {new} stands takes line says =
    let is : takes.line ≡ line = sym takes.holds.2 ∙ says takes.holds.0 takes.holds.1 in record {
      parts = stands.parts ∙ sym (one_line_on before old.rest takes.line line new.rest takes.cut is);
      number = omega (arith, takes.counted, stands.number, length-append before (line ∷ []));
    }

-- what the reader says where it reads no line
pub refuses : {Met : Bor (List ℕ) → Type 0} {unread : Unread} {number : ℕ} → LacksLine (λ next. GivenLine Met next) unread number
    → (Refused : List ℕ → Type 0) → ((given : Bor (List ℕ)) → Met given → Refused given.now) → LacksLine Refused unread number
refuses lacks Refused says = record {
  named = lacks.named;
  holds = λ line later cut. let met = lacks.holds line later cut in subst Refused met.2 (says met.0 met.1);
}

module _ (grammar : List (List ℕ) → Type 0) (lack : (lines : List (List ℕ)) → grammar lines → AllLack lines) where
  -- The lines before the next one begin a text, and it goes on with no line that the next one may be.
  pub lacking_is_faulty : {Holds : List ℕ → Type 0} {bytes : List ℕ} {before : List (List ℕ)} {unread : Unread} {line : ℕ}
      → StandsBehind bytes before unread → LacksLine Holds unread line → Begins grammar before → (grammar before → ⊥)
      → ((next : List ℕ) → Holds next → Begins grammar (before ++ next ∷ []) → ⊥) → IsFaultyLine grammar bytes line
  lacking_is_faulty {Holds} {bytes} {before} {unread} {line} stands lacks begins partial other = record {
    before = before;
    rest = unread.rest;
    parts = stands.parts;
    place = lacks.named ∙ stands.number;
    right = begins;
    wrong = λ next more e b.
        let plain : Lacks 10 next = Lacks-middle before next b.0 (lack ((before ++ next ∷ []) ++ b.0) b.1) in
        other next (lacks.holds next more (plain, e)) b;
    not_whole = λ e are. partial are;
  }

  -- something follows a whole text
  pub surplus_line_is_faulty : {bytes : List ℕ} {before : List (List ℕ)} {unread : Unread} {line : ℕ} → StandsBehind bytes before unread
      → unread.rest ≢ [] → line ≡ unread.number → Begins grammar before → ((next : List ℕ) → Begins grammar (before ++ next ∷ []) → ⊥)
      → IsFaultyLine grammar bytes line
  surplus_line_is_faulty {bytes} {before} {unread} {line} stands some named begins none =
      surplus_is_faulty grammar lack bytes before unread.rest line stands.parts (named ∙ stands.number) begins some none
