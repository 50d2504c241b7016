use Rattle.std.proofs.Common.{◌≡◌, Bool, true, false, refl, sym, ap, ◌∙◌, string_bytes}
use Rattle.std.specs.Prelude.{not}
use Rattle.std.specs.Cmp.Lexicographic.{same_text, other_text}
use Rattle.hx_cli.specs.Words.{words_of}
use Rattle.hx_cli.proofs.SearchWords.{no_search-other_word, no_search-behind, flag-stands}
use Rattle.hx_cli.proofs.searches.search_in.Goals as goal

not_true : (b : Bool) → true ≡ not b → false ≡ b
not_true true e = cc
not_true false e = refl

not_false : (b : Bool) → false ≡ not b → true ≡ b
not_false true e = refl
not_false false e = cc

pub returns-then-ne : goal.returns-then-ne
returns-then-ne c = λ found.
    no_search-other_word (words_of c.args.words.now) (string_bytes c.in-Some.word.now) (words_of c.in-Some.behind.now)
    (words_of c.in_ok-before.rest.now) c.in_ok-before.before (rw c.nothing.ensures at c.in_ok-before.ensures)
    (ap words_of c.in-Some.ensures.cases.0)
    (λ is. other_text _ _ (not_true _ c.if-ne.ensures) (c.as_str.ensures.value ∙ is)) found.1 found.0

pub returns-in_err-settings : goal.returns-in_err-settings
returns-in_err-settings c =
    rw c.from_residual-in_err-settings.ensures
    (λ found. no_search-behind (words_of c.args.words.now) (string_bytes c.in-Some.word.now) (words_of c.in-Some.behind.now)
    (words_of c.in_ok-before.rest.now) c.in_ok-before.before (rw c.nothing.ensures at c.in_ok-before.ensures)
    (ap words_of c.in-Some.ensures.cases.0) c.in_err-settings.ensures found.1 found.0)

pub returns : goal.returns
returns c =
    flag-stands (words_of c.args.words.now) (string_bytes c.in-Some.word.now) (words_of c.in-Some.behind.now)
    (words_of c.in_ok-before.rest.now) c.in_ok-before.before c.in_ok-settings.settings
    (rw c.nothing.ensures at c.in_ok-before.ensures)
    (ap words_of c.in-Some.ensures.cases.0)
    (sym c.as_str.ensures.value ∙ same_text _ _ (not_false _ c.if-ne.ensures)) c.in_ok-settings.ensures
