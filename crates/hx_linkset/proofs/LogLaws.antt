-- The log of the links that are out. It names each once, so it has no more places than there are links, and a log with
-- room for as many as a set may hold never grows.
use Rattle.std.proofs.lemmas.Bool.{false≢true, false_from_ne_true, or_cases}
use Rattle.std.proofs.lemmas.Cmp.{nat_eq_equiv}
use Rattle.std.proofs.lemmas.List.Folds.{list_any-append}
use Rattle.std.proofs.lemmas.Map.Keys.{IsDistinct-push}
use Rattle.std.proofs.lemmas.Map.Steps.{length-le_from_distinct_below}
use Rattle.std.proofs.lemmas.Option.{slice_get_within, same_Some}
use Rattle.std.proofs.Common.{◌≡◌, ℕ, ◌<◌, ◌≤◌, true, false, List, [], ◌∷◌, ◌++◌, length, sym, ◌∙◌, subst, inl, inr, Some, ◌⊎◌, ⊎_elim}
use Rattle.std.proofs.Common.{arith, length-append, eqb, eqb-true}
use Rattle.std.specs.Prelude.{slice_get}
use Rattle.std.specs.List.{list_any, IsDistinct}
use Rattle.hx_link.specs.declared.links.Link.{Link}
use Rattle.hx_linkset.specs.Held.{IsOut, LogHolds}
use Rattle.hx_board.proofs.ListLaws.{get-push}

none_distinct : IsDistinct eqb []
unfolding IsDistinct
none_distinct = tt

module _ (links : List Link) (Has : ℕ → Link → Type 0) where
  pub log-none : LogHolds links Has []
  log-none = record { distinct = none_distinct; out = λ place h. absurd (false≢true h) }

  pub log-room : (log : List ℕ) → LogHolds links Has log → length log ≤ length links
  log-room log h = length-le_from_distinct_below log (length links) h.distinct (λ q there. (h.out q there).inside)

  module _ (Less : ℕ → Link → Type 0) (less : (place : ℕ) (link : Link) → Less place link → Has place link) where
    less_out : (place : ℕ) → IsOut links Has place → IsOut links Less place
    less_out place o = record { inside = o.inside; lacks = λ link there h. o.lacks link there (less place link h) }

    pub log-less : (log : List ℕ) → LogHolds links Has log → LogHolds links Less log
    log-less log h = record { distinct = h.distinct; out = λ place there. less_out place (h.out place there) }

    module _ (log : List ℕ) (h : LogHolds links Has log) (place : ℕ) (link : Link) (there : slice_get links place ≡ Some link)
        (has : Has place link) (lacks : Less place link → ⊥) where
      not_logged : list_any (eqb place) log ≡ false
      not_logged = false_from_ne_true _ (λ k. (h.out place k).lacks link there has)

      place_out : IsOut links Less place
      place_out = record {
        inside = slice_get_within links place link there;
        lacks = λ l there' less_has. let same : l ≡ link = same_Some l link (sym there' ∙ there) in let P : Link → Type 0 = λ x.
            Less place x in lacks (subst P same less_has);
      }

      either : (q : ℕ) → (list_any (eqb q) log ≡ true) ⊎ (list_any (eqb q) (place ∷ []) ≡ true) → IsOut links Less q
      either q (inl k) = less_out q (h.out q k)
      either q (inr k) = ⊎_elim
          (λ e. let P : ℕ → Type 0 = λ n. IsOut links Less n in subst P (sym (eqb-true q place e)) place_out)
          (λ none. absurd (false≢true none))
          (or_cases (eqb q place) false k)

      -- a link more that is out
      pub log-push : LogHolds links Less (log ++ place ∷ [])
      log-push = record {
        distinct = IsDistinct-push nat_eq_equiv log place h.distinct not_logged;
        out = λ q k. either q (or_cases _ _ (sym (list_any-append (eqb q) log (place ∷ [])) ∙ k));
      }

-- there is room for a link that is not out yet
pub log-room_more : (links : List Link) (Has : ℕ → Link → Type 0) (log : List ℕ) → LogHolds links Has log → (place : ℕ) (link : Link)
    → slice_get links place ≡ Some link → Has place link → length log < length links
log-room_more links Has log h place link there has =
    let Less : ℕ → Link → Type 0 = λ n l. ⊥ in
    let more : LogHolds links Less (log ++ place ∷ []) =
    log-push links Has Less (λ n l no. absurd no) log h place link there has (λ no. no) in
    omega (arith, log-room links Less (log ++ place ∷ []) more, length-append log (place ∷ []))

-- a link more that is held
pub log-more : (links : List Link) (Has : ℕ → Link → Type 0) (log : List ℕ) (link : Link) → LogHolds links Has log
    → LogHolds (links ++ link ∷ []) Has log
log-more links Has log link h = record {
  distinct = h.distinct;
  out = λ place k. let o = h.out place k in record {
    inside = omega (arith, o.inside, length-append links (link ∷ []));
    lacks = λ l there has. ⊎_elim (λ w. o.lacks l w has) (λ w. absurd (omega (arith, w.0, o.inside))) (get-push links link l place there);
  };
}
