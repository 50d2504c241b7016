-- A play and its taking back, and a link more between them.
--
-- After a play the rings hold what is live after it, and to put back what it dropped gives the rings before it. A link
-- more can be cut off again, which gives the same rings, so it does not change what was before a play.
use Rattle.std.proofs.lemmas.List.{take_all, take-append-le, reverse-reverse, length-set, get_or_push}
use Rattle.std.proofs.lemmas.Option.{slice_get_within}
use Rattle.std.proofs.Common.{◌≡◌, ℕ, suc, get_or, set, length-append, ◌-◌, ◌+◌, ◌<◌, ◌≤◌, List, [], ◌∷◌, ◌++◌, length, take, drop, reverse}
use Rattle.std.proofs.Common.{refl, sym, ap, ◌∙◌, subst, inl, inr, ⊎_elim, arith, eqb}
use Rattle.hx_board.specs.declared.colours.Colour.{Colour}
use Rattle.hx_board.specs.Positions.{Board}
use Rattle.hx_board.proofs.ListLaws.{get-push}
use Rattle.hx_link.specs.declared.links.Link.{Link}
use Rattle.hx_linkset.specs.declared.plays.Stage.{Stage}
use Rattle.hx_linkset.specs.States.{IsLive}
use Rattle.hx_linkset.specs.Rings.{Rings, cut, grown, IsInside}
use Rattle.hx_linkset.specs.Held.{head_of, IsKeptBelow, IsIn, IsPassed, IsLiveThere, AreLiveOrLogged}
use Rattle.hx_linkset.specs.History.{cut_times, rings_before, HoldsLive, CanCut, CanUndo, HasDropped, HasHistory}
use Rattle.hx_linkset.proofs.RingLaws.{cut-grown}
use Rattle.hx_linkset.proofs.LogLaws.{log-less, log-more}
use Rattle.hx_linkset.proofs.PassLaws.{rings-same, linked-small, hold-grown}
use Rattle.hx_linkset.proofs.DroppedLaws.{in-front, in-back, any-reverse, dropped-reverse}

drop-front : (xs ys : List ℕ) → drop (length xs) (xs ++ ys) ≡ ys
drop-front [] ys = refl
drop-front (x ∷ xs) ys = drop-front xs ys

take-front : (xs ys : List ℕ) → take (length xs) (xs ++ ys) ≡ xs
take-front [] ys = refl
take-front (x ∷ xs) ys = ap (λ (zs : List ℕ). x ∷ zs) (take-front xs ys)

pub holds-now : (player : Colour) (board : Board) (links : List Link) (rings : Rings) (log : List ℕ) (plays : List Stage)
    → HasHistory player board links rings log plays → HoldsLive player board links rings log
holds-now player board links rings log [] h = h
holds-now player board links rings log (p ∷ ps) h = h.0

module _ (links : List Link) (before after : Board) (player : Colour) (old new : Rings) (log log' : List ℕ)
    (p : IsPassed links before after player (length links) old new log log')
    (fewer : (link : Link) → IsLive after player link → IsLive before player link) (was : AreLiveOrLogged before player links log) where
  -- what the pass leaves is what is live after the play
  passed-live : HoldsLive player after links new log'
  passed-live = record {
    hold = record {
      rings_ok = rings-same _ _ _ _ _
          (λ v k. ⊎_elim inl (λ w. inr (w.0, (w.1.0, (w.1.1.0, (w.1.1.1.0, w.1.1.1.1.1 (slice_get_within links w.0 w.1.0 w.1.1.1.0)))))) k)
          (λ v k. ⊎_elim inl (λ w. inr (w.0, (w.1.0, (w.1.1.0, (w.1.1.1.0, kept w.0 w.1.0 w.1.1.1.1))))) k)
          p.hold.rings_ok;
      next_long = p.hold.next_long;
      previous_long = p.hold.previous_long;
    };
    log_ok = log-less links (IsKeptBelow before after player (length links)) (IsLiveThere after player) kept log' p.log_ok;
    others_live = λ place link there. ⊎_elim
        (λ live. ⊎_elim inl (λ k. inr (logged place (in-back log (reverse p.dropped) place (any-reverse (eqb place) p.dropped ∙ k))))
        (p.all_dropped.all place link there (slice_get_within links place link there) live))
        (λ k. inr (logged place (in-front log (reverse p.dropped) place k)))
        (was place link there);
  }
    where
      logged : (place : ℕ) → IsIn (log ++ reverse p.dropped) place → IsIn log' place
      logged place k = let P : List ℕ → Type 0 = λ xs. IsIn xs place in subst P (sym p.logged) k

      kept : (place : ℕ) (link : Link) → IsLive after player link → IsKeptBelow before after player (length links) place link
      kept place link live = (fewer link live, λ lt. live)

  since-is : drop (length log) log' ≡ reverse p.dropped
  since-is = ap (λ (xs : List ℕ). drop (length log) xs) p.logged ∙ drop-front log (reverse p.dropped)

  dropped-is : reverse (drop (length log) log') ≡ p.dropped
  dropped-is = ap (reverse {A = ℕ}) since-is ∙ reverse-reverse p.dropped

  none_new : length links - length links ≡ 0
  none_new = omega arith

  all_links : take (length links) links ≡ links
  all_links = take_all (length links) links (let le : length links ≤ length links = omega arith in le)

  abbrev play : Stage
  play = record { position = before; count = length links; logged = length log }

  can_undo : CanUndo links new log' play
  can_undo = record {
    fits = omega (arith, ap (length {A = ℕ}) p.logged, length-append log (reverse p.dropped));
    cuts = let P : ℕ → Type 0 = λ n. CanCut n new in subst P (sym none_new) tt;
    relinks = rw (none_new, dropped-is) p.can;
  }

  has_dropped : HasDropped player (take (length links) links) before after (drop (length log) log')
  has_dropped = record {
    fewer = fewer;
    all_dropped = rw (all_links, since-is) (dropped-reverse links before after player (length links) p.dropped p.all_dropped);
  }

  pub history-played : (plays : List Stage) → HasHistory player before links old log plays
      → HasHistory player after links new log' (play ∷ plays)
  history-played plays h = (passed-live, (can_undo, (has_dropped, earlier)))
    where
      rings_are : rings_before new links log' play ≡ old
      rings_are = rw (none_new, dropped-is) p.back

      log_is : take (length log) log' ≡ log
      log_is = ap (λ (xs : List ℕ). take (length log) xs) p.logged ∙ take-front log (reverse p.dropped)

      earlier : HasHistory player before (take (length links) links) (rings_before new links log' play) (take (length log) log') plays
      earlier = rw (all_links, rings_are, log_is) h

-- before the last play there were no more links than there are
abbrev pub LastFits : List Link → List Stage → Type 0
LastFits links [] = Unit {0}
LastFits links (play ∷ plays) = play.count ≤ length links

module _ (links : List Link) (board : Board) (player : Colour) (rings : Rings) (log : List ℕ) (now : HoldsLive player board links rings log)
    (link : Link) (live : IsLive board player link) (small : head_of link < 30258) where
  abbrev more : List Link
  more = links ++ link ∷ []

  abbrev head : ℕ
  head = head_of link

  abbrev last : ℕ
  last = get_or rings.previous head 0

  last_less : last < 30258 + length links
  last_less = linked-small links (IsLiveThere board player) _ (now.hold.rings_ok.previous_linked head (inl small))

  as_long : length rings.previous ≡ length rings.next
  as_long = now.hold.previous_long ∙ sym now.hold.next_long

  pub head-inside : IsInside rings head
  head-inside = record {
    as_long = as_long;
    small = omega (arith, small, now.hold.next_long);
    before_inside = omega (arith, last_less, now.hold.next_long);
    after_inside = omega (
      arith,
      linked-small links (IsLiveThere board player) _ (now.hold.rings_ok.next_linked head (inl small)),
      now.hold.next_long,
    );
  }

  again : cut (grown rings head) ≡ rings
  again = cut-grown rings head as_long (omega (arith, small, now.hold.next_long)) (omega (arith, last_less, now.hold.next_long))
      (now.hold.rings_ok.forth head (inl small))

  longer : length (set rings.next last (length rings.next) ++ head ∷ []) ≡ length rings.next + 1
  longer = omega (
    arith,
    length-append (set rings.next last (length rings.next)) (head ∷ []),
    length-set rings.next last (length rings.next),
  )

  longer' : length (set rings.previous head (length rings.next) ++ last ∷ []) ≡ length rings.next + 1
  longer' = omega (
    arith,
    length-append (set rings.previous head (length rings.next)) (last ∷ []),
    length-set rings.previous head (length rings.next),
    as_long,
  )

  new-inside : IsInside (grown rings head) (length (grown rings head).next - 1)
  new-inside =
      let at : length (set rings.next last (length rings.next)) ≡ length (grown rings head).next - 1 =
      omega (arith, longer, length-set rings.next last (length rings.next)) in
      let at' : length (set rings.previous head (length rings.next)) ≡ length (grown rings head).next - 1 =
      omega (arith, longer, length-set rings.previous head (length rings.next), as_long) in
      record {
        as_long = longer' ∙ sym longer;
        small = omega (arith, longer);
        before_inside = omega
            (arith, get_or_push (set rings.previous head (length rings.next)) last 0 _ at', longer, last_less, now.hold.next_long);
        after_inside = omega (arith, get_or_push (set rings.next last (length rings.next)) head 0 _ at, longer, small, now.hold.next_long);
      }

  more-live : HoldsLive player board more (grown rings head) log
  more-live = record {
    hold = hold-grown links board player rings now.hold link live small;
    log_ok = log-more links (IsLiveThere board player) log link now.log_ok;
    others_live = λ place l there. ⊎_elim
        (λ old. now.others_live place l old)
        (λ new. let P : Link → Type 0 = λ x. IsLive board player x in inl (subst P (sym new.1) live))
        (get-push links link l place there);
  }

  pub history-added : (plays : List Stage) → LastFits links plays → HasHistory player board links rings log plays
      → HasHistory player board more (grown rings head) log plays
  history-added [] fits h = more-live
  history-added (p ∷ ps) fits h =
      let one : length more - p.count ≡ suc (length links - p.count) = omega (arith, length-append links (link ∷ []), fits) in
      let cuts : cut_times (length more - p.count) (grown rings head) ≡ cut_times (length links - p.count) rings =
      ap (λ n. cut_times n (grown rings head)) one ∙ ap (λ (r : Rings). cut_times (length links - p.count) r) again in
      let front : take p.count more ≡ take p.count links = take-append-le p.count links (link ∷ []) fits in
      let C : Rings → Type 0 = λ r. CanCut (length links - p.count) r in
      let N : ℕ → Type 0 = λ n. CanCut n (grown rings head) in
      let can : CanUndo more (grown rings head) log p = record {
        fits = h.1.0.fits;
        cuts = subst N (sym one) (new-inside, subst C (sym again) h.1.0.cuts);
        relinks = rw cuts h.1.0.relinks;
      } in
      (more-live, (can, (rw front h.1.1.0, rw (cuts, front) h.1.1.1)))
