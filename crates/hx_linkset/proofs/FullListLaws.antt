-- The lists of the Full links at each vertex, as a link comes after all others and as the last one goes.
use Rattle.std.proofs.Common.{◌≡◌, ◌≢◌, ℕ, zero, suc, ◌+◌, ◌-◌, ◌<◌, Bool, true, false, List, [], ◌∷◌, ◌++◌, length, get_or, set, take}
use Rattle.std.proofs.Common.{refl, sym, ap, ◌∙◌, subst, ⊎_elim, arith, eq-eqb, eqb-true, append_assoc, get_or-set_other}
use Rattle.std.proofs.lemmas.Bool.{cases_eq, false≢true, false_from_ne_true}
use Rattle.std.proofs.lemmas.List.{append-nil, length-set, length_push, map-set, get_or-map}
use Rattle.std.proofs.lemmas.Grind.{get_or-set_at}
use Rattle.std.proofs.Math.Seq.{take-append_seam}
use Rattle.std.specs.Prelude.{nat_eq, Vec}
use Rattle.std.specs.declared.alloc.Global.{Global}
use Rattle.hx_board.specs.declared.vertices.Vertex.{Vertex}
use Rattle.hx_board.specs.VertexSets.{code_of, IsSomeVertex}
use Rattle.hx_board.proofs.ListLaws.{get-push, get-push_before}
use Rattle.hx_board.proofs.VertexSetLaws.{code-small}
use Rattle.hx_link.specs.declared.links.Kind.{Kind}
use Rattle.hx_link.specs.declared.links.Kind.TheVariants.{Full, Semi}
use Rattle.hx_link.specs.declared.links.Link.{Link}
use Rattle.hx_linkset.specs.declared.fulls.FullLink.{FullLink}
use Rattle.hx_linkset.specs.Fulls.{seen_by, seen_from, fulls_from, fulls_of, AreFullLists, contents_of, without_last}

-- ---- what is seen of a link from a vertex

by_first : (kind : Kind) (p q : Bool) (place : ℕ) (link : Link) → kind ≡ Full → p ≡ true
    → seen_by kind p q place link ≡ record { index = place; to = link.b; carrier = link.carrier } ∷ []
by_first Full true q place link e f = refl
by_first Full false q place link e f = absurd (false≢true f)
by_first Semi p q place link e f = cc

by_second : (kind : Kind) (p q : Bool) (place : ℕ) (link : Link) → kind ≡ Full → p ≡ false → q ≡ true
    → seen_by kind p q place link ≡ record { index = place; to = link.a; carrier = link.carrier } ∷ []
by_second Full true q place link e f g = absurd (false≢true (sym f))
by_second Full false true place link e f g = refl
by_second Full false false place link e f g = absurd (false≢true g)
by_second Semi p q place link e f g = cc

by_none : (kind : Kind) (p q : Bool) (place : ℕ) (link : Link) → p ≡ false → q ≡ false → seen_by kind p q place link ≡ []
by_none Full true q place link f g = absurd (false≢true (sym f))
by_none Full false true place link f g = absurd (false≢true (sym g))
by_none Full false false place link f g = refl
by_none Semi p q place link f g = refl

by_semi : (kind : Kind) (p q : Bool) (place : ℕ) (link : Link) → kind ≡ Semi → seen_by kind p q place link ≡ []
by_semi Full p q place link e = cc
by_semi Semi p q place link e = refl

not_eqb : (a b : ℕ) → a ≢ b → nat_eq a b ≡ false
not_eqb a b ne = false_from_ne_true (nat_eq a b) (λ e. ne (eqb-true a b e))

module _ (code place : ℕ) (link : Link) where
  seen-first : link.kind ≡ Full → code_of link.a ≡ code
      → seen_from code place link ≡ record { index = place; to = link.b; carrier = link.carrier } ∷ []
  seen-first full e = by_first link.kind _ _ place link full (eq-eqb (code_of link.a) code e)

  seen-second : link.kind ≡ Full → code_of link.a ≢ code → code_of link.b ≡ code
      → seen_from code place link ≡ record { index = place; to = link.a; carrier = link.carrier } ∷ []
  seen-second full ne e = by_second link.kind _ _ place link full (not_eqb (code_of link.a) code ne) (eq-eqb (code_of link.b) code e)

  seen-none : code_of link.a ≢ code → code_of link.b ≢ code → seen_from code place link ≡ []
  seen-none ne ne' = by_none link.kind _ _ place link (not_eqb (code_of link.a) code ne) (not_eqb (code_of link.b) code ne')

  seen-semi : link.kind ≡ Semi → seen_from code place link ≡ []
  seen-semi semi = by_semi link.kind _ _ place link semi

-- ---- a link more

fulls-push : (code place : ℕ) (links : List Link) (link : Link) → fulls_from code place (links ++ link ∷ []) ≡ fulls_from code place links
    ++ seen_from code (place + length links) link
fulls-push code place [] link = append-nil (seen_from code place link) ∙ ap (λ (n : ℕ). seen_from code n link) (omega arith)
fulls-push code place (first ∷ links) link =
    let later : (place + 1) + length links ≡ place + length (first ∷ links) = omega arith in
    ap (λ (fulls : List FullLink). seen_from code place first ++ fulls)
    (fulls-push code (place + 1) links link ∙ ap (λ (n : ℕ). fulls_from code (place + 1) links ++ seen_from code n link) later)
    ∙ sym (append_assoc (seen_from code place first) (fulls_from code (place + 1) links)
    (seen_from code (place + length (first ∷ links)) link))

fulls-more : (code : ℕ) (links : List Link) (link : Link) → fulls_from code 0 (links ++ link ∷ []) ≡ fulls_from code 0 links
    ++ seen_from code (length links) link
fulls-more code links link = fulls-push code 0 links link ∙ ap (λ (n : ℕ). fulls_from code 0 links ++ seen_from code n link) (omega arith)

without_last-push : (fulls : List FullLink) (full : FullLink) → without_last (fulls ++ full ∷ []) ≡ fulls
without_last-push fulls full =
    let long : length (fulls ++ full ∷ []) - 1 ≡ length fulls = omega (arith, length_push fulls full) in
    ap (λ (n : ℕ). take n (fulls ++ full ∷ [])) long ∙ take-append_seam fulls (full ∷ [])

-- ---- a list among the others

-- one list is written, and so it is seen
pub contents-written : (lists : List (Vec FullLink Global)) (seen : List (List FullLink)) (code : ℕ) (old new : Vec FullLink Global)
    (change : List FullLink → List FullLink)
    → contents_of lists ≡ seen → code < length lists → old ≡ get_or lists code old → new.items ≡ change old.items
    → contents_of (set lists code new) ≡ set seen code (change (get_or seen code []))
contents-written lists seen code old new change is inside read written =
    let items : Vec FullLink Global → List FullLink = λ list. list.items in
    let P : List (List FullLink) → Type 0 = λ s. contents_of (set lists code new) ≡ set s code (change (get_or s code [])) in
    let before : get_or (contents_of lists) code [] ≡ old.items = get_or-map items lists code old [] inside ∙ ap items (sym read) in
    subst P is (map-set items lists code new
    ∙ ap (λ (list : List FullLink). set (contents_of lists) code list) (written ∙ ap change (sym before)))

-- ---- the lists of all vertices

-- the entry of a link that has this other end
abbrev entry_to : ℕ → Link → Vertex → FullLink
entry_to index link to = record { index = index; to = to; carrier = link.carrier }

-- an entry is put at the end of the list at a code
abbrev pushed : List (List FullLink) → ℕ → FullLink → List (List FullLink)
pushed lists code full = set lists code (get_or lists code [] ++ full ∷ [])

-- the last entry of the list at a code is taken away
abbrev popped : List (List FullLink) → ℕ → List (List FullLink)
popped lists code = set lists code (without_last (get_or lists code []))

-- an entry that was put at the end of a list is taken away again
pub pushed-back : (lists : List (List FullLink)) (code : ℕ) (full : FullLink) → popped (pushed lists code full) code ≡ lists
pushed-back [] code full = refl
pushed-back (list ∷ lists) zero full = ap (λ (l : List FullLink). l ∷ lists) (without_last-push list full)
pushed-back (list ∷ lists) (suc code) full = ap (λ (ls : List (List FullLink)). list ∷ ls) (pushed-back lists code full)

module _ (links : List Link) (link : Link) where
  module _ (lists : List (List FullLink)) (are : AreFullLists links lists) where
    -- each list has what is seen of one link more
    lists-more : (after : List (List FullLink)) → length after ≡ 123 → (link.kind ≡ Full → IsSomeVertex link.a × IsSomeVertex link.b)
        → ((k : ℕ) → k < 123 → get_or after k [] ≡ get_or lists k [] ++ seen_from k (length links) link)
        → AreFullLists (links ++ link ∷ []) after
    lists-more after long some more = record {
      long = long;
      some = λ place other there full. ⊎_elim
          (λ before. are.some place other before full)
          (λ last. let same : other ≡ link = last.1 in rw same (some (ap (λ (l : Link). l.kind) (sym same) ∙ full)))
          (get-push links link other place there);
      each = λ vertex small. more (code_of vertex) small
          ∙ (ap (λ (fulls : List FullLink). fulls ++ seen_from (code_of vertex) (length links) link) (are.each vertex small)
          ∙ sym (fulls-more (code_of vertex) links link));
    }

    pub lists-semi : link.kind ≡ Semi → AreFullLists (links ++ link ∷ []) lists
    lists-semi semi = lists-more lists are.long (λ full. cc)
        (λ k small. sym (ap (λ (fulls : List FullLink). get_or lists k [] ++ fulls) (seen-semi k (length links) link semi)
        ∙ append-nil (get_or lists k [])))

    module _ (full : link.kind ≡ Full) (a_some : IsSomeVertex link.a) (b_some : IsSomeVertex link.b) where
      abbrev at_first : List (List FullLink)
      at_first = pushed lists (code_of link.a) (entry_to (length links) link link.b)

      abbrev at_both : List (List FullLink)
      at_both = pushed at_first (code_of link.b) (entry_to (length links) link link.a)

      a_inside : code_of link.a < length lists
      a_inside = omega (arith, are.long, code-small link.a a_some)

      first_same : (k : ℕ) → code_of link.a ≡ k → get_or at_first k [] ≡ get_or lists k [] ++ seen_from k (length links) link
      first_same k e =
          get_or-set_at lists (code_of link.a) k _ [] (sym e) a_inside
          ∙ (ap (λ (n : ℕ). get_or lists n [] ++ entry_to (length links) link link.b ∷ []) e
          ∙ sym (ap (λ (fulls : List FullLink). get_or lists k [] ++ fulls) (seen-first k (length links) link full e)))

      first_other : (k : ℕ) → k ≢ code_of link.a → get_or at_first k [] ≡ get_or lists k []
      first_other k ne = get_or-set_other lists (code_of link.a) k _ [] ne

      unseen : (k : ℕ) → code_of link.a ≢ k → code_of link.b ≢ k → get_or lists k [] ≡ get_or lists k [] ++ seen_from k (length links) link
      unseen k ne ne' = sym
          (ap (λ (fulls : List FullLink). get_or lists k [] ++ fulls) (seen-none k (length links) link ne ne')
          ∙ append-nil (get_or lists k []))

      pub lists-once : code_of link.a ≡ code_of link.b → AreFullLists (links ++ link ∷ []) at_first
      lists-once same = lists-more at_first (length-set lists _ _ ∙ are.long) (λ _. (a_some, b_some)) (λ k small. ⊎_elim
          (first_same k)
          (λ ne. first_other k (λ e. ne (sym e)) ∙ unseen k ne (λ e. ne (same ∙ e)))
          (cases_eq (code_of link.a) k))

      module _ (differ : code_of link.a ≢ code_of link.b) where
        b_inside : code_of link.b < length at_first
        b_inside = omega (
          arith,
          are.long,
          code-small link.b b_some,
          length-set lists (code_of link.a) (get_or lists (code_of link.a) [] ++ entry_to (length links) link link.b ∷ []),
        )

        second_same : (k : ℕ) → code_of link.b ≡ k → get_or at_both k [] ≡ get_or lists k [] ++ seen_from k (length links) link
        second_same k e =
            get_or-set_at at_first (code_of link.b) k _ [] (sym e) b_inside
            ∙ (ap (λ (fulls : List FullLink). fulls ++ entry_to (length links) link link.a ∷ [])
            (first_other (code_of link.b) (λ f. differ (sym f)))
            ∙ (ap (λ (n : ℕ). get_or lists n [] ++ entry_to (length links) link link.a ∷ []) e
            ∙ sym (ap (λ (fulls : List FullLink). get_or lists k [] ++ fulls)
            (seen-second k (length links) link full (λ f. differ (f ∙ sym e)) e))))

        second_other : (k : ℕ) → k ≢ code_of link.b → get_or at_both k [] ≡ get_or at_first k []
        second_other k ne = get_or-set_other at_first (code_of link.b) k _ [] ne

        pub lists-twice : AreFullLists (links ++ link ∷ []) at_both
        lists-twice = lists-more at_both (length-set at_first _ _ ∙ (length-set lists _ _ ∙ are.long)) (λ _. (a_some, b_some))
            (λ k small. ⊎_elim
            (second_same k)
            (λ ne. second_other k (λ e. ne (sym e)) ∙ ⊎_elim
            (first_same k)
            (λ ne'. first_other k (λ e. ne' (sym e)) ∙ unseen k ne' ne)
            (cases_eq (code_of link.a) k))
            (cases_eq (code_of link.b) k))

  -- ---- the last link goes

  module _ (lists : List (List FullLink)) (are : AreFullLists (links ++ link ∷ []) lists) where
    were : (vertex : Vertex) → code_of vertex < 123 → get_or lists (code_of vertex) [] ≡ fulls_of links vertex
        ++ seen_from (code_of vertex) (length links) link
    were vertex small = are.each vertex small ∙ fulls-more (code_of vertex) links link

    lists-less : (after : List (List FullLink)) → length after ≡ 123
        → ((vertex : Vertex) → code_of vertex < 123 → get_or after (code_of vertex) [] ≡ fulls_of links vertex) → AreFullLists links after
    lists-less after long each = record {
      long = long;
      some = λ place other there full. are.some place other (get-push_before links link place other there) full;
      each = each;
    }

    were_unseen : (vertex : Vertex) → code_of vertex < 123 → seen_from (code_of vertex) (length links) link ≡ []
        → get_or lists (code_of vertex) [] ≡ fulls_of links vertex
    were_unseen vertex small none = were vertex small
        ∙ (ap (λ (fulls : List FullLink). fulls_of links vertex ++ fulls) none ∙ append-nil (fulls_of links vertex))

    were_seen : (vertex : Vertex) (seen : FullLink) → code_of vertex < 123 → seen_from (code_of vertex) (length links) link ≡ seen ∷ []
        → without_last (get_or lists (code_of vertex) []) ≡ fulls_of links vertex
    were_seen vertex seen small one =
        ap without_last (were vertex small ∙ ap (λ (fulls : List FullLink). fulls_of links vertex ++ fulls) one)
        ∙ without_last-push (fulls_of links vertex) seen

    pub cut-semi : link.kind ≡ Semi → AreFullLists links lists
    cut-semi semi = lists-less lists are.long
        (λ vertex small. were_unseen vertex small (seen-semi (code_of vertex) (length links) link semi))

    module _ (full : link.kind ≡ Full) (a_some : IsSomeVertex link.a) (b_some : IsSomeVertex link.b) where
      abbrev off_first : List (List FullLink)
      off_first = popped lists (code_of link.a)

      abbrev off_both : List (List FullLink)
      off_both = popped off_first (code_of link.b)

      off_same : (vertex : Vertex) → code_of vertex < 123 → code_of link.a ≡ code_of vertex
          → get_or off_first (code_of vertex) [] ≡ fulls_of links vertex
      off_same vertex small e =
          let inside : code_of link.a < length lists = omega (arith, are.long, code-small link.a a_some) in
          get_or-set_at lists (code_of link.a) (code_of vertex) _ [] (sym e) inside
          ∙ (ap (λ (n : ℕ). without_last (get_or lists n [])) e
          ∙ were_seen vertex _ small (seen-first (code_of vertex) (length links) link full e))

      off_other : (k : ℕ) → k ≢ code_of link.a → get_or off_first k [] ≡ get_or lists k []
      off_other k ne = get_or-set_other lists (code_of link.a) k _ [] ne

      pub cut-once : code_of link.a ≡ code_of link.b → AreFullLists links off_first
      cut-once same = lists-less off_first (length-set lists _ _ ∙ are.long) (λ vertex small. ⊎_elim
          (off_same vertex small)
          (λ ne. off_other (code_of vertex) (λ e. ne (sym e))
          ∙ were_unseen vertex small (seen-none (code_of vertex) (length links) link ne (λ e. ne (same ∙ e))))
          (cases_eq (code_of link.a) (code_of vertex)))

      module _ (differ : code_of link.a ≢ code_of link.b) where
        off_second : (vertex : Vertex) → code_of vertex < 123 → code_of link.b ≡ code_of vertex
            → get_or off_both (code_of vertex) [] ≡ fulls_of links vertex
        off_second vertex small e =
            let inside : code_of link.b < length off_first =
            omega (
              arith,
              are.long,
              code-small link.b b_some,
              length-set lists (code_of link.a) (without_last (get_or lists (code_of link.a) [])),
            ) in
            get_or-set_at off_first (code_of link.b) (code_of vertex) _ [] (sym e) inside
            ∙ (ap without_last (off_other (code_of link.b) (λ f. differ (sym f)))
            ∙ (ap (λ (n : ℕ). without_last (get_or lists n [])) e
            ∙ were_seen vertex _ small (seen-second (code_of vertex) (length links) link full (λ f. differ (f ∙ sym e)) e)))

        pub cut-twice : AreFullLists links off_both
        cut-twice = lists-less off_both (length-set off_first _ _ ∙ (length-set lists _ _ ∙ are.long)) (λ vertex small. ⊎_elim
            (off_second vertex small)
            (λ ne. get_or-set_other off_first (code_of link.b) (code_of vertex) _ [] (λ e. ne (sym e)) ∙ ⊎_elim
            (off_same vertex small)
            (λ ne'. off_other (code_of vertex) (λ e. ne' (sym e))
            ∙ were_unseen vertex small (seen-none (code_of vertex) (length links) link ne' ne))
            (cases_eq (code_of link.a) (code_of vertex)))
            (cases_eq (code_of link.b) (code_of vertex)))
