-- What is known of the parts of an Or while they are read, and that it is what the rule asks in the end.
--
-- Each further part keeps `PartsSoFar` (`parts_more`): the cells that are in the start and in all carriers, and those
-- that are in some. The start is the first part's carrier, so a cell outside it is missing there (`lacking`). The ends
-- of the first part are those of the result, since all parts have the same ends (`ends_along`).
use Rattle.std.proofs.lemmas.List.{take_more, take_all}
use Rattle.std.proofs.lemmas.Option.{slice_get-get_or, same_Some}
use Rattle.std.proofs.Common.{◌≡◌, ◌≢◌, ℕ, zero, suc, ◌≤◌, ◌<◌, ◌+◌, take, get_or, Bool, true, false, ◌||◌, List, [], ◌∷◌, ◌++◌, map}
use Rattle.std.proofs.Common.{length, refl, sym, ap, ◌∙◌, inl, inr, Some, None, Option, ◌⊎◌, ⊎_elim, subst}
use Rattle.std.specs.Prelude.{slice_get}
use Rattle.hx_board.specs.Finds.{Finds}
use Rattle.std.proofs.lemmas.Bool.{false≢true, false_from_ne_true}
use Rattle.hx_board.specs.declared.colours.Colour.{Colour}
use Rattle.hx_board.specs.declared.vertices.Vertex.{Vertex}
use Rattle.hx_board.specs.Sets.{has, union, intersection}
use Rattle.hx_board.specs.Positions.{Board}
use Rattle.hx_board.proofs.ListLaws.{get-push, get-push_before, get-push_last}
use Rattle.hx_board.proofs.SetLaws.{has-empty, has-union, has-intersection_left, has-intersection_right, same_set, has_not-intersection}
use Rattle.hx_board.proofs.SetLaws.{or_false}
use Rattle.hx_link.specs.declared.links.Kind.TheVariants.{Full}
use Rattle.hx_link.specs.declared.links.Link.{Link}
use Rattle.hx_link.specs.declared.parts.TheConstants.{MOST_PARTS}
use Rattle.hx_link.specs.declared.steps.Step.TheVariants.{Or}
use Rattle.hx_link.specs.Steps.{IsLink, HasEnds, carriers_of, GivesOr, StepGives}
use Rattle.hx_link.proofs.LinkLaws.{ends_along, one_of-contains, contains-one_of, one_of_later, same_front}
use Rattle.hx_link.specs.Named.{links_at, IsMade, IsOneOf, IsSemiAt, ArePartsFrom, PartsSoFar}

-- what is in a list with one link more
one_of_push : (xs : List Link) (x l : Link) → IsOneOf l (xs ++ x ∷ []) → IsOneOf l xs ⊎ (l ≡ x)
one_of_push xs x l h = ⊎_elim (λ w. inl (h.0, w)) (λ w. inr w.1) (get-push xs x l h.0 h.1)

one_of_before : (xs : List Link) (x l : Link) → IsOneOf l xs → IsOneOf l (xs ++ x ∷ [])
one_of_before xs x l h = (h.0, get-push_before xs x h.0 l h.1)

one_of_last : (xs : List Link) (x : Link) → IsOneOf x (xs ++ x ∷ [])
one_of_last xs x = (length xs, get-push_last xs x)

links_at-push : (before : List Link) (places : List ℕ) (place : ℕ) (links : List Link) (part : Link)
    → links_at before places ≡ map (λ (l : Link). Some l) links → slice_get before place ≡ Some part
    → links_at before (places ++ place ∷ []) ≡ map (λ (l : Link). Some l) (links ++ part ∷ [])
links_at-push before [] place [] part e h = cc
links_at-push before [] place (l ∷ ls) part e h = cc
links_at-push before (p ∷ ps) place [] part e h = cc
links_at-push before (p ∷ ps) place (l ∷ ls) part e h =
    let more : links_at before (ps ++ place ∷ []) ≡ map (λ (l : Link). Some l) (ls ++ part ∷ []) =
    links_at-push before ps place ls part (cc) h in let here : slice_get before p ≡ Some l = cc in same_front here more

or_assoc : (a b c : Bool) → (a || (b || c)) ≡ ((a || b) || c)
or_assoc true b c = refl
or_assoc false b c = refl

carriers_of-push : (links : List Link) (part : Link) (n : ℕ)
    → has (carriers_of (links ++ part ∷ [])) n ≡ (has (carriers_of links) n || has part.carrier n)
carriers_of-push [] part n = has-union part.carrier 0 n
    ∙ (ap (λ b. has part.carrier n || b) (has-empty n)
    ∙ (or_false (has part.carrier n) ∙ sym (ap (λ b. b || has part.carrier n) (has-empty n))))
carriers_of-push (l ∷ ls) part n =
    has-union l.carrier (carriers_of (ls ++ part ∷ [])) n
    ∙ (ap (λ b. has l.carrier n || b) (carriers_of-push ls part n)
    ∙ (or_assoc (has l.carrier n) (has (carriers_of ls) n) (has part.carrier n)
    ∙ sym (ap (λ b. b || has part.carrier n) (has-union l.carrier (carriers_of ls) n))))

pub no_parts : (before : List Link) (a b : Vertex) (start : ℕ) → PartsSoFar before [] a b start start 0
no_parts before a b start = record {
  links = [];
  there = refl;
  semi = λ part (k, e). cc;
  same_ends = λ part (k, e). cc;
  in_each = λ cell h part (k, e). cc;
  missing = λ cell h lacks. absurd (false≢true (sym lacks ∙ h));
  carriers = λ cell. refl;
}

pub parts_more : (before : List Link) (done : List ℕ) (place : ℕ) (a b : Vertex) (start in_all in_some carrier : ℕ)
    → PartsSoFar before done a b start in_all in_some → IsSemiAt before place a b carrier
    → PartsSoFar before (done ++ place ∷ []) a b start (intersection in_all carrier) (union in_some carrier)
parts_more before done place a b start in_all in_some carrier p s = record {
  links = p.links ++ s.part ∷ [];
  there = links_at-push before done place p.links s.part p.there s.there;
  semi = λ part h. ⊎_elim (λ w. p.semi part w) (λ e. ap (λ (l : Link). l.kind) e ∙ s.semi) (one_of_push p.links s.part part h);
  same_ends = λ part h.
      ⊎_elim (λ w. p.same_ends part w) (λ e. let P : Link → Type 0 = λ l. HasEnds l a b in subst P (sym e) s.ends)
      (one_of_push p.links s.part part h);
  in_each = λ cell h part w. ⊎_elim (λ k. p.in_each cell (has-intersection_left in_all carrier cell h) part k)
      (λ e. ap (λ (l : Link). has l.carrier cell) e ∙ (ap (λ c. has c cell) s.carrier_is ∙ has-intersection_right in_all carrier cell h))
      (one_of_push p.links s.part part w);
  missing = λ cell h lacks. ⊎_elim
      (λ k. let w = p.missing cell h k in (w.0, (one_of_before p.links s.part w.0 w.1.0, w.1.1)))
      (λ k. (s.part, (one_of_last p.links s.part, ap (λ c. has c cell) s.carrier_is ∙ k)))
      (has_not-intersection in_all carrier cell lacks);
  carriers = λ cell. has-union in_some carrier cell
      ∙ (ap (λ v. v || has carrier cell) (p.carriers cell)
      ∙ (ap (λ c. has (carriers_of p.links) cell || has c cell) (sym s.carrier_is) ∙ sym (carriers_of-push p.links s.part cell)));
}

-- which link is at a place
pub part_at : (before : List Link) (places : List ℕ) (links : List Link) → links_at before places ≡ map (λ (l : Link). Some l) links
    → (k place : ℕ) → slice_get places k ≡ Some place → (part : Link) × (IsOneOf part links × (slice_get before place ≡ Some part))
part_at before [] links e k place h = cc
part_at before (p ∷ ps) [] e k place h = cc
part_at before (p ∷ ps) (l ∷ ls) e zero place h = (
  l,
  (
    (zero, refl),
    let same : p ≡ place = cc in
        (let there : slice_get before p ≡ Some l = cc in ap (λ n. slice_get before n) (sym same) ∙ there),
  ),
)
part_at before (p ∷ ps) (l ∷ ls) e (suc k) place h = let w = part_at before ps ls (cc) k place h in
    (w.0, (one_of_later w.0 l ls w.1.0, w.1.1))

pub ends_back : (f l : Link) → HasEnds f l.a l.b → HasEnds l f.a f.b
ends_back f l (inl e) = inl (sym e.0, sym e.1)
ends_back f l (inr e) = inr (sym e.1, sym e.0)

pub same_links : (xs ys : List Link) → map (λ (l : Link). Some l) xs ≡ map (λ (l : Link). Some l) ys → xs ≡ ys
same_links [] [] e = refl
same_links [] (y ∷ ys) e = cc
same_links (x ∷ xs) [] e = cc
same_links (x ∷ xs) (y ∷ ys) e = let rest = same_links xs ys cc in let here : x ≡ y = cc in cc

module _ (before : List Link) (places : List ℕ) (link : Link) (g : GivesOr before places link) where
  -- the first part's ends are the link's
  pub first-ends : (place : ℕ) (first : Link) → slice_get places 0 ≡ Some place → slice_get before place ≡ Some first
      → HasEnds first link.a link.b
  first-ends place first h there = let w = part_at before places g.links g.there 0 place h in
      let P : Link → Type 0 = λ l. HasEnds l link.a link.b in subst P (same_Some w.0 first (sym w.1.1 ∙ there))
      (g.same_ends w.0 (one_of-contains g.links w.0 w.1.0))

  pub or-parts : (place : ℕ) (first : Link) → slice_get places 0 ≡ Some place → slice_get before place ≡ Some first
      → ArePartsFrom before places first.a first.b
  or-parts place first h there k other e = let w = part_at before places g.links g.there k other e in (
    w.0.carrier,
    record {
      part = w.0;
      there = w.1.1;
      semi = g.semi w.0 (one_of-contains g.links w.0 w.1.0);
      ends = ends_along first w.0 link.a link.b (first-ends place first h there)
          (g.same_ends w.0 (one_of-contains g.links w.0 w.1.0));
      carrier_is = refl;
    },
  )

  pub or-first : (place : ℕ) → slice_get places 0 ≡ Some place → (first : Link) × (slice_get before place ≡ Some first)
  or-first place h = let w = part_at before places g.links g.there 0 place h in (w.0, w.1.1)

  module _ (a b : Vertex) (start in_all in_some : ℕ) (p : PartsSoFar before places a b start in_all in_some) where
    same : g.links ≡ p.links
    same = same_links g.links p.links (sym g.there ∙ p.there)

    -- no cell is in all parts
    pub or-none_in_all : in_all ≡ 0
    or-none_in_all = same_set in_all 0 (λ n. let w = g.none_in_all n in
        false_from_ne_true (has in_all n)
        (λ h. false≢true (sym w.1.1 ∙ p.in_each n h w.0 (let P : List Link → Type 0 = λ ls. IsOneOf w.0 ls in
        subst P same (contains-one_of g.links w.0 w.1.0))))
        ∙ sym (has-empty n))

    pub or-carrier : link.carrier ≡ in_some
    or-carrier = same_set link.carrier in_some (λ n. ap (λ c. has c n) (g.carrier ∙ ap carriers_of same) ∙ sym (p.carriers n))

module _ (before : List Link) (places : List ℕ) (place : ℕ) (first : Link) (h : slice_get places 0 ≡ Some place)
    (there : slice_get before place ≡ Some first) where
  pub no_or-parts : (ArePartsFrom before places first.a first.b → ⊥) → (link : Link) → GivesOr before places link → ⊥
  no_or-parts none link g = none (or-parts before places link g place first h there)

  module _ (in_all in_some : ℕ) (p : PartsSoFar before places first.a first.b first.carrier in_all in_some) where
    pub no_or-shared : in_all ≢ 0 → (link : Link) → GivesOr before places link → ⊥
    no_or-shared some link g = some (or-none_in_all before places link g first.a first.b first.carrier in_all in_some p)

    first_one : IsOneOf first p.links
    first_one = let w = part_at before places p.links p.there 0 place h in let P : Link → Type 0 = λ l. IsOneOf l p.links in
        subst P (same_Some w.0 first (sym w.1.1 ∙ there)) w.1.0

    lacking : in_all ≡ 0 → (cell : ℕ) (b : Bool) → has first.carrier cell ≡ b → (part : Link)
        × (IsOneOf part p.links × (has part.carrier cell ≡ false))
    lacking none cell true e = p.missing cell e (ap (λ c. has c cell) none ∙ has-empty cell)
    lacking none cell false e = (first, (first_one, e))

    or-from : (board : Board) (player : Colour) (link : Link) → in_all ≡ 0 → 2 ≤ length places → length places ≤ MOST_PARTS
        → IsMade board player Full first.a first.b in_some link → GivesOr before places link × IsLink board player link
    or-from board player link none several few is = (
      record {
        links = p.links;
        there = p.there;
        several = several;
        few = few;
        semi = λ part w. p.semi part (contains-one_of p.links part w);
        same_ends = λ part w. ends_along link part first.a first.b is.ends (p.same_ends part (contains-one_of p.links part w));
        none_in_all = λ cell. let w = lacking none cell (has first.carrier cell) refl in
            (w.0, (one_of-contains p.links w.0 w.1.0, w.1.1));
        kind = is.kind_is;
        carrier = is.carrier_is ∙ same_set in_some (carriers_of p.links) p.carriers;
      },
      is.link_ok,
    )

    or-to : (board : Board) (player : Colour) (link : Link) → GivesOr before places link → IsLink board player link
        → IsMade board player Full first.a first.b in_some link
    or-to board player link g ok = record {
      kind_is = g.kind;
      carrier_is = or-carrier before places link g first.a first.b first.carrier in_all in_some p;
      ends = ends_back first link (first-ends before places link g place first h there);
      link_ok = ok;
    }

    pub or-made : (board : Board) (player : Colour) (o : Option Link) → in_all ≡ 0 → 2 ≤ length places → length places ≤ MOST_PARTS
        → Finds o (IsMade board player Full first.a first.b in_some) → Finds o (StepGives board player before (Or places))
    or-made board player None none several few absent = λ link g. absent link (or-to board player link g.rule g.link_ok)
    or-made board player (Some link) none several few is = let w = or-from board player link none several few is in
        record { rule = w.0; link_ok = w.1 }

pub parts_next : (before : List Link) (places : List ℕ) (i : ℕ) (a b : Vertex) (start in_all in_some carrier next_all next_some : ℕ)
    → i < length places → next_all ≡ intersection in_all carrier → next_some ≡ union in_some carrier
    → PartsSoFar before (take i places) a b start in_all in_some → IsSemiAt before (get_or places i 0) a b carrier
    → PartsSoFar before (take (i + 1) places) a b start next_all next_some
parts_next before places i a b start in_all in_some carrier next_all next_some lt e f p s =
    rw (e, f, take_more places i 0 lt) (parts_more before (take i places) (get_or places i 0) a b start in_all in_some carrier p s)

pub no_semi : (before : List Link) (places : List ℕ) (i : ℕ) (a b : Vertex) → i < length places
    → ((carrier : ℕ) → IsSemiAt before (get_or places i 0) a b carrier → ⊥) → ArePartsFrom before places a b → ⊥
no_semi before places i a b lt none are = let w = are i (get_or places i 0) (slice_get-get_or places i 0 lt) in none w.0 w.1

pub parts_all : (before : List Link) (places : List ℕ) (i : ℕ) (a b : Vertex) (start in_all in_some : ℕ) → length places ≤ i
    → PartsSoFar before (take i places) a b start in_all in_some → PartsSoFar before places a b start in_all in_some
parts_all before places i a b start in_all in_some le p = rw take_all at p
