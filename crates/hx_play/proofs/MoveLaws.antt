-- How a move changes what is kept: a kept link over a stone gives way to its two parts, one whose ends are joined to
-- nothing; an Or gives way to a part that the stone leaves alone, and that part, once the player has the cell that it
-- goes over, to its two links.
use Rattle.std.proofs.Common.{◌≡◌, ◌≢◌, ℕ, Bool, true, false, List, [], refl, sym, ap, ◌∙◌, subst, Some, None, Option, ◌⊎◌, inl, inr}
use Rattle.std.specs.Prelude.{slice_get, Contains}
use Rattle.std.proofs.lemmas.Bool.{false≢true, false_from_ne_true}
use Rattle.std.proofs.lemmas.Option.{slice_get-get_or, slice_get_within, get_or_from_slice_get}
use Rattle.hx_board.specs.declared.colours.Colour.{Colour}
use Rattle.hx_board.specs.declared.vertices.Vertex.{Vertex}
use Rattle.hx_board.specs.declared.vertices.Vertex.TheVariants.{Of}
use Rattle.hx_board.specs.Sets.{has, insert, union, IsSubset, ShareNone}
use Rattle.hx_board.specs.Positions.{Board, IsEmpty, put}
use Rattle.hx_board.specs.Graph.{IsOwn, Joined}
use Rattle.hx_board.proofs.SetLaws.{has-union_left, has-union_right, has-insert_same, has-insert_other}
use Rattle.hx_board.proofs.StoneLaws.{stones-put}
use Rattle.hx_board.proofs.Joins.{joined-over_own}
use Rattle.hx_board.proofs.KeptStones.{own_stays, joined_stays}
use Rattle.hx_link.specs.declared.links.Kind.TheVariants.{Full, Semi}
use Rattle.hx_link.specs.declared.links.Link.{Link}
use Rattle.hx_link.specs.declared.steps.Step.{Step}
use Rattle.hx_link.specs.declared.steps.Step.TheVariants.{Base, AndStone, AndCell, Or}
use Rattle.hx_link.specs.Steps.{HasEnds, GivesBase, GivesAndStone, GivesAndCell, GivesOr, GivesByRule, AreRightSteps}
use Rattle.hx_link.specs.Named.{IsOneOf}
use Rattle.hx_link.proofs.LinkLaws.{one_of-contains, contains-one_of, place_of, in_carriers}
use Rattle.hx_link.proofs.PartLaws.{part_at}
use Rattle.hx_play.specs.Kept.{HasStonesOf, IsMarked, IsKept, AreKept, IsChosen, IsSpared, IsDueAt, IsOver, HasMoved, touches}
use Rattle.hx_play.proofs.KeptLaws.{stones-keep, stones-then, joined-between, joined-ends, IsWithout, IsWith, take_out, take_in, narrow}
use Rattle.hx_play.proofs.KeptLaws.{forget, stone_more}
use Rattle.hx_play.proofs.StepLaws.{IsGiven, given_at, given-there, named-there}

same_some : {A : Type 0} {x y : A} → Some x ≡ Some y → x ≡ y
same_some e = cc

share-none_sym : (one other : ℕ) → ShareNone one other → ShareNone other one
share-none_sym one other apart n h = false_from_ne_true (has one n) (λ k. false≢true (sym (apart n k) ∙ h))

module _ (base : Board) (player : Colour) (links : List Link) where
  abbrev Kept : List Bool → Option Link → Option ℕ → Board → Type 0
  Kept marks due stone board = AreKept base player links marks due stone board

  -- ---- two links that meet at an own vertex take the place of what is due

  module _ (marks more : List Bool) (whole : Link) (stone : Option ℕ) (board : Board) (left right : ℕ) (from middle to : Vertex)
      (first second : Link)
      (kept : Kept marks (Some whole) stone board) (adds : IsWith marks (λ p. (p ≡ left) ⊎ (p ≡ right)) more)
      (first_there : slice_get links left ≡ Some first) (second_there : slice_get links right ≡ Some second)
      (first_full : first.kind ≡ Full) (second_full : second.kind ≡ Full)
      (first_ends : HasEnds first from middle) (second_ends : HasEnds second middle to) (apart : ShareNone first.carrier second.carrier)
      (first_inside : IsSubset first.carrier whole.carrier) (second_inside : IsSubset second.carrier whole.carrier)
      (ends : HasEnds whole from to)
      (own : (later : Board) → HasStonesOf player board later → IsOwn later player middle) where
    abbrev New : ℕ → Type 0
    New p = (p ≡ left) ⊎ (p ≡ right)

    -- a link at one of the new places is one of the two
    which : (P : Link → Type 0) (p : ℕ) (l : Link) → slice_get links p ≡ Some l → P first → P second → New p → P l
    which P p l there one two (inl same) =
        let Q : ℕ → Type 0 = λ n. slice_get links n ≡ Some l in
        let here : first ≡ l = same_some (sym first_there ∙ subst Q same there) in subst P here one
    which P p l there one two (inr same) =
        let Q : ℕ → Type 0 = λ n. slice_get links n ≡ Some l in
        let here : second ≡ l = same_some (sym second_there ∙ subst Q same there) in subst P here two

    new_apart : (p q : ℕ) (l m : Link) → New p → New q → p ≢ q → slice_get links p ≡ Some l → slice_get links q ≡ Some m
        → ShareNone l.carrier m.carrier
    new_apart p q l m (inl x) (inl y) differ here there = absurd (differ (x ∙ sym y))
    new_apart p q l m (inr x) (inr y) differ here there = absurd (differ (x ∙ sym y))
    new_apart p q l m (inl x) (inr y) differ here there =
        let Q : ℕ → Link → Type 0 = λ n k. slice_get links n ≡ Some k in
        let one : first ≡ l = same_some (sym first_there ∙ subst (λ n. Q n l) x here) in
        let two : second ≡ m = same_some (sym second_there ∙ subst (λ n. Q n m) y there) in
        rw (← one, ← two) apart
    new_apart p q l m (inr x) (inl y) differ here there =
        let Q : ℕ → Link → Type 0 = λ n k. slice_get links n ≡ Some k in
        let one : second ≡ l = same_some (sym second_there ∙ subst (λ n. Q n l) x here) in
        let two : first ≡ m = same_some (sym first_there ∙ subst (λ n. Q n m) y there) in
        rw (← one, ← two) (share-none_sym first.carrier second.carrier apart)

    rejoin : (later : Board) → HasStonesOf player board later
        → ((p : ℕ) (l : Link) → New p → slice_get links p ≡ Some l → Joined later player l.a l.b)
        → Joined later player whole.a whole.b
    rejoin later stones joined =
        joined-ends player later whole from to ends
        (joined-over_own later player from middle to (own later stones)
        (joined-between player later first from middle first_ends (joined left first (inl refl) first_there))
        (joined-between player later second middle to second_ends (joined right second (inr refl) second_there)))

    pub meet_in : Kept more None stone board
    meet_in =
        take_in base player links marks more whole stone board New kept adds
        (λ p l new there. which (λ x. x.kind ≡ Full) p l there first_full second_full new)
        (λ p l new there. which (λ x. IsSubset x.carrier whole.carrier) p l there first_inside second_inside new)
        new_apart rejoin

  -- ---- by the step at a place

  module _ (steps : List Step) (right_steps : AreRightSteps base player [] steps links) (place : ℕ) (step : Step)
      (at : slice_get steps place ≡ Some step) where
    given : IsGiven base player links place step
    given = given_at base player steps links place step right_steps at

  pub base_out : (steps : List Step) (marks fewer : List Bool) (stone : Option ℕ) (board : Board) (place : ℕ) (a b : Vertex)
      → AreRightSteps base player [] steps links
      → slice_get steps place ≡ Some (Base a b) → Kept marks None stone board → IsMarked marks place → IsWithout marks place fewer
      → Kept fewer None stone board
  base_out steps marks fewer stone board place a b right at kept marked without =
      let g : IsGiven base player links place (Base a b) = given_at base player steps links place (Base a b) right at in
      let here : slice_get links place ≡ Some g.link = given-there base player links place (Base a b) g in
      let rule : GivesBase base player a b g.link = g.gives.rule in
      take_in base player links fewer fewer g.link stone board (λ p. ⊥)
      (take_out base player links marks fewer stone board place g.link kept (record { there = here; marked = marked }) without)
      (record { from = λ p h. inl h; stays = λ p h. h; added = λ p none. absurd none })
      (λ p l none there. absurd none) (λ p l none there. absurd none) (λ p q l m none. absurd none)
      (λ later stones _. joined-ends player later g.link a b rule.ends
      (joined_stays player a b base later (stones-keep player base later (stones-then player base board later kept.stones stones))
      rule.joined))

  pub and_stone_out : (steps : List Step) (marks fewer more : List Bool) (stone : Option ℕ) (board : Board) (place left right : ℕ)
      → AreRightSteps base player [] steps links
      → slice_get steps place ≡ Some (AndStone left right) → Kept marks None stone board → IsMarked marks place
      → IsWithout marks place fewer
      → IsWith fewer (λ p. (p ≡ left) ⊎ (p ≡ right)) more → Kept more None stone board
  and_stone_out steps marks fewer more stone board place left right rights at kept marked without adds =
      let g : IsGiven base player links place (AndStone left right) =
      given_at base player steps links place (AndStone left right) rights at in
      let here : slice_get links place ≡ Some g.link = given-there base player links place (AndStone left right) g in
      let rule : GivesAndStone base player g.earlier left right g.link = g.gives.rule in
      let there : (name : ℕ) (link : Link) → slice_get g.earlier name ≡ Some link → slice_get links name ≡ Some link =
      named-there base player links place (AndStone left right) g in
      meet_in fewer more g.link stone board left right rule.over.from rule.middle rule.over.to rule.over.first rule.over.second
      (take_out base player links marks fewer stone board place g.link kept (record { there = here; marked = marked }) without)
      adds
      (there left rule.over.first rule.over.first_there)
      (there right rule.over.second rule.over.second_there) rule.over.first_full rule.over.second_full
      rule.over.first_ends rule.over.second_ends rule.over.apart
      (λ n h. ap (λ (c : ℕ). has c n) rule.carrier ∙ has-union_left rule.over.first.carrier rule.over.second.carrier n h)
      (λ n h. ap (λ (c : ℕ). has c n) rule.carrier ∙ has-union_right rule.over.first.carrier rule.over.second.carrier n h)
      rule.over.ends
      (λ later stones. own_stays player base later
      (stones-keep player base later (stones-then player base board later kept.stones stones)) rule.middle rule.own)

  -- ---- an Or gives way to a part that the stone leaves alone

  module _ (steps : List Step) (marks fewer : List Bool) (stone : Option ℕ) (board : Board) (place : ℕ) (parts : List ℕ)
      (rights : AreRightSteps base player [] steps links)
      (at : slice_get steps place ≡ Some (Or parts)) where
    abbrev pub or_given : IsGiven base player links place (Or parts)
    or_given = given_at base player steps links place (Or parts) rights at

    abbrev pub or_rule : GivesOr or_given.earlier parts or_given.link
    or_rule = or_given.gives.rule

    or_here : slice_get links place ≡ Some or_given.link
    or_here = given-there base player links place (Or parts) or_given

    -- some part is left alone
    contains : (k part : ℕ) → slice_get parts k ≡ Some part → Contains parts part
    contains k part e = (k, slice_get_within parts k part e, get_or_from_slice_get parts k part part e)

    spared_from : (part : Link) → IsOneOf part or_rule.links → touches stone part.carrier ≡ false → (p : ℕ) × IsSpared links parts stone p
    spared_from part w off =
        let found = place_of or_given.earlier parts or_rule.links or_rule.there w.0 part w.1 in (
          found.0,
          record {
            named = contains w.0 found.0 found.1.0;
            link = part;
            there = named-there base player links place (Or parts) or_given found.0 part found.1.1;
            untouched = off;
          },
        )

    some_spared : (s : Option ℕ) → s ≡ stone → (p : ℕ) × IsSpared links parts stone p
    some_spared None e = let w = or_rule.none_in_all 0 in
        spared_from w.0 (contains-one_of or_rule.links w.0 w.1.0) (rw (← e) refl)
    some_spared (Some cell) e = let w = or_rule.none_in_all cell in
        spared_from w.0 (contains-one_of or_rule.links w.0 w.1.0) (rw (← e) w.1.1)

    pub none_spared : ((p : ℕ) → IsSpared links parts stone p → ⊥) → ⊥
    none_spared none = let w = some_spared stone refl in none w.0 w.1

    module _ (kept : Kept marks None stone board) (chosen : IsChosen links marks stone place) (without : IsWithout marks place fewer) where
      same : chosen.link ≡ or_given.link
      same = same_some (sym chosen.is_kept.there ∙ or_here)

      is_kept : IsKept links marks place or_given.link
      is_kept = record { there = or_here; marked = chosen.is_kept.marked }

      off_others : (s : Option ℕ) → s ≡ stone → (touches stone chosen.link.carrier ≡ true)
          ⊎ ((other : ℕ) (second : Link) → IsKept links marks other second → touches stone second.carrier ≡ false)
          → (p : ℕ) (l : Link) → IsKept links fewer p l → touches stone l.carrier ≡ false
      off_others s e (inr all) p l k = all p l (record { there = k.there; marked = (without.from p k.marked).0 })
      off_others None e (inl on) p l k = absurd (false≢true (rw (← e) at on))
      off_others (Some cell) e (inl on) p l k =
          let in_chosen : has chosen.link.carrier cell ≡ true = rw (← e) at on in
          let P : Link → Type 0 = λ x. has x.carrier cell ≡ true in
          let in_link : has or_given.link.carrier cell ≡ true = subst P same in_chosen in
          let was = without.from p k.marked in
          rw (← e) (kept.apart place p or_given.link l is_kept (record { there = k.there; marked = was.0 })
          (λ e. was.1 (sym e)) cell in_link)

      pub or_out : (part : ℕ) → IsSpared links parts stone part → IsDueAt base player links fewer board part
      or_out part spared =
          let k : ℕ = spared.named.0 in
          let named : slice_get parts k ≡ Some part = slice_get-get_or parts k part spared.named.1 ∙ ap Some spared.named.2 in
          let w = part_at or_given.earlier parts or_rule.links or_rule.there k part named in
          let there : slice_get links part ≡ Some w.0 = named-there base player links place (Or parts) or_given part w.0 w.1.1 in
          let one : spared.link ≡ w.0 = same_some (sym spared.there ∙ there) in
          record {
            link = w.0;
            there = there;
            semi = or_rule.semi w.0 (one_of-contains or_rule.links w.0 w.1.0);
            kept = narrow base player links fewer or_given.link w.0 stone board
                (take_out base player links marks fewer stone board place or_given.link kept is_kept without)
                (or_rule.same_ends w.0 (one_of-contains or_rule.links w.0 w.1.0))
                (λ n h. ap (λ (c : ℕ). has c n) or_rule.carrier ∙ in_carriers or_rule.links w.1.0.0 w.0 w.1.0.1 n h)
                (let P : Link → Type 0 = λ l. touches stone l.carrier ≡ false in subst P one spared.untouched)
                (off_others stone refl chosen.answers);
          }

  -- ---- a part gives way to its two links, once the player has the cell that it goes over

  module _ (steps : List Step) (marks more : List Bool) (board : Board) (place left right : ℕ)
      (rights : AreRightSteps base player [] steps links)
      (at : slice_get steps place ≡ Some (AndCell left right)) (due : IsDueAt base player links marks board place) where
    abbrev pub cell_given : IsGiven base player links place (AndCell left right)
    cell_given = given_at base player steps links place (AndCell left right) rights at

    abbrev pub cell_rule : GivesAndCell base cell_given.earlier left right cell_given.link
    cell_rule = cell_given.gives.rule

    cell_here : slice_get links place ≡ Some cell_given.link
    cell_here = given-there base player links place (AndCell left right) cell_given

    pub first_there : slice_get links left ≡ Some cell_rule.over.first
    first_there = named-there base player links place (AndCell left right) cell_given left cell_rule.over.first cell_rule.over.first_there

    pub second_there : slice_get links right ≡ Some cell_rule.over.second
    second_there =
        named-there base player links place (AndCell left right) cell_given right cell_rule.over.second cell_rule.over.second_there

    due_is : due.link ≡ cell_given.link
    due_is = same_some (sym due.there ∙ cell_here)

    inner : ℕ
    inner = union cell_rule.over.first.carrier cell_rule.over.second.carrier

    carrier_is : due.link.carrier ≡ insert (union cell_rule.over.first.carrier cell_rule.over.second.carrier) cell_rule.cell
    carrier_is = ap (λ (l : Link). l.carrier) due_is ∙ cell_rule.carrier

    exact_over : IsOver base.size due.link.carrier cell_rule.over.first.carrier cell_rule.over.second.carrier cell_rule.cell
    exact_over = record {
      on_board = cell_rule.empty.on_board;
      whole_is = carrier_is;
      not_first = cell_rule.outside_first;
      not_second = cell_rule.outside_second;
    }

    pub over : (whole first second : ℕ) → whole ≡ due.link.carrier → first ≡ cell_rule.over.first.carrier
        → second ≡ cell_rule.over.second.carrier → IsOver base.size whole first second cell_rule.cell
    over whole first second x y z = rw (x, y, z) exact_over

    in_whole : has due.link.carrier cell_rule.cell ≡ true
    in_whole = ap (λ (c : ℕ). has c cell_rule.cell) carrier_is ∙ has-insert_same
        (union cell_rule.over.first.carrier cell_rule.over.second.carrier) cell_rule.cell

    pub cell_empty : IsEmpty board cell_rule.cell
    cell_empty = due.kept.due_left cell_rule.cell in_whole cell_rule.empty (λ e. cc e)

    module _ (adds : IsWith marks (λ p. (p ≡ left) ⊎ (p ≡ right)) more) where
      after : Board
      after = put board player cell_rule.cell

      two_kept : Kept more None (Some cell_rule.cell) (put board player cell_rule.cell)
      two_kept =
          meet_in marks more due.link (Some cell_rule.cell) (put board player cell_rule.cell) left right cell_rule.over.from
          (Of cell_rule.cell) cell_rule.over.to cell_rule.over.first cell_rule.over.second
          (stone_more base player links marks (Some due.link) board player cell_rule.cell due.kept)
          adds first_there second_there cell_rule.over.first_full cell_rule.over.second_full cell_rule.over.first_ends
          cell_rule.over.second_ends cell_rule.over.apart
          (λ n h. ap (λ (c : ℕ). has c n) carrier_is ∙ has-insert_other
          (union cell_rule.over.first.carrier cell_rule.over.second.carrier) cell_rule.cell n
          (has-union_left cell_rule.over.first.carrier cell_rule.over.second.carrier n h))
          (λ n h. ap (λ (c : ℕ). has c n) carrier_is ∙ has-insert_other
          (union cell_rule.over.first.carrier cell_rule.over.second.carrier) cell_rule.cell n
          (has-union_right cell_rule.over.first.carrier cell_rule.over.second.carrier n h))
          (let P : Link → Type 0 = λ l. HasEnds l cell_rule.over.from cell_rule.over.to in subst P (sym due_is) cell_rule.over.ends)
          (λ later stones. stones.own cell_rule.cell ((stones-put board player player cell_rule.cell cell_rule.cell).1 (inl (refl, refl))))

      off_each : (p : ℕ) (l : Link) → slice_get links p ≡ Some l → IsMarked marks p ⊎ ((p ≡ left) ⊎ (p ≡ right))
          → has l.carrier cell_rule.cell ≡ false
      off_each p l there (inl marked) = due.kept.due_apart p l (record { there = there; marked = marked }) cell_rule.cell in_whole
      off_each p l there (inr (inl e)) =
          let Q : ℕ → Type 0 = λ n. slice_get links n ≡ Some l in
          let here : cell_rule.over.first ≡ l = same_some (sym first_there ∙ subst Q e there) in
          (let P : Link → Type 0 = λ k. has k.carrier cell_rule.cell ≡ false in subst P here cell_rule.outside_first)
      off_each p l there (inr (inr e)) =
          let Q : ℕ → Type 0 = λ n. slice_get links n ≡ Some l in
          let here : cell_rule.over.second ≡ l = same_some (sym second_there ∙ subst Q e there) in
          (let P : Link → Type 0 = λ k. has k.carrier cell_rule.cell ≡ false in subst P here cell_rule.outside_second)

      pub cell_out : HasMoved base player links more board (put board player cell_rule.cell) cell_rule.cell
      cell_out = record {
        empty = cell_empty;
        moved = refl;
        kept = forget base player links more (Some cell_rule.cell) (put board player cell_rule.cell) two_kept
            (λ p l k. off_each p l k.there (adds.from p k.marked));
      }

  -- only an And over a cell gives a Semi link
  pub semi_step : (steps : List Step) (marks : List Bool) (board : Board) (place : ℕ) (step : Step)
      → AreRightSteps base player [] steps links → slice_get steps place ≡ Some step
      → IsDueAt base player links marks board place → (left : ℕ) × (right : ℕ) × (step ≡ AndCell left right)
  semi_step steps marks board place step rights at due =
      let g : IsGiven base player links place step = given_at base player steps links place step rights at in
      let one : due.link ≡ g.link = same_some (sym due.there ∙ given-there base player links place step g) in
      by_kind step g.earlier g.link g.gives.rule (ap (λ (l : Link). l.kind) (sym one) ∙ due.semi)
    where
      by_kind : (s : Step) (earlier : List Link) (l : Link) → GivesByRule base player earlier s l → l.kind ≡ Semi → (left : ℕ) × (right : ℕ)
          × (s ≡ AndCell left right)
      by_kind (Base a b) earlier l rule semi = absurd (cc (rule.kind, semi))
      by_kind (AndStone x y) earlier l rule semi = absurd (cc (rule.kind, semi))
      by_kind (AndCell x y) earlier l rule semi = (x, y, refl)
      by_kind (Or parts) earlier l rule semi = absurd (cc (rule.kind, semi))
