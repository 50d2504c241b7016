-- Who keeps such links wins: each link holds on its own cells, and they share none, so all hold together; once the ends
-- of each are joined there is a chain.
use Rattle.std.proofs.Common.{◌≡◌, ℕ, zero, suc, Bool, true, false, ◌||◌, List, [], ◌∷◌, refl, sym, ◌∙◌, Some, None, inl, ⊎_elim}
use Rattle.std.specs.Prelude.{slice_get}
use Rattle.std.proofs.lemmas.Bool.{false≢true, or_cases, or_left, or_right}
use Rattle.hx_board.specs.declared.colours.Colour.{Colour}
use Rattle.hx_board.specs.Sets.{has, ShareNone}
use Rattle.hx_board.specs.Colours.{other_of}
use Rattle.hx_board.specs.Positions.{Board}
use Rattle.hx_board.specs.Graph.{Joined, HasChain}
use Rattle.hx_board.specs.Game.{Wins}
use Rattle.hx_board.proofs.KeptStones.{KeepsStones, joined_stays}
use Rattle.hx_law.specs.Play.{Plays, By_goal}
use Rattle.hx_law.proofs.Ends.{ends}
use Rattle.hx_law.proofs.PlayLaws.{as_good_itself, kept}
use Rattle.hx_law.proofs.WinLaws.{region_wins}
use Rattle.hx_link.specs.declared.links.Kind.TheVariants.{Full}
use Rattle.hx_link.specs.declared.links.Link.{Link}
use Rattle.hx_proof.specs.Local.{IsJoined, Secures, LinkHolds}
use Rattle.hx_proof.proofs.LocalGame.{in_reach_beside_reached}
use Rattle.hx_proof.proofs.AndSoundness.{AreParts, in_reach_from}
use Rattle.hx_play.specs.Kept.{HasStonesOf, AreLeft, IsKept, AreJoined, AreKept}

-- whether a cell is in the carrier of a kept link
abbrev in_kept : List Bool → List Link → ℕ → Bool
in_kept [] links cell = false
in_kept (mark ∷ marks) [] cell = false
in_kept (true ∷ marks) (link ∷ links) cell = has link.carrier cell || in_kept marks links cell
in_kept (false ∷ marks) (link ∷ links) cell = in_kept marks links cell

module _ (player : Colour) where
  abbrev other : Colour
  other = other_of player

  abbrev EachJoined : List Bool → List Link → Board → Type 0
  EachJoined [] links board = Unit {0}
  EachJoined (mark ∷ marks) [] board = Unit {0}
  EachJoined (true ∷ marks) (link ∷ links) board = Joined board player link.a link.b × EachJoined marks links board
  EachJoined (false ∷ marks) (link ∷ links) board = EachJoined marks links board

  each_stays : (marks : List Bool) (links : List Link) (before after : Board) → KeepsStones player before after
      → EachJoined marks links before → EachJoined marks links after
  each_stays [] links before after keeps each = tt
  each_stays (mark ∷ marks) [] before after keeps each = tt
  each_stays (true ∷ marks) (link ∷ links) before after keeps each =
      (joined_stays player link.a link.b before after keeps each.0, each_stays marks links before after keeps each.1)
  each_stays (false ∷ marks) (link ∷ links) before after keeps each = each_stays marks links before after keeps each

  each-are : (marks : List Bool) (links : List Link) (board : Board) → EachJoined marks links board → AreJoined player links marks board
  each-are [] links board each place link k = absurd (false≢true k.marked)
  each-are (mark ∷ marks) [] board each place link k = absurd (cc k.there)
  each-are (true ∷ marks) (first ∷ links) board each zero link k = let same : first ≡ link = cc k.there in rw (← same) each.0
  each-are (false ∷ marks) (first ∷ links) board each zero link k = absurd (false≢true k.marked)
  each-are (true ∷ marks) (first ∷ links) board each (suc place) link k =
      each-are marks links board each.1 place link (record { there = k.there; marked = k.marked })
  each-are (false ∷ marks) (first ∷ links) board each (suc place) link k =
      each-are marks links board each place link (record { there = k.there; marked = k.marked })

  -- a cell of the carriers is in one of them
  pub record IsInOne (marks : List Bool) (links : List Link) (cell : ℕ) : Type 0 where
    pub place : ℕ
    pub link : Link
    pub is_kept : IsKept links marks place link
    pub inside : has link.carrier cell ≡ true

  later : (mark : Bool) (marks : List Bool) (first : Link) (links : List Link) (cell : ℕ) → IsInOne marks links cell
      → IsInOne (mark ∷ marks) (first ∷ links) cell
  later mark marks first links cell w = record {
    place = suc w.place;
    link = w.link;
    is_kept = record { there = w.is_kept.there; marked = w.is_kept.marked };
    inside = w.inside;
  }

  in_one : (marks : List Bool) (links : List Link) (cell : ℕ) → in_kept marks links cell ≡ true → IsInOne marks links cell
  in_one [] links cell h = absurd (false≢true h)
  in_one (mark ∷ marks) [] cell h = absurd (false≢true h)
  in_one (true ∷ marks) (first ∷ links) cell h = ⊎_elim
      (λ inside. record { place = 0; link = first; is_kept = record { there = refl; marked = refl }; inside = inside })
      (λ rest. later true marks first links cell (in_one marks links cell rest))
      (or_cases (has first.carrier cell) (in_kept marks links cell) h)
  in_one (false ∷ marks) (first ∷ links) cell h = later false marks first links cell (in_one marks links cell h)

  -- full links that hold and share no cell hold together
  all_secured : (marks : List Bool) (links : List Link) (board : Board)
      → ((place : ℕ) (link : Link) → IsKept links marks place link → Secures player link.carrier link.a link.b board other)
      → ((one other : ℕ) (first second : Link) → IsKept links marks one first → IsKept links marks other second → (one ≡ other → ⊥)
      → ShareNone first.carrier second.carrier)
      → Plays player (in_kept marks links) (EachJoined marks links) board other
  all_secured [] links board holds apart = By_goal board other tt
  all_secured (mark ∷ marks) [] board holds apart = By_goal board other tt
  all_secured (false ∷ marks) (first ∷ links) board holds apart =
      all_secured marks links board
      (λ p l k. holds (suc p) l (record { there = k.there; marked = k.marked }))
      (λ p q l m k j differ. apart (suc p) (suc q) l m (record { there = k.there; marked = k.marked })
      (record { there = j.there; marked = j.marked }) (λ e. differ (cc e)))
  all_secured (true ∷ marks) (first ∷ links) board holds apart =
      (in_reach_from player board (ends board)).answering (IsJoined player first.a first.b) (EachJoined marks links)
      (EachJoined (true ∷ marks) (first ∷ links))
      (joined_stays player first.a first.b) (each_stays marks links) (λ b g h. (g, h))
      (has first.carrier) (in_kept marks links) (in_kept (true ∷ marks) (first ∷ links)) parts
      (holds 0 first (record { there = refl; marked = refl }))
      (all_secured marks links board
      (λ p l k. holds (suc p) l (record { there = k.there; marked = k.marked }))
      (λ p q l m k j differ. apart (suc p) (suc q) l m (record { there = k.there; marked = k.marked })
      (record { there = j.there; marked = j.marked }) (λ e. differ (cc e))))
    where
      parts : AreParts (has first.carrier) (in_kept marks links) (in_kept (true ∷ marks) (first ∷ links))
      parts = record {
        from_first = λ n h. or_left (has first.carrier n) (in_kept marks links n) h;
        from_second = λ n h. or_right (has first.carrier n) (in_kept marks links n) h;
        in_one = λ n h. or_cases (has first.carrier n) (in_kept marks links n) h;
        apart = λ n x y.
            let w : IsInOne marks links n = in_one marks links n y in
            let differ : (0 ≡ suc w.place) → ⊥ = λ e. cc e in
            let out = apart 0 (suc w.place) first w.link (record { there = refl; marked = refl })
            (record { there = w.is_kept.there; marked = w.is_kept.marked }) differ n x in
            false≢true (sym out ∙ w.inside);
      }

  -- ---- a link that was left alone holds still

  left_holds : (base board : Board) (link : Link) → HasStonesOf player base board → AreLeft base board None link.carrier
      → Secures player link.carrier link.a link.b base other
      → Secures player link.carrier link.a link.b board other
  left_holds base board link stones left holds =
      (kept player (IsJoined player link.a link.b) (joined_stays player link.a link.b) (has link.carrier) board).better
      (has link.carrier) base other
      (record {
        keeps = record { same_size = stones.same_size; own = stones.own };
        free = λ n free. inl (record { inside = free.inside; empty = left n free.inside free.empty (λ e. cc e) });
      })
      holds

  full_holds : (base : Board) (link : Link) → link.kind ≡ Full → LinkHolds base player link
      → Secures player link.carrier link.a link.b base other
  full_holds base link full holds = rw full at holds

  -- who keeps links wins with the opponent to move
  pub kept_wins : (base board : Board) (links : List Link) (marks : List Bool)
      → ((place : ℕ) (link : Link) → slice_get links place ≡ Some link → LinkHolds base player link)
      → AreKept base player links marks None None board → Wins player board other
  kept_wins base board links marks holds are =
      region_wins player (in_kept marks links) board board other
      (record {
        keeps = (as_good_itself player (in_kept marks links) board).keeps;
        free = λ n free. inl
            (record { inside = refl; empty = free.empty });
      })
      (in_reach_beside_reached player (in_kept marks links) (HasStonesOf player board) (EachJoined marks links) (λ b. HasChain b player)
      (λ before after keeps stones. record { same_size = keeps.same_size ∙ stones.same_size; own = λ n h. keeps.own n (stones.own n h) })
      (λ later stones each. are.lead later stones (each-are marks links later each) tt)
      board other (record { same_size = refl; own = λ n h. h })
      (all_secured marks links board
      (λ p l k. left_holds base board l are.stones (are.left p l k) (full_holds base l (are.full p l k) (holds p l k.there)))
      are.apart))
