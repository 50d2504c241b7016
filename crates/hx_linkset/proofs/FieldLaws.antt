-- What the fields of a set keep, they keep from call to call; and what contracts see of them is what the calls promise.
use Rattle.std.proofs.Common.{◌≡◌, ℕ, get_or, ◌<◌, ◌≤◌, List, [], ◌∷◌, ◌++◌, length, drop, reverse, sym, ap, ◌∙◌, inl}
use Rattle.std.proofs.Common.{inr, Some, suc, arith}
use Rattle.std.specs.Prelude.{slice_get}
use Rattle.hx_board.specs.declared.colours.Colour.{Colour}
use Rattle.hx_board.specs.Positions.{Board, IsBoard}
use Rattle.hx_board.specs.Counts.{empty_count}
use Rattle.hx_board.specs.Graph.{Grouped}
use Rattle.hx_link.specs.declared.links.Allowed.{Allowed}
use Rattle.hx_link.specs.declared.links.Link.{Link}
use Rattle.hx_link.specs.declared.steps.Step.{Step}
use Rattle.hx_link.specs.Steps.{IsAllowed}
use Rattle.hx_linkset.specs.declared.fulls.FullLink.{FullLink}
use Rattle.hx_linkset.specs.declared.plays.Stage.{Stage}
use Rattle.hx_linkset.specs.declared.limits.TheConstants.{MOST_LINKS}
use Rattle.hx_linkset.specs.States.{State, IsLive, IsRight, GivesFromLive, added}
use Rattle.hx_linkset.specs.Plays.{HasMore, past_of, Stands, stage_before, standing}
use Rattle.hx_linkset.specs.LastStones.{board_before, AreDropped}
use Rattle.hx_linkset.specs.Rings.{Rings, grown}
use Rattle.hx_linkset.specs.Held.{AreHeads, head_of, head_at, IsLinked, RingsHold, IsPassed, IsLiveThere}
use Rattle.hx_linkset.specs.History.{HoldsLive, HasHistory, FieldsKeep}
use Rattle.hx_linkset.specs.Fulls.{AreFullLists}
use Rattle.hx_linkset.proofs.GivenLaws.{from_live-live}
use Rattle.hx_linkset.proofs.HeadLaws.{live-small}
use Rattle.hx_linkset.proofs.StandingLaws.{reverse-push, keeps-right, keeps-none, room-play, keeps-played}
use Rattle.hx_linkset.proofs.StandingLaws.{standing-played, keeps-added, standing-added}
use Rattle.hx_linkset.proofs.StonesLaws.{more-right, more-fewer_live, more-fewer_empty}
use Rattle.hx_linkset.proofs.LogLaws.{log-none}
use Rattle.hx_linkset.proofs.PassLaws.{head_at-low}
use Rattle.hx_linkset.proofs.HistoryLaws.{LastFits, holds-now, history-played, history-added}
use Rattle.hx_linkset.proofs.LastStoneLaws.{since, board-first, dropped-are}

-- ---- no link yet

module _ (rings : Rings) (heads : AreHeads rings) (Has : ℕ → Link → Type 0) where
  low : (node : ℕ) → IsLinked [] Has node → node < 30258
  low node (inl less) = less
  low node (inr w) = let there : slice_get [] w.0 ≡ Some w.1.0 = w.1.1.1.0 in cc

  own : (node : ℕ) → IsLinked [] Has node → head_at [] node ≡ node
  own node k = head_at-low [] node (low node k)

  next_own : (node : ℕ) → IsLinked [] Has node → get_or rings.next node 0 ≡ node
  next_own node k = heads.next.each node (low node k)

  previous_own : (node : ℕ) → IsLinked [] Has node → get_or rings.previous node 0 ≡ node
  previous_own node k = heads.previous.each node (low node k)

  stays : (node other : ℕ) → node ≡ other → IsLinked [] Has other → IsLinked [] Has node
  stays node other e k = inl (omega (arith, e, low other k))

  rings-none : RingsHold [] Has rings
  rings-none = record {
    rings_ok = record {
      head_linked = λ v k. stays _ _ (own v k) k;
      head_own = λ v k. ap (head_at []) (own v k);
      above = λ v k. omega (arith, own v k);
      next_linked = λ v k. stays _ _ (next_own v k) k;
      previous_linked = λ v k. stays _ _ (previous_own v k) k;
      same_head = λ v k. ap (head_at []) (next_own v k);
      back = λ v k. ap (λ n. get_or rings.previous n 0) (next_own v k) ∙ previous_own v k;
      forth = λ v k. ap (λ n. get_or rings.next n 0) (previous_own v k) ∙ next_own v k;
      clear = λ v u k l e.
          let same : u ≡ v = sym (own u l) ∙ (e ∙ own v k) in
          (λ less. inl (omega (arith, same)), λ le. (omega (arith, same, next_own v k), omega (arith, same)));
    };
    next_long = heads.next.long;
    previous_long = heads.previous.long;
  }

pub fields-none : (player : Colour) (board : Board) (links : List Link) (steps : List Step) (plays : List Stage)
    (groups : Grouped) (allowed : Allowed) (rings : Rings) (fulls : List (List FullLink)) (log : List ℕ) (plays_capacity : ℕ)
    → links ≡ [] → steps ≡ [] → plays ≡ [] → log ≡ [] → groups ≡ record { board = board; player = player }
    → IsAllowed allowed board player → IsBoard board → AreHeads rings → AreFullLists [] fulls → 121 ≤ plays_capacity
    → FieldsKeep player (record {
      board = board;
      links = links;
      steps = steps;
    }) plays groups allowed rings fulls log plays_capacity
fields-none player board links steps plays groups allowed rings fulls log plays_capacity no_links no_steps no_plays
    no_log groups_are allowed_is is_board heads no_fulls room =
    rw (no_links, no_steps, no_plays, no_log) record {
      keeps = keeps-none player board is_board;
      history = record {
        hold = rings-none rings heads (IsLiveThere board player);
        log_ok = log-none [] (IsLiveThere board player);
        others_live = λ place link there. cc;
      };
      groups_are = groups_are;
      allowed_is = allowed_is;
      fulls_are = no_fulls;
      plays_room = room;
    }

module _ (player : Colour) (board : Board) (links : List Link) (steps : List Step) (plays : List Stage) (groups : Grouped)
    (allowed : Allowed) (rings : Rings) (fulls : List (List FullLink)) (log : List ℕ) (plays_capacity : ℕ)
    (k : FieldsKeep player (record {
      board = board;
      links = links;
      steps = steps;
    }) plays groups allowed rings fulls log plays_capacity) where
  abbrev old : State
  old = record { board = board; links = links; steps = steps }

  -- how the set stands
  abbrev pub stage : Stage
  stage = record { position = board; count = length links; logged = length log }

  pub now : HoldsLive player board links rings log
  now = holds-now player board links rings log (reverse plays) k.history

  pub right : IsRight player old
  right = keeps-right player old plays k.keeps

  -- ---- before the last plays

  abbrev pub first : Stage
  first = stage_before stage (reverse plays)

  pub first-fits : first.logged ≤ length log
  first-fits = (since player board links steps plays rings log k.keeps.stands k.history).0

  pub first-board : first.position ≡ board_before (length links) board (past_of old (reverse plays))
  first-board = board-first player board links steps plays rings log k.keeps.stands k.history

  pub first-dropped : AreDropped (standing player old plays) (drop first.logged log)
  first-dropped = dropped-are player board links steps plays rings log k.keeps.stands k.history

  -- ---- a play

  module _ (after : Board) (more : HasMore board after) where
    abbrev new : State
    new = record { board = after; links = links; steps = steps }

    right_after : IsRight player new
    right_after = more-right board after more player links steps right

    filled : suc (empty_count after) ≤ empty_count board
    filled = more-fewer_empty board after more right.is_board

    pub fields-room : length plays < plays_capacity
    fields-room = omega (arith, room-play player old plays after 0 right_after filled k.keeps, k.plays_room)

    module _ (plays' : List Stage) (play : Stage) (is_play : play ≡ stage) (is_plays : plays' ≡ plays ++ play ∷ []) where
      plays_are : plays' ≡ plays ++ stage ∷ []
      plays_are = is_plays ∙ ap (λ (p : Stage). plays ++ p ∷ []) is_play

      pub seen-played : standing player new plays' ≡ record { player = player; present = new; past = old ∷ past_of old (reverse plays) }
      seen-played = rw plays_are (standing-played player old plays after (length log) right_after filled k.keeps)

      module _ (rings' : Rings) (log' : List ℕ) (passed : IsPassed links board after player (length links) rings rings' log log') where
        history_is : HasHistory player after links rings' log' (reverse (plays ++ stage ∷ []))
        history_is = rw reverse-push
            (history-played links board after player rings rings' log log' passed (more-fewer_live board after more player)
            now.others_live (reverse plays) k.history)

        pub fields-played : (groups' : Grouped) (allowed' : Allowed) (plays_capacity' : ℕ)
            → groups' ≡ record { board = after; player = player } → IsAllowed allowed' after player → plays_capacity' ≡ plays_capacity
            → FieldsKeep player new plays' groups' allowed' rings' fulls log' plays_capacity'
        fields-played groups' allowed' plays_capacity' is_groups allowed_is is_capacity = record {
          keeps = rw plays_are (keeps-played player old plays after (length log) right_after filled k.keeps);
          history = rw plays_are history_is;
          groups_are = is_groups;
          allowed_is = allowed_is;
          fulls_are = k.fulls_are;
          plays_room = rw is_capacity k.plays_room;
        }

  -- ---- the lists of Full links alone made anew

  pub fields-same : (links' : List Link) (steps' : List Step) (rings' : Rings) (fulls' : List (List FullLink)) → links' ≡ links
      → steps' ≡ steps → rings' ≡ rings → AreFullLists links fulls'
      → FieldsKeep player (record {
        board = board;
        links = links';
        steps = steps';
      }) plays groups allowed rings' fulls' log plays_capacity
  fields-same links' steps' rings' fulls' same_links same_steps same_rings are_fulls = record {
    keeps = rw (same_links, same_steps) k.keeps;
    history = rw (same_links, same_rings) k.history;
    groups_are = k.groups_are;
    allowed_is = k.allowed_is;
    fulls_are = rw same_links are_fulls;
    plays_room = k.plays_room;
  }

  -- ---- a link more

  last_fits : (ps : List Stage) → Stands player old ps → LastFits links ps
  last_fits [] s = tt
  last_fits (p ∷ ps) s = s.1.0

  module _ (link : Link) (step : Step) (g : GivesFromLive board player links step link) where
    live : IsLive board player link
    live = from_live-live board player links step link g

    pub added-small : head_of link < 30258
    added-small = live-small board right.is_board player link live

    module _ (links' : List Link) (steps' : List Step) (rings' : Rings) (is_links : links' ≡ links ++ link ∷ [])
        (is_steps : steps' ≡ steps ++ step ∷ []) where
      pub fields-added : length links < MOST_LINKS → rings' ≡ grown rings (head_of link) → (fulls' : List (List FullLink))
          → AreFullLists (links ++ link ∷ []) fulls'
          → FieldsKeep player (record {
            board = board;
            links = links';
            steps = steps';
          }) plays groups allowed rings' fulls' log plays_capacity
      fields-added less is_rings fulls' are_fulls = record {
        keeps = rw (is_links, is_steps) (keeps-added player old plays link step g k.keeps less);
        history = rw (is_links, is_rings)
            (history-added links board player rings log now link live added-small (reverse plays)
            (last_fits (reverse plays) k.keeps.stands) k.history);
        groups_are = k.groups_are;
        allowed_is = k.allowed_is;
        fulls_are = rw is_links are_fulls;
        plays_room = k.plays_room;
      }

      pub seen-added : standing player (record { board = board; links = links'; steps = steps' }) plays
          ≡ record { player = player; present = added old link step; past = past_of old (reverse plays) }
      seen-added = rw (is_links, is_steps) (standing-added player old plays link step g k.keeps)
