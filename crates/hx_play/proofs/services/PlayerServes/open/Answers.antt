use Rattle.std.proofs.Common.{◌≡◌, refl, sym, [], false}
use Rattle.hx_play.specs.GameTexts.GameRun.{Opened}
use Rattle.hx_play.proofs.GameRuns.{waits_after_opening}
use Rattle.hx_play.proofs.services.PlayerServes.open.Goals as goal

pub returns-clause-replies : goal.returns-clause-replies
returns-clause-replies g c = record {
  text = c.open-opening.result.text;
  stops = c.open-opening.result.ended;
  is_reply = Opened [] _ _ c.open-opening.result.ended refl c.open-opening.ensures;
  told = c.write_reply.ensures.told;
  written = rw c.bytes.ensures at c.write_reply.ensures.written;
}

pub returns-clause-waiting : goal.returns-clause-waiting
returns-clause-waiting g c = λ goes_on.
    let ended : false ≡ c.open-opening.result.ended = rw goes_on at c.write_reply.ensures.told in
    waits_after_opening c.args.self.now c.open-opening.result.text c.open-opening.new.player (rw (sym ended) at c.open-opening.ensures)
