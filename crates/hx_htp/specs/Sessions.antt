-- A session beside its answerer.
use Rattle.hx_htp.specs.States.{State}
use Rattle.hx_htp.specs.Accounts.{Account}

-- the state of a session and the account of its answerer, at one moment
pub record Moment : Type 0 where
  pub state : State
  pub account : Account

abbrev pub moment : State → Account → Moment
moment state account = record { state = state; account = account }
