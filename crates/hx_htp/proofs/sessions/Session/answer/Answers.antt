use Rattle.std.proofs.Common.{sym, subst, Ok}
use Rattle.hx_htp.specs.declared.requests.Request.{Request}
use Rattle.hx_htp.specs.Answers.{Does}
use Rattle.hx_htp.specs.Sessions.{moment}
use Rattle.hx_htp.proofs.sessions.Session.answer.Goals as goal

pub returns-in-BoardSize-clause-does : goal.returns-in-BoardSize-clause-does
returns-in-BoardSize-clause-does g c =
    let account = g.A.Answerer.account c.args.answerer.now in
    let P : Request → Type 0 = λ r. Does (moment c.args.self.now account) r c.resize.result (moment c.resize.new.self account) in
    subst P (sym c.in-BoardSize.is) (c.resize.ensures account)

pub returns-in-Play-clause-does : goal.returns-in-Play-clause-does
returns-in-Play-clause-does g c =
    let account = g.A.Answerer.account c.args.answerer.now in
    let P : Request → Type 0 = λ r. Does (moment c.args.self.now account) r c.play.result (moment c.play.new.self account) in
    subst P (sym c.in-Play.is) (c.play.ensures account)

pub returns-in-Undo-clause-does : goal.returns-in-Undo-clause-does
returns-in-Undo-clause-does g c =
    let account = g.A.Answerer.account c.args.answerer.now in
    let P : Request → Type 0 = λ r. Does (moment c.args.self.now account) r c.undo.result (moment c.undo.new.self account) in
    subst P (sym c.in-Undo.is) (c.undo.ensures account)

pub returns-in-ClearBoard-clause-does : goal.returns-in-ClearBoard-clause-does
returns-in-ClearBoard-clause-does g c =
    let account = g.A.Answerer.account c.args.answerer.now in
    let P : Request → Type 0 = λ r. Does (moment c.args.self.now account) r (Ok c.clear.result) (moment c.clear.new.self account) in
    subst P (sym c.in-ClearBoard.is) (c.clear.ensures account)
