use Rattle.std.proofs.Common.{◌≡◌, [], ◌∷◌, ◌++◌, List, ℕ, ap, rules}
use Rattle.std.proofs.lemmas.Result.{err_from_is_err_and}
use Rattle.hx_lex.specs.Words.{spaced}
use Rattle.hx_parse.specs.TextLines.{Unread, StandsBehind}
use Rattle.hx_parse.proofs.UnreadLines.{stands_on, stands_whole, refuses}
use Rattle.hx_template_text.specs.Templates.{AreEnds, IsCarrierOf, IsTemplate, owner_line, kind_line, ends_line, carrier_line}
use Rattle.hx_template_text.specs.declared.templates.Template.{Template}
use Rattle.hx_template_text.proofs.Beginnings.{empty_carrier}
use Rattle.hx_template_text.proofs.TemplateFaults.{no_board, no_owner, no_kind, no_ends, no_carrier, ninth_line}
use Rattle.hx_template_text.proofs.reading.read_lines.Goals as goal

pub returns-in_err-position-clause-fault : goal.returns-in_err-position-clause-fault
unfolding spaced
returns-in_err-position-clause-fault c =
    let p = err_from_is_err_and c.from_residual.result c.from_residual.ensures.1 in
    let text : c.of-lines.result.rest ≡ c.args.bytes.now = ap (λ (u : Unread). u.rest) c.of-lines.ensures in
    rw (p.1, p.2) (no_board c.args.bytes.now _ (rw text at c.in_err-position.ensures.fault))

pub returns-in_err-owner-clause-fault : goal.returns-in_err-owner-clause-fault
unfolding spaced
returns-in_err-owner-clause-fault c =
    let p = err_from_is_err_and c.from_residual-in_err-owner.result c.from_residual-in_err-owner.ensures.1 in
    let text : c.of-lines.result.rest ≡ c.args.bytes.now = ap (λ (u : Unread). u.rest) c.of-lines.ensures in
    let board = rw text at c.in_ok-position.ensures.read in
    rw (p.1, p.2) (no_owner c.in_ok-position.position board.0 board.1 (refuses c.in_err-owner.ensures.fault _ (λ given met. search rules)))

pub returns-in_err-kind-clause-fault : goal.returns-in_err-kind-clause-fault
unfolding spaced
returns-in_err-kind-clause-fault c =
    let p = err_from_is_err_and c.from_residual-in_err-kind.result c.from_residual-in_err-kind.ensures.1 in
    let text : c.of-lines.result.rest ≡ c.args.bytes.now = ap (λ (u : Unread). u.rest) c.of-lines.ensures in
    let board = rw text at c.in_ok-position.ensures.read in
    let owner = stands_on board.1 c.in_ok-owner.ensures.read (owner_line c.in_ok-owner.owner) (λ given met. search rules) in
    rw (p.1, p.2) (no_kind c.in_ok-position.position board.0 c.in_ok-owner.owner owner
    (refuses c.in_err-kind.ensures.fault _ (λ given met. search rules)))

pub returns-in_err-a-clause-fault : goal.returns-in_err-a-clause-fault
unfolding spaced
returns-in_err-a-clause-fault c =
    let p = err_from_is_err_and c.from_residual-in_err-a.result c.from_residual-in_err-a.ensures.1 in
    let text : c.of-lines.result.rest ≡ c.args.bytes.now = ap (λ (u : Unread). u.rest) c.of-lines.ensures in
    let board = rw text at c.in_ok-position.ensures.read in
    let owner = stands_on board.1 c.in_ok-owner.ensures.read (owner_line c.in_ok-owner.owner) (λ given met. search rules) in
    let kind = stands_on owner c.in_ok-kind.ensures.read (kind_line c.in_ok-kind.kind) (λ given met. search rules) in
    rw (p.1, p.2) (no_ends c.in_ok-position.position board.0 c.in_ok-owner.owner c.in_ok-kind.kind kind
    (refuses c.in_err-a.ensures.fault _ (λ given met. search rules)))

pub returns-in_err-carrier-clause-fault : goal.returns-in_err-carrier-clause-fault
unfolding spaced
returns-in_err-carrier-clause-fault c =
    let p = err_from_is_err_and c.from_residual-in_err-carrier.result c.from_residual-in_err-carrier.ensures.1 in
    let text : c.of-lines.result.rest ≡ c.args.bytes.now = ap (λ (u : Unread). u.rest) c.of-lines.ensures in
    let board = rw text at c.in_ok-position.ensures.read in
    let owner = stands_on board.1 c.in_ok-owner.ensures.read (owner_line c.in_ok-owner.owner) (λ given met. search rules) in
    let kind = stands_on owner c.in_ok-kind.ensures.read (kind_line c.in_ok-kind.kind) (λ given met. search rules) in
    let a = c.in_ok-a.field-0.a in
    let b = c.in_ok-a.field-0.b in
    let are : AreEnds c.in_ok-position.position c.in_ok-owner.owner a b = search rules in
    let ends = stands_on kind c.in_ok-a.ensures.read (ends_line a b) (λ given met. search rules) in
    let claim : Template = record {
      position = c.in_ok-position.position;
      owner = c.in_ok-owner.owner;
      kind = c.in_ok-kind.kind;
      a = a;
      b = b;
      carrier = 0;
    } in
    let is : IsTemplate claim = record { board = board.0; ends = are; carrier = empty_carrier c.in_ok-position.position a b } in
    rw (p.1, p.2) (no_carrier claim is ends (refuses c.in_err-carrier.ensures.fault _ (λ given met. search rules)))

pub returns-in_err-end-clause-fault : goal.returns-in_err-end-clause-fault
unfolding spaced
returns-in_err-end-clause-fault c =
    let p = err_from_is_err_and c.from_residual-in_err-end.result c.from_residual-in_err-end.ensures.1 in
    let text : c.of-lines.result.rest ≡ c.args.bytes.now = ap (λ (u : Unread). u.rest) c.of-lines.ensures in
    let board = rw text at c.in_ok-position.ensures.read in
    let owner = stands_on board.1 c.in_ok-owner.ensures.read (owner_line c.in_ok-owner.owner) (λ given met. search rules) in
    let kind = stands_on owner c.in_ok-kind.ensures.read (kind_line c.in_ok-kind.kind) (λ given met. search rules) in
    let a = c.in_ok-a.field-0.a in
    let b = c.in_ok-a.field-0.b in
    let are : AreEnds c.in_ok-position.position c.in_ok-owner.owner a b = search rules in
    let ends = stands_on kind c.in_ok-a.ensures.read (ends_line a b) (λ given met. search rules) in
    let claim : Template = record {
      position = c.in_ok-position.position;
      owner = c.in_ok-owner.owner;
      kind = c.in_ok-kind.kind;
      a = a;
      b = b;
      carrier = c.in_ok-carrier.carrier;
    } in
    let fits : IsCarrierOf c.in_ok-position.position a b c.in_ok-carrier.carrier = search rules in
    let is : IsTemplate claim = record { board = board.0; ends = are; carrier = fits } in
    let whole = stands_on ends c.in_ok-carrier.ensures.read (carrier_line c.in_ok-carrier.carrier) (λ given met. search rules) in
    rw (p.1, p.2) (ninth_line claim is whole c.in_err-end.ensures.0 c.in_err-end.ensures.1)

pub returns-clause-read : goal.returns-clause-read
unfolding spaced
returns-clause-read c =
    let text : c.of-lines.result.rest ≡ c.args.bytes.now = ap (λ (u : Unread). u.rest) c.of-lines.ensures in
    let board = rw text at c.in_ok-position.ensures.read in
    let owner = stands_on board.1 c.in_ok-owner.ensures.read (owner_line c.in_ok-owner.owner) (λ given met. search rules) in
    let kind = stands_on owner c.in_ok-kind.ensures.read (kind_line c.in_ok-kind.kind) (λ given met. search rules) in
    let a = c.in_ok-a.field-0.a in
    let b = c.in_ok-a.field-0.b in
    let are : AreEnds c.in_ok-position.position c.in_ok-owner.owner a b = search rules in
    let ends = stands_on kind c.in_ok-a.ensures.read (ends_line a b) (λ given met. search rules) in
    let fits : IsCarrierOf c.in_ok-position.position a b c.in_ok-carrier.carrier = search rules in
    let whole = stands_on ends c.in_ok-carrier.ensures.read (carrier_line c.in_ok-carrier.carrier) (λ given met. search rules) in
    (record { board = board.0; ends = are; carrier = fits }, stands_whole whole c.in_ok-end.ensures)
