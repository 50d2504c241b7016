-- A set that grows: growth after growth is growth, and so is one link that was put at the end.
use Rattle.std.proofs.Common.{◌≡◌, ℕ, ◌+◌, length, refl, sym, ◌∙◌, subst, arith, length-append}
use Rattle.hx_link.specs.declared.steps.Step.{Step}
use Rattle.hx_linkset.specs.States.{Standing}
use Rattle.hx_linkset.specs.Answers.{IsPutAt}
use Rattle.hx_board.proofs.ListLaws.{get-push_before}
use Rattle.hx_reach.specs.Growth.{IsGrown}

pub grown-itself : (set : Standing) → IsGrown set set
grown-itself set = record {
  same_player = refl;
  same_board = refl;
  same_past = refl;
  longer = omega arith;
  links_stay = λ place link e. e;
  steps_stay = λ place step e. e;
}

pub grown-on : (a b c : Standing) → IsGrown a b → IsGrown b c → IsGrown a c
grown-on a b c g h = record {
  same_player = h.same_player ∙ g.same_player;
  same_board = h.same_board ∙ g.same_board;
  same_past = h.same_past ∙ g.same_past;
  longer = omega (arith, g.longer, h.longer);
  links_stay = λ place link e. h.links_stay place link (g.links_stay place link e);
  steps_stay = λ place step e. h.steps_stay place step (g.steps_stay place step e);
}

pub grown-same : (old new : Standing) → new ≡ old → IsGrown old new
grown-same old new same = let P : Standing → Type 0 = λ s. IsGrown old s in subst P (sym same) (grown-itself old)

module _ (old new : Standing) (step : Step) where
  -- a link that was put at the end
  pub put-grown : (place : ℕ) → IsPutAt old new step place → IsGrown old new
  put-grown place n = let P : Standing → Type 0 = λ s. IsGrown old s in subst P (sym n.grown) record {
    same_player = refl;
    same_board = refl;
    same_past = refl;
    longer = simp length-append (omega arith);
    links_stay = λ place link h. get-push_before old.present.links n.link place link h;
    steps_stay = λ place held h. get-push_before old.present.steps step place held h;
  }

  pub put-longer : (place : ℕ) → IsPutAt old new step place → length new.present.links ≡ length old.present.links + 1
  put-longer place n = let P : Standing → Type 0 = λ s. length s.present.links ≡ length old.present.links + 1 in
      subst P (sym n.grown) (simp length-append (omega arith))
