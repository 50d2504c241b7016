-- The numbers that some moves tell, one move after the other.
use Rattle.std.proofs.Common.{List, [], ◌∷◌, ◌++◌}
use Rattle.hx_pn.specs.declared.proof_numbers.Numbers.{Numbers}
use Rattle.hx_ordering.specs.declared.children.Child.{Child}
use Rattle.hx_ordering.specs.Given.{AreTold, IsTold}

pub told_more : (children : List Child) (told : List Numbers) (child : Child) (numbers : Numbers)
    → AreTold children told → IsTold child numbers → AreTold (children ++ child ∷ []) (told ++ numbers ∷ [])
told_more [] [] child numbers all one = (one, tt)
told_more [] (first ∷ told) child numbers all one = absurd all
told_more (first ∷ children) [] child numbers all one = absurd all
told_more (first ∷ children) (second ∷ told) child numbers (is, all) one =
    (is, told_more children told child numbers all one)
