-- Several reads in a row are one.
use Rattle.std.proofs.Common.{◌≡◌, ℕ, List, [], ◌++◌, refl, ap, sym, append_assoc}
use Rattle.std.specs.Prelude.{Option, None, Some}
use Rattle.hx_io.specs.Sources.{prepend}

pub prepend-prepend : (front back : List ℕ) (left : Option (List ℕ)) → prepend front (prepend back left) ≡ prepend (front ++ back) left
prepend-prepend front back None = refl
prepend-prepend front back (Some left) = ap Some (sym (append_assoc front back left))

pub prepend-nil : (left : Option (List ℕ)) → prepend [] left ≡ left
prepend-nil None = refl
prepend-nil (Some left) = refl
