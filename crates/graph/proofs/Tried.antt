-- Each example is computed by the test, and the test's theorem says what its answer means.
use Rattle.std.proofs.Common.{◌≡◌, true, false, List, refl}
use Rattle.cells.specs.declared.Field.{Field}
use Rattle.cells.specs.declared.Cell.{Cell}
use Rattle.graph.specs.Places.{Canonical, met}
use Rattle.graph.specs.Checks.{is_canonical}
use Rattle.graph.specs.Examples.{Examples}
use Rattle.graph.proofs.Decided.{canonical_is_decided}
use Rattle.std.proofs.lemmas.Bool.Decides.{not_from_Decides}

is : {V : Type 0} {hands : List Field} {cells : List (Cell V)} → is_canonical hands cells ≡ true → Canonical hands cells
is {hands} {cells} e = (canonical_is_decided hands cells).0 e

is_not : {V : Type 0} {hands : List Field} {cells : List (Cell V)} → is_canonical hands cells ≡ false → Canonical hands cells → ⊥
is_not {hands} {cells} e = not_from_Decides (is_canonical hands cells) (canonical_is_decided hands cells) e

pub examples : {V : Type 0} → Examples V
unfolding met
examples =
    record {
      empty = is refl;
      knot = is refl;
      held_leaf = λ v. is refl;
      two_hands = λ v. is refl;
      hopeful = is_not refl;
      doubtful = λ v. is_not refl;
      lost = λ v. is_not refl;
      crossed = λ v w. is_not refl;
      adrift = is_not refl;
      outside = is_not refl;
      hollow = is_not refl;
      short = is_not refl;
    }
