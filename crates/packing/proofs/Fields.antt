-- Words of 32 bits: what was packed unpacks to itself, and only a packing unpacks.
use Rattle.std.proofs.Common.{◌≡◌, ℕ, ◌^◌, ◌<◌, true, Some, arith}
use Rattle.std.proofs.lemmas.Bool.Decides.{nat_tests}
use Rattle.cells.specs.declared.Reference.{Reference}
use Rattle.cells.specs.declared.Field.{Field}
use Rattle.cells.specs.declared.Source.{Source}
use Rattle.packing.specs.Fields.{pack_reference, unpack_reference, pack_field, unpack_field, pack_source, unpack_source, reference_fits, field_fits, source_fits}

pub reference_back : (r : Reference) → reference_fits r ≡ true → unpack_reference (pack_reference r) ≡ Some r
reference_back r fits = grind (arith, nat_tests)

pub reference_only : (w : ℕ) (r : Reference) → unpack_reference w ≡ Some r → pack_reference r ≡ w
reference_only w r e = grind (arith, nat_tests)

pub reference_fits_lem : (w : ℕ) (r : Reference) → unpack_reference w ≡ Some r → reference_fits r ≡ true
reference_fits_lem w r e = grind (arith, nat_tests)

pub reference_small : (r : Reference) → reference_fits r ≡ true → pack_reference r < 2 ^ 32
reference_small r fits = grind (arith, nat_tests)

pub field_back : (f : Field) → field_fits f ≡ true → unpack_field (pack_field f) ≡ Some f
unfolding pack_field unpack_field
field_back f fits = grind (arith, nat_tests)

pub field_only : (w : ℕ) (f : Field) → unpack_field w ≡ Some f → pack_field f ≡ w
unfolding pack_field unpack_field
field_only w f e = grind (arith, nat_tests)

pub field_fits_lem : (w : ℕ) (f : Field) → unpack_field w ≡ Some f → field_fits f ≡ true
unfolding unpack_field
field_fits_lem w f e = grind (arith, nat_tests)

pub field_small : (f : Field) → field_fits f ≡ true → pack_field f < 2 ^ 32
unfolding pack_field
field_small f fits = grind (arith, nat_tests)

pub source_back : (s : Source) → source_fits s ≡ true → unpack_source (pack_source s) ≡ Some s
source_back s fits = grind (arith, nat_tests)

pub source_only : (w : ℕ) (s : Source) → unpack_source w ≡ Some s → pack_source s ≡ w
source_only w s e = grind (arith, nat_tests)

pub source_fits_lem : (w : ℕ) (s : Source) → unpack_source w ≡ Some s → source_fits s ≡ true
source_fits_lem w s e = grind (arith, nat_tests)

pub source_small : (s : Source) → source_fits s ≡ true → pack_source s < 2 ^ 32
source_small s fits = grind (arith, nat_tests)
