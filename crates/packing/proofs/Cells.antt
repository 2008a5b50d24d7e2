-- A cell that was packed unpacks to itself, only its packing unpacks to it, and what unpacks is lawful and fits.
use Rattle.std.proofs.Common.{◌≡◌, ℕ, ◌/◌, ◌%◌, ◌^◌, ◌<◌, Bool, true, false, List, length, get_or, Some, Option, sym, refl, ap, ◌∙◌, arith}
use Rattle.std.proofs.lemmas.Nat.{div-mul-add, mod-mul-add}
use Rattle.std.proofs.lemmas.Bool.{and_from, both_ways}
use Rattle.std.proofs.lemmas.Bool.Decides.{nat_tests}
use Rattle.cells.specs.declared.Field.{Field}
use Rattle.cells.specs.declared.Reference.{Reference}
use Rattle.cells.specs.declared.Source.{Source}
use Rattle.cells.specs.declared.Cell.{Cell}
use Rattle.cells.specs.declared.Cell.TheVariants.{Blank, Pair, Leaf, Moved}
use Rattle.cells.specs.Leaves.{Laws}
use Rattle.packing.specs.Fields.{pack_reference, unpack_reference, pack_field, unpack_field, pack_source, unpack_source, reference_fits, field_fits, source_fits}
use Rattle.cells.specs.Banks.{leaf_lawful}
use Rattle.packing.specs.Cells.{nine_bytes, body_of, halves, kind_and_body, pack_cell, pair_of, leaf_of, moved_of, by_kind, cell_of, unpack_cell, cell_fits, Alone}
use Rattle.packing.proofs.Fields.{reference_back, reference_only, reference_fits_lem, reference_small, field_back, field_only, field_fits_lem, field_small, source_back, source_only, source_fits_lem, source_small}
use Rattle.packing.proofs.Bytes.{body_nine, nine_body}

-- what the parts of a cell were read from: a kind's byte, two fields, a leaf, a forward and a source
abbrev Parts : {V : Type 0} → ℕ → Option Field → Option Field → Option V → Option Reference → Option Source → Cell V → Type 0
Parts kind o p v m n Blank = Unit {0}
Parts kind o p v m n (Pair left right) = (kind ≡ 0x40) × (o ≡ Some left) × (p ≡ Some right)
Parts kind o p v m n (Leaf x) = (kind ≡ 0x80) × (v ≡ Some x)
Parts kind o p v m n (Moved forward source) = (kind ≡ 0xC0) × (m ≡ Some forward) × (n ≡ Some source)

parts : {V : Type 0} (kind : ℕ) (o p : Option Field) (v : Option V) (m : Option Reference) (n : Option Source) (c : Cell V) → by_kind kind (pair_of o p) (leaf_of v) (moved_of m n) ≡ c → Parts kind o p v m n c
parts kind o p v m n Blank e = tt
parts kind o p v m n (Pair left right) e = grind (arith, nat_tests)
parts kind o p v m n (Leaf x) e = grind (arith, nat_tests)
parts kind o p v m n (Moved forward source) e = grind (arith, nat_tests)

pub cell_length : {V : Type 0} (lawful : V → Bool) (word : V → ℕ) (c : Cell V) → length (pack_cell lawful word c) ≡ 9
unfolding pack_cell
cell_length lawful word c = refl

-- for a leaf kind that keeps its laws
module _ {V : Type 0} {lawful : V → Bool} {tidied : V → Option V} {word : V → ℕ} {taken : ℕ → Option V} {alike : V → V → Bool} (laws : Laws lawful tidied word taken alike) where
  -- the body of a cell fits 64 bits
  body_small : (c : Cell V) → leaf_lawful lawful c ≡ true → cell_fits c ≡ true → (kind_and_body lawful word c).1 < 2 ^ 64
  body_small Blank good fits = omega arith
  body_small (Pair left right) good fits =
      let l : field_fits left ≡ true = grind (arith, nat_tests) in
      let r : field_fits right ≡ true = grind (arith, nat_tests) in
      omega (arith, field_small left l, field_small right r)
  body_small (Leaf v) good fits = rw good (laws.fits v good)
  body_small (Moved forward source) good fits =
      let f : reference_fits forward ≡ true = grind (arith, nat_tests) in
      let s : source_fits source ≡ true = grind (arith, nat_tests) in
      omega (arith, reference_small forward f, source_small source s)

  parted_back : (c : Cell V) → leaf_lawful lawful c ≡ true → cell_fits c ≡ true → cell_of taken (kind_and_body lawful word c).0 (kind_and_body lawful word c).1 ≡ c
  parted_back Blank good fits = refl
  parted_back (Pair left right) good fits =
      let l : field_fits left ≡ true = grind (arith, nat_tests) in
      let r : field_fits right ≡ true = grind (arith, nat_tests) in
      let upper = div-mul-add (pack_field left) (2 ^ 32) (pack_field right) (field_small right r) in
      let lower = mod-mul-add (pack_field left) (2 ^ 32) (pack_field right) (field_small right r) in
      rw (upper, lower, field_back left l, field_back right r)
  parted_back (Leaf v) good fits = rw (good, laws.back v good)
  parted_back (Moved forward source) good fits =
      let f : reference_fits forward ≡ true = grind (arith, nat_tests) in
      let s : source_fits source ≡ true = grind (arith, nat_tests) in
      let upper = div-mul-add (pack_reference forward) (2 ^ 32) (pack_source source) (source_small source s) in
      let lower = mod-mul-add (pack_reference forward) (2 ^ 32) (pack_source source) (source_small source s) in
      rw (upper, lower, reference_back forward f, source_back source s)

  -- a cell that was packed unpacks to itself
  pub cell_back : (c : Cell V) → leaf_lawful lawful c ≡ true → cell_fits c ≡ true → unpack_cell taken (pack_cell lawful word c) ≡ c
  unfolding pack_cell unpack_cell
  cell_back c good fits =
      ap (cell_of taken (kind_and_body lawful word c).0) (body_nine (kind_and_body lawful word c).0 (kind_and_body lawful word c).1 (body_small c good fits)) ∙ parted_back c good fits

  -- so the bytes of a cell are those of no other
  pub cell_alone : (c : Cell V) → cell_fits c ≡ true → Alone lawful word c (pack_cell lawful word c)
  cell_alone c fits good d good-d fits-d =
      (λ e. sym (cell_back d good-d fits-d) ∙ ap (unpack_cell taken) e ∙ cell_back c good fits, λ e. ap (pack_cell lawful word) e)

  -- a leaf that is not lawful comes back as a blank cell
  pub cell_unlawful : (c : Cell V) → leaf_lawful lawful c ≡ false → unpack_cell taken (pack_cell lawful word c) ≡ Blank
  unfolding pack_cell unpack_cell
  cell_unlawful Blank bad = refl
  cell_unlawful (Pair left right) bad = absurd (both_ways true bad refl)
  cell_unlawful (Leaf v) bad = rw bad
  cell_unlawful (Moved forward source) bad = absurd (both_ways true bad refl)

  -- `parts` at a kind's byte and a body
  parts_of : (kind body : ℕ) (c : Cell V) → cell_of taken kind body ≡ c → Parts kind (unpack_field (body / 2 ^ 32)) (unpack_field (body % 2 ^ 32)) (taken body) (unpack_reference (body / 2 ^ 32)) (unpack_source (body % 2 ^ 32)) c
  parts_of kind body c e = parts kind _ _ _ _ _ c e

  parted_only : (kind body : ℕ) (c : Cell V) → cell_of taken kind body ≡ c → (c ≡ Blank → ⊥) → kind_and_body lawful word c ≡ (kind, body)
  parted_only kind body Blank e full = absurd (full refl)
  parted_only kind body (Pair left right) e full =
      let p = parts_of kind body (Pair left right) e in
      let u = field_only (body / 2 ^ 32) left p.1 in
      let l = field_only (body % 2 ^ 32) right p.2 in
      let whole : halves (pack_field left) (pack_field right) ≡ body = omega arith in
      cc
  parted_only kind body (Leaf v) e full =
      let p = parts_of kind body (Leaf v) e in
      let o = laws.only body v p.1 in
      rw o.0 (cc)
  parted_only kind body (Moved forward source) e full =
      let p = parts_of kind body (Moved forward source) e in
      let u = reference_only (body / 2 ^ 32) forward p.1 in
      let l = source_only (body % 2 ^ 32) source p.2 in
      let whole : halves (pack_reference forward) (pack_source source) ≡ body = omega arith in
      cc

  -- nine bytes that unpack to a cell that is not blank are its packing
  pub cell_only : (bs : List ℕ) → length bs ≡ 9 → ((k : ℕ) → k < 9 → get_or bs k 0 < 256) → (c : Cell V) → unpack_cell taken bs ≡ c → (c ≡ Blank → ⊥) → pack_cell lawful word c ≡ bs
  unfolding pack_cell unpack_cell
  cell_only bs len bytes c e full =
      ap (λ (p : ℕ × ℕ). nine_bytes p.0 p.1) (parted_only (get_or bs 0 0) (body_of bs) c e full) ∙ nine_body bs len bytes

  -- what unpacks is lawful
  pub cell_lawful : (bs : List ℕ) (c : Cell V) → unpack_cell taken bs ≡ c → leaf_lawful lawful c ≡ true
  unfolding unpack_cell
  cell_lawful bs Blank e = refl
  cell_lawful bs (Pair left right) e = refl
  cell_lawful bs (Leaf v) e = (laws.only (body_of bs) v (parts_of (get_or bs 0 0) (body_of bs) (Leaf v) e).1).0
  cell_lawful bs (Moved forward source) e = refl

  -- what unpacks fits
  pub cell_fits_lem : (bs : List ℕ) (c : Cell V) → unpack_cell taken bs ≡ c → cell_fits c ≡ true
  unfolding unpack_cell
  cell_fits_lem bs Blank e = refl
  cell_fits_lem bs (Pair left right) e =
      let p = parts_of (get_or bs 0 0) (body_of bs) (Pair left right) e in
      and_from (field_fits left) (field_fits right) (field_fits_lem (body_of bs / 2 ^ 32) left p.1) (field_fits_lem (body_of bs % 2 ^ 32) right p.2)
  cell_fits_lem bs (Leaf v) e = refl
  cell_fits_lem bs (Moved forward source) e =
      let p = parts_of (get_or bs 0 0) (body_of bs) (Moved forward source) e in
      and_from (reference_fits forward) (source_fits source) (reference_fits_lem (body_of bs / 2 ^ 32) forward p.1) (source_fits_lem (body_of bs % 2 ^ 32) source p.2)
