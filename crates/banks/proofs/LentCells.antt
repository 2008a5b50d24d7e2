-- Looking into a list of cells, and what a put into lent cells leaves of their meaning.
use Rattle.std.proofs.Common.{◌≡◌, ℕ, zero, suc, ◌<◌, ◌≤◌, Bool, true, List, [], ◌∷◌, length, get_or, set, Some, None, Option, refl, arith}
use Rattle.std.proofs.lemmas.List.{length-map, map-set}
use Rattle.std.proofs.lemmas.Bool.Decides.{nat_tests}
use Rattle.cells.specs.declared.Cell.{Cell}
use Rattle.cells.specs.Banks.{cell_at, found_lawful, storable, takes, after_put}
use Rattle.banks.specs.Open.{readable, found_readable, open_cells}

pub cell_at_in : {V : Type 0} (cs : List (Cell V)) (a : ℕ) (d : Cell V) → a < length cs → cell_at cs a ≡ Some (get_or cs a d)
cell_at_in [] a d h = absurd (omega arith)
cell_at_in (c ∷ cs) zero d h = refl
cell_at_in (c ∷ cs) (suc a) d h = cell_at_in cs a d (omega arith)

pub cell_at_past : {V : Type 0} (cs : List (Cell V)) (a : ℕ) → length cs ≤ a → cell_at cs a ≡ None
cell_at_past [] a h = refl
cell_at_past (c ∷ cs) zero h = absurd (omega arith)
cell_at_past (c ∷ cs) (suc a) h = cell_at_past cs a (omega arith)

pub cell_at_set : {V : Type 0} (cs : List (Cell V)) (a : ℕ) (c : Cell V) → a < length cs → cell_at (set cs a c) a ≡ Some c
cell_at_set [] a c h = absurd (omega arith)
cell_at_set (d ∷ cs) zero c h = refl
cell_at_set (d ∷ cs) (suc a) c h = cell_at_set cs a c (omega arith)

module _ {V : Type 0} (lawful : V → Bool) where
  pub length_open : (cs : List (Cell V)) → length (open_cells lawful cs) ≡ length cs
  length_open cs = length-map cs (readable lawful)

  pub cell_at_open : (cs : List (Cell V)) (a : ℕ) → cell_at (open_cells lawful cs) a ≡ found_readable lawful (cell_at cs a)
  cell_at_open [] a = refl
  cell_at_open (c ∷ cs) zero = refl
  cell_at_open (c ∷ cs) (suc a) = cell_at_open cs a

  -- what reads is lawful
  pub readable_lawful : (o : Option (Cell V)) → found_lawful lawful (found_readable lawful o) ≡ true
  readable_lawful o = grind (arith, nat_tests)

  storable_read : (c : Cell V) → storable lawful c ≡ true → readable lawful c ≡ c
  storable_read c h = grind (arith, nat_tests)

  pub takes_open : (cs : List (Cell V)) (a : ℕ) (c : Cell V) → takes lawful (open_cells lawful cs) a c ≡ takes lawful cs a c
  takes_open cs a c = rw (length_open cs)

  -- the meaning follows a put
  pub open_after : (cs : List (Cell V)) (a : ℕ) (c : Cell V) → open_cells lawful (after_put lawful cs a c) ≡ after_put lawful (open_cells lawful cs) a c
  open_after cs a c = grind (arith, nat_tests, takes_open cs a c, map-set (readable lawful) cs a c, storable_read c)
