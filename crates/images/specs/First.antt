-- Which fault of bytes is the first: the heading's, then those of hands and cells in visiting order, then those of tags. Assumes nothing.
use Rattle.std.specs.Prelude.{ℕ, zero, suc, ◌+◌, ◌*◌, cond, List, length, drop, Some, None, Option, nat_le, nat_lt}
use Rattle.cells.specs.declared.Field.{Field}
use Rattle.cells.specs.declared.Field.TheVariants.{Nil, To}
use Rattle.cells.specs.declared.Side.TheVariants.{Left, Right}
use Rattle.cells.specs.declared.Cell.{Cell}
use Rattle.cells.specs.declared.Cell.TheVariants.{Blank, Pair, Leaf, Moved}
use Rattle.graph.specs.Places.{refers_to, meeting, met}
use Rattle.graph.specs.Checks.{tagged}
use Rattle.images.specs.declared.faults.Place.{Place}
use Rattle.images.specs.declared.faults.Place.TheVariants.{Hand, Cell as Of}
use Rattle.images.specs.declared.faults.Flaw.{Flaw}
use Rattle.images.specs.declared.faults.Flaw.TheVariants.{BadHand, BadCell, Outside, OutOfOrder, Unmet, WrongTag}
use Rattle.images.specs.declared.faults.Fault.{Fault}
use Rattle.images.specs.declared.faults.Fault.TheVariants.{TooShort, Flawed}
use Rattle.images.specs.Layout.{stored_hand, stored_cell, held, kind_in, count_in}
use Rattle.images.specs.Faults.{number_of, misheaded}

-- the one that was found, else the other
abbrev pub or_else : {A : Type 0} → Option A → Option A → Option A
or_else (Some x) y = Some x
or_else None y = y

-- the first that is found at the numbers below n
unfoldable pub first : {A : Type 0} → (ℕ → Option A) → ℕ → Option A
first at zero = None
first at (suc n) = or_else (first at n) (at n)

-- the flaw of a field at a place, where r cells are there and m addresses are met
abbrev pub misstep : Place → Field → ℕ → ℕ → Option Flaw
misstep place Nil r m = None
misstep place (To x) r m =
    cond (nat_le r x.address) (Some (Outside place x.address))
    (cond (nat_lt m x.address) (Some (OutOfOrder place x.address m)) None)

-- the flaw of the cell j, whose fields come next, where m addresses are met
abbrev pub too_early : ℕ → ℕ → Option Flaw
too_early j m = cond (nat_lt j m) None (Some (Unmet j))

-- the flaw of hand i, where this stands for it
abbrev pub hand_step : ℕ → Option Field → ℕ → ℕ → Option Flaw
hand_step i None r m = Some (BadHand i)
hand_step i (Some f) r m = misstep (Hand i) f r m

-- the flaw of cell j, where it is met: its kind, its left side, its right side
abbrev pub node_step : {V : Type 0} → ℕ → Cell V → ℕ → ℕ → Option Flaw
node_step j Blank r m = Some (BadCell j)
node_step j (Pair x y) r m = or_else (misstep (Of Left j) x r m) (misstep (Of Right j) y r (meeting m x))
node_step j (Leaf v) r m = None
node_step j (Moved f o) r m = Some (BadCell j)

abbrev pub cell_step : {V : Type 0} → ℕ → Cell V → ℕ → ℕ → Option Flaw
cell_step j c r m = or_else (too_early j m) (node_step j c r m)

-- how many of the places below p refer to an address
unfoldable pub references : (ℕ → Field) → ℕ → ℕ → ℕ
references at a zero = 0
references at a (suc p) = cond (refers_to a (at p)) (suc (references at a p)) (references at a p)

-- the flaw of a field's tag, where so many places refer to each address
abbrev pub tag_step : (ℕ → ℕ) → Place → Field → Option Flaw
tag_step count place Nil = None
tag_step count place (To x) = cond (tagged x.tag (nat_le 2 (count x.address))) None (Some (WrongTag place x))

module _ {V : Type 0} (taken : ℕ → Option V) (rest : List ℕ) (r : ℕ) where
  -- the flaws of r cells and sixteen hands as they stand after the first four bytes, hand by hand and cell by cell
  abbrev pub hand_flaw : ℕ → Option Flaw
  hand_flaw i = hand_step i (stored_hand rest i) r (met (held taken rest r) i)

  abbrev pub cell_flaw : ℕ → Option Flaw
  cell_flaw j = cell_step j (stored_cell taken rest j) r (met (held taken rest r) (16 + 2 * j))

  -- and those of their tags
  abbrev pub tag_flaw : Place → Option Flaw
  tag_flaw place = tag_step (λ a. references (held taken rest r) a (16 + 2 * r)) place (held taken rest r (number_of place))

  abbrev pub hand_tag : ℕ → Option Flaw
  hand_tag i = tag_flaw (Hand i)

  abbrev pub cell_tags : ℕ → Option Flaw
  cell_tags j = or_else (tag_flaw (Of Left j)) (tag_flaw (Of Right j))

  abbrev pub first_flaw : Option Flaw
  first_flaw = or_else (first hand_flaw 16) (or_else (first cell_flaw r) (or_else (first hand_tag 16) (first cell_tags r)))

-- the fault that a flaw is
abbrev pub flawed : Option Flaw → Option Fault
flawed None = None
flawed (Some flaw) = Some (Flawed flaw)

-- the first fault of bytes that should be an image of a kind
abbrev pub first_fault : {V : Type 0} → (ℕ → Option V) → ℕ → List ℕ → Option Fault
first_fault taken number bytes =
    cond (nat_lt (length bytes) 4) (Some TooShort)
    (or_else (misheaded (kind_in bytes) number (count_in bytes) (length bytes)) (flawed (first_flaw taken (drop 4 bytes) (count_in bytes))))
