-- What each fault says of the bytes that have it. Assumes nothing.
use Rattle.std.specs.Prelude.{◌≡◌, ℕ, ◌+◌, ◌*◌, ◌<◌, ◌≤◌, Bool, true, false, cond, ◌↔◌, List, length, drop, Some, None, Ok, Err, Option, Result, ◌==◌, ◌≢◌, nat_le, nat_lt}
use Rattle.cells.specs.declared.Tag.TheVariants.{Sticky}
use Rattle.cells.specs.declared.Field.TheVariants.{To}
use Rattle.graph.specs.Places.{place_of, refers_to, Another, met, is_node}
use Rattle.images.specs.declared.faults.Place.{Place}
use Rattle.images.specs.declared.faults.Place.TheVariants.{Hand, Cell}
use Rattle.images.specs.declared.faults.Flaw.{Flaw}
use Rattle.images.specs.declared.faults.Flaw.TheVariants.{BadHand, BadCell, Outside, OutOfOrder, Unmet, WrongTag}
use Rattle.images.specs.declared.faults.Fault.{Fault}
use Rattle.images.specs.declared.faults.Fault.TheVariants.{TooShort, WrongKind, TooManyCells, WrongLength, Flawed}
use Rattle.images.specs.Layout.{stored_hand, stored_cell, held, kind_in, count_in}
use Rattle.images.specs.Images.{IsImage, NoImage, HeldImage}

-- the number of a place, in visiting order
abbrev pub number_of : Place → ℕ
number_of (Hand i) = i
number_of (Cell side j) = place_of side j

-- what a flaw says of r cells and sixteen hands, as they stand after the first four bytes
abbrev pub Broken : {V : Type 0} → (ℕ → Option V) → List ℕ → ℕ → Flaw → Type 0
Broken taken rest r (BadHand i) = (i < 16) × (stored_hand rest i ≡ None)
Broken taken rest r (BadCell j) = (j < r) × (is_node (stored_cell taken rest j) ≡ false)
Broken taken rest r (Outside place a) =
    (number_of place < 16 + 2 * r) × (refers_to a (held taken rest r (number_of place)) ≡ true) × (r ≤ a)
Broken taken rest r (OutOfOrder place a next) =
    (number_of place < 16 + 2 * r) × (refers_to a (held taken rest r (number_of place)) ≡ true)
    × (met (held taken rest r) (number_of place) ≡ next) × (next < a)
Broken taken rest r (Unmet j) = (j < r) × (met (held taken rest r) (16 + 2 * j) ≤ j)
Broken taken rest r (WrongTag place x) =
    (held taken rest r (number_of place) ≡ To x)
    × (((x.tag ≡ Sticky) ↔ Another (held taken rest r) (number_of place) x.address) → ⊥)

-- what a fault says of bytes that should be an image of a kind
abbrev pub Faulty : {V : Type 0} → (ℕ → Option V) → ℕ → List ℕ → Fault → Type 0
Faulty taken number bytes TooShort = length bytes < 4
Faulty taken number bytes (WrongKind k) = (kind_in bytes ≡ k) × (k ≢ number)
Faulty taken number bytes (TooManyCells n) = (count_in bytes ≡ n) × (32768 < n)
Faulty taken number bytes (WrongLength n r) = (length bytes ≡ n) × (count_in bytes ≡ r) × (n ≢ 68 + 9 * r)
Faulty taken number bytes (Flawed flaw) = Broken taken (drop 4 bytes) (count_in bytes) flaw

-- the fault of the first four bytes and the length, if there is one
abbrev pub misheaded : ℕ → ℕ → ℕ → ℕ → Option Fault
misheaded kind wanted count size =
    cond (kind == wanted)
    (cond (nat_le count 32768) (cond (size == 68 + 9 * count) None (Some (WrongLength size count))) (Some (TooManyCells count)))
    (Some (WrongKind kind))

-- the fault of a heading, if there is one
abbrev pub headed : ℕ → List ℕ → Option Fault
headed number bytes = cond (nat_lt (length bytes) 4) (Some TooShort) (misheaded (kind_in bytes) number (count_in bytes) (length bytes))

-- the number of cells of an image, or a fault of other bytes
abbrev pub Examined : {V : Type 0} → (V → Bool) → (V → ℕ) → (ℕ → Option V) → ℕ → List ℕ → Result ℕ Fault → Type 0
Examined lawful word taken number bytes (Ok n) = IsImage lawful word number bytes n × HeldImage lawful word taken number bytes
Examined lawful word taken number bytes (Err fault) = Faulty taken number bytes fault × NoImage lawful word number bytes

-- the answer of a diagnosis: no fault exactly where the bytes are an image
abbrev pub Diagnosed : {V : Type 0} → (V → Bool) → (V → ℕ) → (ℕ → Option V) → ℕ → List ℕ → Option Fault → Type 0
Diagnosed lawful word taken number bytes None = (n : ℕ) × IsImage lawful word number bytes n
Diagnosed lawful word taken number bytes (Some fault) = Faulty taken number bytes fault × NoImage lawful word number bytes
