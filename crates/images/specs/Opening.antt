-- Opening an image over a bank: when it is refused, which record it answers, and the bank's cells after. Assumes nothing.
-- `lawful`, `word`, `taken` and `number` are the members of the wanted leaf kind.
use Rattle.std.specs.Prelude.{◌≡◌, ℕ, ◌<◌, ◌≤◌, Bool, ◌↔◌, List, ◌++◌, length, take, drop, Ok, Err, Option, Result}
use Rattle.cells.specs.declared.Field.{Field}
use Rattle.cells.specs.declared.Cell.{Cell}
use Rattle.cells.specs.declared.causes.Cause.{Cause}
use Rattle.cells.specs.declared.causes.Cause.TheVariants.{SizeOutOfRange, NotAnImage, NoRoom}
use Rattle.store.specs.Model.{Model}
use Rattle.store.specs.Restoring.{settled_model}
use Rattle.images.specs.Layout.{count_in, hands_in, cells_in}
use Rattle.images.specs.Images.{ImageOf, IsImage, NoImage, HeldImage}
use Rattle.images.specs.Writing.{write_answer, bytes_after}

-- a size that a store may have
abbrev pub Allowed : ℕ → Type 0
Allowed size = (1 ≤ size) × (size ≤ 32768)

module _ {V : Type 0} (lawful : V → Bool) (word : V → ℕ) (taken : ℕ → Option V) (number : ℕ) where
  -- why Open is refused over a bank of that size: the first that applies, in the order of the numbers
  pub data Refused (size : ℕ) (image : List ℕ) : Cause → Type 0 where
    size_out : (Allowed size → ⊥) → Refused size image SizeOutOfRange
    no_image : Allowed size → NoImage lawful word number image → Refused size image NotAnImage
    no_room : Allowed size → HeldImage lawful word taken number image → size < count_in image → Refused size image NoRoom

  -- what an accepted Open leaves: a settled store with the hands and cells of the image, and every cell past those as it was
  pub record Restored (image : List ℕ) (before : List (Cell V)) (m : Model) (after : List (Cell V)) : Type 0 where
    pub allowed : Allowed (length before)
    pub whole : HeldImage lawful word taken number image
    pub room : count_in image ≤ length before
    pub model : m ≡ settled_model (length before) (count_in image) (hands_in image)
    pub cells : after ≡ cells_in taken image ++ drop (count_in image) before

  -- the answer, and the cells after; a refusal leaves every cell as it was
  abbrev pub Opened : List ℕ → List (Cell V) → Result Model Cause → List (Cell V) → Type 0
  Opened image before (Ok m) after = Restored image before m after
  Opened image before (Err c) after = Refused (length before) image c × (after ≡ before)

  -- Open accepts exactly the images that a bank of its size has room for, and rebuilds the hands and cells that they are images of.
  pub record Rebuilt (image : List ℕ) (before : List (Cell V)) (answer : Result Model Cause) (after : List (Cell V)) : Type 0 where
    pub accepted : ((m : Model) × (answer ≡ Ok m)) ↔ (Allowed (length before) × ((n : ℕ) × IsImage lawful word number image n × (n ≤ length before)))
    pub rebuilt : (m : Model) → answer ≡ Ok m → (hands : List Field) (cells : List (Cell V)) → ImageOf lawful word number image hands cells
        → (m ≡ settled_model (length before) (length cells) hands) × (take (length cells) after ≡ cells)

  -- what Open leaves of an image is written as that image, wherever there is room for it
  abbrev pub WrittenBack : Type 0
  WrittenBack =
      (image : List ℕ) (before : List (Cell V)) (m : Model) (after : List (Cell V)) (bytes : List ℕ)
      → Restored image before m after
      → length image ≤ length bytes
      → (write_answer m after (length bytes) ≡ Ok (length image)) × (bytes_after lawful word number m after bytes ≡ image ++ drop (length image) bytes)
