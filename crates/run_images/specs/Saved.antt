-- What Write gives straight after an accepted Finish, over all runs. Assumes nothing.
-- `lawful`, `tidied`, `word`, `alike` and `number` are the members of the leaf kind.
use Rattle.std.specs.Prelude.{◌≡◌, ℕ, ◌≤◌, Bool, ◌↔◌, List, ◌++◌, length, drop, Ok, Option}
use Rattle.cells.specs.declared.Cell.{Cell}
use Rattle.graph.specs.Graphs.{Alike}
use Rattle.images.specs.Images.{ImageOf, IsImage}
use Rattle.images.specs.Writing.{length_for, write_answer, image_kept, bytes_after}
use Rattle.runs.specs.Worlds.{Event, finishes, World, after}
use Rattle.runs.specs.Law.{SizeAllowed, kept, ran_beside, JustFinished}

module _ {V : Type 0} (lawful : V → Bool) (tidied : V → Option V) (word : V → ℕ) (alike : V → V → Bool) (number : ℕ) where
  -- the world after a run that is closed by a Finish
  abbrev pub closed : List (Cell V) → List (Cell V) → List (Event V) → ℕ → ℕ → World V
  closed bank spare es n k = after tidied (ran_beside tidied alike bank spare es) (finishes n k)

  -- the image of the store as it stands in a world
  abbrev pub image_in : World V → List ℕ
  image_in w = image_kept lawful word number w.banks.model w.banks.cells

  -- Write is accepted wherever there is room, and puts the image in front of the bytes behind it; the image is one, of what is kept
  pub record Saved (w : World V) : Type 0 where
    pub answered : (bytes : List ℕ) → length_for w.banks.model.mark ≤ length bytes → write_answer w.banks.model w.banks.cells (length bytes) ≡ Ok (length_for w.banks.model.mark)
    pub written : (bytes : List ℕ) → length_for w.banks.model.mark ≤ length bytes
        → bytes_after lawful word number w.banks.model w.banks.cells bytes ≡ image_in w ++ drop (length (image_in w)) bytes
    pub long : length (image_in w) ≡ length_for w.banks.model.mark
    pub image : ImageOf lawful word number (image_in w) w.banks.model.hands (kept w.banks)
    pub counted : IsImage lawful word number (image_in w) w.banks.model.mark

  pub record FinishedRunsAreSaved : Type 0 where
    -- straight after an accepted Finish
    pub saved : (bank spare : List (Cell V)) (es : List (Event V)) (n k : ℕ) → SizeAllowed (length bank) → JustFinished tidied alike (ran_beside tidied alike bank spare es) n k → Saved (closed bank spare es n k)
    -- the images of two runs are equal exactly when their plain graphs are alike
    pub compared : (bank spare bank' spare' : List (Cell V)) (es es' : List (Event V)) (n k n' k' : ℕ) → SizeAllowed (length bank) → SizeAllowed (length bank')
        → JustFinished tidied alike (ran_beside tidied alike bank spare es) n k → JustFinished tidied alike (ran_beside tidied alike bank' spare' es') n' k'
        → (image_in (closed bank spare es n k) ≡ image_in (closed bank' spare' es' n' k')) ↔ Alike alike (ran_beside tidied alike bank spare es).plain (ran_beside tidied alike bank' spare' es').plain
