-- Calls on a sound store, as a theorem. Assumes nothing.
use Rattle.std.specs.Prelude.{◌≡◌, ℕ, ◌<◌, Bool, List, length, Some, None, Option, ◌≢◌}
use Rattle.cells.specs.declared.Cell.{Cell}
use Rattle.cells.specs.declared.causes.Cause.TheVariants.{Spoiled}
use Rattle.graph.specs.Graphs.{Graph, hand}
use Rattle.store.specs.Model.{Model, new_model, hand_of}
use Rattle.store.specs.Calls.{Call, cause_of, effect, sight_of}
use Rattle.runs.specs.Plain.{empty_graph, plain_call, plain_sight}
use Rattle.runs.specs.Sound.{Sound}

-- a record that is sound with its cells and the plain graph
abbrev pub SoundAt : {V : Type 0} → (V → Bool) → Model → List (Cell V) → Graph V → Type 0
SoundAt lawful m cells G = Sound lawful m.size m.mark m.hands m.free cells G

-- A new store is sound with the empty graph. An accepted call leaves a sound store beside the plain graph that was fed the same
-- call; no call is refused as spoiled; and what Look shows is what the plain graph shows.
pub record CallsKeepSound {V : Type 0} (lawful : V → Bool) (tidied : V → Option V) : Type 0 where
  pub new : (cells : List (Cell V)) → SoundAt lawful (new_model (length cells)) cells empty_graph
  pub accepted : (m : Model) (cells : List (Cell V)) (G : Graph V) (n : ℕ) (c : Call V) → SoundAt lawful m cells G → cause_of tidied m n cells c ≡ None
      → SoundAt lawful (effect tidied (record { model = m; cells = cells }) c).model (effect tidied (record { model = m; cells = cells }) c).cells (plain_call tidied G c)
  pub never_spoiled : (m : Model) (cells : List (Cell V)) (G : Graph V) (n : ℕ) (c : Call V) → SoundAt lawful m cells G → cause_of tidied m n cells c ≢ Some Spoiled
  pub looks : (m : Model) (cells : List (Cell V)) (G : Graph V) (h : ℕ) → SoundAt lawful m cells G → h < 16 → sight_of cells (hand_of m h) ≡ plain_sight G (hand G h)
