-- The law over runs, for every leaf kind. Assumes nothing.
use Rattle.std.specs.Prelude.{◌≡◌, ℕ, ◌+◌, ◌*◌, ◌<◌, ◌≤◌, Bool, false, ◌↔◌, List, length, take, Some, Ok, Err, Option}
use Rattle.cells.specs.declared.Tag.TheVariants.{Unique}
use Rattle.cells.specs.declared.Reference.{Reference}
use Rattle.cells.specs.declared.Field.{Field}
use Rattle.cells.specs.declared.Field.TheVariants.{To}
use Rattle.cells.specs.declared.Cell.{Cell}
use Rattle.cells.specs.declared.causes.Cause.{Cause}
use Rattle.cells.specs.declared.causes.Cause.TheVariants.{Spoiled}
use Rattle.graph.specs.Graphs.{Graph, hand, Reachable, Alike, Counts, graph_of}
use Rattle.graph.specs.Places.{holds, Honest, Another, Canonical, Shared}
use Rattle.store.specs.Model.{hand_of, is_collecting}
use Rattle.store.specs.Fields.{unique_field}
use Rattle.store.specs.Calls.{Call, Answer, sight}
use Rattle.store.specs.Calls as call
use Rattle.collector.specs.Collections.{Banks, kept_marks, tour_of, march_all}
use Rattle.runs.specs.Plain.{plain_sight}
use Rattle.runs.specs.Sound.{Listed}
use Rattle.runs.specs.Worlds.{Event, calls, finishes, World, answered, replied, new_world, world_beside, answer, cause, after, run}

-- a size that a store may have
abbrev pub SizeAllowed : ℕ → Type 0
SizeAllowed n = (1 ≤ n) × (n ≤ 32768)

-- the cells below the mark
abbrev pub kept : {V : Type 0} → Banks V → List (Cell V)
kept b = take b.model.mark b.cells

-- what each place of the hands and of the cells below the mark holds
abbrev pub held : {V : Type 0} → Banks V → ℕ → Field
held b = holds b.model.hands (kept b)

-- the hands and the cells below the mark as a graph
abbrev pub graph_kept : {V : Type 0} → Banks V → Graph V
graph_kept b = graph_of b.model.hands (kept b)

module _ {V : Type 0} (tidied : V → Option V) (alike : V → V → Bool) where
  -- ---- in every run, at every call

  -- the first cause that applies is answered, and nothing else is refused; nothing is ever refused as spoiled
  pub record RefusedRightly (w : World V) (e : Event V) : Type 0 where
    pub exactly : (c : Cause) → (answer tidied w e ≡ Err c) ↔ (cause tidied w e ≡ Some c)
    pub never_spoiled : answer tidied w e ≡ Err Spoiled → ⊥

  -- Look answers as the plain graph does
  abbrev pub LooksPlain : World V → Type 0
  LooksPlain w = (n h : ℕ) (s : Answer V) → answer tidied w (calls n (call.look h)) ≡ Ok (answered s) → s ≡ sight (plain_sight w.plain (hand w.plain h))

  -- outside a collection no UNIQUE reference has a second one to its cell, and none leads to a listed cell
  pub record KeptHonest (b : Banks V) : Type 0 where
    pub honest : Honest (held b)
    pub unlisted : (p : ℕ) (r : Reference) → held b p ≡ To r → Listed b.model.free r.address → ⊥

  pub record Throughout (w : World V) : Type 0 where
    pub refusals : (e : Event V) → RefusedRightly w e
    pub looks : LooksPlain w
    pub tags : is_collecting w.banks.model.mode ≡ false → KeptHonest w.banks

  -- ---- straight after an accepted Finish

  -- the old cell had a UNIQUE reference when the collection began
  abbrev pub HadUnique : World V → ℕ → Type 0
  HadUnique w a = (p : ℕ) × (r : Reference) × (holds w.begun_hands w.begun_cells p ≡ To r) × (r.tag ≡ Unique) × (r.address ≡ a)

  -- w is the world before a Finish that is accepted with these answers, and w' the world after it
  pub record Finished (w w' : World V) (cells marks : ℕ) : Type 0 where
    -- a reference is UNIQUE exactly when it is the only one to its cell
    pub unique_exactly : (p : ℕ) (r : Reference) → held w'.banks p ≡ To r
        → (r.tag ≡ Unique) ↔ (Another (held w'.banks) p r.address → ⊥)
    -- what is kept is alike to the plain graph, canonical, and as many cells as the plain graph has reachable nodes
    pub alike_plain : Alike alike (graph_kept w'.banks) w.plain
    pub canonical : Canonical w'.banks.model.hands (kept w'.banks)
    pub as_many : length (kept w'.banks) ≡ cells
    pub counted : Counts (Reachable w.plain) cells
    -- marks + entered UNIQUE = kept + shared
    pub entered : ℕ
    pub shared : ℕ
    pub partner : Alike alike (graph_kept w'.banks) (graph_of w.begun_hands w.begun_cells)
    pub entered_counted : Counts (λ j. (j < cells) × HadUnique w (partner.forth j)) entered
    pub shared_counted : Counts (Shared w.plain) shared
    pub sum : marks + entered ≡ cells + shared
    -- the whole collection took sixteen steps and two for each kept cell
    pub steps : (march_all (tour_of w.banks)).tour.steps ≡ 16 + 2 * cells
    -- a Pair call next is refused exactly when every cell is kept and its hand is not UNIQUE
    pub pair_next : (h : ℕ) → h ≤ 15
        → ((c : Cause) × (answer tidied w' (calls w.banks.model.size (call.pair h)) ≡ Err c))
        ↔ ((cells ≡ w.banks.model.size) × (unique_field (hand_of w'.banks.model h) ≡ false))

  abbrev pub FinishedRightly : World V → Type 0
  FinishedRightly w = (n k cells marks : ℕ) → answer tidied w (finishes n k) ≡ Ok (replied (kept_marks cells marks)) → Finished w (after tidied w (finishes n k)) cells marks

  -- ---- the law

  abbrev pub ran_on : List (Cell V) → List (Event V) → World V
  ran_on cells es = run tidied (new_world cells) es

  -- the same beside any spare bank, which is not in use yet
  abbrev pub ran_beside : List (Cell V) → List (Cell V) → List (Event V) → World V
  ran_beside cells spare es = run tidied (world_beside cells spare) es

  -- a world straight after an accepted Finish
  abbrev pub JustFinished : World V → ℕ → ℕ → Type 0
  JustFinished w n k = (cells : ℕ) × (marks : ℕ) × (answer tidied w (finishes n k) ≡ Ok (replied (kept_marks cells marks)))

  pub record LawOverRuns : Type 0 where
    -- in every run, at every point of it
    pub throughout : (bank : List (Cell V)) (es : List (Event V)) → SizeAllowed (length bank) → Throughout (ran_on bank es)
    -- straight after an accepted Finish
    pub finished : (bank : List (Cell V)) (es : List (Event V)) → SizeAllowed (length bank) → FinishedRightly (ran_on bank es)
    -- two runs that close with an accepted Finish have equal hands and equal kept cells exactly when their plain graphs are alike
    pub compared : (bank bank' : List (Cell V)) (es es' : List (Event V)) (n k n' k' : ℕ) → SizeAllowed (length bank) → SizeAllowed (length bank')
        → JustFinished (ran_on bank es) n k → JustFinished (ran_on bank' es') n' k'
        → (((after tidied (ran_on bank es) (finishes n k)).banks.model.hands ≡ (after tidied (ran_on bank' es') (finishes n' k')).banks.model.hands)
        × (kept (after tidied (ran_on bank es) (finishes n k)).banks ≡ kept (after tidied (ran_on bank' es') (finishes n' k')).banks))
        ↔ Alike alike (ran_on bank es).plain (ran_on bank' es').plain

  -- the law, whatever stands in the spare bank before it is first used
  pub record LawBesideAnySpare : Type 0 where
    -- in every run, at every point of it
    pub throughout : (bank spare : List (Cell V)) (es : List (Event V)) → SizeAllowed (length bank) → Throughout (ran_beside bank spare es)
    -- straight after an accepted Finish
    pub finished : (bank spare : List (Cell V)) (es : List (Event V)) → SizeAllowed (length bank) → FinishedRightly (ran_beside bank spare es)
    -- two runs that close with an accepted Finish have equal hands and equal kept cells exactly when their plain graphs are alike
    pub compared : (bank spare bank' spare' : List (Cell V)) (es es' : List (Event V)) (n k n' k' : ℕ) → SizeAllowed (length bank) → SizeAllowed (length bank')
        → JustFinished (ran_beside bank spare es) n k → JustFinished (ran_beside bank' spare' es') n' k'
        → (((after tidied (ran_beside bank spare es) (finishes n k)).banks.model.hands ≡ (after tidied (ran_beside bank' spare' es') (finishes n' k')).banks.model.hands)
        × (kept (after tidied (ran_beside bank spare es) (finishes n k)).banks ≡ kept (after tidied (ran_beside bank' spare' es') (finishes n' k')).banks))
        ↔ Alike alike (ran_beside bank spare es).plain (ran_beside bank' spare' es').plain
