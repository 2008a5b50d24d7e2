-- What is true of graphs and of canonical hands and cells, for every leaf kind. Assumes nothing.
use Rattle.std.specs.Prelude.{◌≡◌, ℕ, ◌+◌, ◌*◌, ◌<◌, ◌≤◌, Bool, true, ◌↔◌, List, length, Decides, Option}
use Rattle.cells.specs.declared.Field.{Field}
use Rattle.cells.specs.declared.Cell.{Cell}
use Rattle.graph.specs.Checks.{is_canonical}
use Rattle.graph.specs.Graphs.{Graph, Reachable, Alike, Accepted, Counts, graph_of}
use Rattle.graph.specs.Places.{Canonical, Lawful, Shared, holds, refers_to, met}

-- Alike is an equivalence on the graphs whose reachable leaves are accepted. The laws of a leaf kind say nothing of
-- whether a refused value is alike to any, so this is needed of them.
pub record AlikeIsAnEquivalence {V : Type 0} (tidied : V → Option V) (alike : V → V → Bool) : Type 0 where
  pub reflexive : (G : Graph V) → Accepted tidied G → Alike alike G G
  pub symmetric : (G G' : Graph V) → Accepted tidied G → Accepted tidied G' → Alike alike G G' → Alike alike G' G
  pub transitive : (G G' G'' : Graph V) → Accepted tidied G → Accepted tidied G' → Accepted tidied G'' → Alike alike G G' → Alike alike G' G'' → Alike alike G G''

-- a count is one number, and alike graphs have equally many reachable nodes, and equally many shared ones
pub record AlikeKeepsCounts {V : Type 0} (alike : V → V → Bool) : Type 0 where
  pub nodes : (G G' : Graph V) (k : ℕ) → Alike alike G G' → Counts (Reachable G) k → Counts (Reachable G') k
  pub shared : (G G' : Graph V) (k : ℕ) → Alike alike G G' → Counts (Shared G) k → Counts (Shared G') k
  pub nodes_one : (G : Graph V) (j k : ℕ) → Counts (Reachable G) j → Counts (Reachable G) k → j ≡ k
  pub shared_one : (G : Graph V) (j k : ℕ) → Counts (Shared G) j → Counts (Shared G) k → j ≡ k

-- canonical hands and cells with lawful leaves whose graphs are alike are equal, tags included
abbrev pub CanonicalAlikeAreEqual : {V : Type 0} → (V → Bool) → (V → V → Bool) → Type 0
CanonicalAlikeAreEqual {V} lawful alike =
    (hands hands' : List Field) (cells cells' : List (Cell V)) →
    Canonical hands cells →
    Canonical hands' cells' →
    Lawful lawful cells →
    Lawful lawful cells' →
    Alike alike (graph_of hands cells) (graph_of hands' cells') →
    (hands ≡ hands') × (cells ≡ cells')

-- canonical hands and cells stand for every graph that they are alike to: two are equal exactly when such graphs are alike
abbrev pub CanonicalStandsForAlike : {V : Type 0} → (V → Bool) → (V → Option V) → (V → V → Bool) → Type 0
CanonicalStandsForAlike {V} lawful tidied alike =
    (hands hands' : List Field) (cells cells' : List (Cell V)) (G G' : Graph V) →
    Canonical hands cells →
    Canonical hands' cells' →
    Lawful lawful cells →
    Lawful lawful cells' →
    Accepted tidied G →
    Accepted tidied G' →
    Alike alike (graph_of hands cells) G →
    Alike alike (graph_of hands' cells') G' →
    ((hands ≡ hands') × (cells ≡ cells')) ↔ Alike alike G G'

-- what the counter of canonical hands and cells says, in plain words
pub record MetAndReached {V : Type 0} (hands : List Field) (cells : List (Cell V)) : Type 0 where
  -- the addresses below the counter are those that an earlier place refers to
  pub met_before : (p a : ℕ) → p ≤ 16 + 2 * length cells → (a < met (holds hands cells) p) ↔ ((q : ℕ) × (q < p) × (refers_to a (holds hands cells q) ≡ true))
  -- the reachable nodes are the cells
  pub reached : (n : ℕ) → Reachable (graph_of hands cells) n ↔ (n < length cells)
  -- so there are as many reachable nodes as cells
  pub counted : Counts (Reachable (graph_of hands cells)) (length cells)

-- this holds of all canonical hands and cells
abbrev pub CanonicalIsMetAndReached : Type 0 → Type 0
CanonicalIsMetAndReached V = (hands : List Field) (cells : List (Cell V)) → Canonical hands cells → MetAndReached hands cells

-- whether hands and cells are canonical can be computed
abbrev pub CanonicalIsDecided : Type 0 → Type 0
CanonicalIsDecided V = (hands : List Field) (cells : List (Cell V)) → Decides (is_canonical hands cells) (Canonical hands cells)
