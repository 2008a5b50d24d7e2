-- What a survey knows once some places are read, and what it says at the next one. Assumes nothing.
use Rattle.std.specs.Prelude.{◌≡◌, ℕ, ◌+◌, ◌*◌, ◌<◌, ◌≤◌, min, true, cond, ◌↔◌, List, length, is_some, Some, None, Option, nat_le, nat_lt, slice_index, slice_set}
use Rattle.cells.specs.declared.Tag.TheVariants.{Sticky}
use Rattle.cells.specs.declared.Reference.{Reference}
use Rattle.cells.specs.declared.Field.{Field}
use Rattle.cells.specs.declared.Field.TheVariants.{Nil, To}
use Rattle.graph.specs.Places.{Another, met, is_node}
use Rattle.graph.specs.Checks.{tagged}
use Rattle.images.specs.declared.faults.Place.{Place}
use Rattle.images.specs.declared.faults.Flaw.{Flaw}
use Rattle.images.specs.declared.faults.Flaw.TheVariants.{WrongTag}
use Rattle.images.specs.declared.surveys.Survey.{Survey}
use Rattle.images.specs.Layout.{stored_hand, stored_cell, held}
use Rattle.images.specs.Faults.{Broken}
use Rattle.images.specs.First.{references}

-- the survey after the places below p: how many addresses they meet, and how many refer to each address, counted up to two
pub record Surveyed (at : ℕ → Field) (p : ℕ) (survey : Survey) : Type 0 where
  pub sized : length survey.references ≡ 32768
  pub meets : survey.met ≡ met at p
  pub tally : (a : ℕ) → a < 32768 → slice_index survey.references a ≡ min 2 (references at a p)

-- the tally with one more field: at its address one more, up to two
abbrev pub noted : List ℕ → Field → List ℕ
noted tally Nil = tally
noted tally (To x) = cond (nat_lt (slice_index tally x.address) 2) (slice_set tally x.address (slice_index tally x.address + 1)) tally

-- the flaw of a field's tag, by the tally of all places
abbrev pub mistag : Place → Field → List ℕ → Option Flaw
mistag place Nil tally = None
mistag place (To x) tally = cond (tagged x.tag (nat_le 2 (slice_index tally x.address))) None (Some (WrongTag place x))

-- every rule but that of tags holds of the places below p, and of the hands and cells that they belong to
pub record Kept {V : Type 0} (taken : ℕ → Option V) (rest : List ℕ) (r : ℕ) (p : ℕ) : Type 0 where
  pub hands : (i : ℕ) → i < 16 → i < p → is_some (stored_hand rest i) ≡ true
  pub kinds : (j : ℕ) → 16 + 2 * j < p → is_node (stored_cell taken rest j) ≡ true
  pub early : (j : ℕ) → 16 + 2 * j < p → j < met (held taken rest r) (16 + 2 * j)
  pub inside : (q : ℕ) (x : Reference) → q < p → held taken rest r q ≡ To x → x.address < r
  pub order : (q : ℕ) (x : Reference) → q < p → held taken rest r q ≡ To x → x.address ≤ met (held taken rest r) q

-- the rule of tags holds of the places below p
abbrev pub Tagged : (ℕ → Field) → ℕ → Type 0
Tagged at p = (q : ℕ) (x : Reference) → q < p → at q ≡ To x → (x.tag ≡ Sticky) ↔ Another at q x.address

-- both passes found no flaw, or this one
abbrev pub Surveys : {V : Type 0} → (ℕ → Option V) → List ℕ → ℕ → Option Flaw → Type 0
Surveys taken rest r None = Kept taken rest r (16 + 2 * r) × Tagged (held taken rest r) (16 + 2 * r)
Surveys taken rest r (Some flaw) = Broken taken rest r flaw
