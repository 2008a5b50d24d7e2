-- Small hands and cells that are canonical, and some that each break one rule. Assumes nothing.
use Rattle.std.specs.Prelude.{ℕ, List, [], ◌∷◌, ◌++◌, take, replicate}
use Rattle.cells.specs.declared.Tag.TheVariants.{Unique, Sticky}
use Rattle.cells.specs.declared.Field.{Field}
use Rattle.cells.specs.declared.Field.TheVariants.{Nil, To}
use Rattle.cells.specs.declared.Cell.TheVariants.{Blank, Pair, Leaf}
use Rattle.graph.specs.Places.{Canonical}

abbrev pub unique : ℕ → Field
unique a = To (record { tag = Unique; address = a })

abbrev pub sticky : ℕ → Field
sticky a = To (record { tag = Sticky; address = a })

-- sixteen hands, the first of them given and the others nil
abbrev pub sixteen_from : List Field → List Field
sixteen_from fs = take 16 (fs ++ replicate 16 Nil)

pub record Examples (V : Type 0) : Type 0 where
  -- no cells
  pub empty : Canonical {V = V} (sixteen_from []) []
  -- a pair that holds itself
  pub knot : Canonical {V = V} (sixteen_from (sticky 0 ∷ [])) (Pair (sticky 0) Nil ∷ [])
  -- a pair in hand 1 that holds a leaf
  pub held_leaf : (v : V) → Canonical (sixteen_from (Nil ∷ unique 0 ∷ [])) (Pair (unique 1) Nil ∷ Leaf v ∷ [])
  -- a leaf in two hands
  pub two_hands : (v : V) → Canonical (sixteen_from (sticky 0 ∷ sticky 0 ∷ [])) (Leaf v ∷ [])
  -- a tag too hopeful, and one not hopeful enough
  pub hopeful : Canonical {V = V} (sixteen_from (unique 0 ∷ [])) (Pair (unique 0) Nil ∷ []) → ⊥
  pub doubtful : (v : V) → Canonical (sixteen_from (sticky 0 ∷ [])) (Leaf v ∷ []) → ⊥
  -- a cell that nothing refers to
  pub lost : (v : V) → Canonical (sixteen_from []) (Leaf v ∷ []) → ⊥
  -- cells in another order than they are met in
  pub crossed : (v w : V) → Canonical (sixteen_from (unique 1 ∷ unique 0 ∷ [])) (Leaf v ∷ Leaf w ∷ []) → ⊥
  -- two pairs that hold each other, and no hand holds either: the first is not met before its fields are read
  pub adrift : Canonical {V = V} (sixteen_from []) (Pair (unique 1) Nil ∷ Pair (unique 0) Nil ∷ []) → ⊥
  -- a reference past the cells
  pub outside : Canonical {V = V} (sixteen_from (unique 0 ∷ [])) [] → ⊥
  -- a cell that is neither a pair nor a leaf
  pub hollow : Canonical {V = V} (sixteen_from (unique 0 ∷ [])) (Blank ∷ []) → ⊥
  -- fifteen hands
  pub short : Canonical {V = V} (replicate 15 Nil) [] → ⊥
