-- The addresses that a store's record holds, and the bounds that they keep. Assumes nothing.
use Rattle.std.specs.Prelude.{ℕ, ◌+◌, ◌*◌, Bool, true, cond, not, ◌&&◌, List, [], ◌∷◌, ◌++◌, length, Some, None, Option, ◌==◌, nat_le, nat_lt, slice_index}
use Rattle.cells.specs.declared.Field.{Field}
use Rattle.store.specs.declared.Mode.{Mode}
use Rattle.store.specs.declared.Mode.TheVariants.{Settled, Working, Collecting}
use Rattle.store.specs.Fields.{past, top}

-- ---- the free list

-- an address listed on top, while fewer than sixteen are
abbrev pub pushed : ℕ → List ℕ → List ℕ
pushed a free = cond (nat_lt (length free) 16) (free ++ (a ∷ [])) free

-- the top, if anything is listed
abbrev pub top_of : List ℕ → Option ℕ
top_of free = cond (length free == 0) None (Some (top free))

-- the listed address with an index, none from the end on
abbrev pub listed_at : List ℕ → ℕ → Option ℕ
listed_at free i = cond (nat_lt i (length free)) (Some (slice_index free i)) None

-- ---- the bounds

-- every reference in a hand is below a bound
abbrev pub hands_below : ℕ → List Field → Bool
hands_below n [] = true
hands_below n (f ∷ fs) = not (past n f) && hands_below n fs

-- every listed address is below a bound
abbrev pub listed_below : ℕ → List ℕ → Bool
listed_below n [] = true
listed_below n (a ∷ rest) = nat_lt a n && listed_below n rest

-- a collection copies no more cells than there is room for, makes no step past the places that it has, and marks at most once a step
abbrev pub counts_within : ℕ → Mode → Bool
counts_within size Settled = true
counts_within size Working = true
counts_within size (Collecting s c n) = nat_le c size && (nat_le s (16 + 2 * c) && nat_le n s)
