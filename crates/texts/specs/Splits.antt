-- The lines of a text and the words of a line, over bytes. Assumes nothing.
use Rattle.std.specs.Prelude.{ℕ, Bool, true, cond, ◌&&◌, ◌||◌, List, [], ◌∷◌, ◌++◌, length, ◌==◌, nat_le, nat_lt, slice_index, slice_index_or}
use Rattle.texts.specs.declared.splits.Separator.{Separator}
use Rattle.texts.specs.declared.splits.Separator.TheVariants.{Newline, Space}

-- whether a byte ends a piece: lines end at a newline, words at a space or at one of tab, newline, vertical tab, form feed and carriage return
abbrev pub separates : Separator → ℕ → Bool
separates Newline b = b == 10
separates Space b = b == 32 || (nat_le 9 b && nat_le b 13)

-- whether a piece of so many bytes counts: an empty line is a line, and an empty word is none
abbrev pub keeps : Separator → ℕ → Bool
keeps Newline n = true
keeps Space n = nat_lt 0 n

-- one more piece before the rest, if it counts
abbrev pub ended : Separator → List ℕ → List (List ℕ) → List (List ℕ)
ended by piece rest = cond (keeps by (length piece)) (piece ∷ rest) rest

-- the pieces, the first of which begins with `piece` and goes on in what follows
abbrev pub pieces_from : Separator → List ℕ → List ℕ → List (List ℕ)
pieces_from by piece [] = ended by piece []
pieces_from by piece (b ∷ bs) = cond (separates by b) (ended by piece (pieces_from by [] bs)) (pieces_from by (piece ++ (b ∷ [])) bs)

abbrev pub lines_of : List ℕ → List (List ℕ)
lines_of text = pieces_from Newline [] text

abbrev pub words_of : List ℕ → List (List ℕ)
words_of line = pieces_from Space [] line

-- a line without words, and one whose first word begins with #, is passed over
abbrev pub begins : ℕ → List ℕ → Bool
begins c word = nat_lt 0 (length word) && slice_index word 0 == c

abbrev pub passed_over : List (List ℕ) → Bool
passed_over words = length words == 0 || begins 35 (slice_index_or words 0 [])
