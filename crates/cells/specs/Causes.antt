-- The causes for which a call is refused: the number of each, its words, and how it is shown. Assumes nothing.
use Rattle.std.specs.Prelude.{ℕ, List, ◌++◌, codes, decimal}
use Rattle.cells.specs.declared.causes.Cause.{Cause}
use Rattle.cells.specs.declared.causes.Cause.TheVariants.{SizeOutOfRange, OtherSize, NoSuchHand, Collecting, NotCollecting, ValueRefused, NilHand, LeafCell, Spoiled, NotAnImage, NoRoom, NotSettled, TooFewBytes}

abbrev pub number : Cause → ℕ
number SizeOutOfRange = 1
number OtherSize = 2
number NoSuchHand = 3
number Collecting = 4
number NotCollecting = 5
number ValueRefused = 6
number NilHand = 7
number LeafCell = 8
number Spoiled = 9
number NotAnImage = 10
number NoRoom = 11
number NotSettled = 12
number TooFewBytes = 13

abbrev pub meaning : Cause → List ℕ
meaning SizeOutOfRange = codes "the bank's size is 0 or above 32768"
meaning OtherSize = codes "the bank has another size than the store"
meaning NoSuchHand = codes "the hand's number is above 15"
meaning Collecting = codes "the store is collecting"
meaning NotCollecting = codes "the store is not collecting"
meaning ValueRefused = codes "the value is not accepted by its leaf kind"
meaning NilHand = codes "the hand is nil"
meaning LeafCell = codes "the cell is a leaf"
meaning Spoiled = codes "the bank is spoiled"
meaning NotAnImage = codes "the bytes are no image of this leaf kind"
meaning NoRoom = codes "there is no room"
meaning NotSettled = codes "the store is not settled"
meaning TooFewBytes = codes "there are too few bytes"

-- the number, a space, the words
abbrev pub shown : Cause → List ℕ
shown c = decimal (number c) ++ (codes " " ++ meaning c)
