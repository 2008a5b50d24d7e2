-- Lists of typed values: what a text is read as, whether two lists hold the same values, and the lines of a report on them. Assumes nothing.
use Rattle.std.specs.Prelude.{◌≡◌, ℕ, zero, suc, ◌<◌, Bool, true, false, ◌⊎◌, List, [], ◌∷◌, ◌++◌, length, Some, None, Ok, Err, codes, decimal, Option, Result, slice_index_or}
use Rattle.std.specs.Option.{ok_or}
use Rattle.cells.specs.declared.causes.Cause.{Cause}
use Rattle.cells.specs.declared.causes.Cause.TheVariants.{ValueRefused}
use Rattle.cells.specs.Causes.{shown}
use Rattle.cells.specs.Leaves.{comparison}
use Rattle.texts.specs.declared.lists.Entry.{Entry}
use Rattle.texts.specs.declared.lists.ListFault.{ListFault}
use Rattle.texts.specs.declared.lists.ListFault.TheVariants.{Memory, Unreadable}
use Rattle.texts.specs.Hex.{hex}
use Rattle.texts.specs.Splits.{lines_of, words_of, passed_over}

-- an answer that is yes; a refusal is no
abbrev pub is_yes : Result Bool Cause → Bool
is_yes (Ok b) = b
is_yes (Err c) = false

module _ {V : Type 0} (tidied : V → Option V) (alike : V → V → Bool) where
  -- two values are the same where both are accepted and they are alike; a refused value is like no other
  abbrev pub same_value : Result V Cause → Result V Cause → Bool
  same_value (Ok x) (Ok y) = is_yes (comparison (tidied x) (tidied y) (alike x y))
  same_value (Ok x) (Err d) = false
  same_value (Err c) y = false

  -- the first n entries of the two lists are the same, one by one
  abbrev pub SameUpTo : List (Entry V) → List (Entry V) → ℕ → Type 0
  SameUpTo xs ys n = (k : ℕ) (d e : Entry V) → k < n → same_value (slice_index_or xs k d).value (slice_index_or ys k e).value ≡ true

  -- at i one list has ended and the other has not, or the two entries are not the same
  abbrev pub ApartAt : List (Entry V) → List (Entry V) → ℕ → Type 0
  ApartAt xs ys i =
      ((i ≡ length xs) × (i < length ys)) ⊎ (((i < length xs) × (i ≡ length ys))
      ⊎ ((i < length xs) × (i < length ys) × ((d e : Entry V) → same_value (slice_index_or xs i d).value (slice_index_or ys i e).value ≡ false)))

  -- none where the lists hold the same values, else the index of the first difference
  abbrev pub FirstDifference : List (Entry V) → List (Entry V) → Option ℕ → Type 0
  FirstDifference xs ys None = (length xs ≡ length ys) × SameUpTo xs ys (length xs)
  FirstDifference xs ys (Some i) = SameUpTo xs ys i × ApartAt xs ys i

-- the line of an accepted value that is shown as text
abbrev pub value_line : ℕ → List ℕ → ℕ → List ℕ
value_line n text w = (decimal n ++ (codes ": " ++ (text ++ codes " word "))) ++ hex 16 w

-- the line of a refused value
abbrev pub refusal_line : ℕ → Cause → List ℕ
refusal_line n c = decimal n ++ (codes ": refused " ++ shown c)

-- the line of an entry: an accepted value's, or a refusal
abbrev pub EntryLine : {V : Type 0} → (V → Bool) → (V → ℕ) → (V → List ℕ → Type 0) → ℕ → Result V Cause → List ℕ → Type 0
EntryLine lawful word shows n (Ok v) bs =
    (lawful v ≡ true → (text : List ℕ) × shows v text × (bs ≡ value_line n text (word v))) × (lawful v ≡ false → bs ≡ refusal_line n ValueRefused)
EntryLine lawful word shows n (Err c) bs = bs ≡ refusal_line n c

-- a value that was not refused is lawful
abbrev pub Lawful : {V : Type 0} → (V → Bool) → Result V Cause → Type 0
Lawful lawful (Ok v) = lawful v ≡ true
Lawful lawful (Err c) = Unit {0}

-- P of what is there, if anything is
abbrev pub Found : {X : Type 0} → Option X → (X → Type 0) → Type 0
Found None P = Unit {0}
Found (Some x) P = P x

abbrev pub Tidy : {V : Type 0} → (V → Bool) → List (Entry V) → Type 0
Tidy {V} lawful xs = (k : ℕ) (d : Entry V) → k < length xs → Lawful lawful (slice_index_or xs k d).value

-- what the numbers of a line come to: a value is tidied, or refused
abbrev pub tidy_read : {V : Type 0} → (V → Option V) → Option (Result V Cause) → Option (Result V Cause)
tidy_read tidied None = None
tidy_read tidied (Some (Err c)) = Some (Err c)
tidy_read tidied (Some (Ok v)) = Some (ok_or (tidied v) ValueRefused)

-- what reading a list comes to: its entries, or the number of the line that cannot be read; and the same after an entry
abbrev pub Listing : Type 0 → Type 0
Listing V = Result (List (Entry V)) ℕ

abbrev pub after : {V : Type 0} → List (Entry V) → Listing V → Listing V
after entries (Ok more) = Ok (entries ++ more)
after entries (Err n) = Err n

-- words are read as a value that is tidied or refused, or as none
abbrev pub Value : {V : Type 0} → (List (List ℕ) → Option (Result V Cause) → Type 0) → (V → Option V) → List (List ℕ) → Option (Result V Cause) → Type 0
Value {V} reads tidied words value = (raw : Option (Result V Cause)) × reads words raw × (value ≡ tidy_read tidied raw)

-- What the words of line n come to: the line is passed over, or its value is an entry, or it cannot be read.
abbrev pub Line : {V : Type 0} → (List (List ℕ) → Option (Result V Cause) → Type 0) → (V → Option V) → ℕ → List (List ℕ) → Result (Option (Entry V)) ListFault → Type 0
Line reads tidied n words (Ok None) = passed_over words ≡ true
Line reads tidied n words (Ok (Some entry)) = (passed_over words ≡ false) × Value reads tidied words (Some entry.value) × (entry.line ≡ n)
Line reads tidied n words (Err (Unreadable m)) = (passed_over words ≡ false) × Value reads tidied words None × (m ≡ n)
Line reads tidied n words (Err Memory) = Unit {0}

-- What lines come to, the first of which has the number n: every entry, up to the first line that cannot be read.
pub data Listed {V : Type 0} (reads : List (List ℕ) → Option (Result V Cause) → Type 0) (tidied : V → Option V) : ℕ → List (List ℕ) → Listing V → Type 0 where
  ends : {n : ℕ} → Listed reads tidied n [] (Ok [])
  passes : {n : ℕ} {line : List ℕ} {lines : List (List ℕ)} {r : Listing V} → Line reads tidied n (words_of line) (Ok None) → Listed reads tidied (suc n) lines r → Listed reads tidied n (line ∷ lines) r
  takes : {n : ℕ} {line : List ℕ} {lines : List (List ℕ)} {r : Listing V} {entry : Entry V} → Line reads tidied n (words_of line) (Ok (Some entry)) → Listed reads tidied (suc n) lines r → Listed reads tidied n (line ∷ lines) (after (entry ∷ []) r)
  stops : {n m : ℕ} {line : List ℕ} {lines : List (List ℕ)} → Line reads tidied n (words_of line) (Err (Unreadable m)) → Listed reads tidied n (line ∷ lines) (Err m)

-- the entries of a text, and why it has none
abbrev pub Entries : {V : Type 0} → (List (List ℕ) → Option (Result V Cause) → Type 0) → (V → Option V) → List ℕ → List (Entry V) → Type 0
Entries reads tidied text entries = Listed reads tidied 1 (lines_of text) (Ok entries)

abbrev pub NoEntries : {V : Type 0} → (List (List ℕ) → Option (Result V Cause) → Type 0) → (V → Option V) → List ℕ → ListFault → Type 0
NoEntries reads tidied text (Unreadable n) = Listed reads tidied 1 (lines_of text) (Err n)
NoEntries reads tidied text Memory = Unit {0}

-- where a list has its entry i: a line, or its end
abbrev pub place_text : {V : Type 0} → List ℕ → List (Entry V) → ℕ → List ℕ
place_text name [] i = codes "the end of " ++ name
place_text name (x ∷ xs) zero = codes "line " ++ (decimal x.line ++ (codes " of " ++ name))
place_text name (x ∷ xs) (suc i) = place_text name xs i

abbrev pub same_line : ℕ → List ℕ
same_line n = codes "same: " ++ (decimal n ++ codes " values")

abbrev pub different_line : List ℕ → List ℕ → List ℕ
different_line here there = codes "different: " ++ (here ++ (codes ", " ++ there))

-- the last line of a report on two lists, by their first difference
abbrev pub verdict_line : {V : Type 0} → List ℕ → List (Entry V) → List ℕ → List (Entry V) → Option ℕ → List ℕ
verdict_line a xs b ys None = same_line (length xs)
verdict_line a xs b ys (Some i) = different_line (place_text a xs i) (place_text b ys i)
