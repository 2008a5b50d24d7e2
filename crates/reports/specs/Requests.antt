-- What the words of a command ask for. Assumes nothing.
use Rattle.std.specs.Prelude.{◌≡◌, ℕ, zero, suc, ◌-◌, List, [], ◌∷◌, length, Some, None, string_bytes, codes, Option, String}
use Rattle.reports.specs.declared.requests.Kind.{Kind}
use Rattle.reports.specs.declared.requests.Kind.TheVariants.{Point, Instruction}
use Rattle.reports.specs.declared.requests.Task.{Task}
use Rattle.reports.specs.declared.requests.Task.TheVariants.{Leaves, SameLeaves, Dump, Check, Compare, Show, Draw}
use Rattle.reports.specs.declared.requests.Request.{Request}

-- the word for a leaf kind
abbrev pub kind_word : Kind → List ℕ
kind_word Point = codes "point"
kind_word Instruction = codes "instruction"

-- a word asks for a task, with n words after the kind, of which this is the second
abbrev pub Says : List ℕ → ℕ → List ℕ → Task → Type 0
Says word n second Leaves = (word ≡ codes "leaves") × (n ≡ 1)
Says word n second SameLeaves = (word ≡ codes "leaves") × (n ≡ 2)
Says word n second Dump = (word ≡ codes "dump") × (n ≡ 1)
Says word n second Check = (word ≡ codes "check") × (n ≡ 1)
Says word n second Compare = (word ≡ codes "compare") × (n ≡ 2)
Says word n second Show = (word ≡ codes "show") × (n ≡ 1)
Says word n second Draw = (word ≡ codes "show") × (n ≡ 2) × (second ≡ codes "--dot")

-- P of the one that is there, and of none where there is none
abbrev pub Only : {X : Type 0} → (X → Type 0) → Option X → Type 0
Only {X} P None = (x : X) → P x → ⊥
Only P (Some x) = P x

-- the bytes of a word, none past the last
abbrev pub word_at : {Z : Type 0} → List (String Z) → ℕ → List ℕ
word_at [] i = []
word_at (w ∷ ws) zero = string_bytes w
word_at (w ∷ ws) (suc i) = word_at ws i

-- the words ask for a task on files of a kind: the program's name, the task, the kind, and one or two more
abbrev pub Asks : {Z : Type 0} → List (String Z) → Request → Type 0
Asks words r = (word_at words 2 ≡ kind_word r.kind) × Says (word_at words 1) (length words - 3) (word_at words 4) r.task
