-- What typed words are read as. Assumes nothing.
use Rattle.std.specs.Prelude.{◌≡◌, ℕ, ◌^◌, false, cond, ◌&&◌, List, [], map, length, ℤ, pos, negsuc, Some, None, Ok, Err, Option, Result, MatchOption, ◌≢◌, nat_lt, slice_index_or, Float}
use Rattle.std.specs.Int.Signed.{mag}
use Rattle.std.specs.Float.{binary32}
use Rattle.std.specs.Int.{w64}
use Rattle.std.specs.Borrow.{Bor}
use Rattle.std.specs.Float.Parse.{is_float_text, ParsesFloat}
use Rattle.std.specs.Str.Parse.{ParsesSigned}
use Rattle.std.specs.Option.{ok_or, option_map}
use Rattle.cells.specs.declared.causes.Cause.{Cause}
use Rattle.cells.specs.declared.causes.Cause.TheVariants.{ValueRefused}
use Rattle.kinds.specs.declared.points.Point.{Point}
use Rattle.kinds.specs.declared.instructions.Instruction.{Instruction}

-- the bytes of each word
abbrev pub word_bytes : List (Bor (List ℕ)) → List (List ℕ)
word_bytes ws = map (λ x. x.now) ws

-- n words mean what P says of the answer, and any other count of words is no value
abbrev pub Counted : {X : Type 0} → ℕ → List (List ℕ) → Option X → Type 0 → Type 0
Counted n ws r P = (length ws ≡ n → P) × ((length ws ≢ n) → r ≡ None)

-- ---- points

-- what `parse` reads at an `f32`
abbrev pub ReadsNumber : List ℕ → Option Float → Type 0
ReadsNumber bs r = MatchOption r (is_float_text bs ≡ false) (λ x. ParsesFloat {E = ℕ} binary32 32 bs (Ok x))

-- a load and a reading, or none where one of them is no number
abbrev pub ReadsPoint : List ℕ → List ℕ → Option Point → Type 0
ReadsPoint a b r = MatchOption r ((is_float_text a && is_float_text b) ≡ false) (λ p. ReadsNumber a (Some p.load) × ReadsNumber b (Some p.reading))

-- two words are read as a point
abbrev pub PointWords : List (List ℕ) → Option (Result Point Cause) → Type 0
PointWords ws r = (o : Option Point) × (r ≡ option_map Ok o) × Counted 2 ws o (ReadsPoint (slice_index_or ws 0 []) (slice_index_or ws 1 []) o)

-- ---- instructions

-- what `parse` reads at an `i64`
abbrev pub ReadsWhole : List ℕ → Option ℤ → Type 0
ReadsWhole bs r = ParsesSigned w64 10 bs (ok_or r ValueRefused)

-- the number in eight bits without a sign, if it fits
abbrev pub as_byte : ℤ → Option ℕ
as_byte (pos n) = cond (nat_lt n 256) (Some n) None
as_byte (negsuc n) = None

-- the number in 32 bits with a sign, if it fits
abbrev pub as_argument : ℤ → Option ℤ
as_argument z = cond (nat_lt (mag z) (2 ^ 31)) (Some z) None

-- the instruction of three whole numbers, or a refusal where one of them is too large to be part of any
abbrev pub fitted : Option ℕ → Option ℕ → Option ℤ → Result Instruction Cause
fitted None c a = Err ValueRefused
fitted (Some o) None a = Err ValueRefused
fitted (Some o) (Some c) None = Err ValueRefused
fitted (Some o) (Some c) (Some a) = Ok (record { operation = o; channel = c; argument = a })

abbrev pub instruction_of : ℤ → ℤ → ℤ → Result Instruction Cause
instruction_of x y z = fitted (as_byte x) (as_byte y) (as_argument z)

-- an operation, a channel and an argument, or none where one of them is no whole number
abbrev pub ReadsInstruction : List ℕ → List ℕ → List ℕ → Option (Result Instruction Cause) → Type 0
ReadsInstruction a b c r =
    MatchOption r ((x y z : ℤ) → ReadsWhole a (Some x) → ReadsWhole b (Some y) → ReadsWhole c (Some z) → ⊥)
    (λ v. (x : ℤ) × (y : ℤ) × (z : ℤ) × ReadsWhole a (Some x) × ReadsWhole b (Some y) × ReadsWhole c (Some z) × (v ≡ instruction_of x y z))

-- three words are read as an instruction
abbrev pub InstructionWords : List (List ℕ) → Option (Result Instruction Cause) → Type 0
InstructionWords ws r = Counted 3 ws r (ReadsInstruction (slice_index_or ws 0 []) (slice_index_or ws 1 []) (slice_index_or ws 2 []) r)
