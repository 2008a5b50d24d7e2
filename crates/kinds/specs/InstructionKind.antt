-- The leaf kind of instructions: an operation, a channel and a signed argument. Assumes nothing.
use Rattle.std.specs.Prelude.{List, ◌++◌, codes, decimal, ℕ, ◌+◌, ◌*◌, ◌/◌, ◌%◌, ◌^◌, Bool, false, cond, ◌&&◌, ℤ, pos, negsuc, Some, None, Option, ◌==◌, nat_lt}
use Rattle.std.specs.Fmt.{signed_decimal}
use Rattle.std.specs.Int.Signed.{mag}
use Rattle.std.specs.Int.{w32}
use Rattle.std.proofs.Common.{of_z, to_z}
use Rattle.kinds.specs.declared.instructions.Instruction.{Instruction}

-- an operation up to 31, a channel up to 7, and an argument of 32 bits with its sign
abbrev pub lawful_instruction : Instruction → Bool
lawful_instruction i = nat_lt i.operation 32 && (nat_lt i.channel 8 && nat_lt (mag i.argument) (2 ^ 31))

abbrev pub tidied_instruction : Instruction → Option Instruction
tidied_instruction i = cond (lawful_instruction i) (Some i) None

-- 8 bits operation, 8 bits channel, 16 zero bits, 32 bits argument in two's complement
abbrev pub word_instruction : Instruction → ℕ
word_instruction i = i.operation * 2 ^ 56 + i.channel * 2 ^ 48 + of_z w32 i.argument

-- what the bits of a word say, whether or not it is an instruction's
abbrev pub parted : ℕ → Instruction
parted w = record { operation = w / 2 ^ 56; channel = w / 2 ^ 48 % 2 ^ 8; argument = to_z w32 (w % 2 ^ 32) }

abbrev pub taken_instruction : ℕ → Option Instruction
taken_instruction w = cond (w / 2 ^ 32 % 2 ^ 16 == 0 && lawful_instruction (parted w)) (Some (parted w)) None

abbrev pub same_int : ℤ → ℤ → Bool
same_int (pos m) (pos n) = m == n
same_int (pos m) (negsuc n) = false
same_int (negsuc m) (pos n) = false
same_int (negsuc m) (negsuc n) = m == n

-- all three agree
abbrev pub alike_instruction : Instruction → Instruction → Bool
alike_instruction i j = i.operation == j.operation && (i.channel == j.channel && same_int i.argument j.argument)

-- how an instruction is shown: its three numbers
abbrev pub instruction_text : Instruction → List ℕ
instruction_text i = decimal i.operation ++ (codes " " ++ (decimal i.channel ++ (codes " " ++ signed_decimal i.argument)))
