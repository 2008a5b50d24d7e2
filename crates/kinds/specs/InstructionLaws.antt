-- Instructions keep the laws of a leaf kind. Assumes nothing.
use Rattle.std.specs.Prelude.{◌≡◌, ℕ, ◌+◌, ◌*◌, ◌/◌, ◌%◌, ◌^◌, ◌<◌, Bool, true, cond, ◌&&◌, ℤ, pos, negsuc, Some, None, FitsSigned, ◌==◌, nat_eq, refl}
use Rattle.std.proofs.Common.{sym, ap, ◌∙◌, arith, of_z, to_z}
use Rattle.std.specs.Int.{w32}
use mir.ValLaws.{of_z_fits, to_z-of_z, of_z-to_z}
use Rattle.std.proofs.lemmas.Bool.Decides.{nat_tests}
use Rattle.cells.specs.Leaves.{Laws}
use Rattle.kinds.specs.declared.instructions.Instruction.{Instruction}
use Rattle.kinds.specs.InstructionKind.{lawful_instruction, tidied_instruction, word_instruction, parted, taken_instruction, same_int, alike_instruction}

abbrev made : ℕ → ℕ → ℤ → Instruction
made o c a = record { operation = o; channel = c; argument = a }

sized : (i : Instruction) → lawful_instruction i ≡ true → FitsSigned w32 i.argument
sized i h = record { sfits = grind (arith, nat_tests) }

bits_fit : (i : Instruction) → lawful_instruction i ≡ true → of_z w32 i.argument < 2 ^ 32
bits_fit i h = (of_z_fits w32 i.argument (sized i h)).fits

word_fits : (i : Instruction) → lawful_instruction i ≡ true → word_instruction i < 2 ^ 64
word_fits i h =
    let b = bits_fit i h in
    let o : i.operation < 32 = grind (arith, nat_tests) in
    let c : i.channel < 8 = grind (arith, nat_tests) in
    omega arith

-- the parts of a lawful instruction's word are the instruction, and the sixteen bits between are 0
module _ (i : Instruction) (h : lawful_instruction i ≡ true) where
  operation_back : word_instruction i / 2 ^ 56 ≡ i.operation
  operation_back = let b = bits_fit i h in let c : i.channel < 8 = grind (arith, nat_tests) in omega arith

  channel_back : word_instruction i / 2 ^ 48 % 2 ^ 8 ≡ i.channel
  channel_back = let b = bits_fit i h in let c : i.channel < 8 = grind (arith, nat_tests) in omega arith

  between_back : word_instruction i / 2 ^ 32 % 2 ^ 16 ≡ 0
  between_back = let b = bits_fit i h in omega arith

  argument_back : to_z w32 (word_instruction i % 2 ^ 32) ≡ i.argument
  argument_back =
      let b = bits_fit i h in
      let r : word_instruction i % 2 ^ 32 ≡ of_z w32 i.argument = omega arith in
      ap (to_z w32) r ∙ to_z-of_z w32 i.argument (sized i h)

  parts_back : parted (word_instruction i) ≡ i
  parts_back = ap (λ o. made o (word_instruction i / 2 ^ 48 % 2 ^ 8) (to_z w32 (word_instruction i % 2 ^ 32))) operation_back ∙ ap (λ c. made i.operation c (to_z w32 (word_instruction i % 2 ^ 32))) channel_back ∙ ap (made i.operation i.channel) argument_back

  word_back : taken_instruction (word_instruction i) ≡ Some i
  word_back = ap (λ j. cond (word_instruction i / 2 ^ 32 % 2 ^ 16 == 0 && lawful_instruction j) (Some j) None) parts_back ∙ ap (λ b. cond (b == 0 && lawful_instruction i) (Some i) None) between_back ∙ ap (λ b. cond b (Some i) None) h

taken_parts : (w : ℕ) (i : Instruction) → taken_instruction w ≡ Some i → (w / 2 ^ 32 % 2 ^ 16 ≡ 0) × (lawful_instruction (parted w) ≡ true) × (parted w ≡ i)
taken_parts w i h = chosen (w / 2 ^ 32 % 2 ^ 16) (lawful_instruction (parted w)) (parted w) i h
  where
    chosen : (n : ℕ) (b : Bool) (j i : Instruction) → cond (n == 0 && b) (Some j) None ≡ Some i → (n ≡ 0) × (b ≡ true) × (j ≡ i)
    chosen n b j i e = (grind (arith, nat_tests), grind (arith, nat_tests), grind (arith, nat_tests))

parted_word : (w : ℕ) → w / 2 ^ 32 % 2 ^ 16 ≡ 0 → word_instruction (parted w) ≡ w
parted_word w z = let f : of_z w32 (to_z w32 (w % 2 ^ 32)) ≡ w % 2 ^ 32 = of_z-to_z w32 (w % 2 ^ 32) (record { fits = omega arith }) in ap (λ n. w / 2 ^ 56 * 2 ^ 56 + w / 2 ^ 48 % 2 ^ 8 * 2 ^ 48 + n) f ∙ omega arith

word_only : (w : ℕ) (i : Instruction) → taken_instruction w ≡ Some i → (lawful_instruction i ≡ true) × (word_instruction i ≡ w)
word_only w i h = let p = taken_parts w i h in (sym (ap lawful_instruction p.2) ∙ p.1, sym (ap word_instruction p.2) ∙ parted_word w p.0)

same_int_lem : (y z : ℤ) → FitsSigned w32 y → FitsSigned w32 z → same_int y z ≡ (of_z w32 y == of_z w32 z)
same_int_lem (pos m) (pos n) p q = refl
same_int_lem (pos m) (negsuc n) p q = let a = p.sfits in let b = q.sfits in grind (arith, nat_tests)
same_int_lem (negsuc m) (pos n) p q = let a = p.sfits in let b = q.sfits in grind (arith, nat_tests)
same_int_lem (negsuc m) (negsuc n) p q = let a = p.sfits in let b = q.sfits in grind (arith, nat_tests)

-- two words are equal exactly when all three parts are
thirds : (a b c d e f : ℕ) → b < 8 → e < 8 → c < 2 ^ 32 → f < 2 ^ 32 → (a == d && (b == e && c == f)) ≡ (a * 2 ^ 56 + b * 2 ^ 48 + c == d * 2 ^ 56 + e * 2 ^ 48 + f)
thirds a b c d e f h k p q = grind (arith, nat_tests)

tidied_same : (a x : Instruction) → tidied_instruction a ≡ Some x → (lawful_instruction a ≡ true) × (a ≡ x)
tidied_same a x h = chosen (lawful_instruction a) a x h
  where
    chosen : (b : Bool) (j i : Instruction) → cond b (Some j) None ≡ Some i → (b ≡ true) × (j ≡ i)
    chosen b j i e = (grind (arith, nat_tests), grind (arith, nat_tests))

lawful_same : (a b : Instruction) → lawful_instruction a ≡ true → lawful_instruction b ≡ true → alike_instruction a b ≡ (word_instruction a == word_instruction b)
lawful_same a b h k =
    ap (λ t. (a.operation == b.operation) && (a.channel == b.channel && t)) (same_int_lem a.argument b.argument (sized a h) (sized b k))
    ∙ thirds a.operation a.channel (of_z w32 a.argument) b.operation b.channel (of_z w32 b.argument) (grind (arith, nat_tests)) (grind (arith, nat_tests)) (bits_fit a h) (bits_fit b k)

words_same : (a b x y : Instruction) → tidied_instruction a ≡ Some x → tidied_instruction b ≡ Some y → alike_instruction a b ≡ (word_instruction x == word_instruction y)
words_same a b x y h k =
    let p = tidied_same a x h in
    let q = tidied_same b y k in
    lawful_same a b p.0 q.0 ∙ ap (λ i. nat_eq (word_instruction i) (word_instruction b)) p.1 ∙ ap (λ i. nat_eq (word_instruction x) (word_instruction i)) q.1

pub instruction_laws : Laws lawful_instruction tidied_instruction word_instruction taken_instruction alike_instruction
instruction_laws = record {
  keeps = λ v h. ap (λ b. cond b (Some v) None) h;
  tidies = λ v x h. let p = tidied_same v x h in sym (ap lawful_instruction p.1) ∙ p.0;
  fits = word_fits;
  back = word_back;
  only = word_only;
  same = words_same;
}
