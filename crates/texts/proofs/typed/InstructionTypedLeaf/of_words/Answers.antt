use Rattle.std.proofs.Common.{◌≡◌, ℕ, List, [], length, get_or, Option, Result, arith, Bor}
use Rattle.cells.specs.declared.causes.Cause.{Cause}
use Rattle.kinds.specs.declared.instructions.Instruction.{Instruction}
use Rattle.texts.specs.Typed.{word_bytes, ReadsInstruction, InstructionWords}
use Rattle.texts.proofs.WordsAt.{at_word, counted}
use Rattle.texts.proofs.typed.InstructionTypedLeaf.of_words.Goals as goal

three : (ws : List (Bor (List ℕ))) (d e f : Bor (List ℕ)) (r : Option (Result Instruction Cause)) → length ws ≡ 3
    → ReadsInstruction (get_or ws 0 d).now (get_or ws 1 e).now (get_or ws 2 f).now r → InstructionWords (word_bytes ws) r
three ws d e f r h p =
    let P : List ℕ → List ℕ → List ℕ → Type 0 = λ x y z. ReadsInstruction x y z r in
    let bs = word_bytes ws in
    counted 3 ws r (P (get_or bs 0 []) (get_or bs 1 []) (get_or bs 2 [])) h
    (at_word (λ x. P x (get_or bs 1 []) (get_or bs 2 [])) ws 0 d (omega arith)
    (at_word (λ y. P (get_or ws 0 d).now y (get_or bs 2 [])) ws 1 e (omega arith)
    (at_word (λ z. P (get_or ws 0 d).now (get_or ws 1 e).now z) ws 2 f (omega arith) p)))

pub returns : goal.returns
returns c = three c.args.words.now _ _ _ c.read_instruction.result (omega arith) c.read_instruction.ensures
