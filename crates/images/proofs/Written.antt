-- What Write reads of a bank, why it is refused, and what its three parts make of the bytes.
use Rattle.std.proofs.Common.{◌≡◌, ℕ, zero, suc, ◌+◌, ◌*◌, ◌<◌, ◌≤◌, Bool, true, false, List, [], ◌∷◌, ◌++◌, length, get_or, take, drop, Some, None, Ok, Result, sym, refl, ap, ◌∙◌, subst, zero-add, arith}
use Rattle.std.specs.Bool.{MatchBool}
use Rattle.std.specs.List.{flat_map, AllWithin, HoldsAt, range_with_len}
use Rattle.std.proofs.lemmas.List.{length-take-le, get_or-take}
use Rattle.std.proofs.lemmas.List.FromFn.{length-range_with_len, get_or-range_with_len}
use Rattle.std.proofs.lemmas.Bool.Decides.{nat_tests}
use Rattle.cells.specs.declared.Cell.{Cell}
use Rattle.cells.specs.declared.Cell.TheVariants.{Blank}
use Rattle.cells.specs.declared.causes.Cause.{Cause}
use Rattle.cells.specs.Banks.{cell_at}
use Rattle.packing.specs.Cells.{pack_cell}
use Rattle.packing.proofs.Cells.{cell_length}
use Rattle.graph.specs.Places.{is_node}
use Rattle.store.specs.Model.{Model, is_collecting}
use Rattle.images.specs.Layout.{two_bytes, hand_bytes, image_of}
use Rattle.images.specs.Writing.{is_working, all_nodes, node_found, length_for, write_cause, write_answer, pasted, image_kept, bytes_after}
use Rattle.images.proofs.Bytes.{length_parts}
use Rattle.images.proofs.Spelled.{hand_length, cell_at_inside}
use Rattle.images.proofs.Pasted.{pasted_after}

module _ {V : Type 0} where
  -- a cell that is found below a count is the one that stands there
  pub found_here : (cells : List (Cell V)) (at : ℕ) (c : Cell V) → at < length cells → Some c ≡ cell_at cells at → c ≡ get_or cells at Blank
  found_here cells at c h e = let i = cell_at_inside cells at h in grind arith

  pub found_some : (cells : List (Cell V)) (at : ℕ) → at < length cells → None ≡ cell_at cells at → ⊥
  found_some cells at h e = let i = cell_at_inside cells at h in grind arith

  -- one that is no node
  nodes_not : (cells : List (Cell V)) (count at : ℕ) → at < count → at < length cells → is_node (get_or cells at Blank) ≡ false → false ≡ all_nodes (take count cells)
  nodes_not [] count at h l n = absurd (omega arith)
  nodes_not (c ∷ cs) zero at h l n = absurd (omega arith)
  nodes_not (c ∷ cs) (suc count) zero h l n = grind (arith, nat_tests)
  nodes_not (c ∷ cs) (suc count) (suc at) h l n = grind (arith, nat_tests, nodes_not cs count at)

  pub nodes_all : (cells : List (Cell V)) → ((j : ℕ) → j < length cells → is_node (get_or cells j Blank) ≡ true) → all_nodes cells ≡ true
  nodes_all [] h = refl
  nodes_all (c ∷ cs) h = let here = h 0 (omega arith) in let more = nodes_all cs (λ j l. h (suc j) (omega arith)) in grind (arith, nat_tests)

  -- what a search of the addresses below a count for no node tells
  pub nodes_told : (cells : List (Cell V)) (count : ℕ) → count ≤ length cells → (r : Bool)
      → MatchBool r (AllWithin (λ k. node_found (cell_at cells k) ≡ true) (range_with_len 0 count) 0 (length (range_with_len 0 count)))
      ((k : ℕ) × (k < length (range_with_len 0 count)) × HoldsAt (λ k. node_found (cell_at cells k) ≡ false) (range_with_len 0 count) k)
      → r ≡ all_nodes (take count cells)
  nodes_told cells count fits true all =
      sym (nodes_all (take count cells) (λ j l.
      let n = length-take-le count cells fits in
      let h : j < count = omega arith in
      let many : j < length (range_with_len 0 count) = rw length-range_with_len h in
      let here = cell_at_inside cells j (omega arith) in
      let same = get_or-range_with_len 0 count j 0 h in
      let node : node_found (cell_at cells j) ≡ true = ap (λ k. node_found (cell_at cells k)) (sym (same ∙ zero-add j)) ∙ all j 0 (omega arith) many in
      ap is_node (get_or-take count cells j Blank h) ∙ sym (ap node_found here) ∙ node))
  nodes_told cells count fits false some =
      let h : some.0 < count = subst (λ n. some.0 < n) (length-range_with_len 0 count) some.1 in
      let here = cell_at_inside cells some.0 (omega arith) in
      let same = get_or-range_with_len 0 count some.0 0 h in
      let none : node_found (cell_at cells some.0) ≡ false = ap (λ k. node_found (cell_at cells k)) (sym (same ∙ zero-add some.0)) ∙ some.2 0 in
      nodes_not cells count some.0 h (omega arith) (sym (ap node_found here) ∙ none)

  -- ---- refusals

  module _ (m : Model) (cells : List (Cell V)) (space : ℕ) (fits : length cells ≡ m.size) where
    row_none : is_collecting m.mode ≡ false → all_nodes (take m.mark cells) ≡ true → is_working m.mode ≡ false → length_for m.mark ≤ space → None ≡ write_cause m cells space
    unfolding write_cause
    row_none a b d h = grind (arith, nat_tests)

  -- what no refusal tells
  pub none_tells : (m : Model) (cells : List (Cell V)) (space : ℕ) → None ≡ write_cause m cells space → (length cells ≡ m.size) × (length_for m.mark ≤ space)
  unfolding write_cause
  none_tells m cells space e = (grind (arith, nat_tests), grind (arith, nat_tests))

  module _ (lawful : V → Bool) (word : V → ℕ) (number : ℕ) (m : Model) (cells : List (Cell V)) (bytes : List ℕ) where
    -- an answer and the bytes after are those of the definitions
    abbrev pub Right : Result ℕ Cause → List ℕ → Type 0
    Right r now = (r ≡ write_answer m cells (length bytes)) × (now ≡ bytes_after lawful word number m cells bytes)

    -- ---- the three parts: heading, hands, cells

    pub accepted : (b₁ b₂ b₃ : List ℕ) → write_cause m cells (length bytes) ≡ None → length m.hands ≡ 16 → m.mark ≤ length cells → length_for m.mark ≤ length bytes
        → b₁ ≡ pasted bytes 0 (two_bytes number ++ two_bytes m.mark)
        → b₂ ≡ pasted b₁ 4 (flat_map hand_bytes m.hands)
        → b₃ ≡ pasted b₂ 68 (flat_map (pack_cell lawful word) (take m.mark cells))
        → Right (Ok (length_for m.mark)) b₃
    unfolding image_of
    accepted b₁ b₂ b₃ none sixteen within room e₁ e₂ e₃ =
        let hands : List ℕ = flat_map hand_bytes m.hands in
        let kept : List (Cell V) = take m.mark cells in
        let body : List ℕ = flat_map (pack_cell lawful word) kept in
        let head : List ℕ = two_bytes number ++ two_bytes m.mark in
        let n : length kept ≡ m.mark = length-take-le m.mark cells within in
        let lh : length hands ≡ 64 = length_parts hand_bytes 4 hand_length m.hands ∙ ap (λ k. 4 * k) sixteen in
        let lb : length body ≡ 9 * m.mark = length_parts (pack_cell lawful word) 9 (cell_length lawful word) kept ∙ ap (λ k. 9 * k) n in
        let s₂ : b₂ ≡ pasted bytes 0 (head ++ hands) = e₂ ∙ ap (λ b. pasted b 4 hands) e₁ ∙ pasted_after bytes head hands 0 4 refl (omega arith) in
        let l₂ : length (head ++ hands) ≡ 68 = omega arith in
        let s₃ : b₃ ≡ pasted bytes 0 ((head ++ hands) ++ body) = e₃ ∙ ap (λ b. pasted b 68 body) s₂ ∙ pasted_after bytes (head ++ hands) body 0 68 (omega arith) (omega arith) in
        let image : (head ++ hands) ++ body ≡ image_kept lawful word number m cells = ap (λ k. two_bytes number ++ (two_bytes k ++ (hands ++ body))) (sym n) in
        let bytes-are : b₃ ≡ image_kept lawful word number m cells ++ drop (length (image_kept lawful word number m cells)) bytes = s₃ ∙ ap (λ l. l ++ drop (0 + length l) bytes) image ∙ ap (λ k. image_kept lawful word number m cells ++ drop k bytes) (zero-add (length (image_kept lawful word number m cells))) in
        (rw none, rw none bytes-are)

    -- a settled store whose kept cells are pairs and leaves is written wherever there is room
    pub settled_written : length cells ≡ m.size → is_collecting m.mode ≡ false → is_working m.mode ≡ false → all_nodes (take m.mark cells) ≡ true → length_for m.mark ≤ length bytes
        → (write_answer m cells (length bytes) ≡ Ok (length_for m.mark))
        × (bytes_after lawful word number m cells bytes ≡ image_kept lawful word number m cells ++ drop (length (image_kept lawful word number m cells)) bytes)
    settled_written fits a d b room = let none = row_none m cells (length bytes) fits a b d room in (rw (← none), rw (← none))
