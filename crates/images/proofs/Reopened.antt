-- Putting the cells of an image into a bank, the record of its hands, and what the two are together.
use Rattle.std.proofs.Common.{◌≡◌, ℕ, suc, ◌+◌, ◌*◌, ◌<◌, ◌≤◌, Bool, true, List, [], ◌∷◌, ◌++◌, length, get_or, take, drop, set, Ok, Err, Option, sym, refl, ap, ◌∙◌, ap₂, arith}
use Rattle.std.proofs.lemmas.List.{append_assoc, length-append, length-drop, drop_more, set_at, take_at}
use Rattle.std.proofs.lemmas.List.FromFn.{map-range_with_len_more}
use Rattle.std.proofs.lemmas.Bool.{cond-true}
use Rattle.std.proofs.lemmas.Bool.Decides.{nat_tests}
use Rattle.cells.specs.declared.Reference.{Reference}
use Rattle.cells.specs.declared.Field.{Field}
use Rattle.cells.specs.declared.Field.TheVariants.{Nil, To}
use Rattle.cells.specs.declared.Cell.{Cell}
use Rattle.cells.specs.declared.Cell.TheVariants.{Blank, Pair, Leaf, Moved}
use Rattle.cells.specs.declared.causes.Cause.{Cause}
use Rattle.cells.specs.Leaves.{Laws}
use Rattle.cells.specs.Banks.{storable, takes, after_put}
use Rattle.graph.specs.Places.{is_node}
use Rattle.graph.proofs.Reading.{holds_hand}
use Rattle.store.specs.Model.{Model}
use Rattle.store.specs.Bounds.{hands_below}
use Rattle.store.specs.Restoring.{settled_model, restored_model}
use Rattle.images.specs.Layout.{image_of, stored_cell, stored_cells, count_in, hands_in, cells_in}
use Rattle.images.specs.Images.{IsImage, HeldImage}
use Rattle.images.specs.Writing.{all_nodes, write_answer, image_kept, bytes_after}
use Rattle.images.specs.Opening.{Allowed, Refused, size_out, no_image, no_room, Restored, Rebuilt}
use Rattle.images.proofs.Stored.{stored_count, stored_cell_lem}
use Rattle.images.proofs.Spelled.{hands_here, cells_here, count_here, length_here}
use Rattle.images.proofs.Written.{nodes_all, settled_written}

-- ---- one more cell put

storable_if : {V : Type 0} (lawful : V → Bool) (c : Cell V) → is_node c ≡ true → ((v : V) → c ≡ Leaf v → lawful v ≡ true) → storable lawful c ≡ true
storable_if lawful Blank n ok = absurd (grind arith)
storable_if lawful (Pair l r) n ok = refl
storable_if lawful (Leaf v) n ok = ok v refl
storable_if lawful (Moved f s) n ok = absurd (grind arith)

module _ {V : Type 0} (lawful : V → Bool) (taken : ℕ → Option V) (rest : List ℕ) where
  pub stored_none : stored_cells taken rest 0 ≡ []
  unfolding stored_cells
  stored_none = refl

  stored_more : (at : ℕ) → stored_cells taken rest (at + 1) ≡ stored_cells taken rest at ++ stored_cell taken rest at ∷ []
  unfolding stored_cells
  stored_more at = map-range_with_len_more (stored_cell taken rest) 0 at at (omega arith)

  pub put_more : (before now : List (Cell V)) (at : ℕ) → at < length before → now ≡ stored_cells taken rest at ++ drop at before → storable lawful (stored_cell taken rest at) ≡ true
      → after_put lawful now at (stored_cell taken rest at) ≡ stored_cells taken rest (at + 1) ++ drop (at + 1) before
  put_more before now at h e s =
      let n = stored_count taken rest at in
      let front : List (Cell V) = stored_cells taken rest at in
      let split : now ≡ front ++ get_or before at Blank ∷ drop (at + 1) before = e ∙ ap (λ l. front ++ l) (drop_more before at Blank h) in
      let long : length now ≡ length before = ap length e ∙ length-append front (drop at before) ∙ (let d = length-drop at before in omega arith) in
      let fits : takes lawful now at (stored_cell taken rest at) ≡ true = grind (arith, nat_tests) in
      cond-true (takes lawful now at (stored_cell taken rest at)) (set now at (stored_cell taken rest at)) now fits
      ∙ ap (λ l. set l at (stored_cell taken rest at)) split
      ∙ set_at front (get_or before at Blank) (drop (at + 1) before) (stored_cell taken rest at) at n
      ∙ sym (append_assoc front (stored_cell taken rest at ∷ []) (drop (at + 1) before))
      ∙ ap (λ l. l ++ drop (at + 1) before) (sym (stored_more at))

-- ---- the record

below_all : (n : ℕ) (fs : List Field) → ((i : ℕ) (x : Reference) → i < length fs → get_or fs i Nil ≡ To x → x.address < n) → hands_below n fs ≡ true
below_all n [] h = refl
below_all n (Nil ∷ fs) h = below_all n fs (λ i x l e. h (suc i) x (omega arith) e)
below_all n (To r ∷ fs) h = let l = h 0 r (omega arith) refl in let more = below_all n fs (λ i x k e. h (suc i) x (omega arith) e) in grind (arith, nat_tests)

module _ {V : Type 0} {lawful : V → Bool} {tidied : V → Option V} {word : V → ℕ} {taken : ℕ → Option V} {alike : V → V → Bool} (laws : Laws lawful tidied word taken alike) (number : ℕ) (image : List ℕ) where
  module _ (I : HeldImage lawful word taken number image) where
    pub count_small : count_in image ≤ 32768
    count_small = let c = count_here laws I in let f = I.few in omega arith

    pub rest_long : length image ≡ 68 + 9 * count_in image
    rest_long = let c = count_here laws I in length_here laws I ∙ (omega arith)

    pub cells_storable : (j : ℕ) → j < count_in image → storable lawful (stored_cell taken (drop 4 image) j) ≡ true
    cells_storable j h =
        let n = stored_count taken (drop 4 image) (count_in image) in
        let e = stored_cell_lem taken (drop 4 image) (count_in image) j h in
        storable_if lawful (stored_cell taken (drop 4 image) j) (ap is_node (sym e) ∙ I.canonical.kinds j (omega arith)) (λ v f. I.leaves j v (e ∙ f))

    pub record_made : (size : ℕ) → Allowed size → count_in image ≤ size → restored_model size (count_in image) (hands_in image) ≡ Ok (settled_model size (count_in image) (hands_in image))
    record_made size ok room =
        let n = stored_count taken (drop 4 image) (count_in image) in
        let s = I.canonical.sixteen in
        let below : hands_below size (hands_in image) ≡ true = below_all size (hands_in image) (λ i x h e. let l = I.canonical.inside i x (omega arith) (holds_hand (hands_in image) (cells_in taken image) i (omega arith) ∙ e) in omega arith) in
        let a = ok.0 in
        let b = ok.1 in
        grind (arith, nat_tests)

    -- the cells that an accepted Open leaves
    module _ (before m-cells : List (Cell V)) (cells_are : m-cells ≡ cells_in taken image ++ drop (count_in image) before) (room : count_in image ≤ length before) where
      pub left_long : length m-cells ≡ length before
      left_long =
          let n = stored_count taken (drop 4 image) (count_in image) in
          ap length cells_are ∙ length-append (cells_in taken image) (drop (count_in image) before) ∙ (let d = length-drop (count_in image) before in omega arith)

      pub left_front : take (count_in image) m-cells ≡ cells_in taken image
      left_front = ap (take (count_in image)) cells_are ∙ take_at (cells_in taken image) (drop (count_in image) before) (count_in image) (stored_count taken (drop 4 image) (count_in image))

  -- ---- what is accepted, and what it rebuilds

  pub accepts : (before after : List (Cell V)) (m : Model) → Restored lawful word taken number image before m after → Rebuilt lawful word taken number image before (Ok m) after
  accepts before after m R =
      record {
        accepted = (λ _. (R.allowed, (count_in image, (hands_in image, cells_in taken image, stored_count taken (drop 4 image) (count_in image), R.whole), R.room)), λ _. (m, refl));
        rebuilt = λ m' e hands cells J.
            let n = count_here laws J in
            let same : m ≡ m' = cc in
            (sym same ∙ R.model ∙ ap₂ (settled_model (length before)) n (sym (hands_here laws J)), ap (λ k. take k after) (sym n) ∙ left_front R.whole before after R.cells R.room ∙ sym (cells_here laws J));
      }

  none_fits : (size : ℕ) (c : Cause) → Refused lawful word taken number size image c → Allowed size → (n : ℕ) → IsImage lawful word number image n → n ≤ size → ⊥
  none_fits size c (size_out bad) ok n J room = bad ok
  none_fits size c (no_image _ none) ok n J room = none J.0 J.1 J.3
  none_fits size c (no_room _ I short) ok n J room = let k = count_here laws J.3 in omega (arith, J.2)

  pub refuses : (before : List (Cell V)) (c : Cause) → Refused lawful word taken number (length before) image c → Rebuilt lawful word taken number image before (Err c) before
  refuses before c R =
      record {
        accepted = (λ w. absurd (let e = w.1 in grind arith), λ w. absurd (none_fits (length before) c R w.0 w.1.0 w.1.1 w.1.2));
        rebuilt = λ m e. absurd (grind arith);
      }

  -- ---- written back

  pub written_back : (before : List (Cell V)) (m : Model) (after : List (Cell V)) (bytes : List ℕ) → Restored lawful word taken number image before m after → length image ≤ length bytes
      → (write_answer m after (length bytes) ≡ Ok (length image)) × (bytes_after lawful word number m after bytes ≡ image ++ drop (length image) bytes)
  written_back before m after bytes R room =
      let made : Model = settled_model (length before) (count_in image) (hands_in image) in
      let front = left_front R.whole before after R.cells R.room in
      let long = rest_long R.whole in
      let done = settled_written lawful word number made after bytes (left_long R.whole before after R.cells R.room) refl refl (ap all_nodes front ∙ nodes_all (cells_in taken image) R.whole.canonical.kinds) (omega arith) in
      let image-is : image_kept lawful word number made after ≡ image = ap (image_of lawful word number (hands_in image)) front ∙ sym R.whole.spelled in
      (ap (λ k. write_answer k after (length bytes)) R.model ∙ done.0 ∙ ap Ok (sym long), ap (λ k. bytes_after lawful word number k after bytes) R.model ∙ done.1 ∙ ap (λ l. l ++ drop (length l) bytes) image-is)
