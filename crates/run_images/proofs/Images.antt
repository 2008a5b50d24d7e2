-- A store straight after an accepted Finish has an image, and one image alone for alike plain graphs.
use Rattle.std.proofs.Common.{◌≡◌, ℕ, ◌+◌, ◌-◌, ◌*◌, ◌≤◌, Bool, ◌↔◌, List, [], ◌++◌, length, take, drop, Ok, Option, sym, refl, ap, ◌∙◌, subst, ap₂, arith}
use Rattle.std.proofs.lemmas.List.{length-take-le}
use Rattle.cells.specs.declared.Field.{Field}
use Rattle.cells.specs.declared.Cell.{Cell}
use Rattle.cells.specs.Leaves.{Laws}
use Rattle.graph.specs.Graphs.{Graph}
use Rattle.graph.specs.Places.{Canonical}
use Rattle.collector.specs.Steps.{Tour}
use Rattle.collector.specs.Collections.{Banks, tour_of, settled, march_all}
use Rattle.images.specs.Layout.{image_of, hands_in, cells_in}
use Rattle.images.specs.Images.{ImageOf}
use Rattle.images.specs.Writing.{length_for, write_answer, image_kept, bytes_after}
use Rattle.images.proofs.Spelled.{image_length, hands_here, cells_here}
use Rattle.images.proofs.Written.{nodes_all, settled_written}
use Rattle.runs.specs.Sound.{Sound}
use Rattle.runs.specs.Worlds.{Event, finishes, World, world_beside, after}
use Rattle.runs.specs.Law.{SizeAllowed, kept, ran_beside, JustFinished}
use Rattle.runs.proofs.Settling.{kept_lawful}
use Rattle.runs.proofs.TheLaw.{steady_run, ended, sound_last, the_law_beside}
use Rattle.run_images.specs.Saved.{closed, Saved, FinishedRunsAreSaved}
use Rattle.runs.proofs.Sizes.{march_size, run_size}

module _ {V : Type 0} {lawful : V → Bool} {tidied : V → Option V} {word : V → ℕ} {taken : ℕ → Option V} {alike : V → V → Bool} (laws : Laws lawful tidied word taken alike) (number : ℕ) where
  -- a settled store that is sound and canonical is saved
  settled_saved : (w : World V) (G : Graph V) (t : Tour V) (size : ℕ) → w.banks ≡ settled t → t.size ≡ size → size ≤ 32768 → Sound lawful size t.copied t.hands [] t.new G
      → Canonical w.banks.model.hands (kept w.banks) → Saved lawful tidied word alike number w
  settled_saved w G t size is sized few S C = subst (λ (b : Banks V). Saved lawful tidied word alike number (record { banks = b; plain = w.plain; begun_hands = w.begun_hands; begun_cells = w.begun_cells })) (sym is) here
    where
      cells_are : Canonical t.hands (take t.copied t.new)
      cells_are = subst (λ (b : Banks V). Canonical b.model.hands (kept b)) is C

      count : length (take t.copied t.new) ≡ t.copied
      count = length-take-le t.copied t.new (let m = S.mark_size in let l = S.size_cells in omega arith)

      of_kept : ImageOf lawful word number (image_of lawful word number t.hands (take t.copied t.new)) t.hands (take t.copied t.new)
      of_kept = record { few = let m = S.mark_size in omega (arith, count); canonical = cells_are; leaves = kept_lawful laws S; spelled = refl }

      done : (bytes : List ℕ) → length_for t.copied ≤ length bytes
          → (write_answer (settled t).model t.new (length bytes) ≡ Ok (length_for t.copied))
          × (bytes_after lawful word number (settled t).model t.new bytes ≡ image_kept lawful word number (settled t).model t.new ++ drop (length (image_kept lawful word number (settled t).model t.new)) bytes)
      done bytes room = settled_written lawful word number (settled t).model t.new bytes (S.size_cells ∙ sym sized) refl refl (nodes_all (take t.copied t.new) cells_are.kinds) room

      here : Saved lawful tidied word alike number (record { banks = settled t; plain = w.plain; begun_hands = w.begun_hands; begun_cells = w.begun_cells })
      here = record {
        answered = λ bytes room. (done bytes room).0;
        written = λ bytes room. (done bytes room).1;
        long = image_length lawful word number t.hands (take t.copied t.new) cells_are.sixteen ∙ ap length_for count;
        image = of_kept;
        counted = (t.hands, take t.copied t.new, count, of_kept);
      }

  saved_now : (bank spare : List (Cell V)) (es : List (Event V)) (n k : ℕ) → SizeAllowed (length bank) → JustFinished tidied alike (ran_beside tidied alike bank spare es) n k → Saved lawful tidied word alike number (closed lawful tidied word alike number bank spare es n k)
  saved_now bank spare es n k ok (cells, marks, said) =
      let w : World V = ran_beside tidied alike bank spare es in
      let g = steady_run laws bank spare es in
      let E = ended laws w g n k cells marks said in
      let same : w.banks.model.size ≡ length bank = run_size tidied (world_beside bank spare) es in
      let fits = ok.1 in
      settled_saved (after tidied w (finishes n k)) w.plain (march_all (tour_of w.banks)).tour w.banks.model.size (ap (λ x. x.banks) E.now)
      (march_size (16 + 2 * (tour_of w.banks).size - (tour_of w.banks).steps) (tour_of w.banks)) (omega arith)
      (sound_last laws w g n k cells marks said) ((the_law_beside laws).finished bank spare es ok n k cells marks said).canonical

  -- images are equal exactly when hands and cells are
  image_equal : {a b : List ℕ} {hands hands' : List Field} {cells cells' : List (Cell V)} → ImageOf lawful word number a hands cells → ImageOf lawful word number b hands' cells' → (a ≡ b) ↔ ((hands ≡ hands') × (cells ≡ cells'))
  image_equal A B = (
    λ e. (hands_here laws A ∙ ap hands_in e ∙ sym (hands_here laws B), cells_here laws A ∙ ap (cells_in taken) e ∙ sym (cells_here laws B)),
    λ e. A.spelled ∙ ap₂ (image_of lawful word number) e.0 e.1 ∙ sym B.spelled,
  )

  pub finished_runs_are_saved : FinishedRunsAreSaved lawful tidied word alike number
  finished_runs_are_saved = record {
    saved = saved_now;
    compared = λ bank spare bank' spare' es es' n k n' k' ok ok' x x'.
        let same = image_equal (saved_now bank spare es n k ok x).image (saved_now bank' spare' es' n' k' ok' x').image in
        let law = (the_law_beside laws).compared bank spare bank' spare' es es' n k n' k' ok ok' x x' in
        (λ e. law.0 (same.0 e), λ e. same.1 (law.1 e));
  }
