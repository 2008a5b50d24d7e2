-- The law over runs, from what holds of each step and of each world. Assumes nothing.
use Rattle.std.proofs.Common.{◌≡◌, ℕ, ◌+◌, ◌*◌, Bool, false, ◌↔◌, List, [], length, take, Ok, Option, sym, refl, subst}
use Rattle.cells.specs.declared.Field.{Field}
use Rattle.cells.specs.declared.Cell.{Cell}
use Rattle.cells.specs.Leaves.{Laws}
use Rattle.graph.specs.Graphs.{Graph, Alike, graph_of}
use Rattle.graph.specs.Places.{Lawful}
use Rattle.graph.proofs.Same.{canonical_stands_for_alike}
use Rattle.collector.specs.Steps.{Tour, march}
use Rattle.collector.specs.Collections.{kept_marks, tour_of, settled, march_all}
use Rattle.runs.specs.Sound.{Sound}
use Rattle.runs.specs.Worlds.{Event, finishes, World, world_beside, replied, answer, after, run}
use Rattle.runs.specs.Law.{Finished, JustFinished, LawOverRuns, LawBesideAnySpare, kept}
use Rattle.runs.proofs.Worldly.{InTour, Good, Ended, good_new, good_run, finish_ended, throughout_runs}
use Rattle.runs.proofs.Settling.{alike_self, kept_lawful, plain_accepted}
use Rattle.runs.proofs.TourVisits.{Log, start_log}
use Rattle.runs.proofs.TourSteps.{Begun, begun_sound, Touring, touring_start, march_keeps, march_all_keeps, march_all_ends}
use Rattle.runs.proofs.TourEnd.{sound_now, alike_begun, alike_begun_forth}
use Rattle.runs.proofs.Finishing.{finished_rightly}

-- where a collection stands, with a log of what was met
pub record Stands {V : Type 0} (size mark : ℕ) (hands : List Field) (cells : List (Cell V)) (t : Tour V) : Type 0 where
  pub begun : Begun size mark hands cells
  pub log : Log
  pub touring : Touring size mark hands cells t log

module _ {V : Type 0} where
  pub starts : {lawful : V → Bool} (size mark : ℕ) (H : List Field) (free : List ℕ) (O : List (Cell V)) (G : Graph V) (spare : List (Cell V)) → Sound lawful size mark H free O G → length spare ≡ size
      → Stands size mark H O (record { mark = mark; size = size; hands = H; old = O; new = spare; steps = 0; copied = 0; marks = 0 })
  starts size mark H free O G spare S l = record { begun = begun_sound S; log = start_log; touring = touring_start (begun_sound S) spare l }

  pub goes : (size mark : ℕ) (H : List Field) (O : List (Cell V)) (t : Tour V) → Stands size mark H O t → (n : ℕ) → ((march n t).broken ≡ false) × Stands size mark H O (march n t).tour
  goes size mark H O t T n = let m = march_keeps T.begun n t T.log T.touring in (m.good, record { begun = T.begun; log = m.log; touring = m.touring })

  pub stays : (size mark : ℕ) (H : List Field) (O : List (Cell V)) (t : Tour V) → Stands size mark H O t → (t.size ≡ size) × (t.mark ≡ mark) × (length t.old ≡ size)
  stays size mark H O t T = (T.touring.same_size, T.touring.same_mark, T.touring.old_size)

  -- all the steps that are left
  arrived : (size mark : ℕ) (H : List Field) (O : List (Cell V)) (t : Tour V) → Stands size mark H O t
      → Stands size mark H O (march_all t).tour × ((march_all t).tour.steps ≡ 16 + 2 * (march_all t).tour.copied)
  arrived size mark H O t T =
      let m = march_all_keeps T.begun t T.log T.touring in
      (record { begun = T.begun; log = m.log; touring = m.touring }, march_all_ends T.begun t T.log T.touring)

  pub arrives : {lawful : V → Bool} (size mark : ℕ) (H : List Field) (free : List ℕ) (O : List (Cell V)) (G : Graph V) (t : Tour V) → Sound lawful size mark H free O G → Stands size mark H O t
      → Sound lawful size (march_all t).tour.copied (march_all t).tour.hands [] (march_all t).tour.new G
  arrives size mark H free O G t S T = let a = arrived size mark H O t T in sound_now a.0.begun a.0.touring a.1 S

module _ {V : Type 0} {lawful : V → Bool} {tidied : V → Option V} {word : V → ℕ} {taken : ℕ → Option V} {alike : V → V → Bool} (laws : Laws lawful tidied word taken alike) where
  abbrev Steady : World V → Type 0
  Steady = Good laws Stands starts goes stays arrives

  pub steady_run : (bank spare : List (Cell V)) (es : List (Event V)) → Steady (run tidied (world_beside bank spare) es)
  steady_run bank spare es = good_run laws Stands starts goes stays arrives (world_beside bank spare) es (good_new laws Stands starts goes stays arrives bank spare)

  -- ---- an accepted Finish

  module _ (w : World V) (good : Steady w) (n k cells marks : ℕ) (ok : answer tidied w (finishes n k) ≡ Ok (replied (kept_marks cells marks))) where
    pub ended : Ended laws Stands starts goes stays arrives w good n k cells marks
    ended = finish_ended laws Stands starts goes stays arrives w good n k cells marks ok

    abbrev last : Tour V
    last = (march_all (tour_of w.banks)).tour

    found_tour : InTour laws Stands starts goes stays arrives w
    found_tour = ended.tour

    end : Stands w.banks.model.size w.banks.model.mark w.begun_hands found_tour.found last × (last.steps ≡ 16 + 2 * last.copied)
    end = arrived w.banks.model.size w.banks.model.mark w.begun_hands found_tour.found (tour_of w.banks) found_tour.touring

    pub sound_last : Sound lawful w.banks.model.size last.copied last.hands [] last.new w.plain
    sound_last = sound_now end.0.begun end.0.touring end.1 found_tour.found_sound

    alike_last : Alike alike (graph_of last.hands (take last.copied last.new)) (graph_of w.begun_hands (take w.banks.model.mark found_tour.found))
    alike_last = alike_begun end.0.begun end.0.touring end.1 alike lawful (alike_self laws) found_tour.found_sound.leaves

    finished_last : Finished tidied alike w (record { banks = settled last; plain = w.plain; begun_hands = w.begun_hands; begun_cells = w.begun_cells }) last.copied last.marks
    unfolding alike_last
    finished_last = finished_rightly laws w end.0.begun found_tour.found_kept refl end.0.touring end.1 refl sound_last alike_last
        (λ j _. alike_begun_forth end.0.begun end.0.touring end.1 alike lawful (alike_self laws) found_tour.found_sound.leaves j)

    finished_now : Finished tidied alike w (after tidied w (finishes n k)) cells marks
    finished_now =
        subst (λ W. Finished tidied alike w W cells marks) (sym ended.now)
        (subst (λ c. Finished tidied alike w (record { banks = settled last; plain = w.plain; begun_hands = w.begun_hands; begun_cells = w.begun_cells }) c marks) ended.cells_are
        (subst (Finished tidied alike w (record { banks = settled last; plain = w.plain; begun_hands = w.begun_hands; begun_cells = w.begun_cells }) last.copied) ended.marks_are finished_last))

  -- ---- two accepted Finishes

  compared : (w w' : World V) → Steady w → Steady w' → (n k n' k' : ℕ) → JustFinished tidied alike w n k → JustFinished tidied alike w' n' k'
      → (((after tidied w (finishes n k)).banks.model.hands ≡ (after tidied w' (finishes n' k')).banks.model.hands)
      × (kept (after tidied w (finishes n k)).banks ≡ kept (after tidied w' (finishes n' k')).banks))
      ↔ Alike alike w.plain w'.plain
  compared w w' g g' n k n' k' (c, m, ok) (c', m', ok') =
      let F = finished_now w g n k c m ok in
      let F' = finished_now w' g' n' k' c' m' ok' in
      let S = sound_last w g n k c m ok in
      let S' = sound_last w' g' n' k' c' m' ok' in
      let W = after tidied w (finishes n k) in
      let W' = after tidied w' (finishes n' k') in
      canonical_stands_for_alike laws W.banks.model.hands W'.banks.model.hands (kept W.banks) (kept W'.banks) w.plain w'.plain
      F.canonical F'.canonical
      (subst (λ x. Lawful lawful (kept x.banks)) (sym (ended w g n k c m ok).now) (kept_lawful laws S))
      (subst (λ x. Lawful lawful (kept x.banks)) (sym (ended w' g' n' k' c' m' ok').now) (kept_lawful laws S'))
      (plain_accepted laws S) (plain_accepted laws S')
      F.alike_plain F'.alike_plain

  pub the_law_beside : LawBesideAnySpare tidied alike
  the_law_beside = record {
    throughout = λ bank spare es _. throughout_runs laws Stands starts goes stays arrives bank spare es;
    finished = λ bank spare es _ n k cells marks ok. finished_now (run tidied (world_beside bank spare) es) (steady_run bank spare es) n k cells marks ok;
    compared = λ bank spare bank' spare' es es' n k n' k' _ _ x x'. compared (run tidied (world_beside bank spare) es) (run tidied (world_beside bank' spare') es') (steady_run bank spare es) (steady_run bank' spare' es') n k n' k' x x';
  }

  -- with no spare bank at first
  pub the_law : LawOverRuns tidied alike
  the_law = record {
    throughout = λ bank es. the_law_beside.throughout bank [] es;
    finished = λ bank es. the_law_beside.finished bank [] es;
    compared = λ bank bank' es es'. the_law_beside.compared bank [] bank' [] es es';
  }
