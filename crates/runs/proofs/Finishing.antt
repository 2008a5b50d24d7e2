-- What holds straight after a collection that has visited all its places. Assumes nothing.
use Rattle.std.proofs.Common.{◌≡◌, ℕ, ◌+◌, ◌*◌, ◌<◌, ◌≤◌, Bool, true, false, cond, not, eqb, ltb, ◌↔◌, List, [], take, Some, None, Ok, Err, Option, Result, sym, refl, ap, ◌∙◌, subst, inl, inr, arith}
use Rattle.std.proofs.lemmas.Bool.Decides.{nat_tests}
use Rattle.std.proofs.lemmas.Bool.{cases_eq, cases_Bool}
use Rattle.cells.specs.declared.Tag.{Tag}
use Rattle.cells.specs.declared.Tag.TheVariants.{Unique, Sticky}
use Rattle.cells.specs.declared.Field.TheVariants.{To}
use Rattle.cells.specs.declared.Cell.{Cell}
use Rattle.cells.specs.declared.causes.Cause.{Cause}
use Rattle.cells.specs.declared.causes.Cause.TheVariants.{NoRoom}
use Rattle.cells.specs.Leaves.{Laws}
use Rattle.graph.specs.Graphs.{to, Graph, Reachable, Alike, Counts, link_of, graph_of}
use Rattle.graph.specs.Places.{holds, refers_to, Live, Shared, link_at, Canonical}
use Rattle.graph.proofs.Reading.{link_at_lem, link_reference}
use Rattle.graph.proofs.Ordered.{met_and_reached, canonical_live}
use Rattle.graph.proofs.Counting.{how_many, counts_passing, counts_like}
use Rattle.graph.proofs.Partners.{alike_keeps_counts}
use Rattle.store.specs.Model.{hand_of}
use Rattle.store.specs.Fields.{unique_field}
use Rattle.store.specs.Calls.{Call, cause_of, answer_of, unless, full}
use Rattle.store.specs.Calls as call
use Rattle.collector.specs.Steps.{Tour}
use Rattle.collector.specs.Collections.{settled, tour_of, march_all}
use Rattle.runs.specs.Sound.{Sound, held_below}
use Rattle.runs.specs.Worlds.{World, Said, answered, saying, state_of, answer, calls}
use Rattle.runs.specs.Law.{Finished, HadUnique}
use Rattle.runs.proofs.Tagging.{refers_to_lem}
use Rattle.runs.proofs.Tallied.{tally_both}
use Rattle.runs.proofs.Settling.{exact_unique, sound_alike}
use Rattle.runs.proofs.TourVisits.{Log, ref, stood, was, was_stood}
use Rattle.runs.proofs.TourSteps.{Begun, Touring, sticky_tag}
use Rattle.runs.proofs.TourEnd.{kept_length, read, refers_now, exact_now, canonical_now}

sticky_is : (t : Tag) → sticky_tag t ≡ true → t ≡ Sticky
sticky_is Unique e = absurd (let z : ◌≡◌ {A = ℕ} 0 1 = cc in omega arith)
sticky_is Sticky e = refl

not_sticky_is : (t : Tag) → not (sticky_tag t) ≡ true → t ≡ Unique
not_sticky_is Unique e = refl
not_sticky_is Sticky e = absurd (let z : ◌≡◌ {A = ℕ} 0 1 = cc in omega arith)

module _ {V : Type 0} {lawful : V → Bool} {tidied : V → Option V} {word : V → ℕ} {taken : ℕ → Option V} {alike : V → V → Bool} (laws : Laws lawful tidied word taken alike)
    (w : World V) {size mark : ℕ} {O : List (Cell V)} (B : Begun size mark w.begun_hands O) (found_kept : w.begun_cells ≡ take mark O) (same_size : w.banks.model.size ≡ size)
    {t : Tour V} {L : Log} (T : Touring size mark w.begun_hands O t L) (ended : t.steps ≡ 16 + 2 * t.copied) (is_last : (march_all (tour_of w.banks)).tour.steps ≡ t.steps)
    (S : Sound lawful size t.copied t.hands [] t.new w.plain)
    (A : Alike alike (graph_of t.hands (take t.copied t.new)) (graph_of w.begun_hands (take mark O))) (forth-is : (j : ℕ) → j < t.copied → A.forth j ≡ L.orig j) where
  abbrev K : Graph V
  K = graph_of t.hands (take t.copied t.new)

  C : Canonical t.hands (take t.copied t.new)
  C = canonical_now B T ended

  -- ---- entered UNIQUE

  -- where the first visited reference to the j-th copied cell stood at Begin
  first_stood : (j : ℕ) → j < t.copied → held_below mark w.begun_hands O (stood L.orig (L.first j)) ≡ ref (L.entry j) (L.orig j)
  first_stood j l = sym (was_stood (held_below mark w.begun_hands O) L.orig (L.first j)) ∙ T.visits.came j l

  had_unique : (j : ℕ) → j < t.copied → L.entry j ≡ Unique → HadUnique tidied alike w (A.forth j)
  had_unique j l u = (
    stood L.orig (L.first j),
    record { tag = L.entry j; address = L.orig j },
    ap (λ cs. holds w.begun_hands cs (stood L.orig (L.first j))) found_kept ∙ first_stood j l,
    u,
    sym (forth-is j l),
  )

  entered_unique : (j : ℕ) → j < t.copied → HadUnique tidied alike w (A.forth j) → L.entry j ≡ Unique
  entered_unique j l (p, r, e, u, a) =
      let q = stood L.orig (L.first j) in
      let here : held_below mark w.begun_hands O p ≡ To r = sym (ap (λ cs. holds w.begun_hands cs p) found_kept) ∙ e in
      let there : held_below mark w.begun_hands O q ≡ ref (L.entry j) (L.orig j) = first_stood j l in
      elim (cases_eq q p) [
        | inl x ↦ (let y : To r ≡ ref (L.entry j) (L.orig j) = sym here ∙ ap (held_below mark w.begun_hands O) (sym x) ∙ there in let z : r.tag ≡ L.entry j = cc in sym z ∙ u)
        | inr n ↦ absurd (B.honest p r here u (q, n, refers_to_lem (held_below mark w.begun_hands O q) (record { tag = L.entry j; address = L.orig j }) r.address there (sym (a ∙ forth-is j l))))
      ]

  entered_counts : Counts (λ j. (j < t.copied) × HadUnique tidied alike w (A.forth j)) (how_many (λ j. not (sticky_tag (L.entry j))) t.copied)
  entered_counts = counts_like (how_many (λ j. not (sticky_tag (L.entry j))) t.copied)
      (λ j x. (x.0, had_unique j x.0 (not_sticky_is (L.entry j) x.1)))
      (λ j x. (x.0, ap (λ g. not (sticky_tag g)) (entered_unique j x.0 x.1)))
      (counts_passing (λ j. not (sticky_tag (L.entry j))) t.copied)

  -- ---- shared

  live : (p : ℕ) → p < 16 + 2 * t.copied → Live K p
  live p l = canonical_live C p (let n = kept_length B T ended in omega arith)

  link_to : (p j : ℕ) → p < 16 + 2 * t.copied → j < t.copied → refers_to (L.orig j) (was (held_below mark w.begun_hands O) L.orig p) ≡ true → link_at K p ≡ to j
  link_to p j l h e = link_at_lem t.hands (take t.copied t.new) p ∙ ap link_of (refers_now B T ended p j l h e)

  first_refers : (j : ℕ) → j < t.copied → refers_to (L.orig j) (was (held_below mark w.begun_hands O) L.orig (L.first j)) ≡ true
  first_refers j l = refers_to_lem (was (held_below mark w.begun_hands O) L.orig (L.first j)) (record { tag = L.entry j; address = L.orig j }) (L.orig j) (T.visits.came j l) refl

  shared_if : (j : ℕ) → j < t.copied → L.tags j ≡ Sticky → Shared K j
  shared_if j l s =
      let x = T.visits.twice j l s in
      let p = x.0 in
      let q = L.first j in
      let lp : p < 16 + 2 * t.copied = (let y = x.1 in omega arith) in
      let lq : q < 16 + 2 * t.copied = (let y = T.visits.gone j l in omega arith) in
      (p, q, x.2, live p lp, live q lq, link_to p j lp l x.3, link_to q j lq l (first_refers j l))

  shared_only : (j : ℕ) → Shared K j → (j < t.copied) × (sticky_tag (L.tags j) ≡ true)
  shared_only j (p, q, n, lp, lq, ep, eq) =
      let held = held_below t.copied t.hands t.new in
      let x = link_reference (held p) j (sym (link_at_lem t.hands (take t.copied t.new) p) ∙ ep) in
      let y = link_reference (held q) j (sym (link_at_lem t.hands (take t.copied t.new) q) ∙ eq) in
      let r = x.0 in
      let R = read B T ended p r x.1 in
      let s : r.tag ≡ Sticky = (exact_now B T ended p r x.1).1 (q, (λ z. n (sym z)), refers_to_lem (held q) y.0 r.address y.1 (y.2 ∙ sym x.2)) in
      let i = R.is in
      let c : R.cell ≡ j = (let a : r.address ≡ R.cell = cc in sym a ∙ x.2) in
      let g : L.tags R.cell ≡ Sticky = (let a : r.tag ≡ L.tags R.cell = cc in sym a ∙ s) in
      (subst (λ k. k < t.copied) c R.cell_low, ap sticky_tag (sym (ap L.tags c) ∙ g))

  shared_counts : Counts (Shared w.plain) (how_many (λ j. sticky_tag (L.tags j)) t.copied)
  shared_counts =
      (alike_keeps_counts alike).shared K w.plain (how_many (λ j. sticky_tag (L.tags j)) t.copied) (sound_alike laws S)
      (counts_like (how_many (λ j. sticky_tag (L.tags j)) t.copied) (λ j x. shared_if j x.0 (sticky_is (L.tags j) x.1)) shared_only (counts_passing (λ j. sticky_tag (L.tags j)) t.copied))

  -- ---- counts

  reached_counts : Counts (Reachable w.plain) t.copied
  reached_counts =
      (alike_keeps_counts alike).nodes K w.plain t.copied (sound_alike laws S)
      (subst (Counts (Reachable K)) (kept_length B T ended) (met_and_reached C).counted)

  marks_sum : t.marks + how_many (λ j. not (sticky_tag (L.entry j))) t.copied ≡ t.copied + how_many (λ j. sticky_tag (L.tags j)) t.copied
  marks_sum = let m = T.marked in let b = tally_both (λ j. sticky_tag (L.entry j)) t.copied in omega arith

  -- ---- the next Pair

  -- the world after: the new bank is the working one
  abbrev W : World V
  W = record { banks = settled t; plain = w.plain; begun_hands = w.begun_hands; begun_cells = w.begun_cells }

  size_is : t.size ≡ w.banks.model.size
  size_is = T.same_size ∙ sym same_size

  pair_cause : (h : ℕ) → h ≤ 15 → cause_of tidied (settled t).model w.banks.model.size t.new (call.pair h) ≡ cond (full (settled t).model h) (Some NoRoom) None
  unfolding cause_of
  pair_cause h l = let e = size_is in let a : eqb w.banks.model.size t.size ≡ true = grind (arith, nat_tests) in let b : ltb 15 h ≡ false = grind (arith, nat_tests) in grind (arith, nat_tests)

  full_is : (h : ℕ) → (full (settled t).model h ≡ true) ↔ ((t.copied ≡ w.banks.model.size) × (unique_field (hand_of (settled t).model h) ≡ false))
  full_is h =
      let e = size_is in
      let m : t.copied ≤ t.size = (let x = S.mark_size in let y = T.same_size in omega arith) in
      (λ x. (grind (arith, nat_tests), grind (arith, nat_tests)), λ x. (let a = x.0 in let b = x.1 in grind (arith, nat_tests)))

  pair_answer : (h : ℕ) (o : Option Cause) → cause_of tidied (settled t).model w.banks.model.size t.new (call.pair h) ≡ o
      → answer tidied W (calls w.banks.model.size (call.pair h)) ≡ saying answered (unless o (answer_of (state_of (settled t)) (call.pair h)) Err Ok)
  pair_answer h o e = ap (λ x. saying answered (unless x (answer_of (state_of (settled t)) (call.pair h)) Err Ok)) e

  pair_next : (h : ℕ) → h ≤ 15 → ((c : Cause) × (answer tidied W (calls w.banks.model.size (call.pair h)) ≡ Err c))
      ↔ ((t.copied ≡ w.banks.model.size) × (unique_field (hand_of (settled t).model h) ≡ false))
  pair_next h l = (there, here)
    where
      there : ((c : Cause) × (answer tidied W (calls w.banks.model.size (call.pair h)) ≡ Err c)) → (t.copied ≡ w.banks.model.size) × (unique_field (hand_of (settled t).model h) ≡ false)
      there (c, e) = elim (cases_Bool (full (settled t).model h)) [
        | inl x ↦ (full_is h).0 x
        | inr x ↦ absurd (
            let y = pair_answer h None (pair_cause h l ∙ ap (λ b. cond b (Some NoRoom) None) x) in
            let q : ◌≡◌ {A = Result (Said V) Cause} (Err c) (Ok (answered call.done)) = sym e ∙ y in
            let z : ◌≡◌ {A = ℕ} 0 1 = cc in omega arith)
      ]

      here : (t.copied ≡ w.banks.model.size) × (unique_field (hand_of (settled t).model h) ≡ false) → (c : Cause) × (answer tidied W (calls w.banks.model.size (call.pair h)) ≡ Err c)
      here x = (NoRoom, pair_answer h (Some NoRoom) (pair_cause h l ∙ ap (λ b. cond b (Some NoRoom) None) ((full_is h).1 x)))

  -- the same matching, to the cells as the world remembers them
  begun_partner : (P : Alike alike K (graph_of w.begun_hands w.begun_cells)) × ((j : ℕ) → P.forth j ≡ A.forth j)
  begun_partner = subst (λ cs. (P : Alike alike K (graph_of w.begun_hands cs)) × ((j : ℕ) → P.forth j ≡ A.forth j)) (sym found_kept) (A, λ j. refl)

  partner_counts : Counts (λ j. (j < t.copied) × HadUnique tidied alike w (begun_partner.0.forth j)) (how_many (λ j. not (sticky_tag (L.entry j))) t.copied)
  partner_counts = counts_like (how_many (λ j. not (sticky_tag (L.entry j))) t.copied)
      (λ j x. (x.0, subst (HadUnique tidied alike w) (sym (begun_partner.1 j)) x.1))
      (λ j x. (x.0, subst (HadUnique tidied alike w) (begun_partner.1 j) x.1))
      entered_counts

  pub finished_rightly : Finished tidied alike w W t.copied t.marks
  finished_rightly = record {
    unique_exactly = exact_unique (held_below t.copied t.hands t.new) (exact_now B T ended);
    alike_plain = sound_alike laws S;
    canonical = C;
    as_many = kept_length B T ended;
    counted = reached_counts;
    entered = how_many (λ j. not (sticky_tag (L.entry j))) t.copied;
    shared = how_many (λ j. sticky_tag (L.tags j)) t.copied;
    partner = begun_partner.0;
    entered_counted = partner_counts;
    shared_counted = shared_counts;
    sum = marks_sum;
    steps = is_last ∙ ended;
    pair_next = pair_next;
  }
