-- Canonical hands and cells: what the counter means, and that the reachable nodes are the cells.
use Rattle.std.proofs.Common.{◌≡◌, ℕ, zero, suc, ◌+◌, ◌*◌, ◌<◌, ◌≤◌, true, ◌⊎◌, ◌↔◌, List, length, get_or, sym, refl, ap, ◌∙◌, inl, inr, ⊎_elim, arith}
use Rattle.std.proofs.lemmas.Bool.Decides.{nat_tests}
use Rattle.std.proofs.lemmas.Bool.{cases_lt}
use Rattle.std.proofs.lemmas.List.{get_or_past}
use Rattle.cells.specs.declared.Field.{Field}
use Rattle.cells.specs.declared.Field.TheVariants.{Nil, To}
use Rattle.cells.specs.declared.Cell.{Cell}
use Rattle.graph.specs.Graphs.{nil, to, Reachable, from_hand, from_side, link_of, graph_of}
use Rattle.graph.specs.Places.{place_of, cell_of, holds, refers_to, meeting, met, Live, Canonical}
use Rattle.graph.specs.Theorems.{MetAndReached}
use Rattle.graph.proofs.Reading.{link_reference, refers_link, link_at_lem, link_at_hand, link_at_place, hand_of_lem, live_reaches, holds_past, met_step, met_start, met_rises}

-- an address below the counter after a place is below it before, or is the one that the place meets
pub meeting_cases : (m a : ℕ) (f : Field) → a < meeting m f → (a < m) ⊎ ((a ≡ m) × (refers_to a f ≡ true))
meeting_cases m a Nil h = inl h
meeting_cases m a (To r) h = ⊎_elim inl (λ l. inr (grind (arith, nat_tests))) (cases_lt a m)

meeting_past : (m a : ℕ) (f : Field) → a ≤ m → refers_to a f ≡ true → a < meeting m f
meeting_past m a Nil l h = absurd (grind arith)
meeting_past m a (To r) l h = grind (arith, nat_tests)

module _ {V : Type 0} {hands : List Field} {cells : List (Cell V)} (C : Canonical hands cells) where
  -- the cell of a side is met before its place is read
  pub cell_met : (p : ℕ) → 16 ≤ p → p < 16 + 2 * length cells → cell_of p < met (holds hands cells) p
  cell_met p h l =
      let e = C.early (cell_of p) (omega arith) in
      let u = met_rises (holds hands cells) (16 + 2 * cell_of p) p (omega arith) in
      omega arith

  live_if : (p : ℕ) → p < 16 + 2 * length cells → ((a : ℕ) → a < met (holds hands cells) p → Reachable (graph_of hands cells) a) → Live (graph_of hands cells) p
  live_if p l reached = ⊎_elim inl (λ h. inr (h, reached (cell_of p) (cell_met p h l))) (cases_lt p 16)

  -- what is met is reachable
  pub met_reachable : (p : ℕ) → p ≤ 16 + 2 * length cells → (a : ℕ) → a < met (holds hands cells) p → Reachable (graph_of hands cells) a
  met_reachable zero l a h = absurd (let s = met_start (holds hands cells) in omega arith)
  met_reachable (suc p) l a h = go (λ b. met_reachable p (omega arith) b)
    where
      go : ((b : ℕ) → b < met (holds hands cells) p → Reachable (graph_of hands cells) b) → Reachable (graph_of hands cells) a
      go before =
          ⊎_elim
          (before a)
          (λ w. live_reaches (graph_of hands cells) p a (live_if p (omega arith) before) (link_at_lem hands cells p ∙ refers_link (holds hands cells p) a w.1))
          (meeting_cases (met (holds hands cells) p) a (holds hands cells p) (rw met_step at h))

  -- every place is a hand, or a side of a reachable cell
  pub canonical_live : (p : ℕ) → p < 16 + 2 * length cells → Live (graph_of hands cells) p
  canonical_live p l = live_if p l (met_reachable p (omega arith))

  -- a link leads to an address at most the counter, and below the number of cells
  pub link_order : (p a : ℕ) → p < 16 + 2 * length cells → link_of (holds hands cells p) ≡ to a → a ≤ met (holds hands cells) p
  link_order p a l e =
      let w = link_reference (holds hands cells p) a e in
      let o = C.order p w.0 l w.1 in
      omega (arith, w.2)

  pub link_inside : (p a : ℕ) → link_of (holds hands cells p) ≡ to a → a < length cells
  link_inside p a e =
      let w = link_reference (holds hands cells p) a e in
      ⊎_elim (λ l. let o = C.inside p w.0 l w.1 in omega (arith, w.2)) (λ l. absurd (let n = holds_past hands cells p l in grind (arith, w.1))) (cases_lt p (16 + 2 * length cells))

  -- what a place refers to is met after it
  refers_met : (q a : ℕ) → q < 16 + 2 * length cells → refers_to a (holds hands cells q) ≡ true → a < met (holds hands cells) (suc q)
  refers_met q a l e =
      let o = link_order q a l (refers_link (holds hands cells q) a e) in
      rw met_step (meeting_past (met (holds hands cells) q) a (holds hands cells q) o e)

  pub met_before : (p a : ℕ) → p ≤ 16 + 2 * length cells → (a < met (holds hands cells) p) ↔ ((q : ℕ) × (q < p) × (refers_to a (holds hands cells q) ≡ true))
  met_before p a l = (ahead p, λ w. let m = refers_met w.0 a (omega (arith, w.1)) w.2 in let u = met_rises (holds hands cells) (suc w.0) p w.1 in omega arith)
    where
      ahead : (p : ℕ) → a < met (holds hands cells) p → (q : ℕ) × (q < p) × (refers_to a (holds hands cells q) ≡ true)
      ahead zero h = absurd (let s = met_start (holds hands cells) in omega arith)
      ahead (suc p) h =
          ⊎_elim
          (λ b. let w = ahead p b in (w.0, omega (arith, w.1), w.2))
          (λ w. (p, omega arith, w.1))
          (meeting_cases (met (holds hands cells) p) a (holds hands cells p) (rw met_step at h))

  -- what is reachable is a cell, and every cell is reachable
  pub reachable_inside : (n : ℕ) → Reachable (graph_of hands cells) n → n < length cells
  reachable_inside n (from_hand i e) = ⊎_elim below past (cases_lt i 16)
    where
      below : i < 16 → n < length cells
      below l = link_inside i n (sym (link_at_lem hands cells i) ∙ link_at_hand (graph_of hands cells) i l ∙ e)

      past : 16 ≤ i → n < length cells
      past l =
          let d : get_or hands i Nil ≡ Nil = get_or_past hands i Nil (omega (arith, C.sixteen)) in
          let z : nil ≡ to n = sym (ap link_of d) ∙ sym (hand_of_lem hands cells i) ∙ e in
          absurd (grind arith)
  reachable_inside n (from_side m s r e) = link_inside (place_of s m) n (sym (link_at_lem hands cells (place_of s m)) ∙ link_at_place (graph_of hands cells) s m ∙ e)

  pub cell_reachable : (n : ℕ) → n < length cells → Reachable (graph_of hands cells) n
  cell_reachable n l = met_reachable (16 + 2 * length cells) (omega arith) n (omega (arith, C.all))

  pub met_and_reached : MetAndReached hands cells
  met_and_reached =
      record {
        met_before = met_before;
        reached = λ n. (reachable_inside n, cell_reachable n);
        counted = record { at = λ n. n; once = λ i j h k e. e; each = cell_reachable; every = λ n r. (n, reachable_inside n r, refl) };
      }
