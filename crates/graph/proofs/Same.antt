-- Canonical hands and cells whose graphs are alike are equal. By induction on the place: below it both have met equally
-- many addresses, and the matching sends each of these to itself.
use Rattle.std.proofs.Common.{◌≡◌, ℕ, zero, suc, ◌+◌, ◌*◌, ◌<◌, ◌≤◌, Bool, true, List, length, get_or, Option, sym, refl, ap, ◌∙◌, subst, ap₂, ⊎_elim, arith}
use Rattle.std.proofs.lemmas.Bool.{cases_lt}
use Rattle.std.proofs.lemmas.List.{ext_get_or}
use Rattle.cells.specs.Leaves.{Laws}
use Rattle.cells.specs.declared.Field.{Field}
use Rattle.cells.specs.declared.Field.TheVariants.{Nil}
use Rattle.cells.specs.declared.Side.{Side}
use Rattle.cells.specs.declared.Side.TheVariants.{Left, Right}
use Rattle.cells.specs.declared.Cell.{Cell}
use Rattle.cells.specs.declared.Cell.TheVariants.{Blank, Pair, Leaf, Moved}
use Rattle.graph.specs.Graphs.{Link, nil, to, Node, leaf, Graph, node, link_of, node_of, graph_of, sent, Matches, Alike, Accepted}
use Rattle.graph.specs.Places.{place_of, cell_of, field_of, holds, meeting, met, is_node, Canonical, Lawful}
use Rattle.graph.specs.Theorems.{CanonicalAlikeAreEqual, CanonicalStandsForAlike}
use Rattle.graph.proofs.Matching.{forth_once, lawful_alike, alike_symmetric, alike_transitive}
use Rattle.graph.proofs.Partners.{place_sent}
use Rattle.graph.proofs.Reading.{refers_link, link_at_lem, node_of_lem, live_reaches, holds_hand, holds_place, holds_past, met_step, met_start, meeting_link}
use Rattle.graph.proofs.Tags.{exact_same}
use Rattle.graph.proofs.Ordered.{meeting_cases, cell_met, met_reachable, canonical_live, link_order, cell_reachable}

-- cells of matching nodes are equal where their fields are, and their values
cell_same : {V : Type 0} (alike : V → V → Bool) (f : ℕ → ℕ) (c c' : Cell V) → is_node c ≡ true → is_node c' ≡ true → Matches alike f (node_of c) (node_of c') → ((s : Side) → field_of s c ≡ field_of s c') → ((v w : V) → c ≡ Leaf v → c' ≡ Leaf w → alike v w ≡ true → v ≡ w) → c ≡ c'
cell_same alike f Blank c' k k' m same one = absurd (grind arith)
cell_same alike f (Pair l r) Blank k k' m same one = absurd m
cell_same alike f (Pair l r) (Pair l' r') k k' m same one = ap₂ Pair (same Left) (same Right)
cell_same alike f (Pair l r) (Leaf w) k k' m same one = absurd m
cell_same alike f (Pair l r) (Moved g o) k k' m same one = absurd m
cell_same alike f (Leaf v) Blank k k' m same one = absurd m
cell_same alike f (Leaf v) (Pair l r) k k' m same one = absurd m
cell_same alike f (Leaf v) (Leaf w) k k' m same one = ap Leaf (one v w refl refl m)
cell_same alike f (Leaf v) (Moved g o) k k' m same one = absurd m
cell_same alike f (Moved g o) c' k k' m same one = absurd (grind arith)

module _ {V : Type 0} {alike : V → V → Bool} {hands hands' : List Field} {cells cells' : List (Cell V)} (C : Canonical hands cells) (C' : Canonical hands' cells') (A : Alike alike (graph_of hands cells) (graph_of hands' cells')) where
  -- below a place both have met equally many addresses, each its own partner
  abbrev Agree : ℕ → Type 0
  Agree p = (met (holds hands cells) p ≡ met (holds hands' cells') p) × ((a : ℕ) → a < met (holds hands cells) p → A.forth a ≡ a)

  -- what the two places hold, by their links, where all before agrees
  held_sent : (p : ℕ) → p < 16 + 2 * length cells → Agree p → sent A.forth (link_of (holds hands cells p)) ≡ link_of (holds hands' cells' p)
  held_sent p l agree =
      ap (sent A.forth) (sym (link_at_lem hands cells p)) ∙ place_sent A p (canonical_live C p l) (λ h. agree.1 (cell_of p) (cell_met C p h l)) ∙ link_at_lem hands' cells' p

  -- there a link and its partner have one number
  fixed_link : (p a : ℕ) → p < 16 + 2 * length cells → p < 16 + 2 * length cells' → Agree p → link_of (holds hands cells p) ≡ to a → A.forth a ≡ a
  fixed_link p a l l' agree e = ⊎_elim (agree.1 a) (λ k. ⊎_elim (below k) (above k) (cases_lt (A.forth a) (met (holds hands cells) p))) (cases_lt a (met (holds hands cells) p))
    where
      order : a ≤ met (holds hands cells) p
      order = link_order C p a l e

      order' : A.forth a ≤ met (holds hands' cells') p
      order' = link_order C' p (A.forth a) l' (sym (held_sent p l agree) ∙ ap (sent A.forth) e)

      below : met (holds hands cells) p ≤ a → A.forth a < met (holds hands cells) p → A.forth a ≡ a
      below k h =
          forth_once A (A.forth a) a
          (met_reachable C p (omega arith) (A.forth a) h)
          (live_reaches (graph_of hands cells) p a (canonical_live C p l) (link_at_lem hands cells p ∙ e))
          (agree.1 (A.forth a) h)

      above : met (holds hands cells) p ≤ a → met (holds hands cells) p ≤ A.forth a → A.forth a ≡ a
      above k h = let same = agree.0 in let o = order in let o' = order' in omega arith

  same_link : (p : ℕ) → p < 16 + 2 * length cells → p < 16 + 2 * length cells' → Agree p → link_of (holds hands cells p) ≡ link_of (holds hands' cells' p)
  same_link p l l' agree = go (link_of (holds hands cells p)) refl
    where
      go : (k : Link) → link_of (holds hands cells p) ≡ k → link_of (holds hands cells p) ≡ link_of (holds hands' cells' p)
      go nil e = e ∙ ap (sent A.forth) (sym e) ∙ held_sent p l agree
      go (to a) e = e ∙ ap to (sym (fixed_link p a l l' agree e)) ∙ ap (sent A.forth) (sym e) ∙ held_sent p l agree

  agree_step : (p : ℕ) → p < 16 + 2 * length cells → p < 16 + 2 * length cells' → Agree p → Agree (suc p)
  agree_step p l l' agree = (count, fixed)
    where
      count : met (holds hands cells) (suc p) ≡ met (holds hands' cells') (suc p)
      count =
          met_step (holds hands cells) p ∙ ap (λ m. meeting m (holds hands cells p)) agree.0 ∙ meeting_link (met (holds hands' cells') p) (holds hands cells p) (holds hands' cells' p) (same_link p l l' agree) ∙ sym (met_step (holds hands' cells') p)

      fixed : (a : ℕ) → a < met (holds hands cells) (suc p) → A.forth a ≡ a
      fixed a h =
          ⊎_elim
          (agree.1 a)
          (λ w. fixed_link p a l l' agree (refers_link (holds hands cells p) a w.1))
          (meeting_cases (met (holds hands cells) p) a (holds hands cells p) (rw met_step at h))

  agree : (p : ℕ) → p ≤ 16 + 2 * length cells → p ≤ 16 + 2 * length cells' → Agree p
  agree zero l l' = let s = met_start (holds hands cells) in let s' = met_start (holds hands' cells') in (omega arith, λ a h. absurd (omega arith))
  agree (suc p) l l' = agree_step p (omega arith) (omega arith) (agree p (omega arith) (omega arith))

  -- so there are equally many cells
  same_length : length cells ≡ length cells'
  same_length =
      ⊎_elim
      (λ l. let g = agree (16 + 2 * length cells) (omega arith) (omega arith) in let e = C'.early (length cells) l in absurd (omega (arith, C.all)))
      (λ l. ⊎_elim (λ k. let g = agree (16 + 2 * length cells') (omega arith) (omega arith) in let e = C.early (length cells') k in absurd (omega (arith, C'.all))) (λ k. omega arith) (cases_lt (length cells') (length cells)))
      (cases_lt (length cells) (length cells'))

  same_links : (p : ℕ) → link_of (holds hands cells p) ≡ link_of (holds hands' cells' p)
  same_links p =
      let n = same_length in
      ⊎_elim
      (λ l. same_link p l (omega arith) (agree p (omega arith) (omega arith)))
      (λ l. ap link_of (holds_past hands cells p l ∙ sym (holds_past hands' cells' p (omega arith))))
      (cases_lt p (16 + 2 * length cells))

  same_held : (p : ℕ) → holds hands cells p ≡ holds hands' cells' p
  same_held = exact_same (holds hands cells) (holds hands' cells') C.tags C'.tags same_links

  pub same_hands : hands ≡ hands'
  same_hands =
      ext_get_or Nil hands hands' (C.sixteen ∙ sym C'.sixteen)
      (λ i l. let k : i < 16 = omega (arith, C.sixteen) in sym (holds_hand hands cells i k) ∙ same_held i ∙ holds_hand hands' cells' i k)

  pub same_cells : ((v w : V) → alike v w ≡ true → (n : ℕ) → get_or cells n Blank ≡ Leaf v → get_or cells' n Blank ≡ Leaf w → v ≡ w) → cells ≡ cells'
  same_cells one = ext_get_or Blank cells cells' same_length each
    where
      each : (j : ℕ) → j < length cells → get_or cells j Blank ≡ get_or cells' j Blank
      each j l =
          let n = same_length in
          let whole = agree (16 + 2 * length cells) (omega arith) (omega arith) in
          let fixed : A.forth j ≡ j = whole.1 j (omega (arith, C.all)) in
          let m = A.nodes_match j (cell_reachable C j l) in
          let P : ℕ → Type 0 = λ k. Matches alike A.forth (node (graph_of hands cells) j) (node (graph_of hands' cells') k) in
          let Q : Node V → Type 0 = λ x. Matches alike A.forth x (node (graph_of hands' cells') j) in
          let R : Node V → Type 0 = λ y. Matches alike A.forth (node_of (get_or cells j Blank)) y in
          let field : (s : Side) → field_of s (get_or cells j Blank) ≡ field_of s (get_or cells' j Blank) = λ s. sym (holds_place hands cells s j) ∙ same_held (place_of s j) ∙ holds_place hands' cells' s j in
          cell_same alike A.forth (get_or cells j Blank) (get_or cells' j Blank) (C.kinds j l) (C'.kinds j (omega arith))
          (subst R (node_of_lem hands' cells' j) (subst Q (node_of_lem hands cells j) (subst P fixed m)))
          field
          (λ v w e e' h. one v w h j e e')

-- lawful leaves are accepted
leaf_cell : {V : Type 0} (c : Cell V) (v : V) → node_of c ≡ leaf v → c ≡ Leaf v
leaf_cell Blank v e = absurd (grind arith)
leaf_cell (Pair l r) v e = absurd (grind arith)
leaf_cell (Leaf w) v e = ap Leaf (cc)
leaf_cell (Moved f o) v e = absurd (grind arith)

pub lawful_accepted : {V : Type 0} {lawful : V → Bool} {tidied : V → Option V} {word : V → ℕ} {taken : ℕ → Option V} {alike : V → V → Bool} → Laws lawful tidied word taken alike → (hands : List Field) (cells : List (Cell V)) → Lawful lawful cells → Accepted tidied (graph_of hands cells)
lawful_accepted laws hands cells ok n v r e = (v, laws.keeps v (ok n v (leaf_cell (get_or cells n Blank) v (sym (node_of_lem hands cells n) ∙ e))))

pub canonical_alike_are_equal : {V : Type 0} {lawful : V → Bool} {tidied : V → Option V} {word : V → ℕ} {taken : ℕ → Option V} {alike : V → V → Bool} → Laws lawful tidied word taken alike → CanonicalAlikeAreEqual lawful alike
canonical_alike_are_equal laws hands hands' cells cells' C C' ok ok' A =
    (same_hands C C' A, same_cells C C' A (λ v w h n e e'. lawful_alike laws v w (ok n v e) (ok' n w e') h))

pub canonical_stands_for_alike : {V : Type 0} {lawful : V → Bool} {tidied : V → Option V} {word : V → ℕ} {taken : ℕ → Option V} {alike : V → V → Bool} → Laws lawful tidied word taken alike → CanonicalStandsForAlike lawful tidied alike
canonical_stands_for_alike {V} {alike} laws hands hands' cells cells' G G' C C' ok ok' ok_g ok_g' A A' = (there, here)
  where
    K : Graph V
    K = graph_of hands cells

    K' : Graph V
    K' = graph_of hands' cells'

    there : (hands ≡ hands') × (cells ≡ cells') → Alike alike G G'
    there e =
        let same : K' ≡ K = sym (ap₂ graph_of e.0 e.1) in
        let B : Alike alike K G' = subst (λ H. Alike alike H G') same A' in
        let ok_k = lawful_accepted laws hands cells ok in
        alike_transitive laws G K G' ok_g ok_k ok_g' (alike_symmetric laws K G ok_k ok_g A) B

    here : Alike alike G G' → (hands ≡ hands') × (cells ≡ cells')
    here B =
        let ok_k = lawful_accepted laws hands cells ok in
        let ok_k' = lawful_accepted laws hands' cells' ok' in
        let out : Alike alike K G' = alike_transitive laws K G G' ok_k ok_g ok_g' A B in
        canonical_alike_are_equal laws hands hands' cells cells' C C' ok ok' (alike_transitive laws K G' K' ok_k ok_g' ok_k' out (alike_symmetric laws K' G' ok_k' ok_g' A'))
