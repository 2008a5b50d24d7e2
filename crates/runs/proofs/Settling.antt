-- A sound store with nothing listed: its graph is alike to the plain graph. Assumes nothing.
use Rattle.std.proofs.Common.{◌≡◌, ℕ, ◌<◌, Bool, true, ◌↔◌, List, [], get_or, take, Option, sym, refl, ap, ◌∙◌, subst, inl, inr, arith, length-take, get_or-take}
use Rattle.std.proofs.lemmas.Bool.Decides.{nat_tests}
use Rattle.std.proofs.lemmas.Bool.{cases_lt}
use Rattle.std.proofs.lemmas.List.{get_or_past}
use Rattle.cells.specs.declared.Tag.{Tag}
use Rattle.cells.specs.declared.Tag.TheVariants.{Unique, Sticky}
use Rattle.cells.specs.declared.Reference.{Reference}
use Rattle.cells.specs.declared.Field.{Field}
use Rattle.cells.specs.declared.Field.TheVariants.{Nil, To}
use Rattle.cells.specs.declared.Cell.{Cell}
use Rattle.cells.specs.declared.Cell.TheVariants.{Blank, Pair, Leaf, Moved}
use Rattle.cells.specs.Leaves.{Laws}
use Rattle.graph.specs.Graphs.{nil, to, leaf, Graph, hand, node, Reachable, from_hand, from_side, sent, Matches, Alike, Accepted, link_of, node_of, graph_of}
use Rattle.graph.specs.Places.{place_of, Lawful, Exact, Another}
use Rattle.graph.proofs.Reading.{link_reference, hand_of_lem, node_of_lem, link_at_lem, link_at_place, holds_hand}
use Rattle.graph.proofs.Matching.{partnered}
use Rattle.graph.proofs.Partners.{alike_by_map}
use Rattle.runs.specs.Sound.{Sound, held_below, InUse, node_sent}
use Rattle.runs.proofs.Tagging.{two_tags}

-- an exact tag is UNIQUE exactly when no other place has the address
pub exact_unique : (held : ℕ → Field) → Exact held → (p : ℕ) (r : Reference) → held p ≡ To r → (r.tag ≡ Unique) ↔ (Another held p r.address → ⊥)
exact_unique held x p r e = (λ u a. two_tags u ((x p r e).1 a), λ n. by_tag r.tag refl n)
  where
    by_tag : (t : Tag) → r.tag ≡ t → (Another held p r.address → ⊥) → r.tag ≡ Unique
    by_tag Unique q n = q
    by_tag Sticky q n = absurd (n ((x p r e).0 q))

pub alike_self : {V : Type 0} {lawful : V → Bool} {tidied : V → Option V} {word : V → ℕ} {taken : ℕ → Option V} {alike : V → V → Bool} → Laws lawful tidied word taken alike
    → (v : V) → lawful v ≡ true → alike v v ≡ true
alike_self laws v l = let s = laws.same v v v v (laws.keeps v l) (laws.keeps v l) in grind (arith, nat_tests)

module _ {V : Type 0} {lawful : V → Bool} {tidied : V → Option V} {word : V → ℕ} {taken : ℕ → Option V} {alike : V → V → Bool} (laws : Laws lawful tidied word taken alike)
    {size mark : ℕ} {hands : List Field} {cells : List (Cell V)} {G : Graph V} (S : Sound lawful size mark hands [] cells G) where
  abbrev K : Graph V
  K = graph_of hands (take mark cells)

  -- nothing is listed, so every address below the mark is in use
  pub used : (a : ℕ) → a < mark → InUse mark [] a
  used a l = (l, λ x. (let h = x.1 in omega arith))

  -- a link at a place leads below the mark
  link_low : (p n : ℕ) → link_of (held_below mark hands cells p) ≡ to n → n < mark
  link_low p n e = let r = link_reference (held_below mark hands cells p) n e in subst (λ a. a < mark) r.2 (S.tags.inside p r.0 r.1)

  no_link : {n : ℕ} → nil ≡ to n → ⊥
  no_link e = let z : ◌≡◌ {A = ℕ} 0 1 = cc in omega arith

  pub reachable_low : (n : ℕ) → Reachable (graph_of hands (take mark cells)) n → n < mark
  reachable_low n (from_hand i e) = elim (cases_lt i 16) [
    | inl l ↦ link_low i n (ap link_of (holds_hand hands (take mark cells) i l) ∙ sym (hand_of_lem hands (take mark cells) i) ∙ e)
    | inr l ↦ absurd (no_link (sym (hand_of_lem hands (take mark cells) i ∙ ap link_of (get_or_past hands i Nil (let x = S.sixteen in omega arith))) ∙ e))
  ]
  reachable_low n (from_side m s r e) = link_low (place_of s m) n (sym (link_at_lem hands (take mark cells) (place_of s m)) ∙ link_at_place (graph_of hands (take mark cells)) s m ∙ e)

  hands_agree : (i : ℕ) → sent S.map (hand (graph_of hands (take mark cells)) i) ≡ hand G i
  hands_agree i = elim (cases_lt i 16) [
    | inl l ↦ ap (sent S.map) (hand_of_lem hands (take mark cells) i) ∙ S.map_hand i l
    | inr l ↦
        ap (sent S.map) (hand_of_lem hands (take mark cells) i ∙ ap link_of (get_or_past hands i Nil (let x = S.sixteen in omega arith)))
        ∙ sym (get_or_past G.hands i nil (let x = S.plain_sixteen in omega arith))
  ]

  matches_sent : (f : ℕ → ℕ) (c : Cell V) → ((v : V) → c ≡ Leaf v → lawful v ≡ true) → Matches alike f (node_of c) (node_sent f (node_of c))
  matches_sent f Blank ok = tt
  matches_sent f (Pair l r) ok = (refl, refl)
  matches_sent f (Leaf v) ok = alike_self laws v (ok v refl)
  matches_sent f (Moved g o) ok = tt

  node_low : (n : ℕ) → n < mark → node (graph_of hands (take mark cells)) n ≡ node_of (get_or cells n Blank)
  node_low n l = node_of_lem hands (take mark cells) n ∙ ap node_of (get_or-take mark cells n Blank l)

  nodes_agree : (n : ℕ) → Reachable (graph_of hands (take mark cells)) n → Matches alike S.map (node (graph_of hands (take mark cells)) n) (node G (S.map n))
  nodes_agree n r =
      let l = reachable_low n r in
      subst (λ x. Matches alike S.map x (node G (S.map n))) (sym (node_low n l))
      (subst (λ x. Matches alike S.map (node_of (get_or cells n Blank)) x) (sym (S.map_node n (used n l))) (matches_sent S.map (get_or cells n Blank) (λ v e. S.leaves n v l e)))

  pub sound_alike : Alike alike (graph_of hands (take mark cells)) G
  sound_alike = alike_by_map alike (graph_of hands (take mark cells)) G S.map mark reachable_low (λ a b l k e. S.map_once a b (used a l) (used b k) e) hands_agree nodes_agree

  -- leaves below the mark are lawful
  pub kept_lawful : Lawful lawful (take mark cells)
  kept_lawful n v e = elim (cases_lt n mark) [
    | inl l ↦ S.leaves n v l (sym (get_or-take mark cells n Blank l) ∙ e)
    | inr l ↦ absurd (let x : Blank ≡ Leaf v = sym (get_or_past (take mark cells) n Blank (let y = length-take mark cells in omega arith)) ∙ e in let z : ◌≡◌ {A = ℕ} 0 1 = cc in omega arith)
  ]

  leaf_sent : (f : ℕ → ℕ) (c : Cell V) (v : V) → node_sent f (node_of c) ≡ leaf v → c ≡ Leaf v
  leaf_sent f Blank v e = absurd (let z : ◌≡◌ {A = ℕ} 0 1 = cc in omega arith)
  leaf_sent f (Pair l r) v e = absurd (let z : ◌≡◌ {A = ℕ} 0 1 = cc in omega arith)
  leaf_sent f (Leaf w) v e = let x : w ≡ v = cc in ap Leaf x
  leaf_sent f (Moved g o) v e = absurd (let z : ◌≡◌ {A = ℕ} 0 1 = cc in omega arith)

  -- reachable leaves of the plain graph are accepted
  pub plain_accepted : Accepted tidied G
  plain_accepted n v r e =
      let p = partnered alike (graph_of hands (take mark cells)) G S.map hands_agree nodes_agree n r in
      let m = p.0 in
      let l = reachable_low m p.1 in
      let x : get_or cells m Blank ≡ Leaf v = leaf_sent S.map (get_or cells m Blank) v (sym (S.map_node m (used m l)) ∙ ap (node G) p.2 ∙ e) in
      (v, laws.keeps v (S.leaves m v l x))
