-- The partner of a place under a matching; and a matching made from one map.
use Rattle.std.proofs.Common.{◌≡◌, ℕ, ◌<◌, ◌≤◌, Bool, true, cond, ltb, sym, refl, ap, ◌∙◌, subst, ap₂, inl, inr, arith}
use Rattle.std.proofs.lemmas.Bool.Decides.{nat_tests}
use Rattle.std.proofs.lemmas.Bool.{cond-true, cond-false, lt-ltb, le-ltb}
use Rattle.cells.specs.declared.Side.{Side}
use Rattle.cells.specs.declared.Side.TheVariants.{Left, Right}
use Rattle.graph.specs.Graphs.{Graph, hand, node, Reachable, sent, Matches, Alike, Counts}
use Rattle.graph.specs.Places.{place_of, cell_of, side_of, link_at, Live, Shared}
use Rattle.graph.specs.Theorems.{AlikeKeepsCounts}
use Rattle.graph.proofs.Counting.{counts_moved, counts_one, found, found_is}
use Rattle.graph.proofs.Matching.{partnered, sides_match, forth_reaches, back_reaches, forth_once, turned}
use Rattle.graph.proofs.Reading.{cell_of_place, side_of_place, place_from_16, link_at_hand, link_at_side, link_at_place, live_reaches}

-- a hand's place stays, and a side's place goes to the same side of the partner
partner : (ℕ → ℕ) → ℕ → ℕ
partner f p = cond (ltb p 16) p (place_of (side_of p) (f (cell_of p)))

partner_hand : (f : ℕ → ℕ) (p : ℕ) → p < 16 → partner f p ≡ p
unfolding partner
partner_hand f p h = cond-true (ltb p 16) p (place_of (side_of p) (f (cell_of p))) (lt-ltb p 16 h)

partner_side : (f : ℕ → ℕ) (p : ℕ) → 16 ≤ p → partner f p ≡ place_of (side_of p) (f (cell_of p))
unfolding partner
partner_side f p h = cond-false (ltb p 16) p (place_of (side_of p) (f (cell_of p))) (le-ltb p 16 h)

place_again : (p : ℕ) → 16 ≤ p → place_of (side_of p) (cell_of p) ≡ p
place_again p h = go (side_of p) refl
  where
    go : (s : Side) → side_of p ≡ s → place_of (side_of p) (cell_of p) ≡ p
    go Left e = ap (λ s. place_of s (cell_of p)) e ∙ (let t = e in grind (arith, nat_tests))
    go Right e = ap (λ s. place_of s (cell_of p)) e ∙ (let t = e in grind (arith, nat_tests))

pub shared_reaches : {V : Type 0} (G : Graph V) (n : ℕ) → Shared G n → Reachable G n
shared_reaches G n (p, q, ne, l, m, e, d) = live_reaches G p n l e

module _ {V : Type 0} {alike : V → V → Bool} {G G' : Graph V} (A : Alike alike G G') where
  partner_live : (p : ℕ) → Live G p → Live G' (partner A.forth p)
  partner_live p (inl h) = inl (rw (partner_hand A.forth p h) h)
  partner_live p (inr (h, r)) =
      let e = partner_side A.forth p h in
      inr (rw e (place_from_16 (side_of p) (A.forth (cell_of p))), subst (Reachable G') (sym (ap cell_of e ∙ cell_of_place (side_of p) (A.forth (cell_of p)))) (forth_reaches A (cell_of p) r))

  partner_link : (p : ℕ) → Live G p → sent A.forth (link_at G p) ≡ link_at G' (partner A.forth p)
  partner_link p (inl h) = ap (sent A.forth) (link_at_hand G p h) ∙ A.hands_match p ∙ sym (link_at_hand G' p h) ∙ ap (link_at G') (sym (partner_hand A.forth p h))
  partner_link p (inr (h, r)) =
      ap (sent A.forth) (link_at_side G p h) ∙ sides_match A (cell_of p) (side_of p) r ∙ sym (link_at_place G' (side_of p) (A.forth (cell_of p))) ∙ ap (link_at G') (sym (partner_side A.forth p h))

  partner_once : (p q : ℕ) → Live G p → Live G q → partner A.forth p ≡ partner A.forth q → p ≡ q
  partner_once p q (inl h) (inl k) e = sym (partner_hand A.forth p h) ∙ e ∙ partner_hand A.forth q k
  partner_once p q (inl h) (inr (k, r)) e =
      absurd (omega (arith, partner_hand A.forth p h, partner_side A.forth q k, place_from_16 (side_of q) (A.forth (cell_of q))))
  partner_once p q (inr (h, r)) (inl k) e =
      absurd (omega (arith, partner_hand A.forth q k, partner_side A.forth p h, place_from_16 (side_of p) (A.forth (cell_of p))))
  partner_once p q (inr (h, r)) (inr (k, r')) e =
      let places : place_of (side_of p) (A.forth (cell_of p)) ≡ place_of (side_of q) (A.forth (cell_of q)) = sym (partner_side A.forth p h) ∙ e ∙ partner_side A.forth q k in
      let sides : side_of p ≡ side_of q = sym (side_of_place (side_of p) (A.forth (cell_of p))) ∙ ap side_of places ∙ side_of_place (side_of q) (A.forth (cell_of q)) in
      let same : A.forth (cell_of p) ≡ A.forth (cell_of q) = sym (cell_of_place (side_of p) (A.forth (cell_of p))) ∙ ap cell_of places ∙ cell_of_place (side_of q) (A.forth (cell_of q)) in
      sym (place_again p h) ∙ ap₂ place_of sides (forth_once A (cell_of p) (cell_of q) r r' same) ∙ place_again q k

  -- a live place whose cell is its own partner has links that match
  pub place_sent : (p : ℕ) → Live G p → (16 ≤ p → A.forth (cell_of p) ≡ cell_of p) → sent A.forth (link_at G p) ≡ link_at G' p
  place_sent p live fixed = partner_link p live ∙ ap (link_at G') (go live)
    where
      go : Live G p → partner A.forth p ≡ p
      go (inl h) = partner_hand A.forth p h
      go (inr (h, r)) = partner_side A.forth p h ∙ ap (place_of (side_of p)) (fixed h) ∙ place_again p h

  -- the partner of a shared node is shared
  pub shared_forth : (n : ℕ) → Shared G n → Shared G' (A.forth n)
  shared_forth n (p, q, ne, l, m, e, d) = (
    partner A.forth p,
    partner A.forth q,
    λ same. ne (partner_once p q l m same),
    partner_live p l,
    partner_live q m,
    sym (partner_link p l) ∙ ap (sent A.forth) e,
    sym (partner_link q m) ∙ ap (sent A.forth) d,
  )

-- a graph is alike to one that a map sends it to, if the map is one to one on numbers below a bound of what is reachable
unfoldable pub alike_by_map : {V : Type 0} (alike : V → V → Bool) (G G' : Graph V) (f : ℕ → ℕ) (r : ℕ) → ((n : ℕ) → Reachable G n → n < r) → ((a b : ℕ) → a < r → b < r → f a ≡ f b → a ≡ b) → ((i : ℕ) → sent f (hand G i) ≡ hand G' i) → ((n : ℕ) → Reachable G n → Matches alike f (node G n) (node G' (f n))) → Alike alike G G'
alike_by_map alike G G' f r inside once hs ns =
    record {
      forth = f;
      back = λ n. found f n r;
      hands_match = hs;
      nodes_match = ns;
      back_forth = again;
      forth_back = λ n k. let w = partnered alike G G' f hs ns n k in ap (λ m. f (found f m r)) (sym w.2) ∙ ap f (again w.0 w.1) ∙ w.2;
    }
  where
    again : (n : ℕ) → Reachable G n → found f (f n) r ≡ n
    again n k = found_is f r once n (inside n k)

-- alike graphs have equally many reachable and equally many shared nodes
pub alike_keeps_counts : {V : Type 0} (alike : V → V → Bool) → AlikeKeepsCounts alike
unfolding turned
alike_keeps_counts alike = record { nodes = nodes alike; shared = shared alike; nodes_one = λ G j k. counts_one j k; shared_one = λ G j k. counts_one j k }
  where
    nodes : {V : Type 0} (alike : V → V → Bool) (G G' : Graph V) (k : ℕ) → Alike alike G G' → Counts (Reachable G) k → Counts (Reachable G') k
    nodes alike G G' k A C = counts_moved A.forth A.back k (forth_reaches A) (back_reaches A) A.back_forth A.forth_back C

    shared : {V : Type 0} (alike : V → V → Bool) (G G' : Graph V) (k : ℕ) → Alike alike G G' → Counts (Shared G) k → Counts (Shared G') k
    shared {V} alike G G' k A C =
        let B : Alike (λ (v w : V). true) G' G = turned A (λ n v w r e e' h. refl) in
        counts_moved A.forth A.back k (shared_forth A) (shared_forth B) (λ n s. A.back_forth n (shared_reaches G n s)) (λ n s. A.forth_back n (shared_reaches G' n s)) C
