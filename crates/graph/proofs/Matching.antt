-- Alike graphs: the matching carries reachable nodes to reachable ones, both ways, and alike is an equivalence.
use Rattle.std.proofs.Common.{◌≡◌, ℕ, Bool, true, Some, Option, sym, refl, ap, ◌∙◌, subst, arith}
use Rattle.std.proofs.lemmas.Bool.Decides.{nat_tests}
use Rattle.cells.specs.Leaves.{Laws}
use Rattle.cells.specs.declared.Side.{Side}
use Rattle.cells.specs.declared.Side.TheVariants.{Left, Right}
use Rattle.graph.specs.Graphs.{Link, nil, to, Node, blank, pair, leaf, Graph, hand, node, side, Reachable, from_hand, from_side, sent, Matches, Alike, Accepted}
use Rattle.graph.specs.Theorems.{AlikeIsAnEquivalence}

pub sent_to : (f : ℕ → ℕ) (l : Link) (n : ℕ) → sent f l ≡ to n → (k : ℕ) × (l ≡ to k) × (f k ≡ n)
sent_to f nil n e = absurd (grind arith)
sent_to f (to k) n e = (k, refl, grind arith)

sent_same : (l : Link) → sent (λ n. n) l ≡ l
sent_same nil = refl
sent_same (to n) = refl

pub sent_back : (f g : ℕ → ℕ) (l l' : Link) → ((n : ℕ) → l ≡ to n → g (f n) ≡ n) → sent f l ≡ l' → sent g l' ≡ l
sent_back f g nil l' h e = rw (← e) refl
sent_back f g (to n) l' h e = rw (← e) (ap to (h n refl))

sent_twice : (f g : ℕ → ℕ) (l l' l'' : Link) → sent f l ≡ l' → sent g l' ≡ l'' → sent (λ n. g (f n)) l ≡ l''
sent_twice f g nil l' l'' e e' = ap (sent g) e ∙ e'
sent_twice f g (to n) l' l'' e e' = ap (sent g) e ∙ e'

module _ {V : Type 0} (alike : V → V → Bool) where
  -- nodes that match have sides that match
  pub matches_side : (f : ℕ → ℕ) (s : Side) (x y : Node V) → Matches alike f x y → sent f (side s x) ≡ side s y
  matches_side f s blank blank h = refl
  matches_side f s blank (pair l' r') h = absurd h
  matches_side f s blank (leaf v') h = absurd h
  matches_side f s (pair l r) blank h = absurd h
  matches_side f Left (pair l r) (pair l' r') h = h.0
  matches_side f Right (pair l r) (pair l' r') h = h.1
  matches_side f s (pair l r) (leaf v') h = absurd h
  matches_side f s (leaf v) blank h = absurd h
  matches_side f s (leaf v) (pair l' r') h = absurd h
  matches_side f s (leaf v) (leaf v') h = refl

  matches_same : (x : Node V) → ((v : V) → x ≡ leaf v → alike v v ≡ true) → Matches alike (λ n. n) x x
  matches_same blank h = tt
  matches_same (pair l r) h = (sent_same l, sent_same r)
  matches_same (leaf v) h = h v refl

  matches_back : (alike' : V → V → Bool) (f g : ℕ → ℕ) (x y : Node V) → ((s : Side) (n : ℕ) → side s x ≡ to n → g (f n) ≡ n) → ((v w : V) → x ≡ leaf v → y ≡ leaf w → alike v w ≡ true → alike' w v ≡ true) → Matches alike f x y → Matches alike' g y x
  matches_back alike' f g blank blank h turn m = tt
  matches_back alike' f g blank (pair l' r') h turn m = m
  matches_back alike' f g blank (leaf v') h turn m = m
  matches_back alike' f g (pair l r) blank h turn m = m
  matches_back alike' f g (pair l r) (pair l' r') h turn m = (sent_back f g l l' (h Left) m.0, sent_back f g r r' (h Right) m.1)
  matches_back alike' f g (pair l r) (leaf v') h turn m = m
  matches_back alike' f g (leaf v) blank h turn m = m
  matches_back alike' f g (leaf v) (pair l' r') h turn m = m
  matches_back alike' f g (leaf v) (leaf v') h turn m = turn v v' refl refl m

  matches_twice : (f g : ℕ → ℕ) (x y z : Node V) → ((u v w : V) → x ≡ leaf u → y ≡ leaf v → z ≡ leaf w → alike u v ≡ true → alike v w ≡ true → alike u w ≡ true) → Matches alike f x y → Matches alike g y z → Matches alike (λ n. g (f n)) x z
  matches_twice f g blank blank blank join m m' = tt
  matches_twice f g blank blank (pair l'' r'') join m m' = m'
  matches_twice f g blank blank (leaf v'') join m m' = m'
  matches_twice f g blank (pair l' r') z join m m' = absurd m
  matches_twice f g blank (leaf v') z join m m' = absurd m
  matches_twice f g (pair l r) blank z join m m' = absurd m
  matches_twice f g (pair l r) (pair l' r') blank join m m' = m'
  matches_twice f g (pair l r) (pair l' r') (pair l'' r'') join m m' = (sent_twice f g l l' l'' m.0 m'.0, sent_twice f g r r' r'' m.1 m'.1)
  matches_twice f g (pair l r) (pair l' r') (leaf v'') join m m' = m'
  matches_twice f g (pair l r) (leaf v') z join m m' = absurd m
  matches_twice f g (leaf v) blank z join m m' = absurd m
  matches_twice f g (leaf v) (pair l' r') z join m m' = absurd m
  matches_twice f g (leaf v) (leaf v') blank join m m' = m'
  matches_twice f g (leaf v) (leaf v') (pair l'' r'') join m m' = m'
  matches_twice f g (leaf v) (leaf v') (leaf v'') join m m' = join v v' v'' refl refl refl m m'

-- every reachable node of the second graph is the partner of one of the first
pub partnered : {V : Type 0} (alike : V → V → Bool) (G G' : Graph V) (f : ℕ → ℕ) → ((i : ℕ) → sent f (hand G i) ≡ hand G' i) → ((n : ℕ) → Reachable G n → Matches alike f (node G n) (node G' (f n))) → (n : ℕ) → Reachable G' n → (k : ℕ) × Reachable G k × (f k ≡ n)
partnered alike G G' f hs ns n (from_hand i e) =
    let w = sent_to f (hand G i) n (hs i ∙ e) in
    (w.0, from_hand i w.1, w.2)
partnered alike G G' f hs ns n (from_side m s r e) =
    let b = partnered alike G G' f hs ns m r in
    let sides = matches_side alike f s (node G b.0) (node G' (f b.0)) (ns b.0 b.1) in
    let w = sent_to f (side s (node G b.0)) n (sides ∙ ap (λ k. side s (node G' k)) b.2 ∙ e) in
    (w.0, from_side b.0 s b.1 w.1, w.2)

module _ {V : Type 0} {alike : V → V → Bool} {G G' : Graph V} (A : Alike alike G G') where
  -- the sides of a reachable node and of its partner match
  pub sides_match : (m : ℕ) (s : Side) → Reachable G m → sent A.forth (side s (node G m)) ≡ side s (node G' (A.forth m))
  sides_match m s r = matches_side alike A.forth s (node G m) (node G' (A.forth m)) (A.nodes_match m r)

  -- the matching carries what is reachable to what is reachable, both ways
  pub forth_reaches : (n : ℕ) → Reachable G n → Reachable G' (A.forth n)
  forth_reaches n (from_hand i e) = from_hand i (sym (A.hands_match i) ∙ ap (sent A.forth) e)
  forth_reaches n (from_side m s r e) = from_side (A.forth m) s (forth_reaches m r) (sym (sides_match m s r) ∙ ap (sent A.forth) e)

  pub back_reaches : (n : ℕ) → Reachable G' n → Reachable G (A.back n)
  back_reaches n r =
      let w = partnered alike G G' A.forth A.hands_match A.nodes_match n r in
      subst (Reachable G) (sym (A.back_forth w.0 w.1) ∙ ap A.back w.2) w.1

  -- one to one
  pub forth_once : (a b : ℕ) → Reachable G a → Reachable G b → A.forth a ≡ A.forth b → a ≡ b
  forth_once a b r r' e = sym (A.back_forth a r) ∙ ap A.back e ∙ A.back_forth b r'

  -- the matching turned round, for a test of leaves that holds of the turned values
  module _ {alike' : V → V → Bool} (turn : (n : ℕ) (v w : V) → Reachable G n → node G n ≡ leaf v → node G' (A.forth n) ≡ leaf w → alike v w ≡ true → alike' w v ≡ true) where
    pub turned_nodes : (n : ℕ) → Reachable G' n → Matches alike' A.back (node G' n) (node G (A.back n))
    turned_nodes n r =
        let m = A.back n in
        let b : Reachable G m = back_reaches n r in
        let P : ℕ → Type 0 = λ k. Matches alike' A.back (node G' k) (node G m) in
        subst P (A.forth_back n r) (matches_back alike alike' A.forth A.back (node G m) (node G' (A.forth m)) (λ s k e. A.back_forth k (from_side m s b e)) (λ v w. turn m v w b) (A.nodes_match m b))

    unfoldable pub turned : Alike alike' G' G
    turned =
        record {
          forth = A.back;
          back = A.forth;
          hands_match = λ i. sent_back A.forth A.back (hand G i) (hand G' i) (λ n e. A.back_forth n (from_hand i e)) (A.hands_match i);
          nodes_match = turned_nodes;
          back_forth = A.forth_back;
          forth_back = A.back_forth;
        }

-- alike values, by the words of what they are tidied to
module _ {V : Type 0} {lawful : V → Bool} {tidied : V → Option V} {word : V → ℕ} {taken : ℕ → Option V} {alike : V → V → Bool} (laws : Laws lawful tidied word taken alike) where
  alike_same : (v x : V) → tidied v ≡ Some x → alike v v ≡ true
  alike_same v x e = let s = laws.same v v x x e e in grind (arith, nat_tests)

  alike_back : (v w x y : V) → tidied v ≡ Some x → tidied w ≡ Some y → alike v w ≡ true → alike w v ≡ true
  alike_back v w x y e e' h =
      let s = laws.same v w x y e e' in
      let t = laws.same w v y x e' e in
      grind (arith, nat_tests)

  alike_twice : (u v w x y z : V) → tidied u ≡ Some x → tidied v ≡ Some y → tidied w ≡ Some z → alike u v ≡ true → alike v w ≡ true → alike u w ≡ true
  alike_twice u v w x y z e e' e'' h h' =
      let s = laws.same u v x y e e' in
      let t = laws.same v w y z e' e'' in
      let q = laws.same u w x z e e'' in
      grind (arith, nat_tests)

  -- lawful values that are alike have one word, and so are one value
  pub lawful_alike : (v w : V) → lawful v ≡ true → lawful w ≡ true → alike v w ≡ true → v ≡ w
  lawful_alike v w l l' h =
      let s = laws.same v w v w (laws.keeps v l) (laws.keeps w l') in
      let b = laws.back v l in
      let b' = laws.back w l' in
      let e : word v ≡ word w = grind (arith, nat_tests) in
      let o : Some v ≡ Some w = sym b ∙ ap taken e ∙ b' in
      cc

  pub alike_reflexive : (G : Graph V) → Accepted tidied G → Alike alike G G
  alike_reflexive G ok =
      record {
        forth = λ n. n;
        back = λ n. n;
        hands_match = λ i. sent_same (hand G i);
        nodes_match = λ n r. matches_same alike (node G n) (λ v e. let a = ok n v r e in alike_same v a.0 a.1);
        back_forth = λ n r. refl;
        forth_back = λ n r. refl;
      }

  pub alike_symmetric : (G G' : Graph V) → Accepted tidied G → Accepted tidied G' → Alike alike G G' → Alike alike G' G
  alike_symmetric G G' ok ok' A =
      turned A
      (λ n v w r e e' h. let a = ok n v r e in let b = ok' (A.forth n) w (forth_reaches A n r) e' in alike_back v w a.0 b.0 a.1 b.1 h)

  pub alike_transitive : (G G' G'' : Graph V) → Accepted tidied G → Accepted tidied G' → Accepted tidied G'' → Alike alike G G' → Alike alike G' G'' → Alike alike G G''
  alike_transitive G G' G'' ok ok' ok'' A B =
      record {
        forth = λ n. B.forth (A.forth n);
        back = λ n. A.back (B.back n);
        hands_match = λ i. sent_twice A.forth B.forth (hand G i) (hand G' i) (hand G'' i) (A.hands_match i) (B.hands_match i);
        nodes_match = nodes;
        back_forth = λ n r. ap A.back (B.back_forth (A.forth n) (forth_reaches A n r)) ∙ A.back_forth n r;
        forth_back = λ n r. ap B.forth (A.forth_back (B.back n) (back_reaches B n r)) ∙ B.forth_back n r;
      }
    where
      nodes : (n : ℕ) → Reachable G n → Matches alike (λ k. B.forth (A.forth k)) (node G n) (node G'' (B.forth (A.forth n)))
      nodes n r =
          let m = A.forth n in
          let r' : Reachable G' m = forth_reaches A n r in
          let r'' : Reachable G'' (B.forth m) = forth_reaches B m r' in
          matches_twice alike A.forth B.forth (node G n) (node G' m) (node G'' (B.forth m))
          (λ u v w e e' e'' h h'. let a = ok n u r e in let b = ok' m v r' e' in let c = ok'' (B.forth m) w r'' e'' in alike_twice u v w a.0 b.0 c.0 a.1 b.1 c.1 h h')
          (A.nodes_match n r)
          (B.nodes_match m r')

  pub alike_is_an_equivalence : AlikeIsAnEquivalence tidied alike
  alike_is_an_equivalence = record { reflexive = alike_reflexive; symmetric = alike_symmetric; transitive = alike_transitive }
