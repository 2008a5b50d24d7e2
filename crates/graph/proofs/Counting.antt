-- Counts: a property that is moved by a map and back is counted alike, a count is one number, and a test is counted by recursion.
use Rattle.std.proofs.Common.{◌≡◌, ℕ, zero, suc, ◌<◌, ◌≤◌, Bool, true, false, cond, eqb, sym, refl, ap, ◌∙◌, ⊎_elim, arith}
use Rattle.std.proofs.lemmas.Bool.Decides.{nat_tests}
use Rattle.std.proofs.lemmas.Bool.{cases_eq, cases_lt}
use Rattle.graph.specs.Graphs.{Counts}

pub counts_moved : {P P' : ℕ → Type 0} (f g : ℕ → ℕ) (k : ℕ) → ((n : ℕ) → P n → P' (f n)) → ((n : ℕ) → P' n → P (g n)) → ((n : ℕ) → P n → g (f n) ≡ n) → ((n : ℕ) → P' n → f (g n) ≡ n) → Counts P k → Counts P' k
counts_moved f g k there here gf fg C =
    record {
      at = λ i. f (C.at i);
      once = λ i j h h' e. C.once i j h h' (sym (gf (C.at i) (C.each i h)) ∙ ap g e ∙ gf (C.at j) (C.each j h'));
      each = λ i h. there (C.at i) (C.each i h);
      every = λ n p. let w = C.every (g n) (here n p) in (w.0, w.1, ap f w.2 ∙ fg n p);
    }

pub counts_like : {P P' : ℕ → Type 0} (k : ℕ) → ((n : ℕ) → P n → P' n) → ((n : ℕ) → P' n → P n) → Counts P k → Counts P' k
counts_like k there here C = counts_moved (λ n. n) (λ n. n) k there here (λ n p. refl) (λ n p. refl) C

-- the number below k that f sends to n
unfoldable pub found : (ℕ → ℕ) → ℕ → ℕ → ℕ
found f n zero = 0
found f n (suc k) = cond (eqb (f k) n) k (found f n k)

pub found_is : (f : ℕ → ℕ) (k : ℕ) → ((i j : ℕ) → i < k → j < k → f i ≡ f j → i ≡ j) → (a : ℕ) → a < k → found f (f a) k ≡ a
unfolding found
found_is f zero once a h = absurd (omega arith)
found_is f (suc k) once a h =
    ⊎_elim
    (λ e. let t : a ≡ k = once a k h (omega arith) (sym e) in grind (arith, nat_tests))
    (λ ne. let l : a < k = ⊎_elim (λ b. b) (λ b. absurd (ne (ap f (let t : k ≡ a = omega arith in t)))) (cases_lt a k) in let i = found_is f k (λ i j x y. once i j (omega arith) (omega arith)) a l in grind (arith, nat_tests))
    (cases_eq (f k) (f a))

-- numbers below k that are sent one to one to numbers below m are at most m
pub no_room : (k m : ℕ) (f : ℕ → ℕ) → ((i : ℕ) → i < k → f i < m) → ((i j : ℕ) → i < k → j < k → f i ≡ f j → i ≡ j) → k ≤ m
no_room zero m f inside once = omega arith
no_room (suc k) zero f inside once = let b = inside k (omega arith) in omega arith
no_room (suc k) (suc m) f inside once = let n = no_room k m g inside' once' in omega arith
  where
    g : ℕ → ℕ
    g i = cond (eqb (f i) m) (f k) (f i)

    apart : (i : ℕ) → i < k → f i ≡ f k → ⊥
    apart i l e = let t : i ≡ k = once i k (omega arith) (omega arith) e in omega arith

    inside' : (i : ℕ) → i < k → g i < m
    inside' i l =
        let a = inside i (omega arith) in
        let b = inside k (omega arith) in
        let c = apart i l in
        grind (arith, nat_tests)

    once' : (i j : ℕ) → i < k → j < k → g i ≡ g j → i ≡ j
    once' i j l l' e =
        let a = apart i l in
        let b = apart j l' in
        let c = once i j (omega arith) (omega arith) in
        grind (arith, nat_tests)

counts_most : {P : ℕ → Type 0} (j k : ℕ) → Counts P j → Counts P k → j ≤ k
counts_most j k C D = no_room j k f inside once
  where
    f : ℕ → ℕ
    f i = found D.at (C.at i) k

    there : (i : ℕ) → i < j → (n : ℕ) × (n < k) × (D.at n ≡ C.at i) × (f i ≡ n)
    there i h =
        let w = D.every (C.at i) (C.each i h) in
        (w.0, w.1, w.2, ap (λ n. found D.at n k) (sym w.2) ∙ found_is D.at k D.once w.0 w.1)

    inside : (i : ℕ) → i < j → f i < k
    inside i h = let w = there i h in omega (arith, w.1, w.3)

    once : (i i' : ℕ) → i < j → i' < j → f i ≡ f i' → i ≡ i'
    once i i' h h' e =
        let w = there i h in
        let w' = there i' h' in
        C.once i i' h h' (sym w.2 ∙ ap D.at (sym w.3 ∙ e ∙ w'.3) ∙ w'.2)

pub counts_one : {P : ℕ → Type 0} (j k : ℕ) → Counts P j → Counts P k → j ≡ k
counts_one j k C D = let a = counts_most j k C D in let b = counts_most k j D C in omega arith

-- how many numbers below k pass a test
abbrev pub how_many : (ℕ → Bool) → ℕ → ℕ
how_many test zero = 0
how_many test (suc k) = cond (test k) (suc (how_many test k)) (how_many test k)

passing_more : (test : ℕ → Bool) (k h : ℕ) → test k ≡ true → Counts (λ n. (n < k) × (test n ≡ true)) h → Counts (λ n. (n < suc k) × (test n ≡ true)) (suc h)
passing_more test k h t C = record { at = at; once = once; each = each; every = every }
  where
    at : ℕ → ℕ
    at i = cond (eqb i h) k (C.at i)

    at_last : (i : ℕ) → i ≡ h → at i ≡ k
    at_last i e = grind (arith, nat_tests)

    at_first : (i : ℕ) → i < h → at i ≡ C.at i
    at_first i l = grind (arith, nat_tests)

    once : (i j : ℕ) → i < suc h → j < suc h → at i ≡ at j → i ≡ j
    once i j l l' e =
        let a : i < h → C.at i < k = λ x. (C.each i x).0 in
        let b : j < h → C.at j < k = λ x. (C.each j x).0 in
        let c : i < h → j < h → C.at i ≡ C.at j → i ≡ j = λ x y. C.once i j x y in
        grind (arith, nat_tests)

    each : (i : ℕ) → i < suc h → (at i < suc k) × (test (at i) ≡ true)
    each i l =
        ⊎_elim
        (λ e. let a = at_last i e in (omega arith, ap test a ∙ t))
        (λ ne. let b : i < h = omega arith in let a = at_first i b in let w = C.each i b in (omega (arith, w.0), ap test a ∙ w.1))
        (cases_eq i h)

    every : (n : ℕ) → (n < suc k) × (test n ≡ true) → (i : ℕ) × (i < suc h) × (at i ≡ n)
    every n p =
        ⊎_elim
        (λ e. (h, omega arith, at_last h refl ∙ sym e))
        (λ ne. let w = C.every n (omega (arith, p.0), p.1) in (w.0, omega (arith, w.1), at_first w.0 w.1 ∙ w.2))
        (cases_eq n k)

passing_less : (test : ℕ → Bool) (k h : ℕ) → test k ≡ false → Counts (λ n. (n < k) × (test n ≡ true)) h → Counts (λ n. (n < suc k) × (test n ≡ true)) h
passing_less test k h t C = counts_like h (λ n p. (omega (arith, p.0), p.1)) (λ n p. (⊎_elim (λ e. absurd (let u : test n ≡ false = ap test e ∙ t in let v = p.1 in grind arith)) (λ ne. omega (arith, p.0)) (cases_eq n k), p.1)) C

pub counts_passing : (test : ℕ → Bool) (k : ℕ) → Counts (λ n. (n < k) × (test n ≡ true)) (how_many test k)
counts_passing test zero = record { at = λ i. i; once = λ i j h h' e. e; each = λ i h. absurd (omega arith); every = λ n p. absurd (omega (arith, p.0)) }
counts_passing test (suc k) = step (counts_passing test k) (test k) refl
  where
    step : Counts (λ n. (n < k) × (test n ≡ true)) (how_many test k) → (b : Bool) → test k ≡ b → Counts (λ n. (n < suc k) × (test n ≡ true)) (how_many test (suc k))
    step C true e = rw e (passing_more test k (how_many test k) e C)
    step C false e = rw e (passing_less test k (how_many test k) e C)
