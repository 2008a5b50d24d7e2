-- The places that a collection has visited, apart from the banks: what each held at Begin and what it holds now. Assumes nothing.
use Rattle.std.proofs.Common.{◌≡◌, ℕ, suc, ◌+◌, ◌*◌, ◌%◌, ◌<◌, ◌≤◌, true, cond, eqb, ltb, ◌⊎◌, sym, refl, ap, ◌∙◌, subst, inl, inr, arith}
use Rattle.std.proofs.lemmas.Bool.Decides.{nat_tests}
use Rattle.std.proofs.lemmas.Bool.{cases_lt, cases_eq}
use Rattle.cells.specs.declared.Tag.{Tag}
use Rattle.cells.specs.declared.Tag.TheVariants.{Unique, Sticky}
use Rattle.cells.specs.declared.Reference.{Reference}
use Rattle.cells.specs.declared.Field.{Field}
use Rattle.cells.specs.declared.Field.TheVariants.{Nil, To}
use Rattle.cells.specs.declared.Side.{Side}
use Rattle.cells.specs.declared.Side.TheVariants.{Left, Right}
use Rattle.graph.specs.Places.{place_of, cell_of, side_of, refers_to, Honest}
use Rattle.graph.proofs.Counting.{no_room}
use Rattle.runs.proofs.Tagging.{no_reference, two_tags, refers_to_lem, refers_from}

-- ---- functions of numbers, changed at one number

unfoldable pub put : {X : Type 0} → ℕ → X → (ℕ → X) → ℕ → X
put k x f j = cond (eqb j k) x (f j)

pub put_here : {X : Type 0} (k j : ℕ) (x : X) (f : ℕ → X) → j ≡ k → put k x f j ≡ x
unfolding put
put_here k j x f e = grind (arith, nat_tests)

pub put_there : {X : Type 0} (k j : ℕ) (x : X) (f : ℕ → X) → (j ≡ k → ⊥) → put k x f j ≡ f j
unfolding put
put_there k j x f n = grind (arith, nat_tests)

pub put_below : {X : Type 0} (k j : ℕ) (x : X) (f : ℕ → X) → j < k → put k x f j ≡ f j
put_below k j x f h = put_there k j x f (λ e. omega arith)

-- ---- what is met

-- For each copied cell: its old address, the place where it was first met, the tag of the reference there at Begin, and the
-- tag that the visited references to it have now.
pub record Log : Type 0 where
  pub orig : ℕ → ℕ
  pub first : ℕ → ℕ
  pub entry : ℕ → Tag
  pub tags : ℕ → Tag

abbrev pub ref : Tag → ℕ → Field
ref t a = To (record { tag = t; address = a })

-- where the field at a place stood at Begin: a hand at itself, a side of a new cell at that side of its old cell
unfoldable pub stood : (ℕ → ℕ) → ℕ → ℕ
stood orig p = cond (ltb p 16) p (place_of (side_of p) (orig (cell_of p)))

-- what the field at a place was at Begin
unfoldable pub was : (ℕ → Field) → (ℕ → ℕ) → ℕ → Field
unfolding stood
was begun orig p = begun (stood orig p)

pub was_stood : (begun : ℕ → Field) (orig : ℕ → ℕ) (p : ℕ) → was begun orig p ≡ begun (stood orig p)
unfolding was
was_stood begun orig p = refl

pub was_hand : (begun : ℕ → Field) (orig : ℕ → ℕ) (p : ℕ) → p < 16 → was begun orig p ≡ begun p
unfolding was stood
was_hand begun orig p h = ap begun (let e : stood orig p ≡ p = grind (arith, nat_tests) in e)

pub was_side : (begun : ℕ → Field) (orig : ℕ → ℕ) (p : ℕ) → 16 ≤ p → was begun orig p ≡ begun (place_of (side_of p) (orig (cell_of p)))
unfolding was stood
was_side begun orig p h = ap begun (let e : stood orig p ≡ place_of (side_of p) (orig (cell_of p)) = grind (arith, nat_tests) in e)

-- one more copied cell leaves the places before its own as they were
pub was_put : (begun : ℕ → Field) (orig : ℕ → ℕ) (k a p : ℕ) → p < 16 + 2 * k → was begun (put k a orig) p ≡ was begun orig p
was_put begun orig k a p h =
    elim (cases_lt p 16) [
      | inl l ↦ was_hand begun (put k a orig) p l ∙ sym (was_hand begun orig p l)
      | inr l ↦
          let e : put k a orig (cell_of p) ≡ orig (cell_of p) = put_below k (cell_of p) a orig (omega arith) in
          was_side begun (put k a orig) p l ∙ ap (λ b. begun (place_of (side_of p) b)) e ∙ sym (was_side begun orig p l)
    ]

place_once : (s t : Side) (a b : ℕ) → place_of s a ≡ place_of t b → (s ≡ t) × (a ≡ b)
place_once Left Left a b e = (refl, omega arith)
place_once Left Right a b e = absurd (omega arith)
place_once Right Left a b e = absurd (omega arith)
place_once Right Right a b e = (refl, omega arith)

place_low : (s : Side) (a : ℕ) → 16 ≤ place_of s a
place_low Left a = omega arith
place_low Right a = omega arith

pub place_side : (q : ℕ) → 16 ≤ q → q ≡ place_of (side_of q) (cell_of q)
place_side q h =
    elim (cases_eq (q % 2) 0) [
      | inl e ↦ let t : side_of q ≡ Left = grind (arith, nat_tests) in (omega arith) ∙ sym (ap (λ x. place_of x (cell_of q)) t)
      | inr e ↦ let t : side_of q ≡ Right = grind (arith, nat_tests) in (omega arith) ∙ sym (ap (λ x. place_of x (cell_of q)) t)
    ]

-- different places stood at different places
stood_hand : (orig : ℕ → ℕ) (p : ℕ) → p < 16 → stood orig p ≡ p
unfolding stood
stood_hand orig p h = grind (arith, nat_tests)

stood_side : (orig : ℕ → ℕ) (p : ℕ) → 16 ≤ p → stood orig p ≡ place_of (side_of p) (orig (cell_of p))
unfolding stood
stood_side orig p h = grind (arith, nat_tests)

stood_once : (orig : ℕ → ℕ) (k : ℕ) → ((i j : ℕ) → i < k → j < k → orig i ≡ orig j → i ≡ j)
    → (p q : ℕ) → p < 16 + 2 * k → q < 16 + 2 * k → stood orig p ≡ stood orig q → p ≡ q
stood_once orig k once p q hp hq e =
    elim (cases_lt p 16) [
      | inl l ↦ elim (cases_lt q 16) [
        | inl m ↦ sym (stood_hand orig p l) ∙ e ∙ stood_hand orig q m
        | inr m ↦ absurd (let x : p ≡ place_of (side_of q) (orig (cell_of q)) = sym (stood_hand orig p l) ∙ e ∙ stood_side orig q m in let y = place_low (side_of q) (orig (cell_of q)) in omega arith)
      ]
      | inr l ↦ elim (cases_lt q 16) [
        | inl m ↦ absurd (let x : place_of (side_of p) (orig (cell_of p)) ≡ q = sym (stood_side orig p l) ∙ e ∙ stood_hand orig q m in let y = place_low (side_of p) (orig (cell_of p)) in omega arith)
        | inr m ↦
            let x = place_once (side_of p) (side_of q) (orig (cell_of p)) (orig (cell_of q)) (sym (stood_side orig p l) ∙ e ∙ stood_side orig q m) in
            let y : cell_of p ≡ cell_of q = once (cell_of p) (cell_of q) (omega arith) (omega arith) x.1 in
            place_side p l ∙ ap (λ z. place_of z (cell_of p)) x.0 ∙ ap (place_of (side_of q)) y ∙ sym (place_side q m)
      ]
    ]

-- at Begin a UNIQUE reference is the only one to its cell, and so it is at the places of hands and copied cells
pub was_sole : (begun : ℕ → Field) (orig : ℕ → ℕ) (k : ℕ) → Honest begun → ((i j : ℕ) → i < k → j < k → orig i ≡ orig j → i ≡ j)
    → (p q : ℕ) (a : ℕ) → p < 16 + 2 * k → q < 16 + 2 * k → was begun orig p ≡ ref Unique a → refers_to a (was begun orig q) ≡ true → q ≡ p
unfolding was
was_sole begun orig k honest once p q a hp hq e f =
    elim (cases_eq q p) [
      | inl x ↦ x
      | inr n ↦ absurd (honest (stood orig p) (record { tag = Unique; address = a }) e refl (stood orig q, (λ x. n (stood_once orig k once q p hq hp x)), f))
    ]

-- After s steps, with k cells copied: begun tells what each place held at Begin, held what it holds now.
pub record Visits (mark : ℕ) (begun held : ℕ → Field) (s k : ℕ) (L : Log) : Type 0 where
  -- no step is made past the places of copied cells
  pub due : s ≤ 16 + 2 * k
  -- old addresses are copied once, and lie below the mark
  pub below : (j : ℕ) → j < k → L.orig j < mark
  pub once : (i j : ℕ) → i < k → j < k → L.orig i ≡ L.orig j → i ≡ j
  -- the places of first visits: they rise, are visited, come before the cell's own, and are least
  pub rise : (i j : ℕ) → i < j → j < k → L.first i < L.first j
  pub soon : (j : ℕ) → j < k → L.first j < 16 + 2 * j
  pub gone : (j : ℕ) → j < k → L.first j < s
  pub came : (j : ℕ) → j < k → was begun L.orig (L.first j) ≡ ref (L.entry j) (L.orig j)
  pub least : (j p : ℕ) → j < k → p < s → refers_to (L.orig j) (was begun L.orig p) ≡ true → L.first j ≤ p
  -- a visited place holds nil where it held nil, and else a reference to the copy
  pub nils : (p : ℕ) → p < s → was begun L.orig p ≡ Nil → held p ≡ Nil
  pub met : (p : ℕ) (r : Reference) → p < s → was begun L.orig p ≡ To r
      → (j : ℕ) × (j < k) × (L.orig j ≡ r.address) × (held p ≡ ref (L.tags j) j)
  -- UNIQUE while one visited place refers to the cell, STICKY from the second on
  pub sole : (j p : ℕ) → j < k → L.tags j ≡ Unique → p < s → refers_to (L.orig j) (was begun L.orig p) ≡ true → p ≡ L.first j
  pub twice : (j : ℕ) → j < k → L.tags j ≡ Sticky → (p : ℕ) × (p < s) × (p ≡ L.first j → ⊥) × (refers_to (L.orig j) (was begun L.orig p) ≡ true)
  -- the places that are not visited yet hold what they held
  pub ahead : (p : ℕ) → s ≤ p → p < 16 + 2 * k → held p ≡ was begun L.orig p

-- one more cell is copied, met at place s by a reference r
abbrev pub copy_log : Log → ℕ → ℕ → Reference → Log
copy_log L k s r = record {
  orig = put k r.address L.orig;
  first = put k s L.first;
  entry = put k r.tag L.entry;
  tags = put k Unique L.tags;
}

-- the j-th copied cell is met again
abbrev pub again_log : Log → ℕ → Log
again_log L j = record { orig = L.orig; first = L.first; entry = L.entry; tags = put j Sticky L.tags }

-- no steps, no copies
abbrev pub start_log : Log
start_log = record { orig = λ j. j; first = λ j. j; entry = λ _. Unique; tags = λ _. Unique }

pub visits_start : (mark : ℕ) (begun held : ℕ → Field) → ((p : ℕ) → p < 16 → held p ≡ begun p) → Visits mark begun held 0 0 start_log
visits_start mark begun held e = record {
  due = omega arith;
  below = λ j h. absurd (omega arith);
  once = λ i j h. absurd (omega arith);
  rise = λ i j h g. absurd (omega arith);
  soon = λ j h. absurd (omega arith);
  gone = λ j h. absurd (omega arith);
  came = λ j h. absurd (omega arith);
  least = λ j p h. absurd (omega arith);
  nils = λ p h. absurd (omega arith);
  met = λ p r h. absurd (omega arith);
  sole = λ j p h. absurd (omega arith);
  twice = λ j h. absurd (omega arith);
  ahead = λ p h g. e p (omega arith) ∙ sym (was_hand begun start_log.orig p (omega arith));
}

-- a place below the next number is below, or it is the number
upto : (p s : ℕ) → p < suc s → (p < s) ⊎ (p ≡ s)
upto p s h = elim (cases_lt p s) [ inl l ↦ inl l | inr l ↦ inr (omega arith) ]

nil_refers : (a : ℕ) (f : Field) → f ≡ Nil → refers_to a f ≡ true → ⊥
nil_refers a f e h = let z : ◌≡◌ {A = ℕ} 0 1 = grind (arith, nat_tests) in omega arith

module _ {mark : ℕ} {begun held : ℕ → Field} {s k : ℕ} {L : Log} (v : Visits mark begun held s k L) where
  -- the same places
  pub visits_like : (held' : ℕ → Field) → ((p : ℕ) → p < 16 + 2 * k → held' p ≡ held p) → Visits mark begun held' s k L
  visits_like held' e = record {
    due = v.due;
    below = v.below;
    once = v.once;
    rise = v.rise;
    soon = v.soon;
    gone = v.gone;
    came = v.came;
    least = v.least;
    nils = λ p h n. (let d = v.due in e p (omega arith) ∙ v.nils p h n);
    met = λ p r h w. (let d = v.due in let m = v.met p r h w in (m.0, m.1, m.2, e p (omega arith) ∙ m.3));
    sole = v.sole;
    twice = v.twice;
    ahead = λ p h g. e p g ∙ v.ahead p h g;
  }

  -- a place that holds nil is passed
  module _ (room : s < 16 + 2 * k) (nothing : held s ≡ Nil) where
    was_nil : was begun L.orig s ≡ Nil
    was_nil = sym (v.ahead s (omega arith) room) ∙ nothing

    pub visits_nil : Visits mark begun held (suc s) k L
    visits_nil = record {
      due = omega arith;
      below = v.below;
      once = v.once;
      rise = v.rise;
      soon = v.soon;
      gone = λ j h. (let g = v.gone j h in omega arith);
      came = v.came;
      least = λ j p h g f. elim (upto p s g) [
        | inl l ↦ v.least j p h l f
        | inr e ↦ absurd (nil_refers (L.orig j) (was begun L.orig p) (ap (was begun L.orig) e ∙ was_nil) f)
      ];
      nils = λ p h n. elim (upto p s h) [
        | inl l ↦ v.nils p l n
        | inr e ↦ ap held e ∙ nothing
      ];
      met = λ p r h w. elim (upto p s h) [
        | inl l ↦ v.met p r l w
        | inr e ↦ absurd (no_reference (sym was_nil ∙ sym (ap (was begun L.orig) e) ∙ w))
      ];
      sole = λ j p h u g f. elim (upto p s g) [
        | inl l ↦ v.sole j p h u l f
        | inr e ↦ absurd (nil_refers (L.orig j) (was begun L.orig p) (ap (was begun L.orig) e ∙ was_nil) f)
      ];
      twice = λ j h t. (let x = v.twice j h t in (x.0, (let y = x.1 in omega arith), x.2, x.3));
      ahead = λ p h g. v.ahead p (omega arith) g;
    }

  -- an address below the mark that is not copied yet: there is room for it
  module _ (a : ℕ) (low : a < mark) (fresh : (j : ℕ) → j < k → L.orig j ≡ a → ⊥) where
    put_low : (j : ℕ) → j < suc k → put k a L.orig j < mark
    put_low j h =
        elim (upto j k h) [
          | inl l ↦ subst (λ x. x < mark) (sym (put_below k j a L.orig l)) (v.below j l)
          | inr e ↦ subst (λ x. x < mark) (sym (put_here k j a L.orig e)) low
        ]

    put_once : (i j : ℕ) → i < suc k → j < suc k → put k a L.orig i ≡ put k a L.orig j → i ≡ j
    put_once i j h g q =
        elim (upto i k h) [
          | inl l ↦ elim (upto j k g) [
            | inl m ↦ v.once i j l m (sym (put_below k i a L.orig l) ∙ q ∙ put_below k j a L.orig m)
            | inr m ↦ absurd (fresh i l (sym (put_below k i a L.orig l) ∙ q ∙ put_here k j a L.orig m))
          ]
          | inr l ↦ elim (upto j k g) [
            | inl m ↦ absurd (fresh j m (sym (put_below k j a L.orig m) ∙ sym q ∙ put_here k i a L.orig l))
            | inr m ↦ l ∙ sym m
          ]
        ]

    pub space_left : k < mark
    space_left = let n = no_room (suc k) mark (put k a L.orig) put_low put_once in omega arith

  -- a first visit: the cell is copied, and the place refers to the copy
  module _ (room : s < 16 + 2 * k) (r : Reference) (there : held s ≡ To r) (low : r.address < mark)
      (fresh : (j : ℕ) → j < k → L.orig j ≡ r.address → ⊥)
      (held' : ℕ → Field) (here : held' s ≡ ref Unique k) (else : (p : ℕ) → p < 16 + 2 * k → (p ≡ s → ⊥) → held' p ≡ held p)
      (copied : (p : ℕ) → 16 + 2 * k ≤ p → p < 16 + 2 * suc k → held' p ≡ was begun (put k r.address L.orig) p) where
    orig_old : (j : ℕ) → j < k → (copy_log L k s r).orig j ≡ L.orig j
    orig_old j h = put_below k j r.address L.orig h

    first_old : (j : ℕ) → j < k → (copy_log L k s r).first j ≡ L.first j
    first_old j h = put_below k j s L.first h

    tags_old : (j : ℕ) → j < k → (copy_log L k s r).tags j ≡ L.tags j
    tags_old j h = put_below k j Unique L.tags h

    was_old : (p : ℕ) → p < 16 + 2 * k → was begun (copy_log L k s r).orig p ≡ was begun L.orig p
    was_old p h = was_put begun L.orig k r.address p h

    was_here : was begun (copy_log L k s r).orig s ≡ To r
    was_here = was_old s room ∙ sym (v.ahead s (omega arith) room) ∙ there

    -- a reference to an old copied cell, in terms of what was known
    refers_old : (j p : ℕ) → j < k → p < 16 + 2 * k → refers_to ((copy_log L k s r).orig j) (was begun (copy_log L k s r).orig p) ≡ true → refers_to (L.orig j) (was begun L.orig p) ≡ true
    refers_old j p h g f = sym (ap (λ a. refers_to a (was begun L.orig p)) (orig_old j h)) ∙ sym (ap (refers_to ((copy_log L k s r).orig j)) (was_old p g)) ∙ f

    refers_new : (j p : ℕ) → j < k → p < 16 + 2 * k → refers_to (L.orig j) (was begun L.orig p) ≡ true → refers_to ((copy_log L k s r).orig j) (was begun (copy_log L k s r).orig p) ≡ true
    refers_new j p h g f = ap (refers_to ((copy_log L k s r).orig j)) (was_old p g) ∙ ap (λ a. refers_to a (was begun L.orig p)) (orig_old j h) ∙ f

    -- this place refers to no cell that was copied before
    not_here : (j : ℕ) → j < k → refers_to ((copy_log L k s r).orig j) (was begun (copy_log L k s r).orig s) ≡ true → ⊥
    not_here j h f =
        let x = refers_from (was begun (copy_log L k s r).orig s) ((copy_log L k s r).orig j) f in
        let y : x.0 ≡ r = (let e = x.1 in let g = was_here in cc) in
        fresh j h (sym (orig_old j h) ∙ sym x.2 ∙ ap (λ z. z.address) y)

    -- no place before refers to the cell that is copied now
    not_before : (p : ℕ) → p < s → refers_to r.address (was begun (copy_log L k s r).orig p) ≡ true → ⊥
    not_before p h f =
        let d = v.due in
        let x = refers_from (was begun (copy_log L k s r).orig p) r.address f in
        let m = v.met p x.0 h (sym (was_old p (omega arith)) ∙ x.1) in
        fresh m.0 m.1 (m.2 ∙ x.2)

    orig_last : (j : ℕ) → j ≡ k → (copy_log L k s r).orig j ≡ r.address
    orig_last j e = put_here k j r.address L.orig e

    first_last : (j : ℕ) → j ≡ k → (copy_log L k s r).first j ≡ s
    first_last j e = put_here k j s L.first e

    tags_last : (j : ℕ) → j ≡ k → (copy_log L k s r).tags j ≡ Unique
    tags_last j e = put_here k j Unique L.tags e

    ref_last : (t : Tag) → t ≡ r.tag → To r ≡ ref t r.address
    ref_last t e = sym (ap (λ x. ref x r.address) e)

    pub visits_copy : Visits mark begun held' (suc s) (suc k) (copy_log L k s r)
    visits_copy = record {
      due = omega arith;
      below = put_low r.address low fresh;
      once = put_once r.address low fresh;
      rise = λ i j h g. elim (upto j k g) [
        | inl m ↦ (let x = v.rise i j h m in let a = first_old i (omega arith) in let b = first_old j m in omega arith)
        | inr m ↦ (let x = v.gone i (omega arith) in let a = first_old i (omega arith) in let b = first_last j m in omega arith)
      ];
      soon = λ j h. elim (upto j k h) [
        | inl m ↦ (let x = v.soon j m in let b = first_old j m in omega arith)
        | inr m ↦ (let b = first_last j m in omega arith)
      ];
      gone = λ j h. elim (upto j k h) [
        | inl m ↦ (let x = v.gone j m in let b = first_old j m in omega arith)
        | inr m ↦ (let b = first_last j m in omega arith)
      ];
      came = λ j h. elim (upto j k h) [
        | inl m ↦ (let x = v.came j m in let d = v.soon j m in let a = first_old j m in let b = orig_old j m in let c = put_below k j r.tag L.entry m in
            let w = was_old (L.first j) (omega arith) in cc)
        | inr m ↦ (let a = first_last j m in let b = orig_last j m in let c = put_here k j r.tag L.entry m in let w = was_here in
            ap (was begun (copy_log L k s r).orig) a ∙ w ∙ ref_last ((copy_log L k s r).entry j) c ∙ ap (ref ((copy_log L k s r).entry j)) (sym b))
      ];
      least = λ j p h g f. elim (upto j k h) [
        | inl m ↦ elim (upto p s g) [
          | inl l ↦ (let x = v.least j p m l (refers_old j p m (omega arith) f) in let b = first_old j m in omega arith)
          | inr e ↦ absurd (not_here j m (ap (λ z. refers_to ((copy_log L k s r).orig j) (was begun (copy_log L k s r).orig z)) (sym e) ∙ f))
        ]
        | inr m ↦ elim (upto p s g) [
          | inl l ↦ absurd (not_before p l (ap (λ z. refers_to z (was begun (copy_log L k s r).orig p)) (sym (orig_last j m)) ∙ f))
          | inr e ↦ (let b = first_last j m in omega arith)
        ]
      ];
      nils = λ p h n. elim (upto p s h) [
        | inl l ↦ else p (omega arith) (λ e. omega arith) ∙ v.nils p l (sym (was_old p (omega arith)) ∙ n)
        | inr e ↦ absurd (no_reference (sym n ∙ ap (was begun (copy_log L k s r).orig) e ∙ was_here))
      ];
      met = λ p x h w. elim (upto p s h) [
        | inl l ↦
            (let m = v.met p x l (sym (was_old p (omega arith)) ∙ w) in (
              m.0,
              (let y = m.1 in omega arith),
              orig_old m.0 m.1 ∙ m.2,
              else p (omega arith) (λ e. omega arith) ∙ m.3 ∙ ap (λ t. ref t m.0) (sym (tags_old m.0 m.1)),
            ))
        | inr e ↦
            (let y : x ≡ r = (let g = was_here in let q = ap (was begun (copy_log L k s r).orig) e in cc) in
            (k, omega arith, orig_last k refl ∙ ap (λ z. z.address) (sym y), ap held' e ∙ here ∙ ap (λ t. ref t k) (sym (tags_last k refl))))
      ];
      sole = λ j p h u g f. elim (upto j k h) [
        | inl m ↦ elim (upto p s g) [
          | inl l ↦ v.sole j p m (sym (tags_old j m) ∙ u) l (refers_old j p m (omega arith) f) ∙ sym (first_old j m)
          | inr e ↦ absurd (not_here j m (ap (λ z. refers_to ((copy_log L k s r).orig j) (was begun (copy_log L k s r).orig z)) (sym e) ∙ f))
        ]
        | inr m ↦ elim (upto p s g) [
          | inl l ↦ absurd (not_before p l (ap (λ z. refers_to z (was begun (copy_log L k s r).orig p)) (sym (orig_last j m)) ∙ f))
          | inr e ↦ e ∙ sym (first_last j m)
        ]
      ];
      twice = λ j h t. elim (upto j k h) [
        | inl m ↦
            (let x = v.twice j m (sym (tags_old j m) ∙ t) in
            (x.0, (let y = x.1 in omega arith), (λ e. x.2 (e ∙ first_old j m)), refers_new j x.0 m (let y = x.1 in omega arith) x.3))
        | inr m ↦ absurd (two_tags (tags_last j m) t)
      ];
      ahead = λ p h g. elim (cases_lt p (16 + 2 * k)) [
        | inl l ↦ else p l (λ e. omega arith) ∙ v.ahead p (omega arith) l ∙ sym (was_old p l)
        | inr l ↦ copied p l g
      ];
    }

  -- a later visit: this place and the one of the first visit refer to the copy, STICKY
  module _ (room : s < 16 + 2 * k) (r : Reference) (there : held s ≡ To r) (j : ℕ) (hj : j < k) (hit : L.orig j ≡ r.address)
      (held' : ℕ → Field) (here : held' s ≡ ref Sticky j) (source : held' (L.first j) ≡ ref Sticky j)
      (else : (p : ℕ) → p < 16 + 2 * k → (p ≡ s → ⊥) → (p ≡ L.first j → ⊥) → held' p ≡ held p) where
    seen_here : was begun L.orig s ≡ To r
    seen_here = sym (v.ahead s (omega arith) room) ∙ there

    tag_here : (i : ℕ) → i ≡ j → (again_log L j).tags i ≡ Sticky
    tag_here i e = put_here j i Sticky L.tags e

    tag_there : (i : ℕ) → (i ≡ j → ⊥) → (again_log L j).tags i ≡ L.tags i
    tag_there i n = put_there j i Sticky L.tags n

    -- this place refers to the j-th copied cell alone
    only_here : (i : ℕ) → i < k → refers_to (L.orig i) (was begun L.orig s) ≡ true → i ≡ j
    only_here i h f =
        let x = refers_from (was begun L.orig s) (L.orig i) f in
        let y : x.0 ≡ r = (let e = x.1 in let g = seen_here in cc) in
        v.once i j h hj (sym x.2 ∙ ap (λ z. z.address) y ∙ sym hit)

    at_first : refers_to (L.orig j) (was begun L.orig (L.first j)) ≡ true
    at_first = refers_to_lem (was begun L.orig (L.first j)) (record { tag = L.entry j; address = L.orig j }) (L.orig j) (v.came j hj) refl

    -- a place that was visited before refers to the j-th cell with a STICKY reference now
    sticky_now : (p : ℕ) → p < s → held p ≡ ref (L.tags j) j → refers_to (L.orig j) (was begun L.orig p) ≡ true → held' p ≡ ref Sticky j
    sticky_now p h e f =
        elim (cases_eq p (L.first j)) [
          | inl x ↦ ap held' x ∙ source
          | inr n ↦ else p (omega arith) (λ x. omega arith) n ∙ e ∙ ap (λ t. ref t j) (tag (L.tags j) refl n)
        ]
      where
        tag : (t : Tag) → L.tags j ≡ t → (p ≡ L.first j → ⊥) → L.tags j ≡ Sticky
        tag Sticky q n = q
        tag Unique q n = absurd (n (v.sole j p hj q h f))

    pub visits_again : Visits mark begun held' (suc s) k (again_log L j)
    visits_again = record {
      due = omega arith;
      below = v.below;
      once = v.once;
      rise = v.rise;
      soon = v.soon;
      gone = λ i h. (let g = v.gone i h in omega arith);
      came = v.came;
      least = λ i p h g f. elim (upto p s g) [
        | inl l ↦ v.least i p h l f
        | inr e ↦ (let x = v.gone i h in omega arith)
      ];
      nils = λ p h n. elim (upto p s h) [
        | inl l ↦
            (let x : p ≡ L.first j → ⊥ = λ e. no_reference (sym n ∙ ap (was begun L.orig) e ∙ v.came j hj) in
            else p (omega arith) (λ e. omega arith) x ∙ v.nils p l n)
        | inr e ↦ absurd (no_reference (sym n ∙ ap (was begun L.orig) e ∙ seen_here))
      ];
      met = λ p x h w. elim (upto p s h) [
        | inl l ↦
            (let m = v.met p x l w in
            elim (cases_eq m.0 j) [
              | inl e ↦
                  (let f : held p ≡ ref (L.tags j) j = m.3 ∙ ap (λ i. ref (L.tags i) i) e in
                  let g : refers_to (L.orig j) (was begun L.orig p) ≡ true = refers_to_lem (was begun L.orig p) x (L.orig j) w (sym m.2 ∙ ap L.orig e) in
                  (j, hj, ap L.orig (sym e) ∙ m.2, sticky_now p l f g ∙ ap (λ t. ref t j) (sym (tag_here j refl))))
              | inr n ↦
                  (let y : p ≡ L.first j → ⊥ = λ e. n (v.once m.0 j m.1 hj (m.2 ∙ (let a = v.came j hj in let b = ap (was begun L.orig) e in
                  let c : To x ≡ ref (L.entry j) (L.orig j) = sym w ∙ b ∙ a in let d : x.address ≡ L.orig j = cc in d))) in
                  (m.0, m.1, m.2, else p (omega arith) (λ e. omega arith) y ∙ m.3 ∙ ap (λ t. ref t m.0) (sym (tag_there m.0 n))))
            ])
        | inr e ↦
            (let y : x ≡ r = (let g = seen_here in let q = ap (was begun L.orig) e in cc) in
            (j, hj, hit ∙ ap (λ z. z.address) (sym y), ap held' e ∙ here ∙ ap (λ t. ref t j) (sym (tag_here j refl))))
      ];
      sole = λ i p h u g f. elim (cases_eq i j) [
        | inl e ↦ absurd (two_tags u (tag_here i e))
        | inr n ↦ elim (upto p s g) [
          | inl l ↦ v.sole i p h (sym (tag_there i n) ∙ u) l f
          | inr e ↦ absurd (n (only_here i h (ap (λ z. refers_to (L.orig i) (was begun L.orig z)) (sym e) ∙ f)))
        ]
      ];
      twice = λ i h t. elim (cases_eq i j) [
        | inl e ↦ (s, omega arith, (λ x. (let g = v.gone i h in omega arith)), refers_to_lem (was begun L.orig s) r (L.orig i) seen_here (sym hit ∙ ap L.orig (sym e)))
        | inr n ↦ (let x = v.twice i h (sym (tag_there i n) ∙ t) in (x.0, (let y = x.1 in omega arith), x.2, x.3))
      ];
      ahead = λ p h g. (let x = v.gone j hj in else p g (λ e. omega arith) (λ e. omega arith) ∙ v.ahead p (omega arith) g);
    }
