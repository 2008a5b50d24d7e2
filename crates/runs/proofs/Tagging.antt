-- References and the free list, as each change of a place leaves them. Assumes nothing.
use Rattle.std.proofs.Common.{◌≡◌, ℕ, ◌-◌, ◌<◌, ◌≤◌, true, ◌⊎◌, List, [], ◌∷◌, ◌++◌, length, get_or, take, sym, refl, ap, ◌∙◌, subst, inl, inr, arith, length-take, get_or-take}
use Rattle.std.proofs.lemmas.Bool.Decides.{nat_tests}
use Rattle.std.proofs.lemmas.Bool.{cases_lt, cases_eq}
use Rattle.cells.specs.declared.Tag.{Tag}
use Rattle.cells.specs.declared.Tag.TheVariants.{Unique, Sticky}
use Rattle.cells.specs.declared.Reference.{Reference}
use Rattle.cells.specs.declared.Field.{Field}
use Rattle.cells.specs.declared.Field.TheVariants.{Nil, To}
use Rattle.graph.specs.Places.{refers_to, Another, Honest}
use Rattle.store.specs.Fields.{unique, made_sticky, let_go, top, below_top}
use Rattle.runs.specs.Sound.{Listed, Tagged}
use Rattle.runs.proofs.Lists.{Lets, letgo_cases, listed_push, listed_more, get_d_push, get_d_end, length_push}
use Rattle.runs.proofs.Held.{upd, upd_here, upd_there}

-- ---- fields

pub no_reference : {r : Reference} → Nil ≡ To r → ⊥
no_reference e = let z : ◌≡◌ {A = ℕ} 0 1 = cc in omega arith

pub two_tags : {t : Tag} → t ≡ Unique → t ≡ Sticky → ⊥
two_tags p q = let z : ◌≡◌ {A = ℕ} 0 1 = cc in omega arith

pub refers_to_lem : (f : Field) (r : Reference) (a : ℕ) → f ≡ To r → r.address ≡ a → refers_to a f ≡ true
refers_to_lem f r a e h = ap (refers_to a) e ∙ grind (arith, nat_tests)

pub refers_from : (f : Field) (a : ℕ) → refers_to a f ≡ true → (r : Reference) × (f ≡ To r) × (r.address ≡ a)
refers_from Nil a h = absurd (let z : ◌≡◌ {A = ℕ} 0 1 = grind (arith, nat_tests) in omega arith)
refers_from (To r) a h = (r, refl, grind (arith, nat_tests))

sticky_from : (f : Field) (r : Reference) → made_sticky f ≡ To r → (r' : Reference) × (f ≡ To r') × (r'.address ≡ r.address) × (r.tag ≡ Sticky)
sticky_from Nil r e = absurd (no_reference e)
sticky_from (To r') r e = (r', refl, cc, cc)

tag_of : (r : Reference) → (r.tag ≡ Unique) ⊎ (r.tag ≡ Sticky)
tag_of r = go r.tag refl
  where
    go : (t : Tag) → r.tag ≡ t → (r.tag ≡ Unique) ⊎ (r.tag ≡ Sticky)
    go Unique e = inl e
    go Sticky e = inr e

-- ---- the same places

module _ {mark : ℕ} {free : List ℕ} {held : ℕ → Field} (t : Tagged mark free held) where
  another_like : (held' : ℕ → Field) → ((q : ℕ) → held' q ≡ held q) → (p a : ℕ) → Another held' p a → Another held p a
  another_like held' e p a (q, n, h) = (q, n, sym (ap (refers_to a) (e q)) ∙ h)

  pub tagged_like : (held' : ℕ → Field) → ((q : ℕ) → held' q ≡ held q) → Tagged mark free held'
  tagged_like held' e = record {
    inside = λ p r h. t.inside p r (sym (e p) ∙ h);
    few = t.few;
    once_listed = t.once_listed;
    listed_below = t.listed_below;
    unlisted = λ p r h. t.unlisted p r (sym (e p) ∙ h);
    honest = λ p r h u x. t.honest p r (sym (e p) ∙ h) u (another_like held' e p r.address x);
  }

  -- two places that refer to one cell: neither reference is UNIQUE
  pub not_unique : (p q : ℕ) (r s : Reference) → (q ≡ p → ⊥) → held p ≡ To r → held q ≡ To s → s.address ≡ r.address → r.tag ≡ Unique → ⊥
  not_unique p q r s n e f a u = t.honest p r e u (q, n, refers_to_lem (held q) s r.address f a)

  -- ---- a reference becomes STICKY

  module _ (p : ℕ) where
    sticky_at : (q : ℕ) (r : Reference) → upd p (made_sticky (held p)) held q ≡ To r → (r' : Reference) × (held q ≡ To r') × (r'.address ≡ r.address) × (r.tag ≡ Unique → r ≡ r') × (r.tag ≡ Unique → q ≡ p → ⊥)
    sticky_at q r e =
        elim (cases_eq q p) [
          | inl x ↦
              let s = sticky_from (held p) r (sym (ap (upd p (made_sticky (held p)) held) x ∙ upd_here p (made_sticky (held p)) held) ∙ e) in
              (s.0, ap held x ∙ s.1, s.2, λ u. absurd (two_tags u s.3), λ u _. two_tags u s.3)
          | inr n ↦ (r, sym (upd_there p q (made_sticky (held p)) held n) ∙ e, refl, λ _. refl, λ _. n)
        ]

    another_sticky : (q a : ℕ) → Another (upd p (made_sticky (held p)) held) q a → Another held q a
    another_sticky q a (k, n, h) =
        let s = refers_from (upd p (made_sticky (held p)) held k) a h in
        let b = sticky_at k s.0 s.1 in
        (k, n, refers_to_lem (held k) b.0 a b.1 (b.2 ∙ s.2))

    pub tagged_sticky : Tagged mark free (upd p (made_sticky (held p)) held)
    tagged_sticky = record {
      inside = λ q r e. (let b = sticky_at q r e in subst (λ a. a < mark) b.2 (t.inside q b.0 b.1));
      few = t.few;
      once_listed = t.once_listed;
      listed_below = t.listed_below;
      unlisted = λ q r e l. (let b = sticky_at q r e in t.unlisted q b.0 b.1 (subst (Listed free) (sym b.2) l));
      honest = λ q r e u x. (let b = sticky_at q r e in
          t.honest q r (b.1 ∙ ap To (sym (b.3 u))) u (another_sticky q r.address x));
    }

  -- ---- the list after a place's reference is let go

  module _ (p : ℕ) where
    pub listed_after : (a : ℕ) → Listed (let_go mark (held p) free) a → Listed free a ⊎ Lets mark (held p) a
    listed_after a l =
        elim (letgo_cases mark (held p) free) [
          | inl e ↦ inl (subst (λ xs. Listed xs a) e l)
          | inr x ↦ elim (listed_push free x.0 a (subst (λ xs. Listed xs a) x.2 l)) [
            | inl y ↦ inl y
            | inr y ↦ inr (record { reference = x.1.reference; is = x.1.is; sole = x.1.sole; low = x.1.low; same = x.1.same ∙ sym y })
          ]
        ]

    pub listed_still : (a : ℕ) → Listed free a → Listed (let_go mark (held p) free) a
    listed_still a l =
        elim (letgo_cases mark (held p) free) [
          | inl e ↦ subst (λ xs. Listed xs a) (sym e) l
          | inr x ↦ subst (λ xs. Listed xs a) (sym x.2) (listed_more free x.0 a l)
        ]

    -- one more address, which is not listed yet
    few_after : length (let_go mark (held p) free) ≤ 16
    few_after =
        elim (letgo_cases mark (held p) free) [
          | inl e ↦ subst (λ xs. length xs ≤ 16) (sym e) t.few
          | inr x ↦ subst (λ xs. length xs ≤ 16) (sym x.2) (let n = length_push free x.0 in let k = x.3 in omega arith)
        ]

    module _ (x : ℕ) (fresh : Listed free x → ⊥) where
      push_once : (i j : ℕ) → i < length (free ++ (x ∷ [])) → j < length (free ++ (x ∷ [])) → get_or (free ++ (x ∷ [])) i 0 ≡ get_or (free ++ (x ∷ [])) j 0 → i ≡ j
      push_once i j hi hj e =
          let n = length_push free x in
          elim (cases_lt i (length free)) [
            | inl li ↦ elim (cases_lt j (length free)) [
              | inl lj ↦ t.once_listed i j li lj (sym (get_d_push free x 0 i li) ∙ e ∙ get_d_push free x 0 j lj)
              | inr lj ↦
                  let q : j ≡ length free = omega arith in
                  absurd (fresh (i, li, sym (get_d_push free x 0 i li) ∙ e ∙ ap (λ k. get_or (free ++ (x ∷ [])) k 0) q ∙ get_d_end free x 0))
            ]
            | inr li ↦ elim (cases_lt j (length free)) [
              | inl lj ↦
                  let q : i ≡ length free = omega arith in
                  absurd (fresh (j, lj, sym (get_d_push free x 0 j lj) ∙ sym e ∙ ap (λ k. get_or (free ++ (x ∷ [])) k 0) q ∙ get_d_end free x 0))
              | inr lj ↦ omega arith
            ]
          ]

      push_below : x < mark → (i : ℕ) → i < length (free ++ (x ∷ [])) → get_or (free ++ (x ∷ [])) i 0 < mark
      push_below b i h =
          elim (cases_lt i (length free)) [
            | inl l ↦ subst (λ a. a < mark) (sym (get_d_push free x 0 i l)) (t.listed_below i l)
            | inr l ↦
                let q : i ≡ length free = (let n = length_push free x in omega arith) in
                subst (λ a. a < mark) (sym (ap (λ k. get_or (free ++ (x ∷ [])) k 0) q ∙ get_d_end free x 0)) b
          ]

    let_fresh : (a : ℕ) → Lets mark (held p) a → Listed free a → ⊥
    let_fresh a x l = t.unlisted p x.reference x.is (subst (Listed free) (sym x.same) l)

    once_after : (i j : ℕ) → i < length (let_go mark (held p) free) → j < length (let_go mark (held p) free) → get_or (let_go mark (held p) free) i 0 ≡ get_or (let_go mark (held p) free) j 0 → i ≡ j
    once_after =
        elim (letgo_cases mark (held p) free) [
          | inl e ↦ subst (λ xs. (i j : ℕ) → i < length xs → j < length xs → get_or xs i 0 ≡ get_or xs j 0 → i ≡ j) (sym e) t.once_listed
          | inr x ↦ subst (λ xs. (i j : ℕ) → i < length xs → j < length xs → get_or xs i 0 ≡ get_or xs j 0 → i ≡ j) (sym x.2) (push_once x.0 (let_fresh x.0 x.1))
        ]

    below_after : (i : ℕ) → i < length (let_go mark (held p) free) → get_or (let_go mark (held p) free) i 0 < mark
    below_after =
        elim (letgo_cases mark (held p) free) [
          | inl e ↦ subst (λ xs. (i : ℕ) → i < length xs → get_or xs i 0 < mark) (sym e) t.listed_below
          | inr x ↦ subst (λ xs. (i : ℕ) → i < length xs → get_or xs i 0 < mark) (sym x.2)
              (push_below x.0 (let_fresh x.0 x.1) (subst (λ a. a < mark) x.1.same x.1.low))
        ]

    -- ---- a place is overwritten, and what it held is let go

    -- nil may be written, and a STICKY reference that some place holds
    abbrev pub Shown : Field → Type 0
    Shown f = (f ≡ Nil) ⊎ ((q : ℕ) × (r : Reference) × (f ≡ To r) × (held q ≡ To r) × (r.tag ≡ Sticky))

    module _ (f : Field) (ok : Shown f) where
      -- a reference after the write was held before; if it is UNIQUE, at the same place, which is another than p
      before : (q : ℕ) (r : Reference) → upd p f held q ≡ To r → (k : ℕ) × (held k ≡ To r) × ((q ≡ p → ⊥) → k ≡ q) × (q ≡ p → r.tag ≡ Sticky)
      before q r e =
          elim (cases_eq q p) [
            | inl x ↦
                let y : f ≡ To r = sym (ap (upd p f held) x ∙ upd_here p f held) ∙ e in
                elim ok [
                  | inl z ↦ absurd (no_reference (sym z ∙ y))
                  | inr z ↦
                      let s : z.1 ≡ r = cc in
                      (z.0, z.3 ∙ ap To s, λ n. absurd (n x), λ _. sym (ap (λ v. v.tag) s) ∙ z.4)
                ]
            | inr n ↦ (q, sym (upd_there p q f held n) ∙ e, λ _. refl, λ x. absurd (n x))
          ]

      write_honest : Honest (upd p f held)
      write_honest q r e u (k, n, h) =
          let b = before q r e in
          let qp : q ≡ p → ⊥ = λ x. two_tags u (b.3 x) in
          let hq : held q ≡ To r = sym (ap held (b.2 qp)) ∙ b.1 in
          let s = refers_from (upd p f held k) r.address h in
          let c = before k s.0 s.1 in
          elim (cases_eq c.0 q) [
            | inl x ↦
                -- the place k got what q holds, so it is not UNIQUE
                elim (cases_eq k p) [
                  | inl y ↦ (let g : s.0 ≡ r = (let z : held q ≡ To s.0 = sym (ap held x) ∙ c.1 in cc) in two_tags u (sym (ap (λ v. v.tag) g) ∙ c.3 y))
                  | inr y ↦ n (sym (c.2 y) ∙ x)
                ]
            | inr x ↦ not_unique q c.0 r s.0 x hq c.1 s.2 u
          ]

      -- what p held UNIQUE has no other reference
      write_unlisted : (q : ℕ) (r : Reference) → upd p f held q ≡ To r → Listed (let_go mark (held p) free) r.address → ⊥
      write_unlisted q r e l =
          let b = before q r e in
          elim (listed_after r.address l) [
            | inl x ↦ t.unlisted b.0 r b.1 x
            | inr x ↦ elim (cases_eq b.0 p) [
              | inl y ↦
                  elim (cases_eq q p) [
                    | inl z ↦ (let g : x.reference ≡ r = (let w : held p ≡ To r = sym (ap held y) ∙ b.1 in let v = x.is in cc) in two_tags x.sole (ap (λ v. v.tag) g ∙ b.3 z))
                    | inr z ↦ z (sym (b.2 z) ∙ y)
                  ]
              | inr y ↦ not_unique p b.0 x.reference r y x.is b.1 (sym x.same) x.sole
            ]
          ]

      pub tagged_write : Tagged mark (let_go mark (held p) free) (upd p f held)
      tagged_write = record {
        inside = λ q r e. (let b = before q r e in t.inside b.0 r b.1);
        few = few_after;
        once_listed = once_after;
        listed_below = below_after;
        unlisted = write_unlisted;
        honest = write_honest;
      }

  -- ---- places exchange what they hold

  pub tagged_moved : (held' : ℕ → Field) (to : ℕ → ℕ) → ((q : ℕ) → held' q ≡ held (to q)) → ((j k : ℕ) → (j ≡ k → ⊥) → to j ≡ to k → ⊥) → Tagged mark free held'
  tagged_moved held' to e once = record {
    inside = λ q r h. t.inside (to q) r (sym (e q) ∙ h);
    few = t.few;
    once_listed = t.once_listed;
    listed_below = t.listed_below;
    unlisted = λ q r h. t.unlisted (to q) r (sym (e q) ∙ h);
    honest = λ q r h u x. t.honest (to q) r (sym (e q) ∙ h) u (to x.0, once x.0 q x.1, sym (ap (refers_to r.address) (e x.0)) ∙ x.2);
  }

  -- ---- a cell that nothing refers to gets its first reference

  pub tagged_fresh : (mark' h a : ℕ) → mark ≤ mark' → a < mark' → (Listed free a → ⊥) → ((q : ℕ) (r : Reference) → held q ≡ To r → r.address ≡ a → ⊥)
      → Tagged mark' free (upd h (unique a) held)
  tagged_fresh mark' h a le low fresh alone = record {
    inside = λ q r e. elim (cases_eq q h) [
      | inl x ↦ (let s : a ≡ r.address = here q r x e in subst (λ n. n < mark') s low)
      | inr n ↦ (let l = t.inside q r (there q r n e) in omega arith)
    ];
    few = t.few;
    once_listed = t.once_listed;
    listed_below = λ i l. (let b = t.listed_below i l in omega arith);
    unlisted = λ q r e l. elim (cases_eq q h) [
      | inl x ↦ fresh (subst (Listed free) (sym (here q r x e)) l)
      | inr n ↦ t.unlisted q r (there q r n e) l
    ];
    honest = λ q r e u x. sole q r e u x;
  }
    where
      here : (q : ℕ) (r : Reference) → q ≡ h → upd h (unique a) held q ≡ To r → a ≡ r.address
      here q r x e = let y : unique a ≡ To r = sym (ap (upd h (unique a) held) x ∙ upd_here h (unique a) held) ∙ e in cc

      there : (q : ℕ) (r : Reference) → (q ≡ h → ⊥) → upd h (unique a) held q ≡ To r → held q ≡ To r
      there q r n e = sym (upd_there h q (unique a) held n) ∙ e

      sole : (q : ℕ) (r : Reference) → upd h (unique a) held q ≡ To r → r.tag ≡ Unique → Another (upd h (unique a) held) q r.address → ⊥
      sole q r e u (k, n, f) =
          let s = refers_from (upd h (unique a) held k) r.address f in
          elim (cases_eq q h) [
            | inl x ↦ elim (cases_eq k h) [
              | inl y ↦ n (y ∙ sym x)
              | inr y ↦ alone k s.0 (there k s.0 y s.1) (s.2 ∙ sym (here q r x e))
            ]
            | inr x ↦ elim (cases_eq k h) [
              | inl y ↦ alone q r (there q r x e) (sym (here k s.0 y s.1 ∙ s.2))
              | inr y ↦ not_unique q k r s.0 n (there q r x e) (there k s.0 y s.1) s.2 u
            ]
          ]

  -- ---- the top of the list is taken off

  pub tagged_shorter : (n : ℕ) → n ≤ length free → Tagged mark (take n free) held
  tagged_shorter n h = record {
    inside = t.inside;
    few = (let l = length-take n free in let f = t.few in omega arith);
    once_listed = λ i j p q e. t.once_listed i j (in_free i p) (in_free j q) (sym (get_or-take n free i 0 (in_front i p)) ∙ e ∙ get_or-take n free j 0 (in_front j q));
    listed_below = λ i p. subst (λ a. a < mark) (sym (get_or-take n free i 0 (in_front i p))) (t.listed_below i (in_free i p));
    unlisted = λ q r e l. t.unlisted q r e (l.0, in_free l.0 l.1, sym (get_or-take n free l.0 0 (in_front l.0 l.1)) ∙ l.2);
    honest = t.honest;
  }
    where
      in_front : (i : ℕ) → i < length (take n free) → i < n
      in_front i p = let l = length-take n free in omega arith

      in_free : (i : ℕ) → i < length (take n free) → i < length free
      in_free i p = let l = length-take n free in omega arith

  pub top_listed : 0 < length free → Listed free (top free)
  top_listed h = (length free - 1, omega arith, refl)

  pub top_once : 0 < length free → Listed (below_top free) (top free) → ⊥
  top_once h (i, p, e) =
      let l = length-take (length free - 1) free in
      let q : i < length free - 1 = omega arith in
      let s : i ≡ length free - 1 = t.once_listed i (length free - 1) (omega arith) (omega arith) (sym (get_or-take (length free - 1) free i 0 q) ∙ e) in
      omega arith
