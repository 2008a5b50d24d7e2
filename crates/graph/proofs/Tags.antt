-- Exact tags: they are known by the links, and a UNIQUE reference is the only one to its cell.
use Rattle.std.proofs.Common.{◌≡◌, ℕ, true, sym, refl, ap, ◌∙◌, subst, ⊎_elim, arith}
use Rattle.std.proofs.lemmas.Bool.{cases_eq}
use Rattle.cells.specs.declared.Tag.{Tag}
use Rattle.cells.specs.declared.Tag.TheVariants.{Unique, Sticky}
use Rattle.cells.specs.declared.Reference.{Reference}
use Rattle.cells.specs.declared.Field.{Field}
use Rattle.cells.specs.declared.Field.TheVariants.{Nil, To}
use Rattle.graph.specs.Graphs.{to, link_of}
use Rattle.graph.specs.Places.{refers_to, Another, Honest, Exact}
use Rattle.graph.proofs.Reading.{refers_link, link_refers}

-- places with the same links and exact tags hold the same
another_moves : (held held' : ℕ → Field) → ((p : ℕ) → link_of (held p) ≡ link_of (held' p)) → (p a : ℕ) → Another held p a → Another held' p a
another_moves held held' same p a w = (w.0, w.1, link_refers (held' w.0) a (sym (same w.0) ∙ refers_link (held w.0) a w.2))

same_tag : (t t' : Tag) → (t ≡ Sticky → t' ≡ Sticky) → (t' ≡ Sticky → t ≡ Sticky) → t ≡ t'
same_tag Unique Unique h k = refl
same_tag Unique Sticky h k = k refl
same_tag Sticky Unique h k = sym (h refl)
same_tag Sticky Sticky h k = refl

pub exact_same : (held held' : ℕ → Field) → Exact held → Exact held' → ((p : ℕ) → link_of (held p) ≡ link_of (held' p)) → (p : ℕ) → held p ≡ held' p
exact_same held held' exact exact' same p = go (held p) (held' p) refl refl
  where
    go : (f f' : Field) → held p ≡ f → held' p ≡ f' → held p ≡ held' p
    go Nil Nil e e' = e ∙ sym e'
    go Nil (To r') e e' = absurd (let k = sym (ap link_of e) ∙ same p ∙ ap link_of e' in grind arith)
    go (To r) Nil e e' = absurd (let k = sym (ap link_of e) ∙ same p ∙ ap link_of e' in grind arith)
    go (To r) (To r') e e' =
        let k : to r.address ≡ to r'.address = sym (ap link_of e) ∙ same p ∙ ap link_of e' in
        let address : r.address ≡ r'.address = cc in
        let x = exact p r e in
        let x' = exact' p r' e' in
        let there : Another held p r.address → Another held' p r'.address = λ w. subst (Another held' p) address (another_moves held held' same p r.address w) in
        let here : Another held' p r'.address → Another held p r.address = λ w. another_moves held' held (λ q. sym (same q)) p r.address (subst (Another held' p) (sym address) w) in
        let tag : r.tag ≡ r'.tag = same_tag r.tag r'.tag (λ t. x'.1 (there (x.0 t))) (λ t. x.1 (here (x'.0 t))) in
        let whole : r ≡ r' = λ i. record { tag = tag i; address = address i } in
        e ∙ ap To whole ∙ sym e'

-- where tags are exact, a UNIQUE reference is the only one to its cell
pub exact_honest : (held : ℕ → Field) → Exact held → Honest held
exact_honest held exact p r e unique w = let sticky = (exact p r e).1 w in let both : Unique ≡ Sticky = sym unique ∙ sticky in grind arith

-- so a place that refers to its address is its own
pub honest_sole : (held : ℕ → Field) → Honest held → (p q : ℕ) (r : Reference) → held p ≡ To r → r.tag ≡ Unique → refers_to r.address (held q) ≡ true → q ≡ p
honest_sole held honest p q r e unique h = ⊎_elim (λ same. same) (λ ne. absurd (honest p r e unique (q, ne, h))) (cases_eq q p)
