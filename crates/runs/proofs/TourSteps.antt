-- A collection on its way: what its steps keep, and that none is spoiled. Assumes nothing.
use Rattle.std.proofs.Common.{◌≡◌, ℕ, zero, suc, ◌+◌, ◌-◌, ◌*◌, ◌<◌, ◌≤◌, Bool, true, false, cond, not, ◌&&◌, ltb, ◌⊎◌, List, length, get_or, take, set, sym, refl, ap, ◌∙◌, subst, inl, inr, arith, length-set, get_or-set_other, get_or-take, get_or-set_same}
use Rattle.std.proofs.lemmas.Bool.Decides.{nat_tests}
use Rattle.std.proofs.lemmas.Bool.{cases_lt, cases_eq, or_from, and_left, and_right, not_from_true}
use Rattle.cells.specs.declared.Tag.{Tag}
use Rattle.cells.specs.declared.Tag.TheVariants.{Unique, Sticky}
use Rattle.cells.specs.declared.Reference.{Reference}
use Rattle.cells.specs.declared.Field.{Field}
use Rattle.cells.specs.declared.Field.TheVariants.{Nil, To}
use Rattle.cells.specs.declared.Cell.{Cell}
use Rattle.cells.specs.declared.Cell.TheVariants.{Blank, Pair, Leaf, Moved}
use Rattle.graph.specs.Places.{place_of, cell_of, side_of, field_of, holds, is_node, Honest}
use Rattle.graph.specs.Graphs.{Graph}
use Rattle.graph.proofs.Reading.{holds_hand, holds_place}
use Rattle.graph.proofs.Counting.{how_many, no_room}
use Rattle.store.specs.Fields.{unique, sticky, is_unique}
use Rattle.collector.specs.Steps.{Tour, Stand, finished, hands_with, cells_with, source_at, place_from, source_good, cell_spoiled, field_spoiled, step_spoiled, passed, marked_old, copied_over, taken_over, second_met, met_cell, met_field, stepped, march}
use Rattle.collector.specs.Collections.{march_all}
use Rattle.runs.specs.Sound.{Sound, held_below}
use Rattle.runs.proofs.Tagging.{refers_to_lem}
use Rattle.runs.proofs.Held.{upd, upd_here, upd_there}
use Rattle.runs.proofs.TourVisits.{put, put_here, put_there, put_below, Log, ref, was, was_hand, was_side, was_sole, Visits, copy_log, again_log, start_log, visits_start, visits_nil, visits_copy, visits_again, space_left}
use Rattle.runs.proofs.TourPlaces.{bare, bare_node, with_holds, copy_before, copy_own, hands_length, cells_length, cells_bare, source_good_lem, place_from_source, many_like, many_more}

-- what a collection starts from: sixteen hands, nodes below the mark, references that lead below it, UNIQUE ones honest
pub record Begun {V : Type 0} (size mark : ℕ) (hands : List Field) (cells : List (Cell V)) : Type 0 where
  pub size_cells : length cells ≡ size
  pub mark_size : mark ≤ size
  pub sixteen : length hands ≡ 16
  pub nodes : (a : ℕ) → a < mark → is_node (get_or cells a Blank) ≡ true
  pub inside : (p : ℕ) (r : Reference) → held_below mark hands cells p ≡ To r → r.address < mark
  pub honest : Honest (held_below mark hands cells)

pub begun_sound : {V : Type 0} {lawful : V → Bool} {size mark : ℕ} {hands : List Field} {free : List ℕ} {cells : List (Cell V)} {G : Graph V}
    → Sound lawful size mark hands free cells G → Begun size mark hands cells
begun_sound s = record {
  size_cells = s.size_cells;
  mark_size = s.mark_size;
  sixteen = s.sixteen;
  nodes = s.nodes;
  inside = s.tags.inside;
  honest = s.tags.honest;
}

abbrev pub sticky_tag : Tag → Bool
sticky_tag t = not (is_unique t)

-- what a place holds now
abbrev pub held_now : {V : Type 0} → Tour V → ℕ → Field
held_now t = holds t.hands t.new

-- Where a collection stands that started from these hands and cells.
pub record Touring {V : Type 0} (size mark : ℕ) (hands : List Field) (cells : List (Cell V)) (t : Tour V) (L : Log) : Type 0 where
  pub same_mark : t.mark ≡ mark
  pub same_size : t.size ≡ size
  pub sixteen : length t.hands ≡ 16
  pub old_size : length t.old ≡ size
  pub new_size : length t.new ≡ size
  -- places
  pub visits : Visits mark (held_below mark hands cells) (held_now t) t.steps t.copied L
  -- a copied cell is of its old cell's kind, a leaf with its value
  pub kinds : (j : ℕ) → j < t.copied → bare (get_or t.new j Blank) ≡ bare (get_or cells (L.orig j) Blank)
  -- an old cell that was first met by a STICKY reference is moved, and any other is as it was
  pub moved : (j : ℕ) → j < t.copied → L.entry j ≡ Sticky
      → get_or t.old (L.orig j) Blank ≡ Moved (record { tag = L.tags j; address = j }) (source_at (L.first j))
  pub kept : (a : ℕ) → ((j : ℕ) → j < t.copied → L.entry j ≡ Sticky → L.orig j ≡ a → ⊥) → get_or t.old a Blank ≡ get_or cells a Blank
  -- one mark for each cell first met by a STICKY reference, and one for each cell met twice
  pub marked : t.marks ≡ how_many (λ j. sticky_tag (L.entry j)) t.copied + how_many (λ j. sticky_tag (L.tags j)) t.copied

-- no more cells are copied than lie below the mark
pub copied_below : {V : Type 0} {size mark : ℕ} {hands : List Field} {cells : List (Cell V)} {t : Tour V} {L : Log}
    → Touring size mark hands cells t L → t.copied ≤ mark
copied_below {mark = mark} {t = t} {L = L} T = no_room t.copied mark L.orig T.visits.below T.visits.once

-- ---- the start

pub touring_start : {V : Type 0} {size mark : ℕ} {hands : List Field} {cells : List (Cell V)} → Begun size mark hands cells
    → (spare : List (Cell V)) → length spare ≡ size
    → Touring size mark hands cells (record { mark = mark; size = size; hands = hands; old = cells; new = spare; steps = 0; copied = 0; marks = 0 }) start_log
touring_start {V} {size} {mark} {hands} {cells} b spare l = record {
  same_mark = refl;
  same_size = refl;
  sixteen = b.sixteen;
  old_size = b.size_cells;
  new_size = l;
  visits = visits_start mark (held_below mark hands cells) (holds hands spare) (λ p h. holds_hand hands spare p h ∙ sym (holds_hand hands (take mark cells) p h));
  kinds = λ j h. absurd (omega arith);
  moved = λ j h. absurd (omega arith);
  kept = λ a h. refl;
  marked = refl;
}

-- whether an address is copied
pub sought : (f : ℕ → ℕ) (a k : ℕ) → ((j : ℕ) × (j < k) × (f j ≡ a)) ⊎ ((j : ℕ) → j < k → f j ≡ a → ⊥)
sought f a zero = inr (λ j h e. omega arith)
sought f a (suc k) =
    elim (cases_eq (f k) a) [
      | inl e ↦ inl (k, omega arith, e)
      | inr n ↦ elim (sought f a k) [
        | inl x ↦ inl (x.0, (let h = x.1 in omega arith), x.2)
        | inr none ↦ inr (λ j h e. elim (cases_eq j k) [
          | inl q ↦ n (ap f (sym q) ∙ e)
          | inr m ↦ none j (omega arith) e
        ])
      ]
    ]

-- ---- a step

module _ {V : Type 0} {size mark : ℕ} {hands : List Field} {cells : List (Cell V)} (b : Begun size mark hands cells)
    (t : Tour V) (L : Log) (T : Touring size mark hands cells t L) (room : t.steps < 16 + 2 * t.copied) where
  v_now : Visits mark (held_below mark hands cells) (held_now t) t.steps t.copied L
  v_now = T.visits

  -- nothing is held here
  pub touring_passed : held_now t t.steps ≡ Nil → Touring size mark hands cells (passed t) L
  touring_passed e = record {
    same_mark = T.same_mark;
    same_size = T.same_size;
    sixteen = T.sixteen;
    old_size = T.old_size;
    new_size = T.new_size;
    visits = visits_nil v_now room e;
    kinds = T.kinds;
    moved = T.moved;
    kept = T.kept;
    marked = T.marked;
  }

  -- the copied cell that a place from 16 on belongs to is a pair or a leaf
  cell_good : (not (ltb t.steps 16) && not (is_node (get_or t.new (cell_of t.steps) Blank))) ≡ false
  cell_good =
      elim (cases_lt t.steps 16) [
        | inl h ↦ and_left (not (ltb t.steps 16)) (not (is_node (get_or t.new (cell_of t.steps) Blank))) (grind (arith, nat_tests))
        | inr h ↦
            let k : cell_of t.steps < t.copied = omega arith in
            and_right (not (ltb t.steps 16)) (not (is_node (get_or t.new (cell_of t.steps) Blank)))
            (not_from_true (is_node (get_or t.new (cell_of t.steps) Blank))
            (bare_node (get_or t.new (cell_of t.steps) Blank) (get_or cells (L.orig (cell_of t.steps)) Blank) (T.kinds (cell_of t.steps) k)
            (b.nodes (L.orig (cell_of t.steps)) (T.visits.below (cell_of t.steps) k))))
      ]

  spoiled_by : (f : Field) → held_now t t.steps ≡ f → field_spoiled t f ≡ false → step_spoiled t ≡ false
  spoiled_by f e h =
      or_from (not (ltb t.steps 16) && not (is_node (get_or t.new (cell_of t.steps) Blank))) (field_spoiled t (held_now t t.steps))
      cell_good (ap (field_spoiled t) e ∙ h)

  module _ (r : Reference) (there : held_now t t.steps ≡ To r) where
    was_there : was (held_below mark hands cells) L.orig t.steps ≡ To r
    was_there = sym (T.visits.ahead t.steps (omega arith) room) ∙ there

    low : r.address < mark
    low =
        elim (cases_lt t.steps 16) [
          | inl h ↦ b.inside t.steps r (sym (was_hand (held_below mark hands cells) L.orig t.steps h) ∙ was_there)
          | inr h ↦ b.inside (place_of (side_of t.steps) (L.orig (cell_of t.steps))) r (sym (was_side (held_below mark hands cells) L.orig t.steps h) ∙ was_there)
        ]

    -- ---- a first visit
    module _ (fresh : (j : ℕ) → j < t.copied → L.orig j ≡ r.address → ⊥) where
      space : t.copied < size
      space = let n = space_left v_now r.address low fresh in let m = b.mark_size in omega arith

      -- the old cell is marked, and no other
      other_old : (a : ℕ) → (r.tag ≡ Sticky → a ≡ r.address → ⊥) → get_or (marked_old t r) a Blank ≡ get_or t.old a Blank
      other_old a n = go r.tag refl
        where
          go : (g : Tag) → r.tag ≡ g → get_or (marked_old t r) a Blank ≡ get_or t.old a Blank
          go Unique e = ap (λ x. get_or (cond (is_unique x) t.old (set t.old r.address (Moved (record { tag = Unique; address = t.copied }) (source_at t.steps)))) a Blank) e
          go Sticky e =
              ap (λ x. get_or (cond (is_unique x) t.old (set t.old r.address (Moved (record { tag = Unique; address = t.copied }) (source_at t.steps)))) a Blank) e
              ∙ get_or-set_other t.old r.address a (Moved (record { tag = Unique; address = t.copied }) (source_at t.steps)) Blank (n e)

      marked_old_lem : r.tag ≡ Sticky → get_or (marked_old t r) r.address Blank ≡ Moved (record { tag = Unique; address = t.copied }) (source_at t.steps)
      marked_old_lem e =
          ap (λ x. get_or (cond (is_unique x) t.old (set t.old r.address (Moved (record { tag = Unique; address = t.copied }) (source_at t.steps)))) r.address Blank) e
          ∙ get_or-set_same t.old r.address (Moved (record { tag = Unique; address = t.copied }) (source_at t.steps)) Blank
          (let l = T.old_size in let m = b.mark_size in let n = low in omega arith)

      old_length : length (marked_old t r) ≡ length t.old
      old_length = go (is_unique r.tag)
        where
          go : (g : Bool) → length (cond g t.old (set t.old r.address (Moved (record { tag = Unique; address = t.copied }) (source_at t.steps)))) ≡ length t.old
          go true = refl
          go false = length-set t.old r.address (Moved (record { tag = Unique; address = t.copied }) (source_at t.steps))

      module _ (c : Cell V) (is : get_or cells r.address Blank ≡ c) where
        held_copy : (q : ℕ) → held_now (copied_over t r c) q ≡ upd t.steps (unique t.copied) (holds t.hands (set t.new t.copied c)) q
        held_copy q = with_holds t.hands (set t.new t.copied c) t.steps (unique t.copied) r T.sixteen (copy_before t.hands t.new t.copied c t.steps room ∙ there) q

        was_own : (q : ℕ) → 16 + 2 * t.copied ≤ q → q < 16 + 2 * suc t.copied
            → field_of (side_of q) c ≡ was (held_below mark hands cells) (put t.copied r.address L.orig) q
        was_own q h g =
            let e : put t.copied r.address L.orig (cell_of q) ≡ r.address = put_here t.copied (cell_of q) r.address L.orig (omega arith) in
            ap (field_of (side_of q)) (sym is)
            ∙ ap (field_of (side_of q)) (sym (get_or-take mark cells r.address Blank low))
            ∙ sym (holds_place hands (take mark cells) (side_of q) r.address)
            ∙ ap (λ a. held_below mark hands cells (place_of (side_of q) a)) (sym e)
            ∙ sym (was_side (held_below mark hands cells) (put t.copied r.address L.orig) q (omega arith))

        copy_visits : Visits mark (held_below mark hands cells) (held_now (copied_over t r c)) (suc t.steps) (suc t.copied) (copy_log L t.copied t.steps r)
        copy_visits =
            visits_copy v_now room r there low fresh (held_now (copied_over t r c))
            (held_copy t.steps ∙ upd_here t.steps (unique t.copied) (holds t.hands (set t.new t.copied c)))
            (λ p h n. held_copy p ∙ upd_there t.steps p (unique t.copied) (holds t.hands (set t.new t.copied c)) n ∙ copy_before t.hands t.new t.copied c p h)
            (λ p h g. held_copy p ∙ upd_there t.steps p (unique t.copied) (holds t.hands (set t.new t.copied c)) (λ e. omega arith)
            ∙ copy_own t.hands t.new t.copied c p (let l = T.new_size in let n = space in omega arith) h g ∙ was_own p h g)

        copy_kinds : (j : ℕ) → j < suc t.copied → bare (get_or (copied_over t r c).new j Blank) ≡ bare (get_or cells (put t.copied r.address L.orig j) Blank)
        copy_kinds j h =
            let l = length-set t.new t.copied c in
            let m = T.new_size in
            let n = space in
            cells_bare t.hands (set t.new t.copied c) t.steps (unique t.copied) j (omega arith) ∙ elim (cases_eq j t.copied) [
              | inl e ↦
                  ap (λ z. bare (get_or (set t.new t.copied c) z Blank)) e
                  ∙ ap bare (get_or-set_same t.new t.copied c Blank (omega arith) ∙ sym is)
                  ∙ ap (λ a. bare (get_or cells a Blank)) (sym (put_here t.copied j r.address L.orig e))
              | inr d ↦
                  ap bare (get_or-set_other t.new t.copied j c Blank d) ∙ T.kinds j (omega arith)
                  ∙ ap (λ a. bare (get_or cells a Blank)) (sym (put_there t.copied j r.address L.orig d))
            ]

        copy_moved : (j : ℕ) → j < suc t.copied → (copy_log L t.copied t.steps r).entry j ≡ Sticky
            → get_or (marked_old t r) ((copy_log L t.copied t.steps r).orig j) Blank
            ≡ Moved (record { tag = (copy_log L t.copied t.steps r).tags j; address = j }) (source_at ((copy_log L t.copied t.steps r).first j))
        copy_moved j h e =
            elim (cases_eq j t.copied) [
              | inl q ↦
                  let a = put_here t.copied j r.address L.orig q in
                  let d = put_here t.copied j t.steps L.first q in
                  let g = put_here t.copied j Unique L.tags q in
                  let m = marked_old_lem (sym (put_here t.copied j r.tag L.entry q) ∙ e) in
                  ap (λ x. get_or (marked_old t r) x Blank) a ∙ m ∙ ap (λ x. Moved (record { tag = Unique; address = x }) (source_at t.steps)) (sym q)
                  ∙ ap (λ x. Moved (record { tag = x; address = j }) (source_at t.steps)) (sym g)
                  ∙ ap (λ x. Moved (record { tag = put t.copied Unique L.tags j; address = j }) (source_at x)) (sym d)
              | inr n ↦
                  let a = put_there t.copied j r.address L.orig n in
                  let d = put_there t.copied j t.steps L.first n in
                  let g = put_there t.copied j Unique L.tags n in
                  let m = T.moved j (omega arith) (sym (put_there t.copied j r.tag L.entry n) ∙ e) in
                  ap (λ x. get_or (marked_old t r) x Blank) a ∙ other_old (L.orig j) (λ _ z. fresh j (omega arith) z) ∙ m
                  ∙ ap (λ x. Moved (record { tag = x; address = j }) (source_at (L.first j))) (sym g)
                  ∙ ap (λ x. Moved (record { tag = put t.copied Unique L.tags j; address = j }) (source_at x)) (sym d)
            ]

        copy_kept : (a : ℕ) → ((j : ℕ) → j < suc t.copied → (copy_log L t.copied t.steps r).entry j ≡ Sticky → (copy_log L t.copied t.steps r).orig j ≡ a → ⊥)
            → get_or (marked_old t r) a Blank ≡ get_or cells a Blank
        copy_kept a n =
            other_old a (λ e q. n t.copied (omega arith) (put_here t.copied t.copied r.tag L.entry refl ∙ e) (put_here t.copied t.copied r.address L.orig refl ∙ sym q))
            ∙ T.kept a (λ j h e q. n j (omega arith) (put_below t.copied j r.tag L.entry h ∙ e) (put_below t.copied j r.address L.orig h ∙ q))

        copy_marked : (copied_over t r c).marks ≡ how_many (λ j. sticky_tag ((copy_log L t.copied t.steps r).entry j)) (suc t.copied) + how_many (λ j. sticky_tag ((copy_log L t.copied t.steps r).tags j)) (suc t.copied)
        copy_marked =
            let x = many_like (λ j. sticky_tag (put t.copied r.tag L.entry j)) (λ j. sticky_tag (L.entry j)) t.copied (λ j h. ap sticky_tag (put_below t.copied j r.tag L.entry h)) in
            let y = many_like (λ j. sticky_tag (put t.copied Unique L.tags j)) (λ j. sticky_tag (L.tags j)) t.copied (λ j h. ap sticky_tag (put_below t.copied j Unique L.tags h)) in
            let a = put_here t.copied t.copied r.tag L.entry refl in
            let d = put_here t.copied t.copied Unique L.tags refl in
            let m = T.marked in
            go r.tag (put t.copied r.tag L.entry t.copied) (put t.copied Unique L.tags t.copied) a d x y m
          where
            go : (g e f : Tag) {x y n m k : ℕ} → e ≡ g → f ≡ Unique → x ≡ n → y ≡ m → k ≡ n + m
                → cond (is_unique g) k (suc k) ≡ cond (sticky_tag e) (suc x) x + cond (sticky_tag f) (suc y) y
            go g e f p q a b c = grind (arith, nat_tests)

        pub touring_copied : Touring size mark hands cells (copied_over t r c) (copy_log L t.copied t.steps r)
        touring_copied = record {
          same_mark = T.same_mark;
          same_size = T.same_size;
          sixteen = hands_length t.hands t.new t.steps (unique t.copied) ∙ T.sixteen;
          old_size = old_length ∙ T.old_size;
          new_size = cells_length t.hands (set t.new t.copied c) t.steps (unique t.copied) ∙ length-set t.new t.copied c ∙ T.new_size;
          visits = copy_visits;
          kinds = copy_kinds;
          moved = copy_moved;
          kept = copy_kept;
          marked = copy_marked;
        }

    -- ---- a later visit
    module _ (j : ℕ) (hj : j < t.copied) (hit : L.orig j ≡ r.address) where
      -- a UNIQUE reference is the only one, so the cell was first met by a STICKY one
      entered_sticky : L.entry j ≡ Sticky
      entered_sticky = go (L.entry j) refl
        where
          go : (g : Tag) → L.entry j ≡ g → L.entry j ≡ Sticky
          go Sticky e = e
          go Unique e =
              let x = T.visits.gone j hj in
              let y : t.steps ≡ L.first j =
              was_sole (held_below mark hands cells) L.orig t.copied b.honest T.visits.once (L.first j) t.steps (L.orig j)
              (omega arith) room (T.visits.came j hj ∙ ap (λ z. ref z (L.orig j)) e)
              (refers_to_lem (was (held_below mark hands cells) L.orig t.steps) r (L.orig j) was_there (sym hit)) in
              absurd (omega arith)

      cell_moved : get_or t.old r.address Blank ≡ Moved (record { tag = L.tags j; address = j }) (source_at (L.first j))
      cell_moved = ap (λ a. get_or t.old a Blank) (sym hit) ∙ T.moved j hj entered_sticky

      held_first : held_now t (L.first j) ≡ ref (L.tags j) j
      held_first =
          let m = T.visits.met (L.first j) (record { tag = L.entry j; address = L.orig j }) (T.visits.gone j hj) (T.visits.came j hj) in
          let e : m.0 ≡ j = T.visits.once m.0 j m.1 hj m.2 in
          m.3 ∙ ap (λ i. ref (L.tags i) i) e

      -- a STICKY forward
      module _ (s : L.tags j ≡ Sticky) where
        held_taken : (q : ℕ) → held_now (taken_over t (record { tag = Sticky; address = j })) q ≡ upd t.steps (ref Sticky j) (held_now t) q
        held_taken q = with_holds t.hands t.new t.steps (ref Sticky j) r T.sixteen there q

        tags_taken : (i : ℕ) → (again_log L j).tags i ≡ L.tags i
        tags_taken i =
            elim (cases_eq i j) [
              | inl e ↦ put_here j i Sticky L.tags e ∙ sym s ∙ ap L.tags (sym e)
              | inr n ↦ put_there j i Sticky L.tags n
            ]

        taken_visits : Visits mark (held_below mark hands cells) (held_now (taken_over t (record { tag = Sticky; address = j }))) (suc t.steps) t.copied (again_log L j)
        taken_visits =
            visits_again v_now room r there j hj hit (held_now (taken_over t (record { tag = Sticky; address = j })))
            (held_taken t.steps ∙ upd_here t.steps (ref Sticky j) (held_now t))
            (held_taken (L.first j) ∙ upd_there t.steps (L.first j) (ref Sticky j) (held_now t) (λ e. (let g = T.visits.gone j hj in omega arith)) ∙ held_first ∙ ap (λ z. ref z j) s)
            (λ p h n m. held_taken p ∙ upd_there t.steps p (ref Sticky j) (held_now t) n)

        pub touring_taken : Touring size mark hands cells (taken_over t (record { tag = Sticky; address = j })) (again_log L j)
        touring_taken = record {
          same_mark = T.same_mark;
          same_size = T.same_size;
          sixteen = hands_length t.hands t.new t.steps (ref Sticky j) ∙ T.sixteen;
          old_size = T.old_size;
          new_size = cells_length t.hands t.new t.steps (ref Sticky j) ∙ T.new_size;
          visits = taken_visits;
          kinds = λ i h. cells_bare t.hands t.new t.steps (ref Sticky j) i (let m = copied_below T in let n = b.mark_size in let l = T.new_size in omega arith) ∙ T.kinds i h;
          moved = λ i h e. T.moved i h e ∙ ap (λ x. Moved (record { tag = x; address = i }) (source_at (L.first i))) (sym (tags_taken i));
          kept = T.kept;
          marked = (let x = many_like (λ i. sticky_tag ((again_log L j).tags i)) (λ i. sticky_tag (L.tags i)) t.copied (λ i h. ap sticky_tag (tags_taken i)) in let m = T.marked in omega arith);
        }

      -- a UNIQUE forward
      module _ (u : L.tags j ≡ Unique) (q : ℕ) (source : q ≡ L.first j) where
        first_other : q ≡ t.steps → ⊥
        first_other e = let g = T.visits.gone j hj in omega arith

        held_one : (p : ℕ) → holds (hands_with t.steps (sticky j) t.hands) (cells_with t.steps (sticky j) t.new) p ≡ upd t.steps (sticky j) (held_now t) p
        held_one p = with_holds t.hands t.new t.steps (sticky j) r T.sixteen there p

        held_two : (p : ℕ) → holds (hands_with q (sticky j) (hands_with t.steps (sticky j) t.hands)) (cells_with q (sticky j) (cells_with t.steps (sticky j) t.new)) p
            ≡ upd q (sticky j) (holds (hands_with t.steps (sticky j) t.hands) (cells_with t.steps (sticky j) t.new)) p
        held_two p =
            with_holds (hands_with t.steps (sticky j) t.hands) (cells_with t.steps (sticky j) t.new) q (sticky j) (record { tag = L.tags j; address = j })
            (hands_length t.hands t.new t.steps (sticky j) ∙ T.sixteen)
            (held_one q ∙ upd_there t.steps q (sticky j) (held_now t) first_other ∙ ap (held_now t) source ∙ held_first) p

        second_visits : Visits mark (held_below mark hands cells) (holds (hands_with q (sticky j) (hands_with t.steps (sticky j) t.hands)) (cells_with q (sticky j) (cells_with t.steps (sticky j) t.new))) (suc t.steps) t.copied (again_log L j)
        second_visits =
            visits_again v_now room r there j hj hit
            (holds (hands_with q (sticky j) (hands_with t.steps (sticky j) t.hands)) (cells_with q (sticky j) (cells_with t.steps (sticky j) t.new)))
            (held_two t.steps ∙ upd_there q t.steps (sticky j) (holds (hands_with t.steps (sticky j) t.hands) (cells_with t.steps (sticky j) t.new)) (λ e. first_other (sym e))
            ∙ held_one t.steps ∙ upd_here t.steps (sticky j) (held_now t))
            (ap (holds (hands_with q (sticky j) (hands_with t.steps (sticky j) t.hands)) (cells_with q (sticky j) (cells_with t.steps (sticky j) t.new))) (sym source)
            ∙ held_two q ∙ upd_here q (sticky j) (holds (hands_with t.steps (sticky j) t.hands) (cells_with t.steps (sticky j) t.new)))
            (λ p h n m. held_two p ∙ upd_there q p (sticky j) (holds (hands_with t.steps (sticky j) t.hands) (cells_with t.steps (sticky j) t.new)) (λ e. m (e ∙ source))
            ∙ held_one p ∙ upd_there t.steps p (sticky j) (held_now t) n)

        second_moved : (f : Cell V) → f ≡ Moved (record { tag = Sticky; address = j }) (source_at (L.first j)) → (i : ℕ) → i < t.copied → L.entry i ≡ Sticky
            → get_or (set t.old r.address f) (L.orig i) Blank ≡ Moved (record { tag = (again_log L j).tags i; address = i }) (source_at (L.first i))
        second_moved f is i h e =
            elim (cases_eq i j) [
              | inl x ↦
                  ap (λ a. get_or (set t.old r.address f) a Blank) (ap L.orig x ∙ hit)
                  ∙ get_or-set_same t.old r.address f Blank (let l = T.old_size in let m = b.mark_size in let n = low in omega arith)
                  ∙ is ∙ ap (λ z. Moved (record { tag = Sticky; address = z }) (source_at (L.first z))) (sym x)
                  ∙ ap (λ z. Moved (record { tag = z; address = i }) (source_at (L.first i))) (sym (put_here j i Sticky L.tags x))
              | inr n ↦
                  get_or-set_other t.old r.address (L.orig i) f Blank (λ z. n (T.visits.once i j h hj (z ∙ sym hit)))
                  ∙ T.moved i h e ∙ ap (λ z. Moved (record { tag = z; address = i }) (source_at (L.first i))) (sym (put_there j i Sticky L.tags n))
            ]

        second_marked : suc t.marks ≡ how_many (λ i. sticky_tag (L.entry i)) t.copied + how_many (λ i. sticky_tag ((again_log L j).tags i)) t.copied
        second_marked =
            let x = many_more (λ i. sticky_tag (L.tags i)) (λ i. sticky_tag ((again_log L j).tags i)) t.copied j hj (ap sticky_tag u) (ap sticky_tag (put_here j j Sticky L.tags refl))
            (λ i h n. ap sticky_tag (put_there j i Sticky L.tags n)) in
            let m = T.marked in
            omega arith

      pub touring_second : L.tags j ≡ Unique → Touring size mark hands cells (second_met t r (record { tag = Unique; address = j }) (source_at (L.first j))) (again_log L j)
      touring_second u = record {
        same_mark = T.same_mark;
        same_size = T.same_size;
        sixteen = hands_length (hands_with t.steps (sticky j) t.hands) t.new (place_from (source_at (L.first j))) (sticky j) ∙ hands_length t.hands t.new t.steps (sticky j) ∙ T.sixteen;
        old_size = length-set t.old r.address (Moved (record { tag = Sticky; address = j }) (source_at (L.first j))) ∙ T.old_size;
        new_size = cells_length t.hands (cells_with t.steps (sticky j) t.new) (place_from (source_at (L.first j))) (sticky j) ∙ cells_length t.hands t.new t.steps (sticky j) ∙ T.new_size;
        visits = second_visits u (place_from (source_at (L.first j))) (place_from_source (L.first j));
        kinds = λ i h.
            (let m = copied_below T in let n = b.mark_size in let l = T.new_size in let k = cells_length t.hands t.new t.steps (sticky j) in
            cells_bare t.hands (cells_with t.steps (sticky j) t.new) (place_from (source_at (L.first j))) (sticky j) i (omega arith)
            ∙ cells_bare t.hands t.new t.steps (sticky j) i (omega arith) ∙ T.kinds i h);
        moved = second_moved u (L.first j) refl (Moved (record { tag = Sticky; address = j }) (source_at (L.first j))) refl;
        kept = λ a n. get_or-set_other t.old r.address a (Moved (record { tag = Sticky; address = j }) (source_at (L.first j))) Blank (λ z. n j hj entered_sticky (hit ∙ sym z)) ∙ T.kept a n;
        marked = second_marked u (L.first j) refl;
      }

  -- ---- any visit

  -- the next step is not spoiled, and leaves the collection where it should stand
  pub record Stepping : Type 0 where
    pub good : step_spoiled t ≡ false
    pub one_more_lem : (stepped t).steps ≡ suc t.steps
    pub log : Log
    pub touring : Touring size mark hands cells (stepped t) log

  step_is : (f : Field) → held_now t t.steps ≡ f → stepped t ≡ met_field t f
  unfolding stepped
  step_is f e = ap (met_field t) e

  stepping : (f : Field) (t' : Tour V) (L' : Log) → held_now t t.steps ≡ f → field_spoiled t f ≡ false → met_field t f ≡ t' → t'.steps ≡ suc t.steps → Touring size mark hands cells t' L' → Stepping
  stepping f t' L' e h m n T' = record {
    good = spoiled_by f e h;
    one_more_lem = ap (λ x. x.steps) (step_is f e ∙ m) ∙ n;
    log = L';
    touring = subst (λ x. Touring size mark hands cells x L') (sym (step_is f e ∙ m)) T';
  }

  field_good : (r : Reference) (c : Cell V) → held_now t t.steps ≡ To r → get_or t.old r.address Blank ≡ c → cell_spoiled t c ≡ false → field_spoiled t (To r) ≡ false
  field_good r c e g h =
      or_from (not (ltb r.address t.mark)) (cell_spoiled t (get_or t.old r.address Blank))
      (let l = low r e in let m = T.same_mark in grind (arith, nat_tests)) (ap (cell_spoiled t) g ∙ h)

  step_first : (r : Reference) → held_now t t.steps ≡ To r → ((j : ℕ) → j < t.copied → L.orig j ≡ r.address → ⊥) → Stepping
  step_first r e fresh = go (get_or cells r.address Blank) refl (b.nodes r.address (low r e))
    where
      old_is : get_or t.old r.address Blank ≡ get_or cells r.address Blank
      old_is = T.kept r.address (λ j h _ q. fresh j h q)

      full : not (ltb t.copied t.size) ≡ false
      full = let n = space r e fresh in let m = T.same_size in grind (arith, nat_tests)

      go : (c : Cell V) → get_or cells r.address Blank ≡ c → is_node (get_or cells r.address Blank) ≡ true → Stepping
      go Blank q h = absurd (let x : is_node {V = V} Blank ≡ true = sym (ap is_node q) ∙ h in let z : ◌≡◌ {A = ℕ} 0 1 = cc in omega arith)
      go (Moved f s) q h = absurd (let x : is_node {V = V} (Moved f s) ≡ true = sym (ap is_node q) ∙ h in let z : ◌≡◌ {A = ℕ} 0 1 = cc in omega arith)
      go (Pair x y) q h =
          stepping (To r) (copied_over t r (Pair x y)) (copy_log L t.copied t.steps r) e (field_good r (Pair x y) e (old_is ∙ q) full)
          (ap (met_cell t r) (old_is ∙ q)) refl (touring_copied r e fresh (Pair x y) q)
      go (Leaf v) q h =
          stepping (To r) (copied_over t r (Leaf v)) (copy_log L t.copied t.steps r) e (field_good r (Leaf v) e (old_is ∙ q) full)
          (ap (met_cell t r) (old_is ∙ q)) refl (touring_copied r e fresh (Leaf v) q)

  step_later : (r : Reference) → held_now t t.steps ≡ To r → (j : ℕ) → j < t.copied → L.orig j ≡ r.address → Stepping
  step_later r e j hj hit = go (L.tags j) refl
    where
      is : (g : Tag) → L.tags j ≡ g → get_or t.old r.address Blank ≡ Moved (record { tag = g; address = j }) (source_at (L.first j))
      is g q = cell_moved r e j hj hit ∙ ap (λ z. Moved (record { tag = z; address = j }) (source_at (L.first j))) q

      known : not (ltb j t.copied) ≡ false
      known = grind (arith, nat_tests)

      go : (g : Tag) → L.tags j ≡ g → Stepping
      go Sticky q =
          stepping (To r) (taken_over t (record { tag = Sticky; address = j })) (again_log L j) e (field_good r (Moved (record { tag = Sticky; address = j }) (source_at (L.first j))) e (is Sticky q) known)
          (ap (met_cell t r) (is Sticky q)) refl (touring_taken r e j hj hit q)
      go Unique q =
          let g : source_good t.copied t.new (source_at (L.first j)) ≡ true =
          source_good_lem t.hands t.new t.copied (L.first j) (record { tag = L.tags j; address = j }) (let x = T.visits.gone j hj in omega arith) (held_first r e j hj hit) in
          stepping (To r) (second_met t r (record { tag = Unique; address = j }) (source_at (L.first j))) (again_log L j) e
          (field_good r (Moved (record { tag = Unique; address = j }) (source_at (L.first j))) e (is Unique q)
          (or_from (not (ltb j t.copied)) (not (source_good t.copied t.new (source_at (L.first j)))) known (not_from_true (source_good t.copied t.new (source_at (L.first j))) g)))
          (ap (met_cell t r) (is Unique q)) refl (touring_second r e j hj hit q)

  pub step_keeps : Stepping
  step_keeps = go (held_now t t.steps) refl
    where
      go : (f : Field) → held_now t t.steps ≡ f → Stepping
      go Nil e = stepping Nil (passed t) L e refl refl refl (touring_passed e)
      go (To r) e =
          elim (sought L.orig r.address t.copied) [
            | inl x ↦ step_later r e x.0 x.1 x.2
            | inr n ↦ step_first r e n
          ]

-- ---- several steps

march_none : {V : Type 0} (t : Tour V) → march 0 t ≡ record { tour = t; broken = false }
unfolding march
march_none t = refl

march_done : {V : Type 0} (n : ℕ) (t : Tour V) → finished t ≡ true → march (suc n) t ≡ record { tour = t; broken = false }
unfolding march
march_done n t h = ap (λ f. cond f (record { tour = t; broken = false }) (cond (step_spoiled t) (record { tour = t; broken = true }) (march n (stepped t)))) h

march_more : {V : Type 0} (n : ℕ) (t : Tour V) → finished t ≡ false → step_spoiled t ≡ false → march (suc n) t ≡ march n (stepped t)
unfolding march
march_more n t h g =
    ap (λ f. cond f (record { tour = t; broken = false }) (cond (step_spoiled t) (record { tour = t; broken = true }) (march n (stepped t)))) h
    ∙ ap (λ f. cond f (record { tour = t; broken = true }) (march n (stepped t))) g

-- a march that is not broken, and where it leaves the collection
pub record Marched {V : Type 0} (size mark : ℕ) (hands : List Field) (cells : List (Cell V)) (m : Stand V) : Type 0 where
  pub good : m.broken ≡ false
  pub log : Log
  pub touring : Touring size mark hands cells m.tour log

module _ {V : Type 0} {size mark : ℕ} {hands : List Field} {cells : List (Cell V)} (b : Begun size mark hands cells) where
  stays : (m : Stand V) (t : Tour V) (L : Log) → m ≡ record { tour = t; broken = false } → Touring size mark hands cells t L → Marched size mark hands cells m
  stays m t L e T = record { good = ap (λ x. x.broken) e; log = L; touring = subst (λ x. Touring size mark hands cells x.tour L) (sym e) T }

  pub march_keeps : (n : ℕ) (t : Tour V) (L : Log) → Touring size mark hands cells t L → Marched size mark hands cells (march n t)
  march_keeps zero t L T = stays (march zero t) t L (march_none t) T
  march_keeps (suc n) t L T =
      elim (cases_lt t.steps (16 + 2 * t.copied)) [
        | inr h ↦ stays (march (suc n) t) t L (march_done n t (grind (arith, nat_tests))) T
        | inl h ↦
            let s = step_keeps b t L T h in
            subst (Marched size mark hands cells) (sym (march_more n t (grind (arith, nat_tests)) s.good)) (march_keeps n (stepped t) s.log s.touring)
      ]

  -- a march that is long enough visits all places of hands and copied cells
  pub march_ends : (n : ℕ) (t : Tour V) (L : Log) → Touring size mark hands cells t L → 16 + 2 * size ≤ n + t.steps → (march n t).tour.steps ≡ 16 + 2 * (march n t).tour.copied
  march_ends zero t L T l =
      let e = march_none t in
      let k = copied_below T in
      let d = T.visits.due in
      let m = b.mark_size in
      let x : t.steps ≡ 16 + 2 * t.copied = omega arith in
      ap (λ z. z.tour.steps) e ∙ x ∙ ap (λ z. 16 + 2 * z.tour.copied) (sym e)
  march_ends (suc n) t L T l =
      elim (cases_lt t.steps (16 + 2 * t.copied)) [
        | inr h ↦
            let e = march_done n t (grind (arith, nat_tests)) in
            let d = T.visits.due in
            let x : t.steps ≡ 16 + 2 * t.copied = omega arith in
            ap (λ z. z.tour.steps) e ∙ x ∙ ap (λ z. 16 + 2 * z.tour.copied) (sym e)
        | inl h ↦
            let s = step_keeps b t L T h in
            let e = march_more n t (grind (arith, nat_tests)) s.good in
            let o = s.one_more_lem in
            ap (λ z. z.tour.steps) e ∙ march_ends n (stepped t) s.log s.touring (omega arith) ∙ ap (λ z. 16 + 2 * z.tour.copied) (sym e)
      ]

  -- all the steps that are left: none is spoiled, and all places are visited
  pub march_all_keeps : (t : Tour V) (L : Log) → Touring size mark hands cells t L → Marched size mark hands cells (march_all t)
  march_all_keeps t L T = march_keeps (16 + 2 * t.size - t.steps) t L T

  pub march_all_ends : (t : Tour V) (L : Log) → Touring size mark hands cells t L → (march_all t).tour.steps ≡ 16 + 2 * (march_all t).tour.copied
  march_all_ends t L T = march_ends (16 + 2 * t.size - t.steps) t L T (let e = T.same_size in omega arith)
