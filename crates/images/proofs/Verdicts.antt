-- Bytes that keep the rules are an image, and bytes that break one are none.
use Rattle.std.proofs.Common.{◌≡◌, ℕ, zero, suc, ◌+◌, ◌*◌, ◌^◌, ◌<◌, ◌≤◌, Bool, true, false, List, ◌++◌, length, get_or, drop, Some, None, Decides, Option, sym, refl, ap, ◌∙◌, subst, ap₂, ⊎_elim, arith}
use Rattle.std.specs.List.{flat_map}
use Rattle.std.proofs.lemmas.List.{length-drop, get_or-drop}
use Rattle.std.proofs.lemmas.Bool.{cases_lt, cases_eq}
use Rattle.std.proofs.lemmas.Bool.Decides.{nat_tests, Decides-like}
use Rattle.cells.specs.declared.Reference.{Reference}
use Rattle.cells.specs.declared.Field.{Field}
use Rattle.cells.specs.declared.Field.TheVariants.{Nil, To}
use Rattle.cells.specs.declared.Cell.TheVariants.{Blank}
use Rattle.cells.specs.Leaves.{Laws}
use Rattle.packing.specs.Cells.{pack_cell}
use Rattle.graph.specs.Graphs.{Alike}
use Rattle.graph.proofs.Matching.{alike_reflexive}
use Rattle.graph.proofs.Same.{lawful_accepted, canonical_alike_are_equal}
use Rattle.graph.specs.Places.{holds, refers_to, meeting, met, is_node, Canonical}
use Rattle.graph.proofs.Reading.{met_rises, met_start, met_step, refers_link, link_reference}
use Rattle.images.specs.declared.faults.Flaw.{Flaw}
use Rattle.images.specs.declared.faults.Flaw.TheVariants.{BadHand, BadCell, Outside, OutOfOrder, Unmet, WrongTag}
use Rattle.images.specs.declared.faults.Fault.{Fault}
use Rattle.images.specs.declared.faults.Fault.TheVariants.{TooShort, WrongKind, TooManyCells, WrongLength, Flawed}
use Rattle.images.specs.Layout.{two_bytes, hand_bytes, image_of, stored_hands, stored_cells, held, kind_in, count_in, hands_in, cells_in}
use Rattle.images.specs.Images.{ImageOf, NoImage, HeldImage, graph_in}
use Rattle.images.specs.Faults.{number_of, Broken, Faulty, misheaded, headed}
use Rattle.images.specs.Surveys.{Kept, Tagged, Surveys}
use Rattle.images.proofs.Bytes.{bytes_headed}
use Rattle.images.proofs.Stored.{stored_sixteen, stored_count, stored_cell_lem, held_past}
use Rattle.images.proofs.Spelled.{image_kind, hand_here, length_here, count_here, canonical_here, rest_spelled, leaves_lawful}

-- a place whose field refers to an address holds a reference with it
reference_from : (f : Field) (a : ℕ) → refers_to a f ≡ true → (x : Reference) × (f ≡ To x) × (x.address ≡ a)
reference_from f a e = link_reference f a (refers_link f a e)

-- where all references are inside, no more addresses are met than there are cells
meeting_inside : (m r : ℕ) (f : Field) → m ≤ r → ((x : Reference) → f ≡ To x → x.address < r) → meeting m f ≤ r
meeting_inside m r Nil h inside = h
meeting_inside m r (To x) h inside = let i = inside x refl in grind (arith, nat_tests)

met_inside : (at : ℕ → Field) (r p : ℕ) → ((q : ℕ) (x : Reference) → q < p → at q ≡ To x → x.address < r) → met at p ≤ r
met_inside at r zero inside = let s = met_start at in omega arith
met_inside at r (suc p) inside =
    let i = meeting_inside (met at p) r (at p) (met_inside at r p (λ q x l. inside q x (omega arith))) (λ x. inside p x (omega arith)) in
    let s = met_step at p in
    omega arith

-- what the heading tells
heading_right : (kind wanted count size : ℕ) → misheaded kind wanted count size ≡ None → (kind ≡ wanted) × (count ≤ 32768) × (size ≡ 68 + 9 * count)
heading_right kind wanted count size e = (grind (arith, nat_tests), grind (arith, nat_tests), grind (arith, nat_tests))

heading_wrong : {V : Type 0} (taken : ℕ → Option V) (number : ℕ) (bytes : List ℕ) (fault : Fault) → misheaded (kind_in bytes) number (count_in bytes) (length bytes) ≡ Some fault → Faulty taken number bytes fault
heading_wrong taken number bytes fault e = ⊎_elim kind other (cases_eq (kind_in bytes) number)
  where
    kind : kind_in bytes ≡ number → Faulty taken number bytes fault
    kind h = ⊎_elim few many (cases_lt 32768 (count_in bytes))
      where
        few : 32768 < count_in bytes → Faulty taken number bytes fault
        few l = let z : fault ≡ TooManyCells (count_in bytes) = grind (arith, nat_tests) in rw z (refl, l)

        many : count_in bytes ≤ 32768 → Faulty taken number bytes fault
        many l =
            let odd : length bytes ≡ 68 + 9 * count_in bytes → ⊥ = λ k. (grind (arith, nat_tests)) in
            let z : fault ≡ WrongLength (length bytes) (count_in bytes) = grind (arith, nat_tests) in
            rw z (refl, refl, odd)

    other : (kind_in bytes ≡ number → ⊥) → Faulty taken number bytes fault
    other h = let z : fault ≡ WrongKind (kind_in bytes) = grind (arith, nat_tests) in rw z (refl, h)

pub headed_right : (number : ℕ) (bytes : List ℕ) → None ≡ headed number bytes → (kind_in bytes ≡ number) × (count_in bytes ≤ 32768) × (length bytes ≡ 68 + 9 * count_in bytes)
headed_right number bytes e = heading_right (kind_in bytes) number (count_in bytes) (length bytes) (grind (arith, nat_tests))

pub headed_wrong : {V : Type 0} (taken : ℕ → Option V) (number : ℕ) (bytes : List ℕ) (fault : Fault) → Some fault ≡ headed number bytes → Faulty taken number bytes fault
headed_wrong taken number bytes fault e =
    ⊎_elim
    (λ l. let z : fault ≡ TooShort = grind (arith, nat_tests) in rw z l)
    (λ l. heading_wrong taken number bytes fault (grind (arith, nat_tests)))
    (cases_lt (length bytes) 4)

module _ {V : Type 0} (taken : ℕ → Option V) (rest : List ℕ) (r : ℕ) (K : Kept taken rest r (16 + 2 * r)) (T : Tagged (held taken rest r) (16 + 2 * r)) where
  -- the last cell is met before it is read, so all are
  all_met : (n : ℕ) → r ≡ n → met (held taken rest r) (16 + 2 * r) ≡ r
  all_met zero e = let m = met_inside (held taken rest r) r (16 + 2 * r) K.inside in omega arith
  all_met (suc n) e =
      let m = met_inside (held taken rest r) r (16 + 2 * r) K.inside in
      let l = K.early n (omega arith) in
      let u = met_rises (held taken rest r) (16 + 2 * n) (16 + 2 * r) (omega arith) in
      omega arith

  pub stored_canonical : Canonical (stored_hands rest) (stored_cells taken rest r)
  unfolding held
  stored_canonical =
      let c = stored_count taken rest r in
      record {
        sixteen = stored_sixteen rest;
        kinds = λ j h. let k : j < r = omega arith in ap is_node (stored_cell_lem taken rest r j k) ∙ K.kinds j (omega arith);
        inside = λ p x h e. let i = K.inside p x (omega arith) e in omega arith;
        order = λ p x h e. K.order p x (omega arith) e;
        early = λ j h. K.early j (omega arith);
        all = ap (λ n. met (holds (stored_hands rest) (stored_cells taken rest r)) (16 + 2 * n)) c ∙ all_met r refl ∙ sym c;
        tags = λ p x e. ⊎_elim (λ l. T p x l e) (λ l. absurd (let z = held_past taken rest r p l in let w : Nil ≡ To x = sym z ∙ e in grind arith)) (cases_lt p (16 + 2 * r));
      }

-- what a survey says of the rest of bytes
pub surveyed_rest : {V : Type 0} (taken : ℕ → Option V) (bytes : List ℕ) {rest : List ℕ} {r : ℕ} (o : Option Flaw) → rest ≡ drop 4 bytes → r ≡ count_in bytes → Surveys taken rest r o → Surveys taken (drop 4 bytes) (count_in bytes) o
surveyed_rest taken bytes {r = r} o here n s = subst (λ r. Surveys taken (drop 4 bytes) r o) n (subst (λ rest. Surveys taken rest r o) here s)

-- for a leaf kind that keeps its laws
module _ {V : Type 0} {lawful : V → Bool} {tidied : V → Option V} {word : V → ℕ} {taken : ℕ → Option V} {alike : V → V → Bool} (laws : Laws lawful tidied word taken alike) (number : ℕ) (bytes : List ℕ) where
  pub rules_image : ((k : ℕ) → get_or bytes k 0 < 256) → kind_in bytes ≡ number → count_in bytes ≤ 32768 → length bytes ≡ 68 + 9 * count_in bytes → Kept taken (drop 4 bytes) (count_in bytes) (16 + 2 * count_in bytes) → Tagged (held taken (drop 4 bytes) (count_in bytes)) (16 + 2 * count_in bytes) → ImageOf lawful word number bytes (hands_in bytes) (cells_in taken bytes)
  unfolding image_of
  rules_image small kind few len K T =
      let rest : List ℕ = drop 4 bytes in
      let r : ℕ = count_in bytes in
      let long : length rest ≡ 64 + 9 * r = length-drop 4 bytes ∙ (omega arith) in
      let low : (k : ℕ) → get_or rest k 0 < 256 = λ k. rw get_or-drop (small (4 + k)) in
      let count = stored_count taken rest r in
      let rest-is = rest_spelled laws rest r long low (λ i h. K.hands i h (omega arith)) (λ j h. K.kinds j (omega arith)) in
      record {
        few = rw count few;
        canonical = stored_canonical taken rest r K T;
        leaves = leaves_lawful laws rest r long low (λ i h. K.hands i h (omega arith)) (λ j h. K.kinds j (omega arith));
        spelled =
            bytes_headed bytes (omega arith) small
            ∙ ap (λ l. two_bytes (kind_in bytes) ++ (two_bytes r ++ l)) rest-is
            ∙ ap₂ (λ k n. two_bytes k ++ (two_bytes n ++ (flat_map hand_bytes (stored_hands rest) ++ flat_map (pack_cell lawful word) (stored_cells taken rest r)))) kind (sym count);
      }

  flaw_no_image : (flaw : Flaw) → Broken taken (drop 4 bytes) (count_in bytes) flaw → NoImage lawful word number bytes
  unfolding held
  flaw_no_image (BadHand i) b hands cells I = let h = hand_here laws I i b.0 in let e = b.1 in grind arith
  flaw_no_image (BadCell j) b hands cells I =
      let C = canonical_here laws I in
      let n = stored_count taken (drop 4 bytes) (count_in bytes) in
      let k = C.kinds j (omega (arith, b.0)) in
      let e : is_node (get_or (cells_in taken bytes) j Blank) ≡ false = ap is_node (stored_cell_lem taken (drop 4 bytes) (count_in bytes) j b.0) ∙ b.1 in
      grind arith
  flaw_no_image (Outside place a) b hands cells I =
      let C = canonical_here laws I in
      let n = stored_count taken (drop 4 bytes) (count_in bytes) in
      let w = reference_from (held taken (drop 4 bytes) (count_in bytes) (number_of place)) a b.1 in
      let i = C.inside (number_of place) w.0 (omega (arith, b.0)) w.1 in
      omega (arith, w.2, b.2)
  flaw_no_image (OutOfOrder place a next) b hands cells I =
      let C = canonical_here laws I in
      let n = stored_count taken (drop 4 bytes) (count_in bytes) in
      let w = reference_from (held taken (drop 4 bytes) (count_in bytes) (number_of place)) a b.1 in
      let o = C.order (number_of place) w.0 (omega (arith, b.0)) w.1 in
      omega (arith, w.2, b.2, b.3)
  flaw_no_image (Unmet j) b hands cells I =
      let C = canonical_here laws I in
      let n = stored_count taken (drop 4 bytes) (count_in bytes) in
      let e = C.early j (omega (arith, b.0)) in
      omega (arith, b.1)
  flaw_no_image (WrongTag place x) b hands cells I = b.1 ((canonical_here laws I).tags (number_of place) x b.0)

  short_no_image : length bytes < 4 → NoImage lawful word number bytes
  short_no_image short hands cells I = let l = length_here laws I in omega arith

  pub fault_no_image : number < 2 ^ 16 → (fault : Fault) → Faulty taken number bytes fault → NoImage lawful word number bytes
  fault_no_image small TooShort b hands cells I = short_no_image b hands cells I
  fault_no_image small (WrongKind k) b hands cells I = b.1 (sym b.0 ∙ ap kind_in I.spelled ∙ image_kind lawful word number hands cells small)
  fault_no_image small (TooManyCells n) b hands cells I = let c = count_here laws I in omega (arith, I.few, b.0, b.1)
  fault_no_image small (WrongLength n r) b hands cells I = let l = length_here laws I in let c = count_here laws I in b.2 (omega (arith, b.0, b.1))
  fault_no_image small (Flawed flaw) b hands cells I = flaw_no_image flaw b hands cells I

-- images are equal exactly when their graphs are alike
module _ {V : Type 0} {lawful : V → Bool} {tidied : V → Option V} {word : V → ℕ} {taken : ℕ → Option V} {alike : V → V → Bool} (laws : Laws lawful tidied word taken alike) (number : ℕ) (a b : List ℕ) (A : HeldImage lawful word taken number a) (B : HeldImage lawful word taken number b) where
  equal_alike : a ≡ b → Alike alike (graph_in taken a) (graph_in taken b)
  equal_alike e =
      subst (λ bs. Alike alike (graph_in taken a) (graph_in taken bs)) e
      (alike_reflexive laws (graph_in taken a) (lawful_accepted laws (hands_in a) (cells_in taken a) A.leaves))

  alike_equal : Alike alike (graph_in taken a) (graph_in taken b) → a ≡ b
  alike_equal L =
      let e = canonical_alike_are_equal laws (hands_in a) (hands_in b) (cells_in taken a) (cells_in taken b) A.canonical B.canonical A.leaves B.leaves L in
      A.spelled ∙ ap₂ (image_of lawful word number) e.0 e.1 ∙ sym B.spelled

  pub equal_decides : (r : Bool) → Decides r (a ≡ b) → Decides r (Alike alike (graph_in taken a) (graph_in taken b))
  equal_decides r d = Decides-like r equal_alike alike_equal d
