-- An image holds the hands and cells that it was made of, and bytes that keep the rules are the image of what stands in them.
use Rattle.std.proofs.Common.{◌≡◌, ℕ, zero, suc, ◌+◌, ◌-◌, ◌*◌, ◌^◌, ◌<◌, ◌≤◌, Bool, true, false, ◌&&◌, ltb, leb, List, [], ◌∷◌, ◌++◌, length, get_or, take, drop, is_some, Some, None, Option, sym, refl, ap, ◌∙◌, subst, ap₂, ⊎_elim, append-nil, arith}
use Rattle.std.specs.List.{flat_map}
use Rattle.std.proofs.lemmas.List.{length-append, length-drop, length-take-le, take-append-drop, drop_at, drop-drop, take-take, drop-take, get_or_past}
use Rattle.std.proofs.lemmas.List.FromFn.{fill_by_all}
use Rattle.std.proofs.lemmas.Bool.{cases_lt, and_from, lt-ltb, cond-true, cond-false}
use Rattle.std.proofs.lemmas.Bool.Decides.{nat_tests}
use Rattle.cells.specs.declared.Reference.{Reference}
use Rattle.cells.specs.declared.Field.{Field}
use Rattle.cells.specs.declared.Field.TheVariants.{Nil, To}
use Rattle.cells.specs.declared.Side.TheVariants.{Left, Right}
use Rattle.cells.specs.declared.Cell.{Cell}
use Rattle.cells.specs.declared.Cell.TheVariants.{Blank, Pair, Leaf, Moved}
use Rattle.cells.specs.Leaves.{Laws}
use Rattle.cells.specs.Banks.{cell_at, leaf_lawful}
use Rattle.packing.specs.Fields.{pack_field, unpack_field, field_fits}
use Rattle.packing.specs.Cells.{pack_cell, unpack_cell, cell_fits}
use Rattle.packing.proofs.Fields.{field_back, field_only, field_small}
use Rattle.packing.proofs.Cells.{cell_length, cell_back, cell_only, cell_lawful}
use Rattle.graph.specs.Places.{place_of, field_of, holds, is_node, Canonical, Lawful}
use Rattle.graph.proofs.Reading.{holds_hand, holds_place}
use Rattle.images.specs.Layout.{four_bytes, four_at, hand_bytes, image_of, stored_hand, stored_cell, or_nil, stored_hands, stored_cells, kind_in, count_in, hands_in, cells_in}
use Rattle.images.specs.Images.{ImageOf, hand_of, cell_of, OneReading}
use Rattle.images.proofs.Bytes.{part_get_d, four_at_lem, bytes_four, length_parts, part_of, parts_make}
use Rattle.images.proofs.Stored.{stored_sixteen, stored_hand_lem, stored_count, stored_cell_lem}

pub hand_length : (f : Field) → length (hand_bytes f) ≡ 4
hand_length f = refl

-- fields with small addresses fit
field_fits_if : (f : Field) → ((x : Reference) → f ≡ To x → x.address < 2 ^ 16) → field_fits f ≡ true
field_fits_if Nil small = refl
field_fits_if (To x) small = lt-ltb x.address (2 ^ 16) (small x refl)

cell_lawful_if : {V : Type 0} (lawful : V → Bool) (c : Cell V) → ((v : V) → c ≡ Leaf v → lawful v ≡ true) → leaf_lawful lawful c ≡ true
cell_lawful_if lawful Blank ok = refl
cell_lawful_if lawful (Pair l r) ok = refl
cell_lawful_if lawful (Leaf v) ok = ok v refl
cell_lawful_if lawful (Moved f s) ok = refl

cell_fits_if : {V : Type 0} (c : Cell V) → is_node c ≡ true → field_fits (field_of Left c) ≡ true → field_fits (field_of Right c) ≡ true → cell_fits c ≡ true
cell_fits_if Blank k l r = refl
cell_fits_if (Pair x y) k l r = and_from (field_fits x) (field_fits y) l r
cell_fits_if (Leaf v) k l r = refl
cell_fits_if (Moved f s) k l r = absurd (grind arith)

some_value : {X : Type 0} (o : Option X) → is_some o ≡ true → (x : X) × (o ≡ Some x)
some_value None e = absurd (grind arith)
some_value (Some x) e = (x, refl)

-- a part that lies within the first m bytes
part_within : (bs : List ℕ) (n p m : ℕ) → p + n ≤ m → take n (drop p (take m bs)) ≡ take n (drop p bs)
part_within bs n p m h =
    let e : m ≡ p + (m - p) = omega arith in
    ap (λ k. take n (drop p (take k bs))) e ∙ ap (take n) (drop-take p (m - p) bs) ∙ take-take n (m - p) (drop p bs) (omega arith)

-- the cell at an address of a list
pub cell_at_inside : {V : Type 0} (cells : List (Cell V)) (j : ℕ) → j < length cells → cell_at cells j ≡ Some (get_or cells j Blank)
cell_at_inside [] j h = absurd (omega arith)
cell_at_inside (c ∷ cs) zero h = refl
cell_at_inside (c ∷ cs) (suc j) h = cell_at_inside cs j (omega arith)

cell_at_past_lem : {V : Type 0} (cells : List (Cell V)) (j : ℕ) → length cells ≤ j → cell_at cells j ≡ None
cell_at_past_lem [] j h = refl
cell_at_past_lem (c ∷ cs) zero h = absurd (omega arith)
cell_at_past_lem (c ∷ cs) (suc j) h = cell_at_past_lem cs j (omega arith)

-- where an image has what
module _ {V : Type 0} (lawful : V → Bool) (word : V → ℕ) (number : ℕ) (hands : List Field) (cells : List (Cell V)) where
  image_rest : drop 4 (image_of lawful word number hands cells) ≡ flat_map hand_bytes hands ++ flat_map (pack_cell lawful word) cells
  unfolding image_of
  image_rest = refl

  pub image_kind : number < 2 ^ 16 → kind_in (image_of lawful word number hands cells) ≡ number
  unfolding image_of
  image_kind small = omega arith

  pub image_count : length cells ≤ 32768 → count_in (image_of lawful word number hands cells) ≡ length cells
  unfolding image_of
  image_count few = omega arith

  pub image_length : length hands ≡ 16 → length (image_of lawful word number hands cells) ≡ 68 + 9 * length cells
  unfolding image_of
  image_length sixteen =
      let a = length-append (flat_map hand_bytes hands) (flat_map (pack_cell lawful word) cells) in
      let h = length_parts hand_bytes 4 hand_length hands in
      let c = length_parts (pack_cell lawful word) 9 (cell_length lawful word) cells in
      omega arith

  hand_part : (i : ℕ) → i < length hands → take 4 (drop (4 * i) (drop 4 (image_of lawful word number hands cells))) ≡ hand_bytes (get_or hands i Nil)
  hand_part i h = ap (λ l. take 4 (drop (4 * i) l)) image_rest ∙ part_of hand_bytes 4 hand_length hands (flat_map (pack_cell lawful word) cells) i Nil h

  cell_part : length hands ≡ 16 → (j : ℕ) → j < length cells → take 9 (drop (64 + 9 * j) (drop 4 (image_of lawful word number hands cells))) ≡ pack_cell lawful word (get_or cells j Blank)
  cell_part sixteen j h =
      let front : length (flat_map hand_bytes hands) ≡ 64 = length_parts hand_bytes 4 hand_length hands ∙ ap (λ n. 4 * n) sixteen in
      let all : List ℕ = flat_map (pack_cell lawful word) cells in
      ap (λ l. take 9 (drop (64 + 9 * j) l)) image_rest
      ∙ ap (take 9) (sym (drop-drop (9 * j) 64 (flat_map hand_bytes hands ++ all)) ∙ ap (drop (9 * j)) (drop_at (flat_map hand_bytes hands) all 64 front))
      ∙ ap (λ l. take 9 (drop (9 * j) l)) (sym (append-nil all))
      ∙ part_of (pack_cell lawful word) 9 (cell_length lawful word) cells [] j Blank h

-- for a leaf kind that keeps its laws
module _ {V : Type 0} {lawful : V → Bool} {tidied : V → Option V} {word : V → ℕ} {taken : ℕ → Option V} {alike : V → V → Bool} (laws : Laws lawful tidied word taken alike) where
  module _ {number : ℕ} {bytes : List ℕ} {hands : List Field} {cells : List (Cell V)} (I : ImageOf lawful word number bytes hands cells) where
    held_small : (p : ℕ) (x : Reference) → p < 16 + 2 * length cells → holds hands cells p ≡ To x → x.address < 2 ^ 16
    held_small p x h e = let i = I.canonical.inside p x h e in omega (arith, I.few)

    hand_fits : (i : ℕ) → i < 16 → field_fits (get_or hands i Nil) ≡ true
    hand_fits i h = field_fits_if (get_or hands i Nil) (λ x e. held_small i x (omega arith) (holds_hand hands cells i h ∙ e))

    cell_fits_here : (j : ℕ) → j < length cells → cell_fits (get_or cells j Blank) ≡ true
    cell_fits_here j h =
        cell_fits_if (get_or cells j Blank) (I.canonical.kinds j h)
        (field_fits_if (field_of Left (get_or cells j Blank)) (λ x e. held_small (place_of Left j) x (omega arith) (holds_place hands cells Left j ∙ e)))
        (field_fits_if (field_of Right (get_or cells j Blank)) (λ x e. held_small (place_of Right j) x (omega arith) (holds_place hands cells Right j ∙ e)))

    -- each hand and each cell stands where it should
    pub hand_here : (i : ℕ) → i < 16 → stored_hand (drop 4 bytes) i ≡ Some (get_or hands i Nil)
    unfolding stored_hand
    hand_here i h =
        let f : Field = get_or hands i Nil in
        let part : take 4 (drop (4 * i) (drop 4 bytes)) ≡ four_bytes (pack_field f) = ap (λ l. take 4 (drop (4 * i) (drop 4 l))) I.spelled ∙ hand_part lawful word number hands cells i (omega (arith, I.canonical.sixteen)) in
        ap unpack_field (four_at_lem (drop 4 bytes) (4 * i) (pack_field f) (field_small f (hand_fits i h)) part) ∙ field_back f (hand_fits i h)

    pub cell_here : (j : ℕ) → j < length cells → stored_cell taken (drop 4 bytes) j ≡ get_or cells j Blank
    unfolding stored_cell
    cell_here j h =
        ap (λ l. unpack_cell taken (take 9 (drop (64 + 9 * j) (drop 4 l)))) I.spelled
        ∙ ap (unpack_cell taken) (cell_part lawful word number hands cells I.canonical.sixteen j h)
        ∙ cell_back laws (get_or cells j Blank) (cell_lawful_if lawful (get_or cells j Blank) (I.leaves j)) (cell_fits_here j h)

    pub count_here : count_in bytes ≡ length cells
    count_here = ap count_in I.spelled ∙ image_count lawful word number hands cells I.few

    pub hands_here : hands ≡ hands_in bytes
    unfolding stored_hands
    hands_here = fill_by_all (λ i. or_nil (stored_hand (drop 4 bytes) i)) hands 16 Nil I.canonical.sixteen (λ i h. sym (ap or_nil (hand_here i h)))

    pub cells_here : cells ≡ cells_in taken bytes
    unfolding stored_cells
    cells_here =
        fill_by_all (stored_cell taken (drop 4 bytes)) cells (length cells) Blank refl (λ j h. sym (cell_here j h))
        ∙ ap (stored_cells taken (drop 4 bytes)) (sym count_here)

    -- so the hands and cells that stand in an image are canonical
    pub canonical_here : Canonical (hands_in bytes) (cells_in taken bytes)
    canonical_here = subst (λ (p : List Field × List (Cell V)). Canonical p.0 p.1) (λ i. (hands_here i, cells_here i)) I.canonical

    pub image_here : ImageOf lawful word number bytes (hands_in bytes) (cells_in taken bytes)
    image_here = subst (λ (p : List Field × List (Cell V)). ImageOf lawful word number bytes p.0 p.1) (λ i. (hands_here i, cells_here i)) I

    pub length_here : length bytes ≡ 68 + 9 * length cells
    length_here = ap length I.spelled ∙ image_length lawful word number hands cells I.canonical.sixteen

    pub hand_found : (i : ℕ) → i < 16 → hand_of bytes i ≡ Some (get_or hands i Nil)
    hand_found i h = let l = length_here in cond-true (ltb i 16 && leb (8 + 4 * i) (length bytes)) (stored_hand (drop 4 bytes) i) None (grind (arith, nat_tests)) ∙ hand_here i h

    pub cell_found : (j : ℕ) → cell_of taken bytes j ≡ cell_at cells j
    cell_found j = ⊎_elim inside outside (cases_lt j (length cells))
      where
        inside : j < length cells → cell_of taken bytes j ≡ cell_at cells j
        inside h =
            let l = length_here in
            let n = count_here in
            cond-true (ltb j (count_in bytes) && leb (77 + 9 * j) (length bytes)) (Some (stored_cell taken (drop 4 bytes) j)) None (grind (arith, nat_tests))
            ∙ ap Some (cell_here j h) ∙ sym (cell_at_inside cells j h)

        outside : length cells ≤ j → cell_of taken bytes j ≡ cell_at cells j
        outside h =
            let n = count_here in
            cond-false (ltb j (count_in bytes) && leb (77 + 9 * j) (length bytes)) (Some (stored_cell taken (drop 4 bytes) j)) None (grind (arith, nat_tests))
            ∙ sym (cell_at_past_lem cells j h)

  pub one_reading : (number : ℕ) → OneReading lawful word taken number
  one_reading number =
      record {
        hands_one = λ bytes hands cells I. hands_here I;
        cells_one = λ bytes hands cells I. cells_here I;
        hand_found = λ bytes hands cells I. hand_found I;
        cell_found = λ bytes hands cells I. cell_found I;
      }

  -- the other way: bytes of which every hand is a field and every cell a pair or a leaf are spelled by what stands in them
  module _ (rest : List ℕ) (r : ℕ) (len : length rest ≡ 64 + 9 * r) (small : (k : ℕ) → get_or rest k 0 < 256) (fields : (i : ℕ) → i < 16 → is_some (stored_hand rest i) ≡ true) (kinds : (j : ℕ) → j < r → is_node (stored_cell taken rest j) ≡ true) where
    hand_word : (i : ℕ) → unpack_field (four_at rest (4 * i)) ≡ stored_hand rest i
    unfolding stored_hand
    hand_word i = refl

    cell_bytes : (j : ℕ) → unpack_cell taken (take 9 (drop (64 + 9 * j) rest)) ≡ stored_cell taken rest j
    unfolding stored_cell
    cell_bytes j = refl

    hand_spelled : (i : ℕ) → i < 16 → take 4 (drop (4 * i) (take 64 rest)) ≡ hand_bytes (get_or (stored_hands rest) i Nil)
    hand_spelled i h =
        let w = some_value (stored_hand rest i) (fields i h) in
        let only : pack_field w.0 ≡ four_at rest (4 * i) = field_only (four_at rest (4 * i)) w.0 (hand_word i ∙ w.1) in
        let there : get_or (stored_hands rest) i Nil ≡ w.0 = stored_hand_lem rest i h ∙ ap or_nil w.1 in
        let near : take 4 (drop (4 * i) (take 64 rest)) ≡ take 4 (drop (4 * i) rest) = part_within rest 4 (4 * i) 64 (omega arith) in
        near ∙ sym (bytes_four rest (4 * i) (omega arith) small) ∙ ap four_bytes (sym only) ∙ ap hand_bytes (sym there)

    cell_spelled : (j : ℕ) → j < r → take 9 (drop (9 * j) (drop 64 rest)) ≡ pack_cell lawful word (get_or (stored_cells taken rest r) j Blank)
    cell_spelled j h =
        let part : List ℕ = take 9 (drop (64 + 9 * j) rest) in
        let c : Cell V = stored_cell taken rest j in
        let long : length part ≡ 9 = length-take-le 9 (drop (64 + 9 * j) rest) (let d = length-drop (64 + 9 * j) rest in omega arith) in
        let node = kinds j h in
        let full : c ≡ Blank → ⊥ = λ e. let z : is_node c ≡ false = ap is_node e in grind arith in
        ap (take 9) (drop-drop (9 * j) 64 rest)
        ∙ sym (cell_only laws part long (λ k l. rw part_get_d (small (64 + 9 * j + k))) c (cell_bytes j) full)
        ∙ ap (pack_cell lawful word) (sym (stored_cell_lem taken rest r j h))

    pub rest_spelled : rest ≡ flat_map hand_bytes (stored_hands rest) ++ flat_map (pack_cell lawful word) (stored_cells taken rest r)
    rest_spelled =
        let sixteen = stored_sixteen rest in
        let count = stored_count taken rest r in
        sym (take-append-drop 64 rest)
        ∙ ap₂ ◌++◌
        (parts_make hand_bytes 4 hand_length (stored_hands rest) (take 64 rest) Nil (length-take-le 64 rest (omega arith) ∙ (omega arith)) (λ i h. hand_spelled i (omega arith)))
        (parts_make (pack_cell lawful word) 9 (cell_length lawful word) (stored_cells taken rest r) (drop 64 rest) Blank (length-drop 64 rest ∙ (omega arith)) (λ j h. cell_spelled j (omega arith)))

    pub leaves_lawful : Lawful lawful (stored_cells taken rest r)
    unfolding stored_cell
    leaves_lawful n v e = ⊎_elim (λ l. cell_lawful laws (take 9 (drop (64 + 9 * n) rest)) (Leaf v) (sym (stored_cell_lem taken rest r n l) ∙ e)) (λ l. absurd (let z = get_or_past (stored_cells taken rest r) n Blank (let c = stored_count taken rest r in omega arith) in grind arith)) (cases_lt n r)
