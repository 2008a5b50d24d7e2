-- Splitting a text at one byte more, and at its end.
use Rattle.std.proofs.Common.{◌≡◌, ℕ, ◌+◌, ◌-◌, ◌<◌, ◌≤◌, Bool, true, false, cond, List, [], ◌∷◌, ◌++◌, length, get_or, drop, IsUtf8, sym, ap, ◌∙◌, append_assoc, append-nil, arith, Bor}
use Rattle.std.specs.List.{between}
use Rattle.std.specs.Str.{IsCharBoundary}
use Rattle.std.proofs.lemmas.Str.{IsCharBoundary-after_ascii}
use Rattle.std.proofs.lemmas.List.{at_drop_more, at_drop_all, map_push}
use Rattle.std.proofs.lemmas.List.Edits.{between_none, between_more, length-between}
use Rattle.std.proofs.lemmas.Bool.Decides.{nat_tests}
use Rattle.texts.specs.declared.splits.Separator.{Separator}
use Rattle.texts.specs.declared.splits.Separator.TheVariants.{Newline, Space}
use Rattle.texts.specs.Typed.{word_bytes}
use Rattle.texts.specs.Splits.{separates, keeps, ended, pieces_from}

module _ (by : Separator) (text : List ℕ) (start i : ℕ) (behind : start ≤ i) where
  abbrev piece : List ℕ
  piece = between start i text

  piece_length : i ≤ length text → length piece ≡ i - start
  piece_length l = length-between text start i l

  -- the piece goes on
  pub on : (found : List (List ℕ)) (b : ℕ) → i < length text → b ≡ get_or text i 0 → false ≡ separates by b → found ++ pieces_from by piece (drop i text) ≡ pieces_from by [] text → found ++ pieces_from by (between start (i + 1) text) (drop (i + 1) text) ≡ pieces_from by [] text
  on found b l is told so =
      let next : pieces_from by piece (drop i text) ≡ cond (separates by (get_or text i 0)) (ended by piece (pieces_from by [] (drop (i + 1) text))) (pieces_from by (piece ++ (get_or text i 0 ∷ [])) (drop (i + 1) text)) = at_drop_more (pieces_from by piece) text i 0 l in
      let false-here : separates by (get_or text i 0) ≡ false = ap (separates by) (sym is) ∙ sym told in
      let longer = between_more text start i 0 behind l in
      ap (found ++◌) (ap (λ w. pieces_from by w (drop (i + 1) text)) longer ∙ sym (next ∙ ap (λ t. cond t (ended by piece (pieces_from by [] (drop (i + 1) text))) (pieces_from by (piece ++ (get_or text i 0 ∷ [])) (drop (i + 1) text))) false-here)) ∙ so

  -- the piece ends here, at a byte that separates
  cut : (found : List (List ℕ)) (b : ℕ) → i < length text → b ≡ get_or text i 0 → true ≡ separates by b → found ++ pieces_from by piece (drop i text) ≡ pieces_from by [] text → found ++ ended by piece (pieces_from by [] (drop (i + 1) text)) ≡ pieces_from by [] text
  cut found b l is told so =
      let next : pieces_from by piece (drop i text) ≡ cond (separates by (get_or text i 0)) (ended by piece (pieces_from by [] (drop (i + 1) text))) (pieces_from by (piece ++ (get_or text i 0 ∷ [])) (drop (i + 1) text)) = at_drop_more (pieces_from by piece) text i 0 l in
      let true-here : separates by (get_or text i 0) ≡ true = ap (separates by) (sym is) ∙ sym told in
      ap (found ++◌) (sym (next ∙ ap (λ t. cond t (ended by piece (pieces_from by [] (drop (i + 1) text))) (pieces_from by (piece ++ (get_or text i 0 ∷ [])) (drop (i + 1) text))) true-here)) ∙ so

  -- and it counts, or not, by the length that the code has
  kept : (rest : List (List ℕ)) → i ≤ length text → (t : Bool) → t ≡ keeps by (i - start) → ended by piece rest ≡ cond t (piece ∷ rest) rest
  kept rest l t e = ap (λ k. cond k (piece ∷ rest) rest) (ap (keeps by) (piece_length l) ∙ sym e)

  module _ (found : List (List ℕ)) (so : found ++ pieces_from by piece (drop i text) ≡ pieces_from by [] text) where
    fresh : (more : List (List ℕ)) → more ++ pieces_from by [] (drop (i + 1) text) ≡ pieces_from by [] text → more ++ pieces_from by (between (i + 1) (i + 1) text) (drop (i + 1) text) ≡ pieces_from by [] text
    fresh more e = ap (λ w. more ++ pieces_from by w (drop (i + 1) text)) (between_none text (i + 1)) ∙ e

    pub cut_kept : (more : List (List ℕ)) (b : ℕ) → i < length text → b ≡ get_or text i 0 → true ≡ separates by b → true ≡ keeps by (i - start) → more ≡ found ++ (piece ∷ []) → more ++ pieces_from by (between (i + 1) (i + 1) text) (drop (i + 1) text) ≡ pieces_from by [] text
    cut_kept more b l is told counts e =
        fresh more (ap (◌++ pieces_from by [] (drop (i + 1) text)) e ∙ append_assoc found (piece ∷ []) (pieces_from by [] (drop (i + 1) text))
        ∙ ap (found ++◌) (sym (kept (pieces_from by [] (drop (i + 1) text)) (omega arith) true counts)) ∙ cut found b l is told so)

    pub cut_none : (b : ℕ) → i < length text → b ≡ get_or text i 0 → true ≡ separates by b → false ≡ keeps by (i - start) → found ++ pieces_from by (between (i + 1) (i + 1) text) (drop (i + 1) text) ≡ pieces_from by [] text
    cut_none b l is told counts = fresh found (ap (found ++◌) (sym (kept (pieces_from by [] (drop (i + 1) text)) (omega arith) false counts)) ∙ cut found b l is told so)

    -- the last piece
    last : (e : i ≡ length text) (t : Bool) → t ≡ keeps by (i - start) → found ++ cond t (piece ∷ []) [] ≡ pieces_from by [] text
    last e t counts =
        let here : pieces_from by piece (drop i text) ≡ ended by piece [] = at_drop_all (pieces_from by piece) text i (omega arith) in
        ap (found ++◌) (sym (here ∙ kept [] (omega arith) t counts)) ∙ so

    pub last_kept : (more : List (List ℕ)) → i ≡ length text → true ≡ keeps by (i - start) → more ≡ found ++ (piece ∷ []) → more ≡ pieces_from by [] text
    last_kept more e counts p = p ∙ last e true counts

    pub last_none : i ≡ length text → false ≡ keeps by (i - start) → found ≡ pieces_from by [] text
    last_none e counts = sym (append-nil found) ∙ last e false counts

pub separates_ascii : (by : Separator) (b : ℕ) → true ≡ separates by b → b < 128
separates_ascii Newline b told = grind (arith, nat_tests)
separates_ascii Space b told = grind (arith, nat_tests)

-- what the loop keeps at i: the piece that goes on began at a place where the text may be cut, and what was found comes before it
abbrev pub At : Separator → List ℕ → List (List ℕ) → ℕ → ℕ → Type 0
At by text found start i = (start ≤ i) × IsCharBoundary text start × (found ++ pieces_from by (between start i text) (drop i text) ≡ pieces_from by [] text)

module _ (by : Separator) (text : List ℕ) (utf8 : IsUtf8 text) (found : List (List ℕ)) (start i : ℕ) (inv : At by text found start i) (b : ℕ) (inside : i < length text) (is : b ≡ get_or text i 0) where
  pub at_on : false ≡ separates by b → At by text found start (i + 1)
  at_on told = (omega arith, inv.1, on by text start i inv.0 found b inside is told inv.2)

  cuts : true ≡ separates by b → IsCharBoundary text (i + 1)
  cuts told = let low = separates_ascii by b told in IsCharBoundary-after_ascii text i utf8 inside (omega arith)

  pub at_kept : (more : List (List ℕ)) → true ≡ separates by b → true ≡ keeps by (i - start) → more ≡ found ++ (between start i text ∷ []) → At by text more (i + 1) (i + 1)
  at_kept more told counts e = (omega arith, cuts told, cut_kept by text start i inv.0 found inv.2 more b inside is told counts e)

  pub at_none : true ≡ separates by b → false ≡ keeps by (i - start) → At by text found (i + 1) (i + 1)
  at_none told counts = (omega arith, cuts told, cut_none by text start i inv.0 found inv.2 b inside is told counts)

-- one more piece in the list
pub one_more_lem : (xs ys : List (Bor (List ℕ))) (x : Bor (List ℕ)) (piece : List ℕ) → ys ≡ xs ++ (x ∷ []) → x.now ≡ piece → word_bytes ys ≡ word_bytes xs ++ (piece ∷ [])
one_more_lem xs ys x piece e is = ap word_bytes e ∙ map_push (λ x. x.now) xs x ∙ ap (λ w. word_bytes xs ++ (w ∷ [])) is
