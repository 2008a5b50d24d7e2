-- Reading one line more of a list, and its end.
use Rattle.std.proofs.Common.{◌≡◌, ℕ, suc, ◌+◌, ◌<◌, ◌≤◌, List, [], ◌∷◌, ◌++◌, length, get_or, drop, Some, None, Ok, Err, Option, Result, sym, refl, ap, ◌∙◌, subst, append_assoc, append-nil, arith, Bor}
use Rattle.std.proofs.lemmas.List.{drop_more, drop_all, length-map}
use Rattle.cells.specs.declared.causes.Cause.{Cause}
use Rattle.texts.specs.declared.lists.Entry.{Entry}
use Rattle.texts.specs.declared.lists.ListFault.{ListFault}
use Rattle.texts.specs.declared.lists.ListFault.TheVariants.{Memory, Unreadable}
use Rattle.texts.specs.Typed.{word_bytes}
use Rattle.texts.specs.Splits.{lines_of, words_of}
use Rattle.texts.specs.Lists.{Listing, after, Line, Listed, ends, passes, takes, stops, Entries, NoEntries}
use Rattle.texts.proofs.WordsAt.{word_at}

after_more : {V : Type 0} (xs ys : List (Entry V)) (e : Entry V) (r : Listing V) → ys ≡ xs ++ (e ∷ []) → after xs (after (e ∷ []) r) ≡ after ys r
after_more xs ys e (Ok more) p = ap Ok (sym (append_assoc xs (e ∷ []) more) ∙ ap (◌++ more) (sym p))
after_more xs ys e (Err n) p = refl

-- the lines, as the code has them
pub line_count : (ws : List (Bor (List ℕ))) (text : List ℕ) → word_bytes ws ≡ lines_of text → length (lines_of text) ≡ length ws
line_count ws text e = sym (ap length e) ∙ length-map ws (λ x. x.now)

pub line_at : (ws : List (Bor (List ℕ))) (text : List ℕ) (i : ℕ) (d : Bor (List ℕ)) → word_bytes ws ≡ lines_of text → i < length ws → (get_or ws i d).now ≡ get_or (lines_of text) i []
line_at ws text i d e l = word_at ws i d l ∙ ap (λ ls. get_or ls i []) e

pub after_none : {V : Type 0} (r : Listing V) → after [] r ≡ r
after_none (Ok xs) = refl
after_none (Err n) = refl

module _ {V : Type 0} (reads : List (List ℕ) → Option (Result V Cause) → Type 0) (tidied : V → Option V) (text : List ℕ) where
  -- what the lines from i on come to, put after the entries before them, is what all lines come to
  abbrev pub Upto : ℕ → List (Entry V) → Type 0
  Upto i entries = (r : Listing V) → Listed reads tidied (i + 1) (drop i (lines_of text)) r → Listed reads tidied 1 (lines_of text) (after entries r)

  module _ (i : ℕ) (entries : List (Entry V)) (inv : Upto i entries) (line : List ℕ) (inside : i < length (lines_of text)) (is : line ≡ get_or (lines_of text) i []) where
    from : (r : Listing V) → Listed reads tidied (i + 1) (line ∷ drop (i + 1) (lines_of text)) r → Listed reads tidied (i + 1) (drop i (lines_of text)) r
    from r k = subst (λ ls. Listed reads tidied (i + 1) ls r) (ap (◌∷ drop (i + 1) (lines_of text)) is ∙ sym (drop_more (lines_of text) i [] inside)) k

    next : (r : Listing V) → Listed reads tidied (i + 1 + 1) (drop (i + 1) (lines_of text)) r → Listed reads tidied (suc (i + 1)) (drop (i + 1) (lines_of text)) r
    next r k = let e : i + 1 + 1 ≡ suc (i + 1) = omega arith in subst (λ n. Listed reads tidied n (drop (i + 1) (lines_of text)) r) e k

    pub upto_passes : Line reads tidied (i + 1) (words_of line) (Ok None) → Upto (i + 1) entries
    upto_passes L r k = inv r (from r (passes L (next r k)))

    pub upto_takes : (more : List (Entry V)) (e : Entry V) → Line reads tidied (i + 1) (words_of line) (Ok (Some e)) → more ≡ entries ++ (e ∷ []) → Upto (i + 1) more
    upto_takes more e L p r k = subst (Listed reads tidied 1 (lines_of text)) (after_more entries more e r p) (inv (after (e ∷ []) r) (from (after (e ∷ []) r) (takes L (next r k))))

    pub upto_stops : (fault : ListFault) → Line reads tidied (i + 1) (words_of line) (Err fault) → NoEntries reads tidied text fault
    upto_stops Memory L = tt
    upto_stops (Unreadable m) L = inv (Err m) (from (Err m) (stops L))

  pub upto_ends : (i : ℕ) (entries : List (Entry V)) → Upto i entries → length (lines_of text) ≤ i → Entries reads tidied text entries
  upto_ends i entries inv l =
      subst (λ es. Listed reads tidied 1 (lines_of text) (Ok es)) (append-nil entries)
      (inv (Ok []) (subst (λ ls. Listed reads tidied (i + 1) ls (Ok [])) (sym (drop_all i (lines_of text) l)) ends))
