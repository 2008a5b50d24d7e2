-- A store that is opened from an image has its bank's size.
use Rattle.std.proofs.Common.{◌≡◌, ℕ, Bool, true, false, List, length, drop, Ok, Err, Option, Result, sym, refl, ap, ◌∙◌, subst, arith}
use Rattle.std.proofs.lemmas.List.{length-append, length-drop}
use Rattle.cells.specs.declared.causes.Cause.{Cause}
use Rattle.store.specs.Model.{is_collecting}
use Rattle.collector.specs.Collections.{Banks}
use Rattle.images.specs.Layout.{count_in, cells_in}
use Rattle.images.specs.Opening.{Restored, Opened}
use Rattle.images.proofs.Stored.{stored_count}
use Rattle.runs.specs.Rigs.{Fits, Replaced}
use Rattle.runs.proofs.Fitting.{idle_fits}

module _ {V : Type 0} (lawful : V → Bool) (word : V → ℕ) (taken : ℕ → Option V) (number : ℕ) (image : List ℕ) where
  restored_fits : (b b' : Banks V) → Restored lawful word taken number image b.cells b'.model b'.cells → Fits b'
  restored_fits b b' R =
      let size : b'.model.size ≡ length b.cells = ap (λ m. m.size) R.model in
      let idle : is_collecting b'.model.mode ≡ false = ap (λ m. is_collecting m.mode) R.model in
      let room = R.room in
      let front : length (cells_in taken image) ≡ count_in image = stored_count taken (drop 4 image) (count_in image) in
      let back = length-drop (count_in image) b.cells in
      let whole = length-append (cells_in taken image) (drop (count_in image) b.cells) in
      let long : length b'.cells ≡ length b.cells = ap length R.cells ∙ omega arith in
      idle_fits b' (long ∙ sym size) idle

  by_mode : (b b' : Banks V) (r : Result Unit Cause) (x : Bool) → is_collecting b.model.mode ≡ x → Replaced (Opened lawful word taken number image) b r b' → Fits b → Fits b'
  by_mode b b' r true busy p fits = subst Fits (sym (p.busy busy).1) fits
  by_mode b b' (Ok u) false idle p fits = restored_fits b b' (p.idle idle).0
  by_mode b b' (Err c) false idle p fits = subst Fits (sym (p.refused c refl)) fits

  pub replaced_fits : (b b' : Banks V) (r : Result Unit Cause) → Replaced (Opened lawful word taken number image) b r b' → Fits b → Fits b'
  replaced_fits b b' r p fits = by_mode b b' r (is_collecting b.model.mode) refl p fits
