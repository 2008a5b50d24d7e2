use Rattle.std.proofs.Common.{◌≡◌, true, ◌++◌, length, drop, Ok, sym, refl, ap, ◌∙◌, subst, ⊎_elim, arith}
use Rattle.std.proofs.lemmas.Result.{err_from_is_err_and}
use Rattle.cells.specs.declared.causes.Cause.TheVariants.{NoRoom}
use Rattle.cells.specs.Banks.{storable}
use Rattle.store.specs.Record.{viewed}
use Rattle.store.specs.Restoring.{settled_model, restored_model}
use Rattle.images.specs.Layout.{stored_hands, stored_cell, stored_cells, count_in, hands_in}
use Rattle.images.specs.Opening.{Allowed, Refused, size_out, no_image, no_room, Restored, Opened, Rebuilt}
use Rattle.images.proofs.Reopened.{cells_storable, record_made, accepts, refuses}
use Rattle.images.proofs.opening.open.Goals as goal

pub returns-in_err-size-clause-opened : goal.returns-in_err-size-clause-opened
returns-in_err-size-clause-opened g c =
    let p = err_from_is_err_and c.from_residual.result c.from_residual.ensures.1 in
    let why = c.in_err-size.ensures.refused in
    rw (p.1, p.2, why.0) (size_out (λ ok. ⊎_elim (λ e. omega (arith, ok.0, ok.1)) (λ e. omega (arith, ok.0, ok.1)) why.1), refl)

pub returns-in_err-body-clause-opened : goal.returns-in_err-body-clause-opened
returns-in_err-body-clause-opened g c =
    let sized = c.in_ok-size.ensures.fits in
    let p = err_from_is_err_and c.from_residual-in_err-body.result c.from_residual-in_err-body.ensures.1 in
    rw (p.1, p.2, c.in_err-body.ensures.checked.0) (no_image (omega arith, omega arith) c.in_err-body.ensures.checked.1, refl)

pub returns-then-body-size : goal.returns-then-body-size
returns-then-body-size g c =
    let sized = c.in_ok-size.ensures.fits in
    let at = c.in_ok-body.ensures.rest in
    let why : Refused g.V.LeafKind.lawful g.V.LeafKind.word g.V.LeafKind.taken g.V.LeafKind.number (length (g.B.Bank.cells c.args.bank.now)) c.args.image.now NoRoom = no_room (omega arith, omega arith) c.in_ok-body.ensures.holds (omega arith) in
    record { opened = (why, refl); rebuilt = refuses g.met.V.LeafKind.laws g.V.LeafKind.number c.args.image.now (g.B.Bank.cells c.args.bank.now) NoRoom why; rooted = refl }

pub put_cells-requires-clause-storables : goal.put_cells-requires-clause-storables
put_cells-requires-clause-storables g c =
    let at = c.in_ok-body.ensures.rest in
    λ j h. subst (λ rest. storable g.V.LeafKind.lawful (stored_cell g.V.LeafKind.taken rest j) ≡ true) (sym at.0) (cells_storable g.met.V.LeafKind.laws g.V.LeafKind.number c.args.image.now c.in_ok-body.ensures.holds j (omega arith))

pub returns : goal.returns
returns g c =
    let sized = c.in_ok-size.ensures.fits in
    let at = c.in_ok-body.ensures.rest in
    let ok : Allowed (length (g.B.Bank.cells c.args.bank.now)) = (omega arith, omega arith) in
    let hands : c.hands_in-hands.result ≡ hands_in c.args.image.now = c.hands_in-hands.ensures ∙ ap stored_hands at.0 in
    let made : viewed c.restored.result ≡ Ok (settled_model (length (g.B.Bank.cells c.args.bank.now)) (count_in c.args.image.now) (hands_in c.args.image.now)) =
    c.restored.ensures ∙ (λ i. restored_model ((sized.0 ∙ c.size.ensures) i) (at.1 i) (hands i)) ∙ record_made g.met.V.LeafKind.laws g.V.LeafKind.number c.args.image.now c.in_ok-body.ensures.holds (length (g.B.Bank.cells c.args.bank.now)) ok (omega arith) in
    let whole : Restored g.V.LeafKind.lawful g.V.LeafKind.word g.V.LeafKind.taken g.V.LeafKind.number c.args.image.now (g.B.Bank.cells c.args.bank.now) (settled_model (length (g.B.Bank.cells c.args.bank.now)) (count_in c.args.image.now) (hands_in c.args.image.now)) (g.B.Bank.cells c.put_cells.new.bank) =
    record {
      allowed = ok;
      whole = c.in_ok-body.ensures.holds;
      room = omega arith;
      model = refl;
      cells = c.put_cells.ensures.after ∙ (λ i. stored_cells g.V.LeafKind.taken (at.0 i) (at.1 i) ++ drop (at.1 i) (g.B.Bank.cells c.args.bank.now));
    } in
    record {
      opened = subst (λ a. Opened g.V.LeafKind.lawful g.V.LeafKind.word g.V.LeafKind.taken g.V.LeafKind.number c.args.image.now (g.B.Bank.cells c.args.bank.now) a (g.B.Bank.cells c.put_cells.new.bank)) (sym made) whole;
      rebuilt = subst (λ a. Rebuilt g.V.LeafKind.lawful g.V.LeafKind.word g.V.LeafKind.taken g.V.LeafKind.number c.args.image.now (g.B.Bank.cells c.args.bank.now) a (g.B.Bank.cells c.put_cells.new.bank)) (sym made)
          (accepts g.met.V.LeafKind.laws g.V.LeafKind.number c.args.image.now (g.B.Bank.cells c.args.bank.now) (g.B.Bank.cells c.put_cells.new.bank) (settled_model (length (g.B.Bank.cells c.args.bank.now)) (count_in c.args.image.now) (hands_in c.args.image.now)) whole);
      rooted = c.put_cells.ensures.rooted;
    }
