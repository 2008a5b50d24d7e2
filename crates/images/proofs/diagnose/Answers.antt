use Rattle.std.proofs.Common.{ℕ, Bool, List, Option, Ok, Err, Result, ◌∙◌, subst, sym}
use Rattle.std.specs.Result.{result_err, result_map_both}
use Rattle.images.specs.declared.faults.Fault.{Fault}
use Rattle.images.specs.Faults.{Examined, Diagnosed}
use Rattle.images.proofs.diagnose.Goals as goal

-- a diagnosis is the refusal of an examination
told : {V T : Type 0} (lawful : V → Bool) (word : V → ℕ) (taken : ℕ → Option V) (number : ℕ) (bytes : List ℕ) (count : T → ℕ) (r : Result T Fault)
    → Examined lawful word taken number bytes (result_map_both count (λ fault. fault) r)
    → Diagnosed lawful word taken number bytes (result_err r)
told lawful word taken number bytes count (Ok t) e = (count t, e.0)
told lawful word taken number bytes count (Err fault) e = e

pub returns : goal.returns
returns g c =
    record {
      first = c.err.ensures.value ∙ c.examine.ensures.order;
      rules = subst (Diagnosed g.V.LeafKind.lawful g.V.LeafKind.word g.V.LeafKind.taken g.V.LeafKind.number c.args.image.now) (sym c.err.ensures.value)
          (told g.V.LeafKind.lawful g.V.LeafKind.word g.V.LeafKind.taken g.V.LeafKind.number c.args.image.now (λ body. body.count) c.examine.result c.examine.ensures.rules);
    }
