-- `dihkelu::dihkelu_evaluate` meets its contract. Assumes nothing.
use mathlib.Core.Path.{◌≡◌, sym, ap, ◌∙◌}
use mathlib.Core.List.{List}
use Prim.Native.Nat.{ℕ, ◌%◌, ◌^◌}
use lib.Ieee.{Float}
use borrow.Author.Rules.{rules}
use Rattle.refusal.specs.declared.Refusal.{Refusal}
use Rattle.refusal.specs.Outcome.{refused as refused-with, number_of, place_of, outcome}
use Rattle.c_layers.specs.Evaluate.{evaluate}
use Rattle.c_layers.proofs.Plain.{of_code}
use Rattle.c_call.specs.Call.{done, packed, answered}
use Rattle.c_call.specs.Layout.{evaluated}
use Rattle.c_call.proofs.Returned.{sound_apart, refuses, answers}
use Rattle.dihkelu.proofs.Places.{plain_sound}
use Rattle.dihkelu.proofs.dihkelu_evaluate.Goals as goal

refused : (code : ℕ) (design n_incident n_substrate angle wavelength : Float) (flat : List Float) (r : Refusal) (n : ℕ) (list : List Float)
    → refused-with r ≡ evaluate code design n_incident n_substrate angle wavelength flat → n ≡ packed (number_of r) (place_of r % 2 ^ 32) → done n list ≡ answered evaluated (evaluate code design n_incident n_substrate angle wavelength flat) list
refused code design n_incident n_substrate angle wavelength flat r n list e is =
    let o = evaluate code design n_incident n_substrate angle wavelength flat in
    refuses evaluated r _ n list e (sound_apart o (plain_sound o (of_code n_incident n_substrate angle wavelength code design flat))) is

pub returns-in-Ok : goal.returns-in-Ok
returns-in-Ok c = answers evaluated _ _ _ _ (sym (ap outcome c.in-Ok.is) ∙ c.evaluate-evaluation.ensures) c.put_response.ensures

pub returns-in-Err : goal.returns-in-Err
returns-in-Err c = refused _ _ _ _ _ _ _ _ _ _ (sym (ap outcome c.in-Err.is) ∙ c.evaluate-evaluation.ensures) c.packed.ensures
