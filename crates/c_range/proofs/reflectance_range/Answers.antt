-- `c_range::reflectance_range` meets its contract. Assumes nothing.
use mathlib.Core.Path.{◌≡◌, sym, ap, ◌∙◌}
use mathlib.Core.List.{List}
use Prim.Native.Nat.{ℕ, ◌%◌, ◌^◌}
use lib.Ieee.{Float}
use borrow.Author.Rules.{rules}
use Rattle.refusal.specs.declared.Refusal.{Refusal}
use Rattle.reflectance_range.specs.Range.{reflectance_range}
use Rattle.refusal.specs.Outcome.{refused as refused-with, outcome, number_of, place_of}
use Rattle.c_call.specs.Call.{done, packed, answered}
use Rattle.c_call.proofs.Returned.{sound_apart, refuses, answers}
use Rattle.c_range.specs.Range.{ranged}
use Rattle.c_range.proofs.Sound.{sound}
use Rattle.c_range.proofs.reflectance_range.Goals as goal

refused : (n1-low n1-high n2-low n2-high : Float) (r : Refusal) (n : ℕ) (list : List Float) → refused-with r ≡ reflectance_range n1-low n1-high n2-low n2-high → n ≡ packed (number_of r) (place_of r % 2 ^ 32)
    → done n list ≡ answered ranged (reflectance_range n1-low n1-high n2-low n2-high) list
refused n1-low n1-high n2-low n2-high r n list e is =
    let o = reflectance_range n1-low n1-high n2-low n2-high in
    refuses ranged r o n list e (sound_apart o (sound n1-low n1-high n2-low n2-high)) is

pub returns-in-Ok : goal.returns-in-Ok
returns-in-Ok c = answers ranged _ _ _ _ (sym (ap outcome c.in-Ok.is) ∙ c.reflectance_range-reply.ensures) c.put_both.ensures

pub returns-in-Err : goal.returns-in-Err
returns-in-Err c = refused _ _ _ _ _ _ _ (sym (ap outcome c.in-Err.is) ∙ c.reflectance_range-reply.ensures) c.packed.ensures
