-- `c_stack::stack` meets its contract. Assumes nothing.
use mathlib.Core.Path.{◌≡◌, sym, ap, ◌∙◌}
use Prim.Native.Nat.{ℕ, ◌%◌, ◌^◌}
use mathlib.Core.List.{List}
use lib.Ieee.{Float}
use Rattle.refusal.specs.declared.Refusal.{Refusal}
use Rattle.refusal.specs.declared.Refusal.TheVariants as R
use Rattle.refusal.specs.Outcome.{outcome, refused, number_of, place_of}
use Rattle.thin_film_grammar.specs.Reading.{reading}
use Rattle.thin_film_shorthand.specs.Stack.{layer, stack}
use Rattle.thin_film_shorthand.proofs.Given as given
use Rattle.c_call.specs.Call.{done, packed, answered}
use Rattle.c_call.proofs.Returned.{sound_apart, refuses, answers}
use Rattle.c_stack.specs.Stack.{stacked}
use Rattle.c_stack.proofs.Stacked.{few_layers, few_sound, turned_back, taken}
use Rattle.c_stack.proofs.stack.Goals as goal

module _ (text : List ℕ) (n_h n_l n_m design : Float) where
  not_answered : (r : Refusal) (n : ℕ) (list : List Float) → refused r ≡ stack text n_h n_l n_m design → n ≡ packed (number_of r) (place_of r % 2 ^ 32) → done n list ≡ answered stacked (stack text n_h n_l n_m design) list
  not_answered r n list e is = let o = stack text n_h n_l n_m design in refuses stacked r o n list e (sound_apart o (few_sound o (few_layers text n_h n_l n_m design))) is

pub returns-then-not-valid : goal.returns-then-not-valid
returns-then-not-valid c = not_answered _ _ _ _ _ R.InvalidParameter _ _ (given.bad _ _ _ _ _ (sym c.valid.ensures ∙ c.if-not-valid.true)) c.packed.ensures

pub returns-in-Err : goal.returns-in-Err
returns-in-Err c =
    let a = c.args in
    not_answered _ _ _ _ _ _ _ _
    (turned_back (layer a.n_h a.n_l a.n_m a.design_wavelength_nm) (reading a.text.now) _ (sym (ap outcome c.in-Err.is) ∙ c.read.ensures) ∙ given.good _ _ _ _ _ (sym c.valid.ensures ∙ c.if-not-valid.false))
    c.packed-in-Err.ensures

pub put-requires : goal.put-requires
put-requires c = let text = c.args.text.now in given.few (reading text) _ (given.all_fine text) (sym (ap outcome c.in-Ok.is) ∙ c.read.ensures)

pub returns-in-Ok : goal.returns-in-Ok
returns-in-Ok c =
    let a = c.args in
    answers stacked _ _ _ _
    (taken (layer a.n_h a.n_l a.n_m a.design_wavelength_nm) (reading a.text.now) _ (sym (ap outcome c.in-Ok.is) ∙ c.read.ensures) ∙ given.good _ _ _ _ _ (sym c.valid.ensures ∙ c.if-not-valid.false))
    c.put.ensures
