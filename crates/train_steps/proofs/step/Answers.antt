-- `train_steps::step` meets its contract. Assumes nothing.
use mathlib.Core.Path.{◌≡◌, refl, sym, ap, ◌∙◌}
use mathlib.Core.Bool.{Bool, true, false, not, ◌&&◌}
use mathlib.Core.List.{List}
use Prim.Native.Nat.{ℕ, ◌-◌, ◌≤◌, ◌<◌}
use native.Mathlib.Omega.{arith}
use borrow.Author.Tests.{lt-ltb, le-ltb, not-true, not-false}
use lib.ListN.{length, drop}
use lib.Ieee.{Float}
use Rattle.std.proofs.lemmas.Result.{err_from_is_err_and}
use Rattle.refusal.specs.declared.Refusal.{Refusal}
use Rattle.refusal.specs.Outcome.{Outcome, answer, refusal, refused, bind, number_of, place_of}
use Rattle.sheet.specs.Sheet.{Sheet}
use Rattle.sheet.specs.Internal.{begin}
use Rattle.sheet.proofs.Stands.{Known}
use Rattle.ieee.proofs.Signs.{of_true}
use Rattle.gate_limits.specs.Limits.{wavelength_passes}
use Rattle.gate.specs.Wavelength.{holds}
use Rattle.gate.specs.Internal.{layers_hold_at, holds_from, holds_at}
use Rattle.gate.proofs.Index.{few, result_is, read_back}
use Rattle.gate.specs.Gate.{gate}
use Rattle.gate.proofs.Admitted.{admitted, turned_back}
use Rattle.train_steps.specs.declared.State.{State}
use Rattle.train_steps.specs.Train.{stepped, step}
use Rattle.train_steps.specs.Internal.{moved_at}
use Rattle.train_steps.proofs.Takes.{takes, tested}
use Rattle.train_steps.proofs.Here.{moved_here, angles_here, layers_here}
use Rattle.train_steps.proofs.step.Goals as goal

from_there : (src : List ℕ) (done n at : ℕ) (w : Float) (t : Bool) → at ≡ begin src done → t ≡ holds_from src at (n - done) w → t ≡ holds_at src done n w
unfolding holds_from holds_at
from_there src done n at w t q e = e ∙ ap (λ (k : ℕ). wavelength_passes w && layers_hold_at (n - done) src k w) q

module _ (src : List ℕ) (st : State) where
  module _ (n : ℕ) (known : Known src) (e : answer n ≡ gate src) where
    no_more : n ≤ st.done → refusal 7 0 ≡ step src st
    unfolding step
    no_more h =
        let a = admitted src n known e in
        rw (a.is, le-ltb st.done (length a.sheet.surfaces) (omega (arith, a.counts)))

    module _ (h : st.done < n) (t : Bool) (t_is : t ≡ holds_at src st.done n st.wavelength_nm) where
      bad_wavelength : not t ≡ true → refusal 11 0 ≡ step src st
      unfolding step
      bad_wavelength f =
          let a = admitted src n known e in
          rw (a.is, lt-ltb st.done (length a.sheet.surfaces) (omega (arith, a.counts)), sym (tested src n a st.done st.wavelength_nm t t_is) ∙ not-true t f) refl

      one_more : not t ≡ false → (at : ℕ) → at ≡ begin src st.done → (next : State) → next ≡ moved_at src at st → answer next ≡ step src st
      unfolding step
      one_more f at q next en =
          let a = admitted src n known e in
          let d : st.done < length a.sheet.surfaces = omega (arith, a.counts) in
          let g : holds st.wavelength_nm (drop st.done a.sheet.surfaces) ≡ true = sym (tested src n a st.done st.wavelength_nm t t_is) ∙ not-false t f in
          let m = takes a.sheet a.within st.wavelength_nm st.done (of_true _ g) d in
          rw (a.is, lt-ltb st.done (length a.sheet.surfaces) d, g)
          (ap answer (en ∙ moved_here src a.sheet a.stands a.within st.done d at q st m.0))

  not_taken : (r : Refusal) → refused r ≡ gate src → refused r ≡ step src st
  unfolding step
  not_taken r e = sym (ap (λ (o : Outcome Sheet). bind o (stepped st)) (turned_back src (number_of r) (place_of r) e))

pub returns-then-state-count : goal.returns-then-state-count
returns-then-state-count c =
    no_more _ _ _ c.type_inv.src (result_is _ _ _ _ _ _ c.in_ok-count.ensures) c.if-state-count.true

pub bounds-begins-i : goal.bounds-begins-i
bounds-begins-i c =
    let known = c.type_inv.src in
    let admits = result_is _ _ _ _ _ _ c.in_ok-count.ensures in
    omega (arith, c.if-state-count.false, few _ _ known admits)

pub bounds-sines-i : goal.bounds-sines-i
bounds-sines-i c =
    let known = c.type_inv.src in
    let admits = result_is _ _ _ _ _ _ c.in_ok-count.ensures in
    omega (arith, c.if-state-count.false, few _ _ known admits)

pub bounds-cosines-i : goal.bounds-cosines-i
bounds-cosines-i c =
    let known = c.type_inv.src in
    let admits = result_is _ _ _ _ _ _ c.in_ok-count.ensures in
    omega (arith, c.if-state-count.false, few _ _ known admits)

pub bounds-counts-i : goal.bounds-counts-i
bounds-counts-i c =
    let known = c.type_inv.src in
    let admits = result_is _ _ _ _ _ _ c.in_ok-count.ensures in
    omega (arith, c.if-state-count.false, few _ _ known admits)

pub returns-then-not-holds_from : goal.returns-then-not-holds_from
returns-then-not-holds_from c =
    let known = c.type_inv.src in
    let admits = result_is _ _ _ _ _ _ c.in_ok-count.ensures in
    let index = read_back _ _ _ _ _ _ c.in_ok-count.ensures known _ refl in
    bad_wavelength _ _ _ known admits c.if-state-count.false _ (from_there _ _ _ _ _ _ (index.begun _ c.if-state-count.false) c.holds_from.ensures) (ap not c.if-not-holds_from.true)

pub moved_at-requires : goal.moved_at-requires
moved_at-requires c =
    let known = c.type_inv.src in
    let admits = result_is _ _ _ _ _ _ c.in_ok-count.ensures in
    let index = read_back _ _ _ _ _ _ c.in_ok-count.ensures known _ refl in
    (omega (arith, c.if-state-count.false, few _ _ known admits), (layers_here _ _ _ _ _ _ index _ c.if-state-count.false _ refl, angles_here _ _ _ _ _ _ index _ c.if-state-count.false _ refl))

pub returns : goal.returns
returns c =
    let known = c.type_inv.src in
    let admits = result_is _ _ _ _ _ _ c.in_ok-count.ensures in
    let index = read_back _ _ _ _ _ _ c.in_ok-count.ensures known _ refl in
    let begun = index.begun _ c.if-state-count.false in
    one_more _ _ _ known admits c.if-state-count.false _ (from_there _ _ _ _ _ _ begun c.holds_from.ensures) (ap not c.if-not-holds_from.false) _ begun _ c.moved_at.ensures

pub returns-in_err-count : goal.returns-in_err-count
returns-in_err-count c =
    let p = err_from_is_err_and c.from_residual.result c.from_residual.ensures.1 in
    rw (p.1, p.2) (not_taken _ _ _ (result_is _ _ _ _ _ _ c.in_err-count.ensures))
