-- `sheet_retuned::answers_at` meets its contract. Assumes nothing.
use mathlib.Core.Path.{◌≡◌, refl, sym, ap, ◌∙◌}
use mathlib.Core.Bool.{Bool, true, false, not}
use mathlib.Core.List.{List}
use Prim.Native.Nat.{ℕ, ◌≤◌, ◌<◌}
use native.Mathlib.Omega.{arith}
use borrow.Author.Rules.{rules}
use borrow.Author.Tests.{lt-ltb, le-ltb, not-true, not-false}
use lib.ListN.{length, drop}
use lib.Ieee.{Float}
use Rattle.std.proofs.lemmas.Result.{err_from_is_err_and}
use Rattle.refusal.specs.declared.Refusal.{Refusal}
use Rattle.refusal.specs.Outcome.{Outcome, answer, refusal, refused, bind, number_of, place_of}
use Rattle.sheet.specs.Sheet.{SheetSurface, nth, Sheet}
use Rattle.sheet.specs.Internal.{tuning_at, onto, begin}
use Rattle.sheet.proofs.Stands.{Known}
use Rattle.sheet_values.specs.Values.{met_with}
use Rattle.sheet_values.proofs.Here.{tuning_here}
use Rattle.gate.specs.Gate.{gate}
use Rattle.gate.specs.Internal.{holds_at}
use Rattle.gate.specs.Wavelength.{holds}
use Rattle.gate.proofs.Admitted.{Admitted, admitted, turned_back}
use Rattle.surface.specs.declared.Answers.{Answers}
use Rattle.sheet_surfaces.specs.Internal.{answers_met}
use Rattle.sheet_surfaces.proofs.There.{met_given}
use Rattle.train_steps.proofs.Takes.{tested}
use Rattle.sheet_retuned.specs.Retuned.{retuned_before, answers_at}
use Rattle.sheet_retuned.proofs.answers_at.Goals as goal

module _ (src : List ℕ) (i : ℕ) (w : Float) where
  module _ (n : ℕ) (known : Known src) (e : answer n ≡ gate src) where
    abbrev a : Admitted src n
    a = admitted src n known e

    no_such : n ≤ i → refusal 7 0 ≡ answers_at src i w
    unfolding answers_at
    no_such h = rw (a.is, le-ltb i (length a.sheet.surfaces) (omega (arith, a.counts)))

    module _ (h : i < n) (t : Bool) (t_is : t ≡ holds_at src i n w) where
      abbrev y : SheetSurface
      y = nth a.sheet.surfaces i

      inside : i < length a.sheet.surfaces
      inside = omega (arith, a.counts)

      bad_wavelength : not t ≡ true → refusal 11 0 ≡ answers_at src i w
      unfolding answers_at
      bad_wavelength f = rw (a.is, lt-ltb i (length a.sheet.surfaces) inside, sym (tested src n a i w t t_is) ∙ not-true t f)

      whole : not t ≡ false → (at : ℕ) → at ≡ begin src i → (v : Float) → v ≡ met_with w (tuning_at src at) → (on : ℕ) → on ≡ onto src at → (reply : Outcome Answers) → reply ≡ answers_met src on v → reply ≡ answers_at src i w
      unfolding answers_at
      whole f at q v ev on eo reply er =
          let m = met_with w y.tuning in
          let g : holds w (drop i a.sheet.surfaces) ≡ true = sym (tested src n a i w t t_is) ∙ not-false t f in
          let is_met : v ≡ m = ev ∙ ap (λ (k : ℕ). met_with w (tuning_at src k)) q ∙ ap (met_with w) (tuning_here src a.sheet a.stands i inside) in
          rw (a.is, lt-ltb i (length a.sheet.surfaces) inside, g)
          (er ∙ ap (answers_met src on) is_met ∙ met_given src i n known e h m on (eo ∙ ap (onto src) q) _ refl)

  not_taken : (r : Refusal) → refused r ≡ gate src → refused r ≡ answers_at src i w
  unfolding answers_at
  not_taken r e = sym (ap (λ (o : Outcome Sheet). bind o (retuned_before i w)) (turned_back src (number_of r) (place_of r) e))

pub returns-then-i-count : goal.returns-then-i-count
returns-then-i-count c = no_such _ _ _ _ c.type_inv.src c.in_ok-count.ensures c.if-i-count.true

pub returns-then-not-holds : goal.returns-then-not-holds
returns-then-not-holds c = bad_wavelength _ _ _ _ c.type_inv.src c.in_ok-count.ensures c.if-i-count.false _ c.holds.ensures (ap not c.if-not-holds.true)

pub returns : goal.returns
returns c = whole _ _ _ _ c.type_inv.src c.in_ok-count.ensures c.if-i-count.false _ c.holds.ensures (ap not c.if-not-holds.false) _ c.begin_of-begin.ensures _ c.met_with-met_nm.ensures _ c.onto.ensures _ c.answers_met.ensures

pub returns-in_err-count : goal.returns-in_err-count
returns-in_err-count c =
    let p = err_from_is_err_and c.from_residual.result c.from_residual.ensures.1 in
    rw (p.1, p.2) (not_taken _ _ _ _ c.in_err-count.ensures)
