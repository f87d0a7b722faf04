-- `train_steps::run_at` meets its contract. Assumes nothing.
use mathlib.Core.Path.{◌≡◌, refl, ap, ◌∙◌}
use mathlib.Core.List.{List}
use Prim.Native.Nat.{ℕ, suc, ◌+◌, ◌-◌, ◌≤◌, ◌<◌}
use native.Mathlib.Nat.{sub-zero}
use native.Mathlib.Omega.{arith}
use lib.Ieee.{Float}
use Rattle.sheet.specs.declared.LayerRun.{LayerRun}
use Rattle.sheet.specs.Internal.{next_place, place_on, layer_run, tuning_at, onto, begin}
use Rattle.sheet_values.specs.declared.Beam.{Beam}
use Rattle.sheet_values.specs.Values.{met_with}
use Rattle.sheet_values.specs.Internal.{beam_at}
use Rattle.train_steps.specs.declared.State.{State}
use Rattle.train_steps.specs.Internal.{moved_from, moved_at, moved_on, run_at}
use Rattle.train_steps.proofs.run_at.Invariants.{Left}
use Rattle.train_steps.proofs.run_at.Goals as goal

begun : (src : List ℕ) (n : ℕ) (w : Float) (b : Beam) → b ≡ beam_at src (next_place src 0) → (at : ℕ) → at ≡ begin src 0 → Left src n w (record { done = 0; s = b.s; p = b.p; wavelength_nm = w }) at 0
unfolding run_at
begun src n w b e at q = record {
  counts = refl;
  leads = ap (λ (k : ℕ). moved_on k src at (record { done = 0; s = b.s; p = b.p; wavelength_nm = w })) (sub-zero n) ∙ (λ i. moved_on n src (q i) (record { done = 0; s = (e i).s; p = (e i).p; wavelength_nm = w }));
}

module _ (src : List ℕ) (n : ℕ) (w : Float) (st : State) (at i : ℕ) (h : Left src n w st at i) where
  further : i < n → (v : Float) → v ≡ met_with st.wavelength_nm (tuning_at src at) → (o : ℕ) → o ≡ onto src at → (k : ℕ) → k ≡ layer_run 16 src o → (next : State) → next ≡ moved_from src o k v st → (q : ℕ) → q ≡ place_on src o (suc (layer_run 16 src o)) → Left src n w next q (i + 1)
  unfolding moved_on moved_at moved_from
  further lt v ev o eo k ek next en q eq =
      let moved : next ≡ moved_at src at st = en ∙ ap (λ (m : ℕ). moved_from src o m v st) ek ∙ (λ z. moved_from src (eo z) (layer_run 16 src (eo z)) (ev z) st) in
      let there : q ≡ place_on src (onto src at) (suc (layer_run 16 src (onto src at))) = eq ∙ ap (λ (z : ℕ). place_on src z (suc (layer_run 16 src z))) eo in
      record {
        counts = ap (λ (z : State). z.done) en ∙ ap (λ (z : ℕ). z + 1) h.counts;
        leads = (λ z. moved_on (n - (i + 1)) src (there z) (moved z)) ∙ ap (λ (z : ℕ). moved_on z src at st) (one_less n i lt) ∙ h.leads;
      }
    where
      one_less : (n i : ℕ) → i < n → suc (n - (i + 1)) ≡ n - i
      one_less n i lt = omega arith

  done : n ≤ i → st ≡ run_at src n w
  unfolding moved_on
  done le = ap (λ (k : ℕ). moved_on k src at st) (none n i le) ∙ h.leads
    where
      none : (n i : ℕ) → n ≤ i → 0 ≡ n - i
      none n i le = omega arith

pub loop-init : goal.loop-init
loop-init c = begun _ _ _ _ c.beam_of-beam.ensures _ c.begin_of-begin.ensures

pub moved_from-state-requires : goal.moved_from-state-requires
moved_from-state-requires c = omega (arith, c.loop-test.true, c.loop.invariant.counts)

pub loop-preserved : goal.loop-preserved
loop-preserved c = further _ _ _ _ _ _ c.loop.invariant c.loop-test.true _ c.met_with-met_nm.ensures _ c.onto-at.ensures _ (ap (λ (z : LayerRun). z.count) c.layers_on-run.ensures) _ c.moved_from-state.ensures _ (ap (λ (z : LayerRun). z.next) c.layers_on-run.ensures)

pub returns : goal.returns
returns c = done _ _ _ _ _ _ c.loop.invariant c.loop-test.false
