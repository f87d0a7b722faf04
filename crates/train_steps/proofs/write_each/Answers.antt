-- `train_steps::write_each` meets its contract. Assumes nothing.
use mathlib.Core.Path.{◌≡◌, refl, ap, ◌∙◌}
use mathlib.Core.List.{List, ◌++◌}
use Prim.Native.Nat.{ℕ, suc, ◌+◌, ◌*◌, ◌≤◌, ◌<◌}
use native.Mathlib.Numerals.{add-one}
use native.Mathlib.Omega.{arith}
use lib.Dec.{T}
use lib.ListN.{length, set, drop, length-set}
use lib.Ieee.{Float}
use Rattle.ieee.specs.Operators.{◌⊗◌}
use Rattle.refusal.specs.Outcome.{answer}
use Rattle.sheet.specs.Sheet.{nth, Sheet}
use Rattle.sheet.specs.Internal.{next_place, layer_run, tuning_at, onto, begin}
use Rattle.sheet.proofs.Stands.{Known}
use Rattle.sheet_values.specs.declared.Beam.{Beam}
use Rattle.sheet_values.specs.Values.{value, met_with}
use Rattle.sheet_values.specs.Internal.{beam_at}
use Rattle.gate.specs.Gate.{gated}
use Rattle.gate.specs.Wavelength.{holds}
use Rattle.gate.proofs.Wavelengths.{Met}
use Rattle.gate.proofs.Admitted.{gives}
use Rattle.train_steps.specs.declared.Chosen.{Chosen}
use Rattle.train_steps.specs.Train.{chosen_powers, fresh, after_each}
use Rattle.train_steps.specs.Internal.{chosen_at}
use Rattle.train_steps.proofs.Here.{beam_is, met_here, chosen_here, angles_here, layers_here}
use Rattle.train_steps.proofs.Takes.{takes}
use Rattle.train_steps.proofs.Written.{nothing, written, whole}
use Rattle.train_steps.proofs.write_each.Invariants.{Before}
use Rattle.train_steps.proofs.write_each.Goals as goal

begun : (src : List ℕ) (n : ℕ) (list : List Float) (b : Beam) → Known src → b ≡ beam_at src (next_place src 0) → Before src n list list b.s b.p b.wavelength_nm 0
begun src n list b known e = record {
  long = refl;
  held = λ x g k. let m = gives src known x g in rw (beam_is src x m.0 m.1 b e) m.1.holds;
  half = λ x g k. let m = gives src known x g in rw (beam_is src x m.0 m.1 b e) (nothing x.surfaces list (value x.wavelength) (value x.s) (value x.p));
}

module _ (src : List ℕ) (n : ℕ) (list₀ list : List Float) (s p w : Float) (i : ℕ) (b : Before src n list₀ list s p w i) where
  module _ (known : Known src) (h : i < n) (at : ℕ) (ea : at ≡ begin src i) (v : Float) (ev : v ≡ met_with w (tuning_at src at)) (x : Sheet) (g : gated src ≡ answer x) (l : length x.surfaces ≡ n) where
    lt : i < length x.surfaces
    lt = omega arith

    met_now : v ≡ met_with w (nth x.surfaces i).tuning
    met_now = ev ∙ met_here src x (gives src known x g).0 (gives src known x g).1 i lt at ea w

    taken : Met v (nth x.surfaces i) × T (holds v (drop (suc i) x.surfaces))
    taken = rw met_now (takes x (gives src known x g).1 w i (b.held x g l) lt)

  further : Known src → i < n → 2 * n ≤ length list₀ → (at : ℕ) → at ≡ begin src i → (v : Float) → v ≡ met_with w (tuning_at src at) → (o : ℕ) → o ≡ onto src at → (k : ℕ) → k ≡ layer_run 16 src o → (c : Chosen) → c ≡ chosen_at src o k v
      → Before src n list₀ (set (set list (2 * i) (s ⊗ c.s)) (2 * i + 1) (p ⊗ c.p)) (s ⊗ c.s) (p ⊗ c.p) v (i + 1)
  further known h r at ea v ev o eo k ek c ec =
      let there : o ≡ onto src (begin src i) = eo ∙ ap (onto src) ea in
      record {
        long = length-set (set list (2 * i) (s ⊗ c.s)) (2 * i + 1) (p ⊗ c.p) ∙ length-set list (2 * i) (s ⊗ c.s) ∙ b.long;
        held = λ x g l. rw (add-one i) (taken known h at ea v ev x g l).1;
        half = λ x g l.
            let m = gives src known x g in
            let y : c ≡ chosen_powers v (nth x.surfaces i) = ec ∙ chosen_here src x m.0 m.1 i (lt known h at ea v ev x g l) v (taken known h at ea v ev x g l).0 o there k ek in
            written x.surfaces list₀ list i w s p _ (b.half x g l) (omega arith) (omega (arith, b.long)) v (s ⊗ c.s) (p ⊗ c.p) (met_now known h at ea v ev x g l) (ap (λ (z : Chosen). s ⊗ z.s) y) (ap (λ (z : Chosen). p ⊗ z.p) y);
      }

  done : i ≡ n → (x : Sheet) → gated src ≡ answer x → length x.surfaces ≡ n → list ≡ after_each (fresh x) x.surfaces ++ drop (2 * n) list₀
  done h x g l = whole x.surfaces list₀ list i w s p _ (b.half x g l) (omega arith) ∙ ap (λ (k : ℕ). after_each (fresh x) x.surfaces ++ drop (2 * k) list₀) l

pub loop-i-init : goal.loop-i-init
loop-i-init c = begun _ _ _ _ c.type_inv.src c.beam_of-beam.ensures

pub chosen_with-c-requires : goal.chosen_with-c-requires
chosen_with-c-requires c =
    angles_here _ _ _ _ _ _ c.requires.1 _ c.loop-i-test.true _ c.onto-at.ensures

pub bounds-list-i-in-loop-i : goal.bounds-list-i-in-loop-i
bounds-list-i-in-loop-i c =
    rw length-set (omega (arith, c.loop-i-test.true, c.loop-i.invariant.long, c.requires.0))

pub loop-i-preserved : goal.loop-i-preserved
loop-i-preserved c =
    let lt = c.loop-i-test.true in
    further _ _ _ _ _ _ _ _ c.loop-i.invariant c.type_inv.src lt c.requires.0 _ (c.requires.1.begun _ lt) _ c.met_with-wavelength_nm.ensures _ c.onto-at.ensures _ (layers_here _ _ _ _ _ _ c.requires.1 _ lt _ c.onto-at.ensures) _ c.chosen_with-c.ensures

pub returns : goal.returns
returns c = done _ _ _ _ _ _ _ _ c.loop-i.invariant (omega arith)
