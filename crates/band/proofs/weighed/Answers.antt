-- `band::weighed` meets its contract. Assumes nothing.
use mathlib.Core.Path.{◌≡◌, refl, sym, ◌∙◌}
use mathlib.Core.List.{List}
use Prim.Native.Nat.{ℕ, ◌+◌, ◌≤◌, ◌<◌}
use native.Mathlib.Omega.{arith}
use lib.Dec.{T}
use lib.ListN.{length, get_or}
use lib.Ieee.{Float}
use Rattle.ieee.specs.Operators.{◌⊕◌, ◌⊗◌, ◌⊘◌}
use Rattle.ieee.specs.Functions.{zero_f}
use Rattle.refusal.specs.Outcome.{answer}
use Rattle.sheet.specs.Sheet.{Sheet}
use Rattle.gate.specs.Gate.{gated}
use Rattle.gate.specs.Wavelength.{holds}
use Rattle.train_steps.specs.declared.State.{State}
use Rattle.band.specs.Band.{at_line, lines_fit, whole, whole_sum, powers}
use Rattle.band.specs.Internal.{Line, AllPass}
use Rattle.band.proofs.Sums.{one_weight, no_weight, one_line, no_line, passes_at, equal, few}
use Rattle.band.proofs.weighed.Invariants.{Before}
use Rattle.band.proofs.weighed.Goals as goal

begun : (src : List ℕ) (n : ℕ) (ws : List Float) (ns : List ℕ) → Before src n ws ns zero_f zero_f 0 0
begun src n ws ns = record { weights = omega arith; sums = λ x g l h. (refl, refl) }

module _ (src : List ℕ) (n : ℕ) (ws : List Float) (ns : List ℕ) (s p : Float) (total i : ℕ) (b : Before src n ws ns s p total i) (fit : T (lines_fit ws ns)) where
  inside : i < length ws → i < length ns
  inside lt = omega (arith, equal ws ns fit)

  room : (d : ℕ) → i < length ws → whole_sum ns < 0x1_0000_0000 → total + get_or ns i d < 0x1_0000_0000
  room d lt small = omega (arith, one_weight ns i d (inside lt), b.weights)

  further : (d : Float) (e : ℕ) → i < length ws → (st : State) → ((x : Sheet) → gated src ≡ answer x → length x.surfaces ≡ n → T (holds (get_or ws i d) x.surfaces) → Line st (at_line x (get_or ws i d)))
      → Before src n ws ns (s ⊕ whole (get_or ns i e) ⊗ st.s) (p ⊕ whole (get_or ns i e) ⊗ st.p) (total + get_or ns i e) (i + 1)
  further d e lt st line = record {
    weights = omega (arith, one_weight ns i e (inside lt), b.weights);
    sums = λ x g l h.
        let t = line x g l (passes_at x ws d i h lt) in
        let a = b.sums x g l h in
        (sym (one_line (λ st. st.s) x ws ns i d e lt (equal ws ns fit) s st.s t.s) ∙ a.0, sym (one_line (λ st. st.p) x ws ns i d e lt (equal ws ns fit) p st.p t.p) ∙ a.1);
  }

  done : length ws ≤ i → (x : Sheet) → gated src ≡ answer x → length x.surfaces ≡ n → AllPass x ws → record { lines = length ws; s = s ⊘ whole total; p = p ⊘ whole total } ≡ powers x ws ns
  done le x g l h =
      let a = b.sums x g l h in
      let w : total ≡ whole_sum ns = omega (arith, no_weight ns i (omega (arith, equal ws ns fit)), b.weights) in
      (λ k. record {
        lines = length ws;
        s = (sym (no_line (λ st. st.s) x ws ns i le s) ∙ a.0) k ⊘ whole (w k);
        p = (sym (no_line (λ st. st.p) x ws ns i le p) ∙ a.1) k ⊘ whole (w k);
      })

pub loop-i-init : goal.loop-i-init
loop-i-init c = begun _ _ _ _

pub offset_bounds-weights-i : goal.offset_bounds-weights-i
offset_bounds-weights-i c = record { fits = omega (arith, few c.args.wavelengths.now c.args.weights.now c.requires.0, c.loop-i-test.true) }

pub bounds-weights-i : goal.bounds-weights-i
bounds-weights-i c = inside _ _ _ _ _ _ _ _ c.loop-i.invariant c.requires.0 c.loop-i-test.true

pub overflow_add-whole : goal.overflow_add-whole
overflow_add-whole c = record { fits = room _ _ _ _ _ _ _ _ c.loop-i.invariant c.requires.0 0 c.loop-i-test.true c.requires.1 }

pub loop-i-preserved : goal.loop-i-preserved
loop-i-preserved c = further _ _ _ _ _ _ _ _ c.loop-i.invariant c.requires.0 _ 0 c.loop-i-test.true _ c.at_line-line.ensures

pub overflow_cast-result : goal.overflow_cast-result
overflow_cast-result c = record { fits = omega (arith, few c.args.wavelengths.now c.args.weights.now c.requires.0) }

pub returns : goal.returns
returns c = done _ _ _ _ _ _ _ _ c.loop-i.invariant c.requires.0 c.loop-i-test.false
