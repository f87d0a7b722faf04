-- The claim of slip 7. Assumes nothing.
use mathlib.Core.Path.{◌≡◌, sym, ap, ◌∙◌, subst}
use Prim.Native.Nat.{ℕ, ◌<◌}
use native.Mathlib.Nat.{le_trans, le_of_eq}
use lib.IntN.{nat_abs}
use lib.Ieee.{Float}
use Rattle.ieee.specs.Operators.{◌⊘◌}
use Rattle.ieee.specs.Range.{sgn}
use Rattle.whole_f64.proofs.Laws.{size_of}
use Rattle.whole_nearest.specs.Nearest.{nearest_size}
use Rattle.math_trig.specs.Angles.{tau}
use Rattle.math_trig.proofs.Turns.{limit_mag, pi_mag, turns_of}
use Rattle.math_trig.proofs.TrigBounds.{sin_mag, cos_mag}
use Rattle.math_trig.proofs.Parity.{sin_odd, cos_even}
use Rattle.math_phase.specs.Claim.{turns, PhaseClaim}
use Rattle.math_phase.proofs.Exact.{exact, no_turn_same, reduce_size}
use Rattle.math_phase.proofs.Below.{old_bits}
use Rattle.math_phase.proofs.Near.{near}

turns_size : (x : Float) → nat_abs (turns x) ≡ nearest_size (x ⊘ tau)
turns_size x = size_of (sgn x) (nearest_size (x ⊘ tau))

pub phase : PhaseClaim
phase = record {
  sin_within = sin_mag;
  cos_within = cos_mag;
  even = cos_even;
  odd = sin_odd;
  few = λ x t. le_trans (le_of_eq (turns_size x)) (turns_of x (limit_mag x t.most)).most;
  none = λ x t e. no_turn_same x t.held (limit_mag x t.most) (sym (turns_size x) ∙ ap nat_abs e);
  as_before = λ x ft t. old_bits x ft (pi_mag x t);
  exact = λ x t p. exact x t.held (limit_mag x t.most) (subst (λ (n : ℕ). 0 < n) (turns_size x) p);
  size = λ x t. reduce_size x t.held (limit_mag x t.most);
  near = λ x t turn lo hi. near turn lo hi x t.held (limit_mag x t.most);
}
