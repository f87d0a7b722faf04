-- For an f64 up to π in size there is no turn, and sin and cos have the bits that they had with x % T. Assumes nothing.
use mathlib.Core.Path.{◌≡◌, refl, sym, ap, ap₂, ◌∙◌, subst}
use Prim.Native.Nat.{ℕ, ◌*◌, ◌/◌, ◌%◌, ◌^◌, ◌≤◌, ◌<◌}
use native.Mathlib.Nat.{mul_comm, mul_assoc, mul_left_comm, mul-pos, mod-eq_of_lt}
use native.Mathlib.Omega.{arith}
use mathlib.Core.Bool.{Bool, true, false, cond}
use lib.Dec.{T, lit≤}
use lib.Ieee.{Float, binary64, round, fits, rem, le, of_bits}
use lib.Ieee.Scale.{round_same}
use lib.Ieee.Positive.{num, den, den_pos}
use Rattle.ieee.specs.Functions.{abs}
use Rattle.ieee.specs.Range.{sgn, Mag}
use Rattle.ieee.proofs.Range.Rem.{rem_is}
use Rattle.ieee.proofs.Range.Values.{round_itself}
use Rattle.ieee.proofs.Range.Laws.{mag_up}
use Rattle.math_trig.specs.Angles.{tau, tau_high, turns_limit}
use Rattle.math_trig.specs.Trig.{first_line}
use Rattle.math_trig.proofs.Turns.{M, tau_num, tau_den, tau_finite, no_turn_below}
use Rattle.math_phase.proofs.Exact.{no_turn_same}

-- T1 is T with the low 28 bits of its significand cleared
cleared : tau_high ≡ of_bits binary64 (0x4019_21FB_5444_2D18 / 2 ^ 28 * 2 ^ 28)
cleared = refl

-- x % T is x, below T
pub rem_same : (x : Float) → T (fits binary64 x) → Mag 7074237752028440 51 x → rem binary64 x tau ≡ x
rem_same x ft h =
    rem_is binary64 x tau h.fine tau_finite (subst (λ (n : ℕ). 0 < n) (sym tau_num) (lit≤ {m = 1} {n = M} tt))
    ∙ ap₂ (λ (n d : ℕ). round binary64 (sgn x) (num x * d % (n * den x)) (den x * d)) tau_num tau_den
    ∙ ap (λ (n : ℕ). round binary64 (sgn x) n (den x * 2 ^ 47)) (mod-eq_of_lt (less (num x) (den x) (den_pos x) h.most))
    ∙ round_same binary64 (sgn x) (num x * 2 ^ 47) (den x * 2 ^ 47) (num x) (den x) (mul-pos (den_pos x) (lit≤ {m = 1} {n = 2 ^ 47} tt)) (den_pos x) (simp (mul_assoc, mul_comm, mul_left_comm))
    ∙ round_itself binary64 x h.fine ft
  where
    less : (n d : ℕ) → 0 < d → n * 2 ^ 51 ≤ 7074237752028440 * d → n * 2 ^ 47 < M * d
    less n d D h = omega arith

pub old_bits : (x : Float) → T (fits binary64 x) → Mag 7074237752028440 51 x → first_line x ≡ rem binary64 x tau
unfolding first_line
old_bits x ft h = pick (le (abs x) turns_limit) (no_turn_same x ft (mag_up h tt) (no_turn_below x h) ∙ sym (rem_same x ft h))
  where
    pick : (b : Bool) {u v : Float} → u ≡ v → cond b u v ≡ v
    pick true e = e
    pick false e = refl
