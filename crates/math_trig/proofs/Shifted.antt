-- What the code of `first_line` works out is the definition: up to π x less zero, else k by adding and subtracting 1.5 · 2 ^ 52, T - T1 as a constant. Assumes nothing.
use mathlib.Core.Path.{◌≡◌, refl, sym, ap, ◌∙◌}
use Prim.Native.Nat.{ℕ, ◌*◌, ◌^◌, ◌≤◌}
use native.Mathlib.Omega.{arith}
use mathlib.Core.Bool.{Bool, true, false, cond}
use lib.Dec.{T}
use lib.Ieee.{Float, binary64, le, add, sub, neg, rem, of_bits}
use lib.Ieee.Fits.{sub-fits}
use lib.Ieee.Positive.{num, den}
use Rattle.ieee.specs.Operators.{◌⊖◌, ◌⊗◌, ◌⊘◌}
use Rattle.ieee.specs.Functions.{zero_f, abs}
use Rattle.ieee.specs.Range.{Mag, In}
use Rattle.ieee.proofs.Range.Laws.{mag_lit, in_lit, mag_up}
use Rattle.ieee.proofs.Range.Sums.{sub_mag}
use Rattle.ieee.proofs.Range.Falls.{le_up}
use Rattle.whole_nearest.specs.Nearest.{nearest_whole}
use Rattle.whole_nearest.proofs.Shift.{by_shift, shift_finds}
use Rattle.math_trig.specs.Angles.{tau, pi, tau_high, tau_low, turns_limit}
use Rattle.math_trig.specs.Trig.{less_turns, reduce, first_line}
use Rattle.math_trig.specs.Internal.{tau_rest, near_line}
use Rattle.math_trig.proofs.Turns.{limit_mag, pi_mag, quotient_mag, no_turn_below}
use Rattle.math_trig.proofs.Turned.{less_zero_same, reduce_none}
use Rattle.math_trig.proofs.TrigBounds.{pi_in}

rest_is : tau_rest ≡ tau ⊖ tau_high
unfolding sub add neg of_bits
rest_is = refl

pub k_by_shift : (x : Float) → T (le (abs x) turns_limit) → by_shift (x ⊘ tau) ≡ nearest_whole (x ⊘ tau)
k_by_shift x t = let q = quotient_mag x (limit_mag x t) in shift_finds (x ⊘ tau) q.fine (wide (num (x ⊘ tau)) (den (x ⊘ tau)) q.most)
  where
    wide : (n d : ℕ) → n * 2 ^ 0 ≤ 2 ^ 19 * d → n ≤ 2 ^ 50 * d
    wide n d h = omega arith

code_is : (x : Float) → T (le (abs x) turns_limit) → near_line x ≡ reduce x
unfolding near_line reduce less_turns
code_is x t =
    ap (λ (m : Float). x ⊖ by_shift (x ⊘ tau) ⊗ tau_high ⊖ by_shift (x ⊘ tau) ⊗ m ⊖ by_shift (x ⊘ tau) ⊗ tau_low) rest_is
    ∙ ap (λ (k : Float). x ⊖ k ⊗ tau_high ⊖ k ⊗ (tau ⊖ tau_high) ⊖ k ⊗ tau_low) (k_by_shift x t)

-- three zeros taken off are one: the first difference is an f64
plain_is : (x : Float) → T (le (abs x) pi) → x ⊖ zero_f ≡ reduce x
plain_is x t =
    let h = pi_mag x t in
    let d : Mag 4 0 (x ⊖ zero_f) = sub_mag h zero_mag tt in
    let once : x ⊖ zero_f ⊖ zero_f ≡ x ⊖ zero_f = less_zero_same (x ⊖ zero_f) (sub-fits binary64 x zero_f) d.fine in
    sym (reduce_none x (mag_up h tt) (no_turn_below x h) ∙ ap (λ (z : Float). z ⊖ zero_f) once ∙ once)
  where
    zero_mag : Mag 0 0 zero_f
    zero_mag = unfold of_bits in mag_lit zero_f tt

-- ---- the branches of the code
turned_off : (x : Float) → T (le (abs x) turns_limit) → {y : Float} → y ≡ reduce x → y ≡ first_line x
unfolding first_line
turned_off x t = go (le (abs x) turns_limit) t
  where
    go : (b : Bool) → T b → {y : Float} → y ≡ reduce x → y ≡ cond b (reduce x) (rem binary64 x tau)
    go true t e = e
    go false t e = absurd t

pub up_to_pi : (x : Float) → T (le (abs x) pi) → x ⊖ zero_f ≡ first_line x
up_to_pi x t = turned_off x (le_up (abs x) pi_in limit_in tt t) (plain_is x t)
  where
    limit_in : In (2 ^ 20) 0 (2 ^ 20) 0 turns_limit
    limit_in = unfold of_bits in in_lit turns_limit tt

pub up_to_limit : (x : Float) → T (le (abs x) turns_limit) → near_line x ≡ first_line x
up_to_limit x t = turned_off x t (code_is x t)
