-- `ieee_rem::of_patterns` meets its contract. Assumes nothing.
use mathlib.Core.Path.{sym, ap, ap₂, ◌∙◌, subst}
use Prim.Native.Nat.{ℕ, ◌+◌, ◌-◌, ◌*◌, ◌/◌, ◌%◌, ◌^◌, ◌≤◌, ◌<◌}
use native.Mathlib.Nat.{add-zero}
use native.Mathlib.Omega.{arith}
use Rattle.ieee_rem.specs.Internal.{digits, place, pack, of_patterns}
use Rattle.ieee_rem.proofs.Steps.{pack_zero}
use Rattle.ieee_rem.proofs.Value.{packed}
use Rattle.ieee_rem.proofs.Pattern.{place_most, rest_lt}
use Rattle.ieee_rem.proofs.of_patterns.Goals as goal

fits_sum : (a p : ℕ) → a < 2 ^ 64 → p < 0x7ff0_0000_0000_0000 → a / 2 ^ 63 * 2 ^ 63 + p < 2 ^ 64
fits_sum a p h g = omega arith

pub overflow_add-result : goal.overflow_add-result
overflow_add-result c =
    let w : c.args.a < 2 ^ 64 = omega (arith, c.ranges.a) in
    let m = (packed 0 _ _ ((subst (λ (n : ℕ). n < 2 ^ 53) (sym ((c.left-r.ensures
    ∙ ap₂ (λ (m n : ℕ). m * 2 ^ (c.place.result - c.place-2.result) % n) c.digits.ensures c.digits-2.ensures
    ∙ ap₂ (λ (i j : ℕ). digits c.args.a * 2 ^ (i - j) % digits c.args.b) c.place.ensures c.place-2.ensures))) (rest_lt c.args.a c.args.b (place c.args.a - place c.args.b) c.requires.0))) ((subst (λ (n : ℕ). n ≤ 2045) (sym c.place-else-r-eq0.ensures) (place_most c.args.b c.requires.1)))).most in
    let h = fits_sum c.args.a c.pack.result w (subst (λ (n : ℕ). n < 0x7ff0_0000_0000_0000) (sym c.pack.ensures) m) in
    omega (arith, h)

pub returns-then-r-eq0 : goal.returns-then-r-eq0
unfolding of_patterns
returns-then-r-eq0 c =
    sym (add-zero (c.args.a / 2 ^ 63 * 2 ^ 63))
    ∙ ap (λ (n : ℕ). c.args.a / 2 ^ 63 * 2 ^ 63 + n) (sym (ap (λ (r : ℕ). pack r (place c.args.b)) (sym ((c.left-r.ensures
    ∙ ap₂ (λ (m n : ℕ). m * 2 ^ (c.place.result - c.place-2.result) % n) c.digits.ensures c.digits-2.ensures
    ∙ ap₂ (λ (i j : ℕ). digits c.args.a * 2 ^ (i - j) % digits c.args.b) c.place.ensures c.place-2.ensures)) ∙ c.if-r-eq0.true) ∙ pack_zero (place c.args.b)))

pub returns-else-r-eq0 : goal.returns-else-r-eq0
unfolding of_patterns
returns-else-r-eq0 c =
    ap (λ (n : ℕ). c.args.a / 2 ^ 63 * 2 ^ 63 + n) (c.pack.ensures ∙ ap₂ pack ((c.left-r.ensures
    ∙ ap₂ (λ (m n : ℕ). m * 2 ^ (c.place.result - c.place-2.result) % n) c.digits.ensures c.digits-2.ensures
    ∙ ap₂ (λ (i j : ℕ). digits c.args.a * 2 ^ (i - j) % digits c.args.b) c.place.ensures c.place-2.ensures)) c.place-else-r-eq0.ensures)
