-- The invariant of a root taken a binary digit at a time, on plain numbers. `s` is twice the weight of the next digit, `q` the digits found, and `l` what q * q leaves of n, divided by that weight.
-- Assumes nothing.
use Rattle.std.proofs.Common.{◌≡◌, ℕ, zero, suc, ◌+◌, ◌-◌, ◌*◌, ◌/◌, ◌^◌, ◌<◌, ◌≤◌, refl, ◌∙◌, subst, lt_irrefl, sub-add_cancel, arith, lit≤, pow_pos}
use native.Mathlib.Nat.{pow-succ'}
use Rattle.math_sqrt.specs.Steps.{Rooted}

pub record Digits (n q l s : ℕ) : Type 0 where
  pub places : ℕ
  pub power : s ≡ 2 ^ places
  pub sum : 2 * (q * q) + l * s ≡ 2 * n
  pub less : l < 4 * q + 2 * s
  pub room : q + s ≤ 2 ^ 53

-- a power of two above 1 is twice its half, which is one too
pub halves : (j s : ℕ) → s ≡ 2 ^ j → 1 < s → (i : ℕ) × (s / 2 ≡ 2 ^ i) × (s ≡ 2 * (s / 2))
halves zero s e h = absurd (lt_irrefl 1 (subst (λ (x : ℕ). 1 < x) e h))
halves (suc i) s e h =
    let d : s ≡ 2 * 2 ^ i = e ∙ pow-succ' 2 i in
    (i, omega arith, omega arith)

pub first : (d : ℕ) → d < 2 ^ 54 → Digits (d * 2 ^ 52) 0 d (2 ^ 53)
first d h = record { places = 53; power = refl; sum = omega arith; less = omega arith; room = lit≤ tt }

taken_sum : (n q l w : ℕ) → 2 * (q * q) + (l + (2 * q + w)) * (2 * w) ≡ 2 * n → 2 * ((q + w) * (q + w)) + 2 * l * w ≡ 2 * n
taken_sum n q l w h = omega arith

missed_sum : (n q l w : ℕ) → 2 * (q * q) + l * (2 * w) ≡ 2 * n → 2 * (q * q) + 2 * l * w ≡ 2 * n
missed_sum n q l w h = omega arith

pub taken : (n q l s : ℕ) → Digits n q l s → 1 < s → 2 * q + s / 2 ≤ l → Digits n (q + s / 2) (2 * (l - (2 * q + s / 2))) (s / 2)
taken n q l s v h t =
    let w = s / 2 in
    let u = 2 * q + w in
    let p = halves v.places s v.power h in
    let e : 2 * (q * q) + (l - u + u) * (2 * w) ≡ 2 * n = rw (sub-add_cancel t, ← p.2) v.sum in
    record { places = p.0; power = p.1; sum = taken_sum n q (l - u) w e; less = bound q l s w p.2 v.less t; room = place q s w p.2 v.room }
  where
    bound : (q l s w : ℕ) → s ≡ 2 * w → l < 4 * q + 2 * s → 2 * q + w ≤ l → 2 * (l - (2 * q + w)) < 4 * (q + w) + 2 * w
    bound q l s w e a b = omega arith

    place : (q s w : ℕ) → s ≡ 2 * w → q + s ≤ 2 ^ 53 → q + w + w ≤ 2 ^ 53
    place q s w e a = omega arith

pub missed : (n q l s : ℕ) → Digits n q l s → 1 < s → l < 2 * q + s / 2 → Digits n q (2 * l) (s / 2)
missed n q l s v h t =
    let w = s / 2 in
    let p = halves v.places s v.power h in
    let e : 2 * (q * q) + l * (2 * w) ≡ 2 * n = rw (← p.2) v.sum in
    record { places = p.0; power = p.1; sum = missed_sum n q l w e; less = bound q l w t; room = place q s w p.2 v.room }
  where
    bound : (q l w : ℕ) → l < 2 * q + w → 2 * l < 4 * q + 2 * w
    bound q l w b = omega arith

    place : (q s w : ℕ) → s ≡ 2 * w → q + s ≤ 2 ^ 53 → q + w ≤ 2 ^ 53
    place q s w e a = omega arith

-- at the end the weight is a half, so l is twice what is left
pub last : (n q l s : ℕ) → Digits n q l s → s ≤ 1 → Rooted n q (l / 2)
last n q l s v h =
    let o : s ≡ 1 = one (2 ^ v.places) s v.power (pow_pos v.places) h in
    let e : 2 * (q * q) + l * 1 ≡ 2 * n = rw (← o) v.sum in
    let b : l < 4 * q + 2 * 1 = subst (λ (x : ℕ). l < 4 * q + 2 * x) o v.less in
    record { sum = half (q * q) l n e; small = at_most q l b }
  where
    one : (p s : ℕ) → s ≡ p → 0 < p → s ≤ 1 → s ≡ 1
    one p s e a b = omega arith

    half : (x l n : ℕ) → 2 * x + l * 1 ≡ 2 * n → x + l / 2 ≡ n
    half x l n e = omega arith

    at_most : (q l : ℕ) → l < 4 * q + 2 * 1 → l / 2 ≤ 2 * q
    at_most q l b = omega arith
