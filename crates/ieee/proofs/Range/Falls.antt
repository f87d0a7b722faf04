-- Values that are not below zero, a zero of either sign among them, by value: rounding keeps their order, a product with one that is at most 1 does not grow, and sums keep the order. Assumes nothing.
use mathlib.Core.Path.{◌≡◌, refl, sym, ap, ◌∙◌, subst}
use Prim.Native.Nat.{ℕ, zero, suc, ◌+◌, ◌-◌, ◌*◌, ◌^◌, ◌≤◌, ◌<◌}
use native.Mathlib.Nat.{le_trans, le_of_eq, eq-or-lt_of_le, eq-zero-or-pos, zero-mul, mul-zero, zero-add, add-zero, sub-zero, mul_comm, mul_assoc, mul-le-mul_left, mul-le-mul_right, mul-pos}
use native.Mathlib.Omega.{arith}
use mathlib.Core.Bool.{Bool, true, false, ◌&&◌, ◌||◌, cond}
use mathlib.Core.Logic.{inl, inr}
use lib.Dec.{T, ltb, eqb, leb→le, eqb→eq, eqb_refl, lt→ltb, leb-zero, leb-suc-zero, leb-suc-suc, lit≤}
use lib.IntN.{pos}
use lib.Pow.{pow_pos}
use lib.Ieee.{Float, nan, inf, fin, binary64, up, down, unlike, below, level, round, sum, le, fits, of_bits}
use lib.Ieee.Fits.{and_l, and_r, and_i}
use lib.Ieee.Scale.{finite}
use lib.Ieee.Positive.{num, den, den_pos, through}
use Rattle.ieee.specs.Operators.{◌⊕◌, ◌⊗◌}
use Rattle.ieee.specs.Functions.{zero_f, one, abs}
use Rattle.ieee.specs.Range.{sgn, clear, plus, Mag, In, wider}
use Rattle.ieee.proofs.Signs.{zero_is}
use Rattle.ieee.proofs.Range.Round.{round_clear, le_cross}
use Rattle.ieee.proofs.Range.Laws.{plus_finite, plus_sgn, in_mag, rep_small, round_rep, mul_is, add_is, mul_mag}
use Rattle.ieee.proofs.Range.Sums.{add_mag}
use Rattle.ieee.proofs.Range.Ratio.{under_round}
use Rattle.ieee.proofs.Range.Values.{round_itself}
use Rattle.ieee.proofs.Range.Zero.{zero_num}
use Rattle.ieee.proofs.Range.FromZero.{from_zero, plus_clear}
use Rattle.ieee.proofs.Range.Constants.{zero_mag, one_in, one_mag}
use Rattle.ieee.proofs.Range.AbsProduct.{abs_round, abs_parts}

-- ---- not below zero: only a zero has its sign set
abbrev pub Least0 : Float → Type 0
Least0 x = T (sgn x) → num x ≡ 0

plus_least0 : (x : Float) → T (plus x) → Least0 x
plus_least0 x p s = absurd (subst T (plus_sgn x p) s)

pub least0 : (x : Float) → T (le zero_f x) → Least0 x
least0 x t = go x (subst (λ (z : Float). T (le z x)) zero_is t)
  where
    nought : (n d : ℕ) → 0 * d ≡ n * 1 → n ≡ 0
    nought n d e = omega arith

    go : (x : Float) → T (le (fin false 0 (pos 0)) x) → Least0 x
    go nan t s = refl
    go (inf b) t s = refl
    go (fin false m e) t s = absurd s
    go (fin true m e) t s = nought (m * up e) (down e) (eqb→eq (0 * down e) (m * up e * 1) (and_l (eqb (0 * down e) (m * up e * 1)) (false || eqb (0 * down e) 0) (unfold le in t)))

-- ---- the order of such values is that of their sizes
pub or_l : (a b : Bool) → T a → T (a || b)
or_l true b t = tt
or_l false b t = absurd t

pub or_r : (a b : Bool) → T b → T (a || b)
or_r true b t = tt
or_r false b t = t

-- equal, and alike in sign or zero
same : (a b : ℕ) (c : Bool) → a ≡ b → T c → T (eqb a b && c)
same a b c e t = and_i (eqb a b) c (subst (λ (x : ℕ). T (eqb a x)) e (eqb_refl a)) t

order : (s : Bool) (a : ℕ) (t : Bool) (b : ℕ) → (T s → a ≡ 0) → (T t → b ≡ 0) → a ≤ b → T (below s a t b || level s a t b)
order false a false b f g h = elim (eq-or-lt_of_le h) [ inl e ↦ or_r (ltb a b) (eqb a b && true) (same a b true e tt) | inr l ↦ or_l (ltb a b) (eqb a b && true) (lt→ltb a b l) ]
order false a true b f g h = let z : a ≡ 0 = zero_below a b h (g tt) in same a b (eqb a 0) (z ∙ sym (g tt)) (subst (λ (x : ℕ). T (eqb x 0)) (sym z) tt)
  where
    zero_below : (a b : ℕ) → a ≤ b → b ≡ 0 → a ≡ 0
    zero_below a b h e = omega arith
order true a false b f g h = elim (eq-or-lt_of_le h) [
  | inl e ↦ or_r (ltb 0 (a + b)) (eqb a b && eqb a 0) (same a b (eqb a 0) e (subst (λ (x : ℕ). T (eqb x 0)) (sym (f tt)) tt))
  | inr l ↦ or_l (ltb 0 (a + b)) (eqb a b && eqb a 0) (lt→ltb 0 (a + b) (above a b l))
]
  where
    above : (a b : ℕ) → a < b → 0 < a + b
    above a b l = omega arith
order true a true b f g h = or_r (ltb b a) (eqb a b && true) (same a b true (f tt ∙ sym (g tt)) tt)

pub least0_le : (x y : Float) → T (finite x) → T (finite y) → Least0 x → Least0 y → num x * den y ≤ num y * den x → T (le x y)
unfolding le
least0_le nan y f g p q h = absurd f
least0_le (inf s) y f g p q h = absurd f
least0_le (fin s m e) nan f g p q h = absurd g
least0_le (fin s m e) (inf t) f g p q h = absurd g
least0_le (fin s m e) (fin t n d) f g p q h =
    order s (m * up e * down d) t (n * up d * down e) (λ u. ap (λ (x : ℕ). x * down d) (p u) ∙ zero-mul (down d)) (λ u. ap (λ (x : ℕ). x * down e) (q u) ∙ zero-mul (down e)) h

-- what is at most c is at most d, for any x: c's range lies below d's
pub le_up : {a i p j b k q l : ℕ} (x : Float) {c d : Float} → In a i p j c → In b k q l d → T (wider p j b k) → T (le x c) → T (le x d)
unfolding le
le_up {p = p} {j = j} {b = b} {k = k} x {c} {d} h g w = go x c d h.sign g.sign (through (num c) p (num d) (den c) (2 ^ j) (den d) (pow_pos j) h.most (through p b (num d) (2 ^ j) (2 ^ k) (den d) (pow_pos k) (leb→le (p * 2 ^ k) (b * 2 ^ j) w) g.least))
  where
    none : (a b : ℕ) → a + b ≡ 0 → T (eqb a b && eqb a 0)
    none zero zero e = tt
    none zero (suc b) e = let z : ⊥ = omega arith in absurd z
    none (suc a) b e = let z : ⊥ = omega arith in absurd z

    negative : (a b : ℕ) → T (ltb 0 (a + b) || (eqb a b && eqb a 0))
    negative a b = elim (eq-zero-or-pos (a + b)) [ inl e ↦ or_r (ltb 0 (a + b)) (eqb a b && eqb a 0) (none a b e) | inr l ↦ or_l (ltb 0 (a + b)) (eqb a b && eqb a 0) (lt→ltb 0 (a + b) l) ]

    go : (x c d : Float) → T (plus c) → T (plus d) → num c * den d ≤ num d * den c → T (le x c) → T (le x d)
    go nan c d p q h t = absurd t
    go (inf true) nan d p q h t = absurd p
    go (inf true) (inf s) d p q h t = absurd p
    go (inf true) (fin s n k) nan p q h t = absurd q
    go (inf true) (fin s n k) (inf r) p q h t = absurd q
    go (inf true) (fin s n k) (fin r m e) p q h t = tt
    go (inf false) nan d p q h t = absurd p
    go (inf false) (inf s) d p q h t = absurd p
    go (inf false) (fin s n k) d p q h t = absurd t
    go (fin true v u) c nan p q h t = absurd q
    go (fin true v u) c (inf r) p q h t = absurd q
    go (fin true v u) c (fin true m e) p q h t = absurd q
    go (fin true v u) c (fin false m e) p q h t = negative (v * up u * down e) (m * up e * down u)
    go (fin false v u) c d p q h t =
        least0_le (fin false v u) d tt (plus_finite d q) (λ s. absurd s) (plus_least0 d q)
        (through (v * up u) (num c) (num d) (down u) (den c) (den d) (den_pos c) (le_cross (fin false v u) c tt (plus_clear c p) tt (plus_finite c p) t) h)

-- ---- N / D as rounded, where only a zero has its sign set
pub record Rounds (x : Float) (N D : ℕ) : Type 0 where
  pub s : Bool
  pub is : x ≡ round binary64 s N D
  pub nought : T s → N ≡ 0

pub rounds_least0 : {x : Float} {N D : ℕ} → 0 < D → Rounds x N D → Least0 x
rounds_least0 {x} {N} {D} D0 r = subst Least0 (sym r.is) (go r.s r.nought)
  where
    none : (n d : ℕ) → n ≡ 0 → n * 1 ≤ 0 * d
    none n d e = omega arith

    set : (z : Float) → T (clear z) → T (sgn z) → num z ≡ 0
    set nan c t = refl
    set (inf b) c t = refl
    set (fin false m e) c t = absurd t
    set (fin true m e) c t = absurd c

    go : (s : Bool) → (T s → N ≡ 0) → Least0 (round binary64 s N D)
    go false f t = set (round binary64 false N D) (round_clear binary64 N D) t
    go true f t = zero_num (round_rep true N D 0 0 D0 (rep_small 0 0 tt) (none N D (f tt)))

-- rounding keeps the order
pub rounds_cross : {x y : Float} {N D N' D' : ℕ} → Rounds x N D → Rounds y N' D' → 0 < D → 0 < D' → T (finite y) → N * D' ≤ N' * D → T (finite x) × (num x * den y ≤ num y * den x)
rounds_cross {x} {y} {N} {D} {N'} {D'} r q D0 D0' f h =
    let a : abs y ≡ round binary64 false N' D' = ap abs q.is ∙ abs_round binary64 q.s N' D' in
    let p = abs_parts y f in
    let u = under_round binary64 r.s N D N' D' D0 D0' h (subst (λ (z : Float). T (finite z)) a p.0) in
    let n : num (round binary64 false N' D') ≡ num y = ap num (sym a) ∙ p.2 in
    let d : den (round binary64 false N' D') ≡ den y = ap den (sym a) ∙ p.3 in
    subst (λ (z : Float). T (finite z) × (num z * den y ≤ num y * den z)) (sym r.is) (u.0, rw (n, d) at u.1)

-- ---- the value itself, a product and a sum
pub self_rounds : (x : Float) → T (fits binary64 x) → T (finite x) → Least0 x → Rounds x (num x) (den x)
self_rounds x h f l = record { s = sgn x; is = sym (round_itself binary64 x f h); nought = l }

pub mul_rounds : (x y : Float) → T (finite x) → T (finite y) → Least0 x → Least0 y → Rounds (x ⊗ y) (num x * num y) (den x * den y)
mul_rounds x y f g p q = record { s = unlike (sgn x) (sgn y); is = mul_is x y f g; nought = go (sgn x) (sgn y) p q }
  where
    go : (s t : Bool) → (T s → num x ≡ 0) → (T t → num y ≡ 0) → T (unlike s t) → num x * num y ≡ 0
    go true t p q u = ap (λ (n : ℕ). n * num y) (p tt) ∙ zero-mul (num y)
    go false true p q u = ap (λ (n : ℕ). num x * n) (q tt) ∙ mul-zero (num x)
    go false false p q u = absurd u

pub add_rounds : (x y : Float) → T (finite x) → T (finite y) → Least0 x → Least0 y → Rounds (x ⊕ y) (num x * den y + num y * den x) (den x * den y)
unfolding sum
add_rounds x y f g p q =
    let X = num x * den y in
    let Y = num y * den x in
    let D = den x * den y in
    let r = go (sgn x) X (sgn y) Y D (λ u. ap (λ (n : ℕ). n * den y) (p u) ∙ zero-mul (den y)) (λ u. ap (λ (n : ℕ). n * den x) (q u) ∙ zero-mul (den x)) in
    record { s = r.s; is = add_is x y f g ∙ r.is; nought = r.nought }
  where
    first : (Y D : ℕ) → Rounds (sum binary64 true 0 false Y D) (0 + Y) D
    first zero D = record { s = false; is = refl; nought = λ u. refl }
    first (suc y) D = record { s = false; is = ap (λ (b : Bool). cond b (round binary64 false (suc y - 0) D) (round binary64 (true && ltb (suc y) 0) (0 - suc y) D)) (leb-suc-suc 0 y ∙ leb-zero y) ∙ ap (λ (n : ℕ). round binary64 false n D) (sub-zero (suc y) ∙ sym (zero-add (suc y))); nought = λ u. absurd u }

    second : (X D : ℕ) → Rounds (sum binary64 false X true 0 D) (X + 0) D
    second X D = record { s = false; is = ap (λ (b : Bool). cond b (round binary64 true (0 - X) D) (round binary64 false (X - 0) D)) (leb-suc-zero X) ∙ ap (λ (n : ℕ). round binary64 false n D) (sub-zero X ∙ sym (add-zero X)); nought = λ u. absurd u }

    go : (s : Bool) (X : ℕ) (t : Bool) (Y D : ℕ) → (T s → X ≡ 0) → (T t → Y ≡ 0) → Rounds (sum binary64 s X t Y D) (X + Y) D
    go false X false Y D f g = record { s = false; is = refl; nought = λ u. absurd u }
    go true X true Y D f g = record { s = true; is = refl; nought = λ u. ap (λ (n : ℕ). n + Y) (f tt) ∙ ap (λ (n : ℕ). 0 + n) (g tt) }
    go true X false Y D f g = subst (λ (n : ℕ). Rounds (sum binary64 true n false Y D) (n + Y) D) (sym (f tt)) (first Y D)
    go false X true Y D f g = subst (λ (n : ℕ). Rounds (sum binary64 false X true n D) (X + n) D) (sym (g tt)) (second X D)

-- ---- from 0 to 1
pub record FromZeroToOne (x : Float) : Type 0 where
  pub mag : Mag 1 0 x
  pub least : Least0 x

pub zero_to_one : (x : Float) → T (le zero_f x && le x one) → FromZeroToOne x
zero_to_one x t =
    let l = and_l (le zero_f x) (le x one) t in
    record { mag = from_zero x one one_in l (and_r (le zero_f x) (le x one) t); least = least0 x l }

zero_least0 : Least0 zero_f
unfolding of_bits
zero_least0 t = refl

least_zero : (x : Float) → T (finite x) → Least0 x → T (le zero_f x)
least_zero x f l = least0_le zero_f x zero_mag.fine f zero_least0 l (le_trans (le_of_eq (ap (λ (n : ℕ). n * den x) zero_none ∙ zero-mul (den x))) (low_end (num x * den zero_f)))
  where
    zero_none : num zero_f ≡ 0
    zero_none = zero_num zero_mag

    low_end : (n : ℕ) → 0 ≤ n
    low_end n = omega arith

one_least0 : Least0 one
unfolding of_bits
one_least0 t = absurd t

one_most : (x : Float) → FromZeroToOne x → T (le x one)
one_most x h = least0_le x one h.mag.fine one_mag.fine h.least one_least0 (through (num x) 1 (num one) (den x) 1 (den one) (lit≤ tt) h.mag.most one_in.least)

pub in_zero_to_one : {x : Float} → In 0 0 1 0 x → FromZeroToOne x
in_zero_to_one {x} h = record { mag = in_mag h; least = plus_least0 x h.sign }

pub to_tests : {x : Float} → FromZeroToOne x → T (le zero_f x && le x one)
to_tests {x} h = and_i (le zero_f x) (le x one) (least_zero x h.mag.fine h.least) (one_most x h)

-- ---- a product with a number from 0 to 1 is at least 0 and does not grow
product : (x y : Float) → FromZeroToOne x → FromZeroToOne y → Rounds (x ⊗ y) (num x * num y) (den x * den y)
product x y X Y = mul_rounds x y X.mag.fine Y.mag.fine X.least Y.least

pub product_unit : {x y : Float} → FromZeroToOne x → FromZeroToOne y → FromZeroToOne (x ⊗ y)
product_unit {x} {y} X Y = record { mag = mul_mag X.mag Y.mag tt; least = rounds_least0 (mul-pos (den_pos x) (den_pos y)) (product x y X Y) }

module _ (x y : Float) (held : T (fits binary64 x)) (X : FromZeroToOne x) (Y : FromZeroToOne y) where
  pub product_cross : num (x ⊗ y) * den x ≤ num x * den (x ⊗ y)
  product_cross = (rounds_cross (product x y X Y) (self_rounds x held X.mag.fine X.least) (mul-pos (den_pos x) (den_pos y)) (den_pos x) X.mag.fine (shrinks (num x) (den x) (num y) (den y) Y.mag.most)).1
    where
      shrinks : (a c b d : ℕ) → b * 1 ≤ 1 * d → a * b * c ≤ a * (c * d)
      shrinks a c b d h =
          let k : b ≤ d = omega arith in
          le_trans (le_of_eq (mul_assoc a b c)) (mul-le-mul_left a (le_trans (mul-le-mul_right c k) (le_of_eq (mul_comm d c))))

  pub product_falls : T (le (x ⊗ y) x)
  product_falls = least0_le (x ⊗ y) x (product_unit X Y).mag.fine X.mag.fine (product_unit X Y).least X.least product_cross

-- ---- and the sum of two such products is no more than the sum of what they were
sum_unit : {x y : Float} → FromZeroToOne x → FromZeroToOne y → T (finite (x ⊕ y)) × Least0 (x ⊕ y)
sum_unit {x} {y} X Y =
    let s : Mag 2 0 (x ⊕ y) = add_mag X.mag Y.mag tt in
    (s.fine, rounds_least0 (mul-pos (den_pos x) (den_pos y)) (add_rounds x y X.mag.fine Y.mag.fine X.least Y.least))

pub sum_le : {a b c d : Float} → FromZeroToOne a → FromZeroToOne b → FromZeroToOne c → FromZeroToOne d → num a * den c ≤ num c * den a → num b * den d ≤ num d * den b → T (le (a ⊕ b) (c ⊕ d))
sum_le {a} {b} {c} {d} A B C D h g =
    let s = sum_unit A B in
    let t = sum_unit C D in
    least0_le (a ⊕ b) (c ⊕ d) s.0 t.0 s.1 t.1
    (rounds_cross (add_rounds a b A.mag.fine B.mag.fine A.least B.least) (add_rounds c d C.mag.fine D.mag.fine C.least D.least)
    (mul-pos (den_pos a) (den_pos b)) (mul-pos (den_pos c) (den_pos d)) t.0 (both (num a) (den a) (num b) (den b) (num c) (den c) (num d) (den d) h g)).1
  where
    both : (a a' b b' c c' d d' : ℕ) → a * c' ≤ c * a' → b * d' ≤ d * b' → (a * b' + b * a') * (c' * d') ≤ (c * d' + d * c') * (a' * b')
    both a a' b b' c c' d d' h g = omega (arith, mul-le-mul_right (b' * d') h, mul-le-mul_right (a' * c') g)
