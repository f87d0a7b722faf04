-- What a comparison says of a range, and the functions made of comparisons: `cond`, `max`, `clamp`. Assumes nothing.
use mathlib.Core.Path.{◌≡◌, sym, ◌∙◌, subst}
use Prim.Native.Nat.{ℕ, ◌*◌, ◌^◌, ◌≤◌}
use native.Mathlib.Nat.{le_of_lt, not-le_of_lt}
use mathlib.Core.Bool.{Bool, true, false, not, ◌&&◌, cond}
use lib.Dec.{T, ltb, ltb→lt, nltb→le, nleb→lt, leb→le, T_not, not_T}
use lib.Pow.{pow_pos}
use lib.Ieee.{Float, nan, inf, fin, up, down, neg, lt, le}
use lib.Ieee.Bits.{cond_no}
use lib.Ieee.Fits.{and_l, and_r, down_pos}
use lib.Ieee.Scale.{finite}
use lib.Ieee.Positive.{num, den, den_pos, through, positive, above, between, le→cross, above_of_le}
use Rattle.ieee.specs.Range.{sgn, plus, Mag, In, Size, wider}
use Rattle.ieee.proofs.Range.Laws.{in_mag, neg_mag}
use Rattle.ieee.specs.Functions.{max, clamp}

-- ---- a choice, with the test's outcome at hand
pub choose : {A : Type 0} (P : A → Type 0) (b : Bool) (x y : A) → (T b → P x) → (T (not b) → P y) → P (cond b x y)
choose P true x y f g = f tt
choose P false x y f g = g tt

pub cond_mag : {p j : ℕ} {x y : Float} (b : Bool) → Mag p j x → Mag p j y → Mag p j (cond b x y)
cond_mag true h g = h
cond_mag false h g = g

pub cond_in : {a i p j : ℕ} {x y : Float} (b : Bool) → In a i p j x → In a i p j y → In a i p j (cond b x y)
cond_in true h g = h
cond_in false h g = g

-- ---- x above a c whose sign is clear: x's sign is clear, and x is no less than c
lt_up : (c x : Float) (a i : ℕ) → T (plus c) → a * den c ≤ num c * 2 ^ i → T (finite x) → T (lt c x) → T (plus x) × (a * den x ≤ num x * 2 ^ i)
unfolding lt
lt_up nan x a i p h f t = absurd p
lt_up (inf s) x a i p h f t = absurd p
lt_up (fin true n d) x a i p h f t = absurd p
lt_up (fin false n d) nan a i p h f t = absurd f
lt_up (fin false n d) (inf s) a i p h f t = absurd f
lt_up (fin false n d) (fin true m e) a i p h f t = absurd t
lt_up (fin false n d) (fin false m e) a i p h f t = (tt, through a (n * up d) (m * up e) (2 ^ i) (down d) (down e) (down_pos d) h (le_of_lt (ltb→lt (n * up d * down e) (m * up e * down d) t)))

pub lt_in : {a i b k p j : ℕ} {c x : Float} → In a i b k c → Mag p j x → T (lt c x) → In a i p j x
lt_in {a} {i} {c = c} {x = x} h g t =
    let u = lt_up c x a i h.sign h.least g.fine t in
    record { sign = u.0; least = u.1; most = g.most }

-- ---- x not below c, both with clear signs
nlt_up : (c x : Float) (a i : ℕ) → T (plus c) → a * den c ≤ num c * 2 ^ i → T (plus x) → T (not (lt x c)) → a * den x ≤ num x * 2 ^ i
unfolding lt
nlt_up nan x a i p h f t = absurd p
nlt_up (inf s) x a i p h f t = absurd p
nlt_up (fin true n d) x a i p h f t = absurd p
nlt_up (fin false n d) nan a i p h f t = absurd f
nlt_up (fin false n d) (inf s) a i p h f t = absurd f
nlt_up (fin false n d) (fin true m e) a i p h f t = absurd f
nlt_up (fin false n d) (fin false m e) a i p h f t = through a (n * up d) (m * up e) (2 ^ i) (down d) (down e) (down_pos d) h (nltb→le (m * up e * down d) (n * up d * down e) t)

pub nlt_in : {a i b k e f p j : ℕ} {c x : Float} → In a i b k c → In e f p j x → T (not (lt x c)) → In a i p j x
nlt_in {a} {i} {c = c} {x = x} h g t = record { sign = g.sign; least = nlt_up c x a i h.sign h.least g.sign t; most = g.most }

-- ---- x below -c: x is negative, and |x| is no less than c
lt_down : (c x : Float) (a i : ℕ) → T (plus c) → a * den c ≤ num c * 2 ^ i → T (finite x) → T (lt x (neg c)) → T (sgn x) × (a * den x ≤ num x * 2 ^ i)
unfolding lt neg
lt_down nan x a i p h f t = absurd p
lt_down (inf s) x a i p h f t = absurd p
lt_down (fin true n d) x a i p h f t = absurd p
lt_down (fin false n d) nan a i p h f t = absurd f
lt_down (fin false n d) (inf s) a i p h f t = absurd f
lt_down (fin false n d) (fin false m e) a i p h f t = absurd t
lt_down (fin false n d) (fin true m e) a i p h f t = (tt, through a (n * up d) (m * up e) (2 ^ i) (down d) (down e) (down_pos d) h (le_of_lt (ltb→lt (n * up d * down e) (m * up e * down d) t)))

pub lt_size : {a i b k p j : ℕ} {c x : Float} → In a i b k c → Mag p j x → T (lt x (neg c)) → T (sgn x) × Size a i p j x
lt_size {a} {i} {c = c} {x = x} h g t =
    let u = lt_down c x a i h.sign h.least g.fine t in
    (u.0, record { fine = g.fine; least = u.1; most = g.most })

-- ---- x neither above c nor below -c
in_between : (c x : Float) (p j : ℕ) → T (plus c) → num c * 2 ^ j ≤ p * den c → T (finite x) → T (not (lt c x)) → T (not (lt x (neg c))) → num x * 2 ^ j ≤ p * den x
unfolding lt neg
in_between nan x p j s h f t u = absurd s
in_between (inf b) x p j s h f t u = absurd s
in_between (fin true n d) x p j s h f t u = absurd s
in_between (fin false n d) nan p j s h f t u = absurd f
in_between (fin false n d) (inf b) p j s h f t u = absurd f
in_between (fin false n d) (fin false m e) p j s h f t u = through (m * up e) (n * up d) p (down e) (down d) (2 ^ j) (down_pos d) (nltb→le (n * up d * down e) (m * up e * down d) t) h
in_between (fin false n d) (fin true m e) p j s h f t u = through (m * up e) (n * up d) p (down e) (down d) (2 ^ j) (down_pos d) (nltb→le (n * up d * down e) (m * up e * down d) u) h

pub within : {a i p j : ℕ} {c x : Float} → In a i p j c → T (finite x) → T (not (lt c x)) → T (not (lt x (neg c))) → Mag p j x
within {p = p} {j = j} {c = c} {x = x} h f t u = record { fine = f; most = in_between c x p j h.sign h.most f t u }

-- ---- x not above c, with clear signs
below_plus : (c x : Float) (p j : ℕ) → T (plus c) → num c * 2 ^ j ≤ p * den c → T (plus x) → T (not (lt c x)) → num x * 2 ^ j ≤ p * den x
unfolding lt
below_plus nan x p j s h f t = absurd s
below_plus (inf b) x p j s h f t = absurd s
below_plus (fin true n d) x p j s h f t = absurd s
below_plus (fin false n d) nan p j s h f t = absurd f
below_plus (fin false n d) (inf b) p j s h f t = absurd f
below_plus (fin false n d) (fin true m e) p j s h f t = absurd f
below_plus (fin false n d) (fin false m e) p j s h f t = through (m * up e) (n * up d) p (down e) (down d) (2 ^ j) (down_pos d) (nltb→le (n * up d * down e) (m * up e * down d) t) h

pub nlt_most : {a i p j b k q l : ℕ} {c x : Float} → In a i p j c → In b k q l x → T (not (lt c x)) → In b k p j x
nlt_most {p = p} {j = j} {c = c} {x = x} h g t = record { sign = g.sign; least = g.least; most = below_plus c x p j h.sign h.most g.sign t }

-- ---- the functions of section 2
pub max_in : {a i p j : ℕ} {x c : Float} → Mag p j x → In a i p j c → In a i p j (max x c)
unfolding max
max_in {a} {i} {p} {j} {x} {c} h g = choose (λ z. In a i p j z) (lt c x) x c (λ t. lt_in g h t) (λ t. g)

-- clamped between -c and c
pub clamp_mag : {a i p j q k : ℕ} {x lo c : Float} → In a i p j c → lo ≡ neg c → Mag q k x → Mag p j (clamp x lo c)
unfolding clamp
clamp_mag {a} {i} {p} {j} {q} {k} {x} {lo} {c} h e f =
    let l : Mag p j lo = subst (λ (z : Float). Mag p j z) (sym e) (neg_mag (in_mag h)) in
    choose (λ z. Mag p j z) (lt x lo) lo (cond (lt c x) c x) (λ t. l)
    (λ u. choose (λ z. Mag p j z) (lt c x) c x (λ t. in_mag h) (λ t. within h f.fine t (subst (λ (z : Float). T (not (lt x z))) e u)))

-- clamped between 0 and c
pub clamp_in : {a i p j b k q l d m : ℕ} {x lo c : Float} → In a i p j c → In d m p j lo → In b k q l x → T (wider d m a i) → In d m p j (clamp x lo c)
unfolding clamp
clamp_in {a} {i} {p} {j} {b} {k} {q} {l} {d} {m} {x} {lo} {c} h g f w =
    choose (λ z. In d m p j z) (lt x lo) lo (cond (lt c x) c x) (λ t. g)
    (λ u. choose (λ z. In d m p j z) (lt c x) c x (λ t. record { sign = h.sign; least = through d a (num c) (2 ^ m) (2 ^ i) (den c) (pow_pos i) (leb→le (d * 2 ^ i) (a * 2 ^ m) w) h.least; most = h.most }) (λ t. nlt_most h (nlt_in g f u) t))

-- ---- the gate: lo ≤ x ≤ hi, for a lo above zero
-- what lies between the ends is left as it is
pub clamp_same : (x lo hi : Float) → T (not (lt x lo)) → T (not (lt hi x)) → clamp x lo hi ≡ x
unfolding clamp
clamp_same x lo hi t u = cond_no (lt x lo) lo (cond (lt hi x) hi x) t ∙ cond_no (lt hi x) hi x u

pub positive_plus : (x : Float) → T (positive x) → T (plus x)
positive_plus nan p = absurd p
positive_plus (inf s) p = absurd p
positive_plus (fin true m e) p = absurd p
positive_plus (fin false m e) p = tt

pub gate_in : {a i b k c l p j : ℕ} (lo hi x : Float) → In a i b k lo → In c l p j hi → T (positive lo && positive hi) → T (le lo x) → T (le x hi) → In a i p j x
gate_in {a} {i} {p = p} {j = j} lo hi x h g t u v =
    let L = and_l (positive lo) (positive hi) t in
    let H = and_r (positive lo) (positive hi) t in
    let P = between lo x hi L H u v in
    record {
      sign = positive_plus x P;
      least = through a (num lo) (num x) (2 ^ i) (den lo) (den x) (den_pos lo) h.least (le→cross lo x L P u);
      most = through (num x) (num hi) p (den x) (den hi) (2 ^ j) (den_pos hi) (le→cross x hi P H v) g.most;
    }

-- ---- a test that the ranges decide: |x| ≤ p / 2 ^ j ≤ a / 2 ^ i ≤ c
pub never_above : {a i b k p j : ℕ} {c x : Float} → In a i b k c → Mag p j x → T (wider p j a i) → T (not (lt c x))
never_above {a} {i} {p = p} {j = j} {c = c} {x = x} h g t = go c x h.sign h.least g.fine g.most
  where
    go : (c x : Float) → T (plus c) → a * den c ≤ num c * 2 ^ i → T (finite x) → num x * 2 ^ j ≤ p * den x → T (not (lt c x))
    go nan x s l f m = absurd s
    go (inf b) x s l f m = absurd s
    go (fin true n d) x s l f m = absurd s
    go (fin false n d) nan s l f m = absurd f
    go (fin false n d) (inf b) s l f m = absurd f
    go (fin false n d) (fin true v e) s l f m = unfold lt in tt
    go (fin false n d) (fin false v e) s l f m = unfold lt in not_T (ltb (n * up d * down e) (v * up e * down d)) (λ u. not-le_of_lt (ltb→lt (n * up d * down e) (v * up e * down d) u)
        (through (v * up e) p (n * up d) (down e) (2 ^ j) (down d) (pow_pos j) m (through p a (n * up d) (2 ^ j) (2 ^ i) (down d) (pow_pos i) (leb→le (p * 2 ^ i) (a * 2 ^ j) t) l)))

pub never_below : {a i b k p j : ℕ} {c lo x : Float} → lo ≡ neg c → In a i b k c → Mag p j x → T (wider p j a i) → T (not (lt x lo))
never_below {a} {i} {p = p} {j = j} {c = c} {lo = lo} {x = x} e h g t = subst (λ (z : Float). T (not (lt x z))) (sym e) (go c x h.sign h.least g.fine g.most)
  where
    go : (c x : Float) → T (plus c) → a * den c ≤ num c * 2 ^ i → T (finite x) → num x * 2 ^ j ≤ p * den x → T (not (lt x (neg c)))
    go nan x s l f m = absurd s
    go (inf b) x s l f m = absurd s
    go (fin true n d) x s l f m = absurd s
    go (fin false n d) nan s l f m = absurd f
    go (fin false n d) (inf b) s l f m = absurd f
    go (fin false n d) (fin false v e) s l f m = unfold lt neg in tt
    go (fin false n d) (fin true v e) s l f m = unfold lt neg in not_T (ltb (n * up d * down e) (v * up e * down d)) (λ u. not-le_of_lt (ltb→lt (n * up d * down e) (v * up e * down d) u)
        (through (v * up e) p (n * up d) (down e) (2 ^ j) (down d) (pow_pos j) m (through p a (n * up d) (2 ^ j) (2 ^ i) (down d) (pow_pos i) (leb→le (p * 2 ^ i) (a * 2 ^ j) t) l)))

-- a y in a range from a / 2 ^ i is not below a c up to b / 2 ^ k, where b / 2 ^ k ≤ a / 2 ^ i
pub never_under : {a i p j b k q l : ℕ} {c y : Float} → In a i p j y → In b k q l c → T (wider q l a i) → T (not (lt y c))
never_under h g t = never_above h (in_mag g) t

-- c below x, by the ranges: q / 2 ^ l < a / 2 ^ i
pub surely_below : {a i p j b k q l : ℕ} {x c : Float} → In a i p j x → In b k q l c → T (not (wider a i q l)) → T (lt c x)
surely_below {a} {i} {q = q} {l = l} {x = x} {c = c} h g t = go c x g.sign h.sign g.most h.least
  where
    go : (c x : Float) → T (plus c) → T (plus x) → num c * 2 ^ l ≤ q * den c → a * den x ≤ num x * 2 ^ i → T (lt c x)
    go nan x s u m v = absurd s
    go (inf b) x s u m v = absurd s
    go (fin true n d) x s u m v = absurd s
    go (fin false n d) nan s u m v = absurd u
    go (fin false n d) (inf b) s u m v = absurd u
    go (fin false n d) (fin true w e) s u m v = absurd u
    go (fin false n d) (fin false w e) s u m v = unfold lt in yes_or (ltb (n * up d * down e) (w * up e * down d)) (λ f. not-le_of_lt (nleb→lt (a * 2 ^ l) (q * 2 ^ i) t)
        (through a (w * up e) q (2 ^ i) (down e) (2 ^ l) (down_pos e) v (through (w * up e) (n * up d) q (down e) (down d) (2 ^ l) (down_pos d) (nltb→le (n * up d * down e) (w * up e * down d) f) m)))
      where
        yes_or : (b : Bool) → (T (not b) → ⊥) → T b
        yes_or true f = tt
        yes_or false f = f tt

-- the larger of x and c is x
pub max_keep : {a i p j b k q l : ℕ} {x c : Float} → In a i p j x → In b k q l c → T (not (wider a i q l)) → In a i p j (max x c)
unfolding max
max_keep {a} {i} {p} {j} {x = x} {c = c} h g t = choose (λ z. In a i p j z) (lt c x) x c (λ u. h) (λ u. absurd (T_not (lt c x) u (surely_below h g t)))

-- ---- the gate from one side: lo ≤ x, for an x whose size is bounded already
pub gate_least : {a i b k p j : ℕ} (lo x : Float) → In a i b k lo → Mag p j x → T (positive lo) → T (le lo x) → In a i p j x
gate_least {a} {i} lo x h g L u =
    let P = go x (above_of_le lo x L u) g.fine in
    record { sign = positive_plus x P; least = through a (num lo) (num x) (2 ^ i) (den lo) (den x) (den_pos lo) h.least (le→cross lo x L P u); most = g.most }
  where
    go : (x : Float) → T (above x) → T (finite x) → T (positive x)
    go nan a f = absurd a
    go (inf s) a f = absurd f
    go (fin true m e) a f = absurd a
    go (fin false m e) a f = a
