-- Polynomial identities over ℤ, by computation: an expression is multiplied out to a list of monomials, and an identity holds where the difference of its sides has no term left. Assumes nothing.
use mathlib.Core.Path.{◌≡◌, refl, sym, ap, ap₂, ◌∙◌}
use mathlib.Core.Bool.{Bool, true, false, ◌&&◌}
use mathlib.Core.List.{List, [], ◌∷◌}
use Prim.Native.Nat.{ℕ, zero, suc}
use lib.Dec.{T, leb, eqb, eqb→eq}
use lib.Ieee.Fits.{and_l, and_r}
use lib.IntN.{ℤ, pos, negsuc, neg_ℤ, ◌+ℤ◌, ◌*ℤ◌, +ℤ_assoc, +ℤ_idl, +ℤ_idr, zero-*ℤ, *ℤ-zero, *ℤ_comm}
use Rattle.whole_ring.proofs.Laws.{left_comm, mul-add, add-mul, mul_assoc, mul_left_comm, mul_swap4, one-mul, minus_one_mul, equal}

-- ---- expressions: a variable by its place, a constant, a sum, a product, an opposite
infixl 6 ◌:+◌
infixl 7 ◌:*◌
pub data Ex : Type 0 where
  var : ℕ → Ex
  con : ℤ → Ex
  ◌:+◌ : Ex → Ex → Ex
  ◌:*◌ : Ex → Ex → Ex
  opp : Ex → Ex

abbrev pub nth : List ℤ → ℕ → ℤ
nth [] i = pos 0
nth (x ∷ r) zero = x
nth (x ∷ r) (suc i) = nth r i

abbrev pub eval : List ℤ → Ex → ℤ
eval r (var i) = nth r i
eval r (con c) = c
eval r (a :+ b) = eval r a +ℤ eval r b
eval r (a :* b) = eval r a *ℤ eval r b
eval r (opp a) = neg_ℤ (eval r a)

-- ---- monomials: variables in order
abbrev pub insert : ℕ → List ℕ → List ℕ
insert v [] = v ∷ []
insert v (w ∷ m) = elim (leb v w) [ true ↦ v ∷ w ∷ m | false ↦ w ∷ insert v m ]

abbrev pub join : List ℕ → List ℕ → List ℕ
join [] n = n
join (v ∷ m) n = insert v (join m n)

abbrev pub same : List ℕ → List ℕ → Bool
same [] [] = true
same [] (w ∷ n) = false
same (v ∷ m) [] = false
same (v ∷ m) (w ∷ n) = eqb v w && same m n

-- ---- polynomials: terms, each with its coefficient
pub data Poly : Type 0 where
  nil : Poly
  term : ℤ → List ℕ → Poly → Poly

abbrev pub isz : ℤ → Bool
isz (pos n) = eqb n 0
isz (negsuc n) = false

-- a term, unless its coefficient is 0
abbrev pub front : ℤ → List ℕ → Poly → Poly
front c m p = elim (isz c) [ true ↦ p | false ↦ term c m p ]

abbrev pub plus : ℤ → List ℕ → Poly → Poly
plus c m nil = term c m nil
plus c m (term d n p) = elim (same m n) [ true ↦ front (c +ℤ d) n p | false ↦ term d n (plus c m p) ]

abbrev pub add : Poly → Poly → Poly
add nil q = q
add (term c m p) q = plus c m (add p q)

abbrev pub times : ℤ → List ℕ → Poly → Poly
times c m nil = nil
times c m (term d n p) = term (c *ℤ d) (join m n) (times c m p)

abbrev pub mul : Poly → Poly → Poly
mul nil q = nil
mul (term c m p) q = add (times c m q) (mul p q)

abbrev pub norm : Ex → Poly
norm (var i) = term (pos 1) (i ∷ []) nil
norm (con c) = front c [] nil
norm (a :+ b) = add (norm a) (norm b)
norm (a :* b) = mul (norm a) (norm b)
norm (opp a) = times (negsuc 0) [] (norm a)

abbrev pub null : Poly → Bool
null nil = true
null (term c m p) = false

-- what is left of the difference of two expressions
abbrev pub left : Ex → Ex → Bool
left a b = null (norm (a :+ opp b))

-- ---- that the steps keep the value
module _ (r : List ℤ) where
  mono : List ℕ → ℤ
  mono [] = pos 1
  mono (v ∷ m) = nth r v *ℤ mono m

  value : Poly → ℤ
  value nil = pos 0
  value (term c m p) = c *ℤ mono m +ℤ value p

  insert_mono : (v : ℕ) (m : List ℕ) → mono (insert v m) ≡ nth r v *ℤ mono m
  unfolding mono
  insert_mono v [] = refl
  insert_mono v (w ∷ m) = go (leb v w) (insert_mono v m)
    where
      go : (b : Bool) → mono (insert v m) ≡ nth r v *ℤ mono m → mono (elim b [ true ↦ v ∷ w ∷ m | false ↦ w ∷ insert v m ]) ≡ nth r v *ℤ (nth r w *ℤ mono m)
      go true h = refl
      go false h = ap (λ (z : ℤ). nth r w *ℤ z) h ∙ mul_left_comm (nth r w) (nth r v) (mono m)

  join_mono : (m n : List ℕ) → mono (join m n) ≡ mono m *ℤ mono n
  unfolding mono
  join_mono [] n = sym (one-mul (mono n))
  join_mono (v ∷ m) n = insert_mono v (join m n) ∙ ap (λ (z : ℤ). nth r v *ℤ z) (join_mono m n) ∙ sym (mul_assoc (nth r v) (mono m) (mono n))

  same_mono : (m n : List ℕ) → T (same m n) → mono m ≡ mono n
  unfolding mono
  same_mono [] [] t = refl
  same_mono [] (w ∷ n) t = absurd t
  same_mono (v ∷ m) [] t = absurd t
  same_mono (v ∷ m) (w ∷ n) t = ap₂ ◌*ℤ◌ (ap (nth r) (eqb→eq v w (and_l (eqb v w) (same m n) t))) (same_mono m n (and_r (eqb v w) (same m n) t))

  isz_is : (c : ℤ) → T (isz c) → c ≡ pos 0
  isz_is (pos n) t = ap pos (eqb→eq n 0 t)
  isz_is (negsuc n) t = absurd t

  front_value : (c : ℤ) (m : List ℕ) (p : Poly) → value (front c m p) ≡ c *ℤ mono m +ℤ value p
  unfolding value
  front_value c m p = go (isz c) (isz_is c)
    where
      go : (b : Bool) → (T b → c ≡ pos 0) → value (elim b [ true ↦ p | false ↦ term c m p ]) ≡ c *ℤ mono m +ℤ value p
      go true f = sym (ap (λ (z : ℤ). z *ℤ mono m +ℤ value p) (f tt) ∙ ap (λ (z : ℤ). z +ℤ value p) (zero-*ℤ (mono m)) ∙ +ℤ_idl (value p))
      go false f = refl

  plus_value : (c : ℤ) (m : List ℕ) (p : Poly) → value (plus c m p) ≡ c *ℤ mono m +ℤ value p
  unfolding value
  plus_value c m nil = refl
  plus_value c m (term d n p) = go (same m n) (same_mono m n) (plus_value c m p)
    where
      go : (b : Bool) → (T b → mono m ≡ mono n) → value (plus c m p) ≡ c *ℤ mono m +ℤ value p → value (elim b [ true ↦ front (c +ℤ d) n p | false ↦ term d n (plus c m p) ]) ≡ c *ℤ mono m +ℤ (d *ℤ mono n +ℤ value p)
      go true f h =
          front_value (c +ℤ d) n p ∙ ap (λ (z : ℤ). z +ℤ value p) (add-mul c d (mono n) ∙ ap (λ (z : ℤ). c *ℤ z +ℤ d *ℤ mono n) (sym (f tt)))
          ∙ +ℤ_assoc (c *ℤ mono m) (d *ℤ mono n) (value p)
      go false f h = ap (λ (z : ℤ). d *ℤ mono n +ℤ z) h ∙ left_comm (d *ℤ mono n) (c *ℤ mono m) (value p)

  add_value : (p q : Poly) → value (add p q) ≡ value p +ℤ value q
  unfolding value
  add_value nil q = sym (+ℤ_idl (value q))
  add_value (term c m p) q = plus_value c m (add p q) ∙ ap (λ (z : ℤ). c *ℤ mono m +ℤ z) (add_value p q) ∙ sym (+ℤ_assoc (c *ℤ mono m) (value p) (value q))

  times_value : (c : ℤ) (m : List ℕ) (p : Poly) → value (times c m p) ≡ (c *ℤ mono m) *ℤ value p
  unfolding value
  times_value c m nil = sym (*ℤ-zero (c *ℤ mono m))
  times_value c m (term d n p) =
      ap₂ ◌+ℤ◌ (ap (λ (z : ℤ). (c *ℤ d) *ℤ z) (join_mono m n) ∙ mul_swap4 c d (mono m) (mono n)) (times_value c m p) ∙ sym (mul-add (c *ℤ mono m) (d *ℤ mono n) (value p))

  mul_value : (p q : Poly) → value (mul p q) ≡ value p *ℤ value q
  unfolding value
  mul_value nil q = sym (zero-*ℤ (value q))
  mul_value (term c m p) q = add_value (times c m q) (mul p q) ∙ ap₂ ◌+ℤ◌ (times_value c m q) (mul_value p q) ∙ sym (add-mul (c *ℤ mono m) (value p) (value q))

  norm_value : (e : Ex) → value (norm e) ≡ eval r e
  unfolding mono value
  norm_value (var i) = +ℤ_idr (pos 1 *ℤ (nth r i *ℤ pos 1)) ∙ one-mul (nth r i *ℤ pos 1) ∙ *ℤ_comm (nth r i) (pos 1) ∙ one-mul (nth r i)
  norm_value (con c) = front_value c [] nil ∙ +ℤ_idr (c *ℤ pos 1) ∙ *ℤ_comm c (pos 1) ∙ one-mul c
  norm_value (a :+ b) = add_value (norm a) (norm b) ∙ ap₂ ◌+ℤ◌ (norm_value a) (norm_value b)
  norm_value (a :* b) = mul_value (norm a) (norm b) ∙ ap₂ ◌*ℤ◌ (norm_value a) (norm_value b)
  norm_value (opp a) = times_value (negsuc 0) [] (norm a) ∙ minus_one_mul (value (norm a)) ∙ ap neg_ℤ (norm_value a)

  null_value : (p : Poly) → T (null p) → value p ≡ pos 0
  unfolding value
  null_value nil t = refl
  null_value (term c m p) t = absurd t

-- the law: where nothing is left of the difference, the two sides are equal at all whole numbers
pub identity : (a b : Ex) → T (left a b) → (r : List ℤ) → eval r a ≡ eval r b
identity a b t r = equal (eval r a) (eval r b) (sym (norm_value r (a :+ opp b)) ∙ null_value r (norm (a :+ opp b)) t)
