-- Films that repeat the last of them. Assumes nothing.
use mathlib.Core.Path.{◌≡◌, refl, sym, ap, ◌∙◌, subst}
use mathlib.Core.List.{List, [], ◌∷◌, ◌++◌, append_assoc, append-nil}
use Prim.Native.Nat.{ℕ, zero, suc, ◌+◌, ◌*◌, ◌-◌, ◌≤◌, ◌<◌}
use native.Mathlib.Nat.{suc-mul}
use native.Mathlib.Omega.{arith}
use lib.ListN.{length, get_or, length-append}
use lib.Seq.{get_or_at}
use Rattle.thin_film_grammar.specs.declared.Film.{Film}
use Rattle.thin_film_grammar.specs.Films.{times}
use Rattle.thin_film_reader.specs.InternalFilms.{no_film}

-- n films more, each as the one u before it
abbrev pub grown : ℕ → ℕ → List Film → List Film
grown u zero l = l
grown u (suc n) l = grown u n (l ++ (get_or l (length l - u) no_film ∷ []))

grown_more : (u a b : ℕ) (l : List Film) → grown u (a + b) l ≡ grown u b (grown u a l)
grown_more u zero b l = ap (λ (n : ℕ). grown u n l) (sum_zero b)
  where
    sum_zero : (b : ℕ) → 0 + b ≡ b
    sum_zero b = omega arith
grown_more u (suc a) b l = ap (λ (n : ℕ). grown u n l) (sum_suc a b) ∙ grown_more u a b (l ++ (get_or l (length l - u) no_film ∷ []))
  where
    sum_suc : (a b : ℕ) → suc a + b ≡ suc (a + b)
    sum_suc a b = omega arith

pub grown_longer : (u n : ℕ) (l : List Film) → length l ≤ length (grown u n l)
grown_longer u zero l = omega arith
grown_longer u (suc n) l =
    let m = l ++ (get_or l (length l - u) no_film ∷ []) in
    let h : length m ≡ length l + 1 = length-append l (get_or l (length l - u) no_film ∷ []) in
    let k = grown_longer u n m in
    omega (arith, h, k)

-- the rest of a copy
module _ (front unit : List Film) where
  rest : (b a : List Film) → unit ≡ a ++ b → grown (length unit) (length b) ((front ++ unit) ++ a) ≡ (front ++ unit) ++ unit
  rest [] a e = ap (λ (t : List Film). (front ++ unit) ++ t) (sym (append-nil a) ∙ sym e)
  rest (x ∷ b) a e =
      ap (grown (length unit) (length b)) (ap (λ (y : Film). ((front ++ unit) ++ a) ++ (y ∷ [])) next ∙ append_assoc (front ++ unit) a (x ∷ []))
      ∙ rest b (a ++ (x ∷ [])) (e ∙ sym (append_assoc a (x ∷ []) b))
    where
      long : length ((front ++ unit) ++ a) ≡ length front + length unit + length a
      long = length-append (front ++ unit) a ∙ ap (λ (n : ℕ). n + length a) (length-append front unit)

      place : length (front ++ a) ≡ length ((front ++ unit) ++ a) - length unit
      place = let h = length-append front a in omega (arith, h, long)

      shape : (front ++ unit) ++ a ≡ (front ++ a) ++ (x ∷ (b ++ a))
      shape = rw e (simp append_assoc)

      next : get_or ((front ++ unit) ++ a) (length ((front ++ unit) ++ a) - length unit) no_film ≡ x
      next = ap (λ (t : List Film). get_or t (length ((front ++ unit) ++ a) - length unit) no_film) shape ∙ get_or_at (front ++ a) x (b ++ a) no_film (length ((front ++ unit) ++ a) - length unit) place

pub grown_times : (k : ℕ) (front unit : List Film) → grown (length unit) (k * length unit) (front ++ unit) ≡ (front ++ unit) ++ times k unit
grown_times zero front unit = ap (λ (n : ℕ). grown (length unit) n (front ++ unit)) (none (length unit)) ∙ sym (append-nil (front ++ unit))
  where
    none : (n : ℕ) → 0 * n ≡ 0
    none n = omega arith
grown_times (suc k) front unit =
    ap (λ (n : ℕ). grown (length unit) n (front ++ unit)) (split k (length unit)) ∙ grown_more (length unit) (length unit) (k * length unit) (front ++ unit)
    ∙ ap (grown (length unit) (k * length unit)) (ap (grown (length unit) (length unit)) (sym (append-nil (front ++ unit))) ∙ rest front unit unit [] refl) ∙ grown_times k (front ++ unit) unit ∙ append_assoc (front ++ unit) unit (times k unit)
  where
    split : (k u : ℕ) → suc k * u ≡ u + k * u
    split k u = let e = suc-mul k u in omega (arith, e)
