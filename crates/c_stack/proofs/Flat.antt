-- The numbers of layers, written one layer after the other. Assumes nothing.
use mathlib.Core.Path.{◌≡◌, refl, sym, ap, ◌∙◌, subst}
use mathlib.Core.List.{List, [], ◌∷◌, ◌++◌}
use Prim.Native.Nat.{ℕ, suc, ◌+◌, ◌*◌, ◌≤◌, ◌<◌}
use native.Mathlib.Numerals.{add-one}
use native.Mathlib.Omega.{arith}
use lib.ListN.{length, get_or, set, take, drop}
use lib.Seq.{sets, length-sets, sets-eq, take-suc}
use lib.Ieee.{Float}
use Rattle.thin_film_solver.specs.declared.ThinFilmLayer.{ThinFilmLayer}
use Rattle.c_layers.specs.Evaluate.{layers}
use Rattle.c_call.proofs.Front.{Front, nothing, more}
use Rattle.c_stack.specs.Stack.{flat, ReadBack}

abbrev pub three : ThinFilmLayer → List Float
three l = l.n ∷ l.k ∷ l.thickness_nm ∷ []

pub flat_length : (stack : List ThinFilmLayer) → length (flat stack) ≡ 3 * length stack
unfolding flat
flat_length [] = refl
flat_length (l ∷ stack) = let h = flat_length stack in omega (arith, h)

pub flat_one_more : (stack : List ThinFilmLayer) (l : ThinFilmLayer) → flat (stack ++ (l ∷ [])) ≡ flat stack ++ three l
unfolding flat
flat_one_more [] l = refl
flat_one_more (x ∷ stack) l = ap (λ (t : List Float). x.n ∷ x.k ∷ x.thickness_nm ∷ t) (flat_one_more stack l)

-- ---- the claim
pub read_back : ReadBack
unfolding flat layers
read_back [] = refl
read_back (x ∷ rest) = ap (λ (t : List ThinFilmLayer). x ∷ t) (read_back rest)

-- ---- written
-- the first i of count layers are written
pub record Half (items : List ThinFilmLayer) (count : ℕ) (before list : List Float) (i : ℕ) : Type 0 where
  pub most : i ≤ count
  pub long : length list ≡ length before
  pub front : Front before list (flat (take i items)) (3 * i)

module _ (items : List ThinFilmLayer) (count : ℕ) (before : List Float) where
  pub start : Half items count before before 0
  unfolding flat
  start = record { most = omega arith; long = refl; front = nothing before }

  pub inside : (list : List Float) (i j : ℕ) → j < 3 → 3 * count ≤ length before → i < count → Half items count before list i → 3 * i + j < length list
  inside list i j s room l h = omega (arith, h.long)

  pub further : (list : List Float) (i : ℕ) (d : ThinFilmLayer) → count ≤ length items → 3 * count ≤ length before → i < count → Half items count before list i
      → Half items count before (set (set (set list (3 * i) (get_or items i d).n) (3 * i + 1) (get_or items i d).k) (3 * i + 2) (get_or items i d).thickness_nm) (i + 1)
  further list i d there room l h =
      let y = get_or items i d in
      let xs = flat (take i items) in
      let at : ℕ = 3 * i in
      let e₁ : at + 1 ≡ suc at = omega arith in
      let e₂ : at + 2 ≡ suc (suc at) = omega arith in
      let next : List Float = set (set (set list at y.n) (at + 1) y.k) (at + 2) y.thickness_nm in
      let stored : next ≡ sets list at (three y) =
      ap (λ (a : ℕ). set (set (set list at y.n) a y.k) (at + 2) y.thickness_nm) e₁
      ∙ ap (λ (a : ℕ). set (set (set list at y.n) (suc at) y.k) a y.thickness_nm) e₂ in
      let fits : at + 3 ≤ length list = omega (arith, h.long) in
      let f : Front before next (xs ++ three y) (at + 3) = more before list xs at h.front (three y) 3 refl next (stored ∙ sets-eq (three y) list at fits) in
      let taken : xs ++ three y ≡ flat (take (i + 1) items) =
      sym (flat_one_more (take i items) y) ∙ ap flat (sym (take-suc items i d (omega arith))) ∙ ap (λ (n : ℕ). flat (take n items)) (sym (add-one i)) in
      let e₃ : at + 3 ≡ 3 * (i + 1) = omega arith in
      record {
        most = omega arith;
        long = ap length stored ∙ length-sets list at (three y) ∙ h.long;
        front = subst (λ (n : ℕ). Front before next (flat (take (i + 1) items)) n) e₃ (subst (λ (t : List Float). Front before next t (at + 3)) taken f);
      }

  pub end : (list : List Float) (i : ℕ) → count ≤ i → Half items count before list i → list ≡ flat (take count items) ++ drop (3 * count) before
  end list i l h =
      let e : i ≡ count = omega (arith, h.most) in
      h.front.is ∙ ap (λ (n : ℕ). flat (take n items) ++ drop (3 * n) before) e
