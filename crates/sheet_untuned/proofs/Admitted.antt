-- What a caller knows of a sheet that is admitted and has no kind 7, and of one that is not taken. Assumes nothing.
use mathlib.Core.Path.{◌≡◌, refl, sym, ap, ◌∙◌}
use mathlib.Core.Bool.{Bool, true, false, cond}
use mathlib.Core.Logic.{◌⊎◌, inl, inr}
use mathlib.Core.List.{List, [], ◌∷◌}
use Prim.Native.Nat.{ℕ}
use native.Mathlib.Omega.{arith}
use lib.Dec.{eqb}
use Rattle.refusal.specs.Outcome.{Outcome, answer, refusal, map, bind}
use Rattle.sheet.specs.Words.{kind}
use Rattle.sheet.specs.Blocks.{Block}
use Rattle.sheet.specs.Sheet.{Sheet, blocks, places}
use Rattle.sheet.specs.Read.{surfaces_of}
use Rattle.gate.specs.Gate.{gated}
use Rattle.sheet_untuned.specs.Untuned.{no_tuning, without_tuning}

-- what was there, or 12
either : {A : Type 0} (a : A) (places : List ℕ) (bs : List Block) → (no_tuning a places bs ≡ answer a) ⊎ ((place : ℕ) × (no_tuning a places bs ≡ refusal 12 place))
unfolding no_tuning
either a places [] = inl refl
either a [] (b ∷ bs) = inl refl
either a (place ∷ places) (b ∷ bs) = by (eqb (kind b.word) 7) (either a places bs)
  where
    by : (t : Bool) → (no_tuning a places bs ≡ answer a) ⊎ ((place : ℕ) × (no_tuning a places bs ≡ refusal 12 place))
        → (cond t (refusal 12 place) (no_tuning a places bs) ≡ answer a) ⊎ ((q : ℕ) × (cond t (refusal 12 place) (no_tuning a places bs) ≡ refusal 12 q))
    by true r = inr (place, refl)
    by false r = r

pub record Taken (src : List ℕ) (n : ℕ) : Type 0 where
  pub sheet : Sheet
  pub gated_is : gated src ≡ answer sheet
  pub is : without_tuning src ≡ answer sheet
  pub counts : surfaces_of sheet ≡ n

no : {A : Type 0} {x : A} {number place : ℕ} → answer x ≡ refusal number place → ⊥
no e = let z : ◌≡◌ {A = ℕ} 0 1 = cc in omega arith

pub taken : (src : List ℕ) (n : ℕ) → answer n ≡ map surfaces_of (without_tuning src) → Taken src n
unfolding without_tuning
taken src n e = go (gated src) refl e
  where
    same : (x : Sheet) → answer n ≡ answer (surfaces_of x) → surfaces_of x ≡ n
    same x e = cc

    go : (o : Outcome Sheet) → gated src ≡ o → answer n ≡ map surfaces_of (bind o (λ (x : Sheet). no_tuning x (places x) (blocks x))) → Taken src n
    go (refusal number place) g e = absurd (no e)
    go (answer x) g e = by (either x (places x) (blocks x))
      where
        by : (no_tuning x (places x) (blocks x) ≡ answer x) ⊎ ((place : ℕ) × (no_tuning x (places x) (blocks x) ≡ refusal 12 place)) → Taken src n
        by (inl q) = record { sheet = x; gated_is = g; is = ap (λ (o : Outcome Sheet). bind o (λ (z : Sheet). no_tuning z (places z) (blocks z))) g ∙ q; counts = same x (e ∙ ap (map surfaces_of) q) }
        by (inr (place, q)) = absurd (no (e ∙ ap (map surfaces_of) q))

pub not_taken : (src : List ℕ) (number place : ℕ) → refusal number place ≡ map surfaces_of (without_tuning src) → without_tuning src ≡ refusal number place
not_taken src number place e = go (without_tuning src) e
  where
    go : (o : Outcome Sheet) → refusal number place ≡ map surfaces_of o → o ≡ refusal number place
    go (answer x) e = absurd (no (sym e))
    go (refusal n p) e = cc
