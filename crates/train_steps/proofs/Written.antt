-- What a whole run has written so far. Assumes nothing.
use mathlib.Core.Path.{◌≡◌, refl, sym, ap, ◌∙◌}
use mathlib.Core.List.{List, [], ◌∷◌, ◌++◌, append_assoc}
use Prim.Native.Nat.{ℕ, suc, ◌+◌, ◌*◌, ◌≤◌, ◌<◌}
use native.Mathlib.Numerals.{add-one}
use native.Mathlib.Omega.{arith}
use lib.ListN.{length, set, take, drop, length-set, take-append-drop}
use lib.Seq.{drop-cons, drop-length, take-suc-set, drop-set-lt}
use lib.Ieee.{Float}
use Rattle.ieee.specs.Operators.{◌⊗◌}
use Rattle.sheet.specs.Sheet.{SheetSurface, no_surface, nth}
use Rattle.sheet_values.specs.Values.{met_with}
use Rattle.train_steps.specs.declared.State.{State}
use Rattle.train_steps.specs.Train.{chosen_powers, after_one, after_each}

abbrev state : ℕ → Float → Float → Float → State
state i w s p = record { done = i; s = s; p = p; wavelength_nm = w }

-- the first i pairs are written; with those of the surfaces after them and the rest of the list they are all that is to be written, and what comes after is as it was
pub record Half (xs : List SheetSurface) (before now : List Float) (i : ℕ) (w s p : Float) (all : List Float) : Type 0 where
  pub rest : drop (2 * length xs) now ≡ drop (2 * length xs) before
  pub front : take (2 * i) now ++ (after_each (state i w s p) (drop i xs) ++ drop (2 * length xs) before) ≡ all

module _ (xs : List SheetSurface) (before : List Float) where
  -- nothing is written yet
  pub nothing : (w s p : Float) → Half xs before before 0 w s p (after_each (state 0 w s p) xs ++ drop (2 * length xs) before)
  nothing w s p = record { rest = refl; front = refl }

  -- one surface more
  module _ (now : List Float) (i : ℕ) (w s p : Float) (all : List Float) (half : Half xs before now i w s p all) (h : i < length xs) (room : 2 * length xs ≤ length now) (w' s' p' : Float) (ew : w' ≡ met_with w (nth xs i).tuning) (es : s' ≡ s ⊗ (chosen_powers w' (nth xs i)).s) (ep : p' ≡ p ⊗ (chosen_powers w' (nth xs i)).p) where
    abbrev both : List Float
    both = set (set now (2 * i) s') (2 * i + 1) p'

    untouched : drop (2 * length xs) both ≡ drop (2 * length xs) before
    untouched = drop-set-lt (2 * length xs) (set now (2 * i) s') (2 * i + 1) p' (omega arith) ∙ drop-set-lt (2 * length xs) now (2 * i) s' (omega arith) ∙ half.rest

    pairs : take (2 * (i + 1)) both ≡ take (2 * i) now ++ (s' ∷ []) ++ (p' ∷ [])
    pairs =
        ap (λ (k : ℕ). take k (set (set now (2 * i) s') (2 * i + 1) p')) (two i)
        ∙ take-suc-set (set now (2 * i) s') (2 * i + 1) p' (rw length-set (omega arith))
        ∙ ap (λ (l : List Float). l ++ (p' ∷ [])) (ap (λ (k : ℕ). take k (set now (2 * i) s')) (add-one (2 * i)) ∙ take-suc-set now (2 * i) s' (omega arith))
      where
        two : (i : ℕ) → 2 * (i + 1) ≡ suc (2 * i + 1)
        two i = omega arith

    after : after_each (state i w s p) (drop i xs) ≡ s' ∷ p' ∷ after_each (state (i + 1) w' s' p') (drop (i + 1) xs)
    unfolding after_each after_one
    after = ap (after_each (state i w s p)) (drop-cons xs i no_surface h) ∙ rw (es, ep, ew, add-one i)

    regroup : (a z : List Float) → (a ++ (s' ∷ []) ++ (p' ∷ [])) ++ z ≡ a ++ (s' ∷ p' ∷ z)
    regroup a z = append_assoc (a ++ (s' ∷ [])) (p' ∷ []) z ∙ append_assoc a (s' ∷ []) (p' ∷ z)

    pub written : Half xs before both (i + 1) w' s' p' all
    written = record {
      rest = untouched;
      front =
          let z = after_each (state (i + 1) w' s' p') (drop (i + 1) xs) ++ drop (2 * length xs) before in
          ap (λ (l : List Float). l ++ z) pairs ∙ regroup (take (2 * i) now) z ∙ ap (λ (l : List Float). take (2 * i) now ++ (l ++ drop (2 * length xs) before)) (sym after) ∙ half.front;
    }

  -- all is written
  pub whole : (now : List Float) (i : ℕ) (w s p : Float) (all : List Float) → Half xs before now i w s p all → i ≡ length xs → now ≡ all
  unfolding after_each
  whole now i w s p all half e =
      sym (take-append-drop (2 * length xs) now)
      ∙ ap (λ (l : List Float). take (2 * length xs) now ++ l) half.rest
      ∙ sym
      (ap (λ (k : ℕ). take (2 * k) now ++ (after_each (state i w s p) (drop k xs) ++ drop (2 * length xs) before)) e
      ∙ ap (λ (l : List SheetSurface). take (2 * length xs) now ++ (after_each (state i w s p) l ++ drop (2 * length xs) before)) (drop-length xs))
      ∙ half.front
