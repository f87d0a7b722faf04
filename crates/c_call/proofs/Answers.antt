-- A surface's answers in a list that is long enough for them, and in one that is not. Assumes nothing.
use mathlib.Core.Path.{◌≡◌, refl, sym, ap, ◌∙◌}
use mathlib.Core.Bool.{Bool, true, false, cond}
use mathlib.Core.List.{List, [], ◌++◌, append-nil}
use Prim.Native.Nat.{ℕ, ◌+◌, ◌≤◌, ◌<◌}
use native.Mathlib.Omega.{arith}
use lib.ListN.{length, take, drop}
use lib.Ieee.{Float}
use borrow.Author.Tests.{le-leb, lt-leb}
use Rattle.surface.specs.declared.Answers.{Answers}
use Rattle.c_call.specs.Call.{done, Reply, written}
use Rattle.c_call.specs.Layout.{response_numbers, common, surface_answered}
use Rattle.c_call.proofs.Front.{Front, more}

too_short : (r : Reply) (list : List Float) (n : ℕ) → length r.numbers ≡ n → length list < n → done 0x8_0000_0000 list ≡ written r list
too_short r list n e h = simp (lt-leb (length r.numbers) (length list) (omega arith))

enough : (r : Reply) (list out : List Float) (n : ℕ) → r.returned ≡ n → length r.numbers ≡ n → n ≤ length list → out ≡ r.numbers ++ drop n list → done n out ≡ written r list
enough r list out n q e h is =
    simp (le-leb (length r.numbers) (length list) (omega arith))
    (ap (λ (k : ℕ). done k out) (sym q) ∙ ap (done r.returned) (is ∙ ap (λ (k : ℕ). r.numbers ++ drop k list) (sym e)))

module _ (a : Answers) where
  module _ (coated : a.coated ≡ true) where
    with_response : (surface_answered a).numbers ≡ common a ++ response_numbers a.response
    with_response = ap (λ (b : Bool). common a ++ cond b (response_numbers a.response) []) coated

    coated_length : length (surface_answered a).numbers ≡ 69
    coated_length = ap length with_response

    pub coated_short : (list : List Float) → length list < 69 → done 0x8_0000_0000 list ≡ written (surface_answered a) list
    coated_short list h = too_short (surface_answered a) list 69 coated_length h

    pub coated_whole : (list l₁ l₂ numbers : List Float) → 69 ≤ length list → l₁ ≡ common a ++ drop 53 list → numbers ≡ response_numbers a.response
        → l₂ ≡ take 53 l₁ ++ numbers ++ drop (53 + length numbers) l₁ → done 69 l₂ ≡ written (surface_answered a) list
    coated_whole list l₁ l₂ numbers h e₁ en e₂ =
        let f : Front list l₁ (common a) 53 = record { count = refl; is = e₁ } in
        let g = more list l₁ (common a) 53 f numbers 16 (ap length en) l₂ e₂ in
        enough (surface_answered a) list l₂ 69 coated_length coated_length h
        (g.is ∙ ap (λ (z : List Float). common a ++ z ++ drop 69 list) en ∙ ap (λ (z : List Float). z ++ drop 69 list) (sym with_response))

  module _ (bare : a.coated ≡ false) where
    without : (surface_answered a).numbers ≡ common a
    without = ap (λ (b : Bool). common a ++ cond b (response_numbers a.response) []) bare ∙ append-nil (common a)

    bare_length : length (surface_answered a).numbers ≡ 53
    bare_length = ap length without

    pub bare_short : (list : List Float) → length list < 53 → done 0x8_0000_0000 list ≡ written (surface_answered a) list
    bare_short list h = too_short (surface_answered a) list 53 bare_length h

    pub bare_whole : (list l₁ : List Float) → 53 ≤ length list → l₁ ≡ common a ++ drop 53 list → done 53 l₁ ≡ written (surface_answered a) list
    bare_whole list l₁ h e = enough (surface_answered a) list l₁ 53 bare_length bare_length h (e ∙ ap (λ (z : List Float). z ++ drop 53 list) (sym without))
