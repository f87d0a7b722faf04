-- A scan from the first byte, and one from the last. Assumes nothing.
use mathlib.Core.Path.{◌≡◌, refl, sym, ap, ◌∙◌}
use Prim.Native.Nat.{ℕ, suc, ◌+◌, ◌-◌, ◌≤◌, ◌<◌}
use native.Mathlib.Numerals.{add-one}
use native.Mathlib.Omega.{arith}
use mathlib.Core.Bool.{Bool, true, false}
use mathlib.Core.List.{List, [], ◌∷◌, reverse, reverse-append}
use lib.ListN.{length, get_or, take, drop, drop_of_length-le}
use lib.Seq.{drop-cons, take-suc, take-length}
use Rattle.name_bytes.specs.Trim.{blank, prefix, kept}

-- ---- from the first byte
module _ (test : ℕ → Bool) where
  passes : (b : ℕ) (bs : List ℕ) → test b ≡ true → prefix test (b ∷ bs) ≡ suc (prefix test bs)
  unfolding prefix
  passes b bs e = simp e

  fails : (b : ℕ) (bs : List ℕ) → test b ≡ false → prefix test (b ∷ bs) ≡ 0
  unfolding prefix
  fails b bs e = simp e

  none : prefix test [] ≡ 0
  unfolding prefix
  none = refl

  module _ (s : List ℕ) (i : ℕ) (so_far : prefix test s ≡ i + prefix test (drop i s)) where
    pub prefix_more : i < length s → test (get_or s i 0) ≡ true → prefix test s ≡ i + 1 + prefix test (drop (i + 1) s)
    prefix_more h e =
        let d : prefix test (drop i s) ≡ suc (prefix test (drop (i + 1) s)) = ap (prefix test) (drop-cons s i 0 h) ∙ passes (get_or s i 0) (drop (suc i) s) e ∙ ap (λ (k : ℕ). suc (prefix test (drop k s))) (sym (add-one i)) in
        omega arith

    pub prefix_stop : i < length s → test (get_or s i 0) ≡ false → i ≡ prefix test s
    prefix_stop h e =
        let d : prefix test (drop i s) ≡ 0 = ap (prefix test) (drop-cons s i 0 h) ∙ fails (get_or s i 0) (drop (suc i) s) e in
        omega arith

    pub prefix_end : length s ≤ i → i ≤ length s → length s ≡ prefix test s
    prefix_end h k =
        let d : prefix test (drop i s) ≡ 0 = ap (prefix test) (drop_of_length-le s h) ∙ none in
        omega arith

-- ---- from the last byte: the first e bytes are left
last : (s : List ℕ) (e : ℕ) → 0 < e → e ≤ length s → reverse (take e s) ≡ get_or s (e - 1) 0 ∷ reverse (take (e - 1) s)
last s e h k =
    let below : e - 1 < length s = omega arith in
    let one_more : e ≡ suc (e - 1) = omega arith in
    ap (λ (n : ℕ). reverse (take n s)) one_more ∙ ap reverse (take-suc s (e - 1) 0 below) ∙ reverse-append (take (e - 1) s) (get_or s (e - 1) 0 ∷ [])

abbrev pub Left : List ℕ → ℕ → Type 0
Left s e = prefix blank (reverse s) ≡ length s - e + prefix blank (reverse (take e s))

pub left_all : (s : List ℕ) → Left s (length s)
left_all s =
    let d : prefix blank (reverse (take (length s) s)) ≡ prefix blank (reverse s) = ap (λ (l : List ℕ). prefix blank (reverse l)) (take-length s) in
    omega arith

module _ (s : List ℕ) (e : ℕ) (h : 0 < e) (k : e ≤ length s) (so_far : Left s e) where
  pub left_more : blank (get_or s (e - 1) 0) ≡ true → Left s (e - 1)
  left_more t =
      let d : prefix blank (reverse (take e s)) ≡ suc (prefix blank (reverse (take (e - 1) s))) = ap (prefix blank) (last s e h k) ∙ passes blank (get_or s (e - 1) 0) (reverse (take (e - 1) s)) t in
      omega arith

  pub left_stop : blank (get_or s (e - 1) 0) ≡ false → e - 1 + 1 ≡ kept s
  unfolding kept
  left_stop t =
      let d : prefix blank (reverse (take e s)) ≡ 0 = ap (prefix blank) (last s e h k) ∙ fails blank (get_or s (e - 1) 0) (reverse (take (e - 1) s)) t in
      omega arith

pub left_none : (s : List ℕ) (e : ℕ) → e ≤ 0 → Left s e → 0 ≡ kept s
unfolding kept
left_none s e h so_far = omega arith
