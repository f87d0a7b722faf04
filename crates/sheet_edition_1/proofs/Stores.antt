-- Words stored one after the other in a list of bytes. Assumes nothing.
use mathlib.Core.Path.{◌≡◌, refl, sym, ap, ◌∙◌}
use mathlib.Core.List.{List, [], ◌∷◌, ◌++◌}
use Prim.Native.Nat.{ℕ, suc, ◌+◌, ◌*◌, ◌≤◌, ◌<◌}
use native.Mathlib.Nat.{add-zero, add-suc, suc-add}
use native.Mathlib.Numerals.{add-one}
use native.Mathlib.Omega.{arith}
use lib.ListN.{length, get_or, take, drop, set}
use lib.Seq.{sets, sets-eq, take-suc, length-take-le}
use Rattle.sheet.specs.Sheet.{bytes}
use Rattle.sheet.proofs.WordBytes.{length_bytes}

pub bytes_append : (ws us : List ℕ) → bytes (ws ++ us) ≡ bytes ws ++ bytes us
unfolding bytes
bytes_append [] us = refl
bytes_append (w ∷ ws) us = let ih = bytes_append ws us in cc

-- stores behind stores
sets_then : (l : List ℕ) (i : ℕ) (vs us : List ℕ) → sets (sets l i vs) (i + length vs) us ≡ sets l i (vs ++ us)
sets_then l i [] us = ap (λ (k : ℕ). sets l k us) (add-zero i)
sets_then l i (v ∷ vs) us = ap (λ (k : ℕ). sets (sets l i (v ∷ vs)) k us) (add-suc i (length vs) ∙ sym (suc-add i (length vs))) ∙ sets_then (set l i v) (suc i) vs us

-- words behind words
pub words_then : (l : List ℕ) (to : ℕ) (ws us : List ℕ) (on : ℕ) → on ≡ to + length ws → sets (sets l (4 * to) (bytes ws)) (4 * on) (bytes us) ≡ sets l (4 * to) (bytes (ws ++ us))
words_then l to ws us on e =
    ap (λ (k : ℕ). sets (sets l (4 * to) (bytes ws)) k (bytes us)) (omega (arith, length_bytes ws))
    ∙ sets_then l (4 * to) (bytes ws) (bytes us)
    ∙ ap (sets l (4 * to)) (sym (bytes_append ws us))

-- one word more
pub word_then : (l : List ℕ) (to : ℕ) (ws : List ℕ) (j : ℕ) → j < length ws → (w : ℕ) → w ≡ get_or ws j 0 → (q : List ℕ) → q ≡ sets l (4 * to) (bytes (take j ws)) → sets q (4 * (to + j)) (bytes (w ∷ [])) ≡ sets l (4 * to) (bytes (take (j + 1) ws))
word_then l to ws j lt w e q is =
    (λ i. sets (is i) (4 * (to + j)) (bytes (e i ∷ [])))
    ∙ words_then l to (take j ws) (get_or ws j 0 ∷ []) (to + j) (ap (λ (k : ℕ). to + k) (sym (length-take-le j ws (omega arith))))
    ∙ ap (λ (z : List ℕ). sets l (4 * to) (bytes z)) (sym (ap (λ (k : ℕ). take k ws) (add-one j) ∙ take-suc ws j 0 lt))

-- all of them at the front
pub front : (l ws : List ℕ) → length (bytes ws) ≤ length l → sets l 0 (bytes ws) ≡ bytes ws ++ drop (length (bytes ws)) l
front l ws h = sets-eq (bytes ws) l 0 (omega arith) ∙ ap (λ (k : ℕ). bytes ws ++ drop k l) (none (length (bytes ws)))
  where
    none : (n : ℕ) → 0 + n ≡ n
    none n = omega arith
