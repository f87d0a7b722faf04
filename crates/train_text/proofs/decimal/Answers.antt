-- `train_text::decimal` meets its contract. Assumes nothing.
use mathlib.Core.Path.{◌≡◌, refl, sym, ap, ◌∙◌, subst}
use mathlib.Core.List.{List, [], ◌∷◌, ◌++◌, append_assoc, append-nil}
use Prim.Native.Nat.{ℕ, zero, suc, ◌+◌, ◌-◌, ◌/◌, ◌%◌, ◌^◌, ◌≤◌, ◌<◌}
use native.Mathlib.Nat.{div-lt_iff_lt-mul, zero-lt-suc, pow-suc}
use native.Mathlib.Numerals.{add-one}
use native.Mathlib.Omega.{arith}
use borrow.Author.Tests.{lt-ltb, le-ltb}
use lib.Dec.{lit<}
use lib.ListN.{length, set, drop, length-set, drop_of_length-le}
use lib.Seq.{drop-cons, drop-set-lt, get_or-set_same}
use Rattle.train_text.specs.Text.{digits, decimal}
use Rattle.train_text.proofs.decimal.Invariants.{Left}
use Rattle.train_text.proofs.decimal.Goals as goal

-- a digit more stands
stands : (text : List ℕ) (j d : ℕ) → j < length text → drop j (set text j d) ≡ d ∷ drop (suc j) text
stands text j d h =
    drop-cons (set text j d) j 0 (rw length-set h) ∙ rw (get_or-set_same text j d 0 h, drop-set-lt (suc j) text j d (omega arith))

last_digit : (k n : ℕ) → n < 10 → digits (suc k) n ≡ (48 + n) ∷ []
unfolding digits
last_digit k n h = rw (lt-ltb n 10 h)

more_digits : (k n : ℕ) → 9 < n → digits (suc k) n ≡ digits k (n / 10) ++ ((48 + n % 10) ∷ [])
unfolding digits
more_digits k n h = rw (le-ltb n 10 h)

positive : (rest i : ℕ) → rest < 10 ^ (i + 1) → 9 < rest → 0 < i
positive rest zero h k = absurd (omega arith)
positive rest (suc i) h k = zero-lt-suc i

smaller : (rest i : ℕ) → rest < 10 ^ (i + 1) → rest / 10 < 10 ^ i
smaller rest i h = (div-lt_iff_lt-mul (zero-lt-suc 9)).1 (subst (λ (z : ℕ). rest < z) (ap (λ (k : ℕ). 10 ^ k) (add-one i) ∙ pow-suc 10 i) h)

next : (n rest : ℕ) (text : List ℕ) (i d : ℕ) → Left n rest text i → 9 < rest → d ≡ 48 + rest % 10 → Left n (rest / 10) (set text i d) (i - 1)
next n rest text i d l h f =
    let p : 0 < i = positive rest i l.small h in
    let e : i - 1 + 1 ≡ i = omega arith in
    record {
      most = omega (arith, l.most);
      long = length-set text i d ∙ l.long;
      small = subst (λ (k : ℕ). rest / 10 < 10 ^ k) (sym e) (smaller rest i l.small);
      whole =
          l.whole
          ∙ ap (λ (k : ℕ). digits k rest ++ drop k text) (add-one i)
          ∙ ap (λ (z : List ℕ). z ++ drop (suc i) text) (more_digits i rest h)
          ∙ append_assoc (digits i (rest / 10)) ((48 + rest % 10) ∷ []) (drop (suc i) text)
          ∙ ap (λ (y : ℕ). digits i (rest / 10) ++ (y ∷ drop (suc i) text)) (sym f)
          ∙ ap (λ (t : List ℕ). digits i (rest / 10) ++ t) (sym (stands text i d (omega (arith, l.long, l.most))))
          ∙ ap (λ (k : ℕ). digits k (rest / 10) ++ drop k (set text i d)) (sym e);
    }

last : (n rest : ℕ) (text : List ℕ) (i d : ℕ) → Left n rest text i → rest ≤ 9 → d ≡ 48 + rest → (drop i (set text i d) ≡ decimal n) × ((i ≤ 20) × (length (set text i d) ≡ 20))
last n rest text i d l h f = (
  stands text i d (omega (arith, l.long, l.most))
      ∙ ap (λ (y : ℕ). y ∷ drop (suc i) text) f
      ∙ sym (l.whole ∙ ap (λ (k : ℕ). digits k rest ++ drop k text) (add-one i) ∙ ap (λ (z : List ℕ). z ++ drop (suc i) text) (last_digit i rest (omega arith))),
  (omega (arith, l.most), length-set text i d ∙ l.long),
)

begun : (n : ℕ) (text : List ℕ) → length text ≡ 20 → n < 2 ^ 64 → Left n n text 19
unfolding decimal
begun n text e h =
    let l : length text ≤ 20 = omega arith in
    record {
      most = lit< tt;
      long = e;
      small = omega arith;
      whole = sym (ap (λ (t : List ℕ). digits 20 n ++ t) (drop_of_length-le text l) ∙ append-nil (digits 20 n));
    }

pub loop-rest-init : goal.loop-rest-init
loop-rest-init c = begun _ _ refl (omega arith)

pub loop-rest-preserved : goal.loop-rest-preserved
loop-rest-preserved c = next _ _ _ _ _ c.loop-rest.invariant c.loop-rest-test.true refl

pub returns : goal.returns
returns c = last _ _ _ _ _ c.loop-rest.invariant (omega (arith, c.loop-rest-test.false)) refl
