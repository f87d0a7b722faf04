-- `train_text::hex` meets its contract. Assumes nothing.
use mathlib.Core.Path.{◌≡◌, refl, sym, ap, ◌∙◌}
use mathlib.Core.List.{List, ◌∷◌, ◌++◌, append_assoc, append-nil}
use Prim.Native.Nat.{ℕ, suc, ◌/◌, ◌%◌, ◌<◌}
use native.Mathlib.Omega.{arith}
use lib.ListN.{length, set, drop, length-set}
use lib.Seq.{drop-cons, drop-set-lt, get_or-set_same}
use Rattle.train_text.specs.Text.{hex_digit, hex}
use Rattle.train_text.proofs.hex.Invariants.{Left}
use Rattle.train_text.proofs.hex.Goals as goal

-- a digit more stands
stands : (text : List ℕ) (j d : ℕ) → j < length text → drop j (set text j d) ≡ d ∷ drop (suc j) text
stands text j d h =
    drop-cons (set text j d) j 0 (rw length-set h) ∙ rw (get_or-set_same text j d 0 h, drop-set-lt (suc j) text j d (omega arith))

next : (w rest : ℕ) (text : List ℕ) (i j d : ℕ) → Left w rest text i → i ≡ suc j → d ≡ hex_digit (rest % 16) → Left w (rest / 16) (set text j d) j
unfolding hex
next w rest text i j d l e f = record {
  most = omega (arith, l.most);
  long = length-set text j d ∙ l.long;
  digits =
      l.digits ∙ ap (λ (k : ℕ). hex k rest ++ drop k text) e ∙ append_assoc (hex j (rest / 16)) _ _ ∙ ap (λ (y : ℕ). hex j (rest / 16) ++ (y ∷ drop (suc j) text)) (sym f)
      ∙ ap (λ (t : List ℕ). hex j (rest / 16) ++ t) (sym (stands text j d (omega (arith, l.long, l.most))));
}

whole : (w rest : ℕ) (text : List ℕ) (i : ℕ) → Left w rest text i → i ≡ 0 → text ≡ hex 16 w
unfolding hex
whole w rest text i l e = sym (l.digits ∙ ap (λ (k : ℕ). hex k rest ++ drop k text) e)

pub loop-i-init : goal.loop-i-init
loop-i-init c = record { most = omega arith; long = refl; digits = sym (append-nil _) }

pub bounds-text-i : goal.bounds-text-i
bounds-text-i c = omega (arith, c.loop-i.invariant.most)

pub loop-i-preserved : goal.loop-i-preserved
loop-i-preserved c = next _ _ _ _ _ _ c.loop-i.invariant (omega arith) c.hex_digit.ensures

pub returns : goal.returns
returns c = whole _ _ _ _ c.loop-i.invariant (omega arith)
