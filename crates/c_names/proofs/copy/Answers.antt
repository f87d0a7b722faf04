-- `c_names::copy` meets its contract. Assumes nothing.
use mathlib.Core.Path.{◌≡◌, refl, sym, ap, ◌∙◌}
use mathlib.Core.List.{List, ◌++◌}
use Prim.Native.Nat.{ℕ, ◌+◌, ◌-◌, ◌≤◌, ◌<◌}
use native.Mathlib.Nat.{zero-add}
use native.Mathlib.Omega.{arith}
use lib.ListN.{length, get_or, set, take, drop, length-set}
use lib.Seq.{length-take-le, take_all, take-length, paste, paste-zero}
use Rattle.thin_film_coating.proofs.Repeat.{stored}
use borrow.Author.Rules.{rules}
use Rattle.c_names.proofs.copy.Invariants.{Half}
use Rattle.c_names.proofs.copy.Goals.{then-i-name, else-i-name}
use Rattle.c_names.proofs.copy.Goals as goal

module _ (name output₀ : List ℕ) where
  further : length name ≤ length output₀ → (output next : List ℕ) (i x : ℕ) → Half name output₀ output i → i < 16 → i < length name → next ≡ set output i (get_or name i x) → Half name output₀ next (i + 1)
  further room output next i x h m l e = record {
    most = omega arith;
    long = ap length e ∙ length-set output i (get_or name i x) ∙ h.long;
    front =
        e ∙ ap (λ (z : List ℕ). set z i (get_or name i x)) (h.front ∙ ap (paste output₀ 0 name) (length-take-le i name (omega arith)))
        ∙ stored output₀ name i x (omega arith) l ∙ ap (paste output₀ 0 name) (sym (length-take-le (i + 1) name (omega arith)));
  }

  past : (output next : List ℕ) (i : ℕ) → Half name output₀ output i → i < 16 → length name ≤ i → next ≡ output → Half name output₀ next (i + 1)
  past output next i h m l e = record {
    most = omega arith;
    long = ap length e ∙ h.long;
    front = e ∙ h.front ∙ ap (λ (z : List ℕ). paste output₀ 0 name (length z)) (take_all i name l ∙ sym (take_all (i + 1) name (omega arith)));
  }

  whole : (output : List ℕ) (i : ℕ) → length name ≤ i → Half name output₀ output i → output ≡ name ++ drop (length name) output₀
  whole output i l h =
      h.front ∙ ap (λ (z : List ℕ). paste output₀ 0 name (length z)) (take_all i name l)
      ∙ ap (λ (z : List ℕ). z ++ drop (0 + length name) output₀) (take-length name) ∙ ap (λ (k : ℕ). name ++ drop k output₀) (zero-add (length name))

pub loop-i-init : goal.loop-i-init
loop-i-init c = record { most = omega arith; long = refl; front = paste-zero _ 0 c.args.name.now }

pub loop-i-preserved : goal.loop-i-preserved
loop-i-preserved c =
    elim c.if-i-name.branch [
      | then-i-name w ↦ further _ _ c.requires.1 _ _ _ _ c.loop-i.invariant c.loop-i-test.true w.if-i-name.true w.output-is
      | else-i-name w ↦ past _ _ _ _ _ c.loop-i.invariant c.loop-i-test.true w.if-i-name.false w.output-is
    ]

pub shape_of-output : goal.shape_of-output
shape_of-output c = c.loop-i.invariant.long

pub returns : goal.returns
returns c = whole _ _ _ c.loop-i.i (omega (arith, c.requires.0)) c.loop-i.invariant
