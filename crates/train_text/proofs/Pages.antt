-- Bytes behind bytes on a page. Assumes nothing.
use mathlib.Core.Path.{◌≡◌, refl, sym, ap, ◌∙◌}
use mathlib.Core.List.{List, ◌++◌, append_assoc}
use Prim.Native.Nat.{ℕ, ◌+◌, ◌≤◌, ◌<◌}
use native.Mathlib.Numerals.{add-one}
use native.Mathlib.Omega.{arith}
use lib.ListN.{length, get_or, set, take, drop, length-append, length-set}
use lib.Seq.{take_at, take-length, length-take-le, paste, paste-zero, paste-suc}
use Rattle.train_text.specs.Page.{Appended}

-- ---- one piece behind another
pub then : {p q r : List ℕ} {a b c : ℕ} (x y : List ℕ) → Appended p a x b q → Appended q b y c r → Appended p a (x ++ y) c r
then {p} {q} {r} {a} {b} {c} x y f g = record {
  counts = omega (arith, f.counts, g.counts, length-append x y);
  long = g.long ∙ f.long;
  front = g.front ∙ ap (λ (z : List ℕ). z ++ y) f.front ∙ append_assoc (take a p) x y;
}

-- the first i bytes are written
pub record Half (page₀ : List ℕ) (at : ℕ) (bytes page : List ℕ) (i : ℕ) : Type 0 where
  pub most : i ≤ length bytes
  pub long : length page ≡ length page₀
  pub front : page ≡ paste page₀ at bytes i

pub begun : (page : List ℕ) (at : ℕ) (bytes : List ℕ) → Half page at bytes page 0
begun page at bytes = record { most = omega arith; long = refl; front = paste-zero page at bytes }

module _ (page₀ : List ℕ) (at : ℕ) (bytes : List ℕ) (room : at + length bytes ≤ length page₀) where
  pub further : (page : List ℕ) (i x : ℕ) → Half page₀ at bytes page i → i < length bytes → Half page₀ at bytes (set page (at + i) (get_or bytes i x)) (i + 1)
  further page i x h l = record {
    most = omega arith;
    long = length-set page (at + i) (get_or bytes i x) ∙ h.long;
    front =
        ap (λ (z : List ℕ). set z (at + i) (get_or bytes i x)) h.front
        ∙ paste-suc page₀ at bytes i x (omega arith) l
        ∙ ap (paste page₀ at bytes) (sym (add-one i));
  }

  module _ (page : List ℕ) (i : ℕ) (h : Half page₀ at bytes page i) (l : length bytes ≤ i) where
    all : i ≡ length bytes
    all = omega (arith, h.most)

    pub pasted : page ≡ take at page₀ ++ bytes ++ drop (at + length bytes) page₀
    pasted = h.front ∙ ap (paste page₀ at bytes) all ∙ ap (λ (z : List ℕ). take at page₀ ++ z ++ drop (at + length bytes) page₀) (take-length bytes)

    pub appended : Appended page₀ at bytes (at + length bytes) page
    appended = record {
      counts = refl;
      long = h.long;
      front =
          ap (take (at + length bytes)) pasted
          ∙ take_at (take at page₀ ++ bytes) (drop (at + length bytes) page₀) (at + length bytes)
          (length-append (take at page₀) bytes ∙ ap (λ (k : ℕ). k + length bytes) (length-take-le at page₀ (omega arith)));
    }
