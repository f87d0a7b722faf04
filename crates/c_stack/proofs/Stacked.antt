-- The films of a stack as layers, and what the layers' numbers leave in a list. Assumes nothing.
use mathlib.Core.Path.{◌≡◌, sym, ap, ◌∙◌, subst}
use mathlib.Core.List.{List, [], ◌++◌, map, map-append}
use Prim.Native.Nat.{ℕ, ◌+◌, ◌*◌, ◌-◌, ◌≤◌, ◌<◌}
use native.Mathlib.Omega.{arith}
use lib.ListN.{length, get_or, set, take, drop, replicate, length-map}
use lib.Seq.{take_at, length-take-le}
use lib.Ieee.{Float}
use borrow.Author.Tests.{le-leb, lt-leb}
use Rattle.refusal.specs.declared.Refusal.{Refusal}
use Rattle.refusal.specs.Outcome as Outcome
use Rattle.refusal.specs.Outcome.{Outcome, answer, refusal, refused}
use Rattle.thin_film_grammar.specs.declared.Film.{Film}
use Rattle.thin_film_grammar.specs.Claim.{too_long, wrong, early, many, read}
use Rattle.thin_film_reader.specs.declared.Reading.{Reading}
use Rattle.thin_film_reader.specs.Read.{placed}
use Rattle.thin_film_reader.specs.InternalFilms.{no_film}
use Rattle.thin_film_solver.specs.declared.ThinFilmLayer.{ThinFilmLayer}
use Rattle.thin_film_layers.specs.Evaluation.{no_layer}
use Rattle.thin_film_shorthand.specs.Stack.{stack}
use Rattle.thin_film_shorthand.specs.Claim.{Right, bad_number, given}
use Rattle.thin_film_shorthand.proofs.Made.{get_d_map}
use Rattle.thin_film_shorthand.proofs.Claim.{shorthand}
use Rattle.c_call.specs.Call.{done, packed, written}
use Rattle.c_call.proofs.Returned.{Sound}
use Rattle.c_stack.specs.Stack.{flat, stacked}
use Rattle.c_stack.proofs.Flat.{Half, further, flat_length}

-- ---- what a text gives: at most 64 layers, or a refusal whose number is not 0 and whose place is at most 255
abbrev pub Few : Outcome (List ThinFilmLayer) → Type 0
Few (answer layers) = length layers ≤ 64
Few (refusal number place) = (0 < number) × (place ≤ 255)

module _ (text : List ℕ) (n_h n_l n_m design : Float) where
  few_right : (o : Outcome (List ThinFilmLayer)) → Right text n_h n_l n_m design o → Few o
  few_right o (bad_number e) = (omega arith, omega arith)
  few_right o (given e (too_long h)) = (omega arith, omega arith)
  few_right o (given e (wrong h k v n)) = (omega arith, omega arith)
  few_right o (given e (early h v n)) = (omega arith, h)
  few_right o (given e (many h k l)) = (omega arith, omega arith)
  few_right o (given e (read {tree = tree} h k l)) = rw (length-map _ _) l

  pub few_layers : Few (stack text n_h n_l n_m design)
  few_layers = few_right (stack text n_h n_l n_m design) (shorthand.right text n_h n_l n_m design)

pub few_sound : (o : Outcome (List ThinFilmLayer)) → Few o → Sound o
few_sound (answer layers) h = tt
few_sound (refusal number place) h = (h.0, omega (arith, h.1))

-- ---- the films that are handed over
same : (x y : Reading) → answer x ≡ answer y → x ≡ y
same x y e = cc

module _ (f : Film → ThinFilmLayer) where
  pub turned_back : (o : Outcome (List Film)) (r : Refusal) → refused r ≡ Outcome.map placed o → refused r ≡ Outcome.map (map f) o
  turned_back (answer l) r e = cc
  turned_back (refusal number place) r e = ap (Outcome.map (λ (x : Reading). [])) e

  pub taken : (o : Outcome (List Film)) (r : Reading) → answer r ≡ Outcome.map placed o → answer (take r.count (map f r.films)) ≡ Outcome.map (map f) o
  taken (answer l) r e =
      ap (λ (x : Reading). answer (take x.count (map f x.films))) (same r (placed l) e)
      ∙ ap (λ (t : List ThinFilmLayer). answer (take (length l) t)) (map-append f l (replicate (64 - length l) no_film))
      ∙ ap answer (take_at (map f l) (map f (replicate (64 - length l) no_film)) (length l) (length-map l f))
  taken (refusal number place) r e = cc

  -- a turn of the loop
  pub turn : (films : List Film) (count : ℕ) (before list : List Float) (i : ℕ) (a : Film) (y : ThinFilmLayer) → count ≤ length films → 3 * count ≤ length before → i < count → Half (map f films) count before list i
      → y ≡ f (get_or films i a)
      → Half (map f films) count before (set (set (set list (3 * i) y.n) (3 * i + 1) y.k) (3 * i + 2) y.thickness_nm) (i + 1)
  turn films count before list i a y few room l h e =
      subst (λ (z : ThinFilmLayer). Half (map f films) count before (set (set (set list (3 * i) z.n) (3 * i + 1) z.k) (3 * i + 2) z.thickness_nm) (i + 1))
      (get_d_map f films i a no_layer (omega arith) ∙ sym e)
      (further (map f films) count before list i no_layer (rw length-map few) room l h)

-- ---- the numbers
module _ (items : List ThinFilmLayer) (count : ℕ) (there : count ≤ length items) (list : List Float) where
  long : length (flat (take count items)) ≡ 3 * count
  long = flat_length (take count items) ∙ ap (λ (n : ℕ). 3 * n) (length-take-le count items there)

  pub short : length list < 3 * count → done (packed 8 0) list ≡ written (stacked (take count items)) list
  short h = simp (lt-leb (length (flat (take count items))) (length list) (rw long h))

  pub whole : (n : ℕ) (left : List Float) → 3 * count ≤ length list → n ≡ 3 * count → left ≡ flat (take count items) ++ drop (3 * count) list → done n left ≡ written (stacked (take count items)) list
  whole n left h n_is e =
      simp (le-leb (length (flat (take count items))) (length list) (rw long h))
      (ap (λ (k : ℕ). done k left) (n_is ∙ sym long) ∙ ap (done (length (flat (take count items)))) (e ∙ ap (λ (k : ℕ). flat (take count items) ++ drop k list) (sym long)))
