-- The layers of (H L)^pairs H, written one after the other. Assumes nothing.
use Prim.Native.Nat.{ℕ, zero, suc, ◌+◌, ◌*◌, ◌≤◌, ◌<◌}
use native.Mathlib.Omega.{arith}
use mathlib.Core.Path.{◌≡◌, refl, sym, ap, ◌∙◌, subst}
use mathlib.Core.Bool.{Bool, true, false, cond}
use mathlib.Core.List.{List, ◌++◌}
use lib.Dec.{leb, lit<}
use lib.ListN.{length, get_or, set, take, drop}
use lib.Seq.{take_all}
use lib.Ieee.{Float}
use borrow.Author.Tests.{le-leb, lt-leb}
use Rattle.refusal.specs.Outcome.{answer, too_many_layers}
use Rattle.thin_film_solver.specs.declared.ThinFilmLayer.{ThinFilmLayer}
use Rattle.thin_film_layers.specs.Evaluation.{no_layer}
use Rattle.thin_film_presets.specs.Layers.{bragg_layers}
use Rattle.thin_film_presets.proofs.Nth.{alike}
use Rattle.c_call.specs.Call.{done, packed, written, answered}
use Rattle.c_call.proofs.Returned.{Sound}
use Rattle.c_stack.specs.Stack.{flat, stacked}
use Rattle.c_stack.proofs.Flat.{Half, further, end}
use Rattle.c_stack.proofs.Stacked.{short, whole}
use Rattle.c_presets.specs.Presets.{mirror}

module _ (high low design : Float) where
  pub long : (pairs : ℕ) → length (bragg_layers high low pairs design) ≡ pairs * 2 + 1
  unfolding bragg_layers
  long zero = refl
  long (suc pairs) = ap (λ (n : ℕ). suc (suc n)) (long pairs) ∙ omega arith

  module _ (pairs : ℕ) where
    there : pairs * 2 + 1 ≤ length (bragg_layers high low pairs design)
    there = omega (arith, long pairs)

    all : take (pairs * 2 + 1) (bragg_layers high low pairs design) ≡ bragg_layers high low pairs design
    all = take_all (pairs * 2 + 1) (bragg_layers high low pairs design) (omega (arith, long pairs))

    -- a turn of the loop
    pub turn : (before list : List Float) (i : ℕ) (y : ThinFilmLayer) → 3 * (pairs * 2 + 1) ≤ length before → i < pairs * 2 + 1 → Half (bragg_layers high low pairs design) (pairs * 2 + 1) before list i
        → y ≡ get_or (bragg_layers high low i design) i no_layer
        → Half (bragg_layers high low pairs design) (pairs * 2 + 1) before (set (set (set list (3 * i) y.n) (3 * i + 1) y.k) (3 * i + 2) y.thickness_nm) (i + 1)
    turn before list i y room l h e =
        subst (λ (z : ThinFilmLayer). Half (bragg_layers high low pairs design) (pairs * 2 + 1) before (set (set (set list (3 * i) z.n) (3 * i + 1) z.k) (3 * i + 2) z.thickness_nm) (i + 1))
        (sym (e ∙ alike high low design i pairs i (omega arith) (omega arith)))
        (further (bragg_layers high low pairs design) (pairs * 2 + 1) before list i no_layer there room l h)

    pub ended : (before list : List Float) (i : ℕ) → pairs * 2 + 1 ≤ i → Half (bragg_layers high low pairs design) (pairs * 2 + 1) before list i → list ≡ flat (bragg_layers high low pairs design) ++ drop (3 * (pairs * 2 + 1)) before
    ended before list i l h = end (bragg_layers high low pairs design) (pairs * 2 + 1) before list i l h ∙ ap (λ (z : List ThinFilmLayer). flat z ++ drop (3 * (pairs * 2 + 1)) before) all

    -- ---- what is returned and left
    module _ (list : List Float) where
      pub too_many : (n : ℕ) → 31 < pairs → n ≡ packed 3 0 → done n list ≡ answered stacked (mirror high low pairs design) list
      too_many n h e = simp (lt-leb pairs 31 h) (ap (λ (k : ℕ). done k list) e)

      pub too_short : pairs ≤ 31 → length list < 3 * (pairs * 2 + 1) → done 0x8_0000_0000 list ≡ answered stacked (mirror high low pairs design) list
      too_short p h = simp (le-leb pairs 31 p) (short (bragg_layers high low pairs design) (pairs * 2 + 1) there list h ∙ ap (λ (z : List ThinFilmLayer). written (stacked z) list) all)

      pub wrote : (left : List Float) → pairs ≤ 31 → 3 * (pairs * 2 + 1) ≤ length list → left ≡ flat (bragg_layers high low pairs design) ++ drop (3 * (pairs * 2 + 1)) list → done (3 * (pairs * 2 + 1)) left ≡ answered stacked (mirror high low pairs design) list
      wrote left p h e =
          simp (le-leb pairs 31 p)
          (whole (bragg_layers high low pairs design) (pairs * 2 + 1) there list (3 * (pairs * 2 + 1)) left h refl (e ∙ ap (λ (z : List ThinFilmLayer). flat z ++ drop (3 * (pairs * 2 + 1)) list) (sym all))
          ∙ ap (λ (z : List ThinFilmLayer). written (stacked z) list) all)

    pub mirror_sound : Sound (mirror high low pairs design)
    mirror_sound = go (leb pairs 31)
      where
        go : (b : Bool) → Sound (cond b (answer (bragg_layers high low pairs design)) too_many_layers)
        go true = tt
        go false = (lit< tt, lit< tt)
