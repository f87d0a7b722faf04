-- The text of a run, surface by surface. Assumes nothing.
use mathlib.Core.Path.{◌≡◌, refl, sym, ap, ◌∙◌, subst}
use mathlib.Core.Bool.{Bool}
use mathlib.Core.List.{List, [], ◌∷◌, ◌++◌, append_assoc}
use Prim.Native.Nat.{ℕ, ◌+◌, ◌*◌, ◌≤◌, ◌<◌}
use native.Mathlib.Nat.{add-zero}
use native.Mathlib.Numerals.{add-one}
use native.Mathlib.Omega.{arith}
use borrow.Author.Tests.{lt-ltb}
use lib.ListN.{length, get_or, drop, drop_of_length-le}
use lib.Seq.{drop-cons, drop-drop, get_or-drop}
use lib.Ieee.{Float}
use Rattle.refusal.specs.Outcome.{answer}
use Rattle.sheet.specs.Sheet.{SheetSurface, Sheet, no_surface, nth}
use Rattle.sheet_values.specs.Values.{surface_value}
use Rattle.gate.specs.Gate.{gated}
use Rattle.sheet_surfaces.specs.Surfaces.{nth_surface}
use Rattle.train_steps.specs.declared.State.{State}
use Rattle.train_steps.specs.Train.{fresh, after_one, after_each}
use Rattle.train_text.specs.Text.{surface_line, sum_line, lines, text}
use Rattle.train_text.specs.Page.{Appended, reflects, RunOf}
use Rattle.train_text.proofs.Pages.{then}

-- ---- one surface on
abbrev state : ℕ → Float → Float → Float → State
state i s p w = record { done = i; s = s; p = p; wavelength_nm = w }

lines_cons : (st : State) (y : SheetSurface) (ys : List SheetSurface) → lines st (y ∷ ys) ≡ surface_line (after_one st y).done (surface_value y).reflected (after_one st y).s (after_one st y).p ++ lines (after_one st y) ys
unfolding lines
lines_cons st y ys = refl

each_cons : (st : State) (y : SheetSurface) (ys : List SheetSurface) → after_each st (y ∷ ys) ≡ (after_one st y).s ∷ (after_one st y).p ∷ after_each (after_one st y) ys
unfolding after_each
each_cons st y ys = refl

done_on : (i : ℕ) (s p w : Float) (y : SheetSurface) → (after_one (state i s p w) y).done ≡ i + 1
unfolding after_one
done_on i s p w y = refl

-- ---- the i-th surface reflects
reflects_at : (src : List ℕ) (x : Sheet) (i : ℕ) → gated src ≡ answer x → i < length x.surfaces → reflects (nth_surface src i) ≡ (surface_value (nth x.surfaces i)).reflected
unfolding nth_surface
reflects_at src x i e h = simp (e, lt-ltb i (length x.surfaces) h)

-- ---- what stands, and what is left
pub record Part (x : Sheet) (list rest : List Float) (page₀ page : List ℕ) (s p : Float) (at i : ℕ) : Type 0 where
  pub so_far : List ℕ
  pub held : Float
  pub stands : Appended page₀ 0 so_far at page
  pub left : so_far ++ lines (state i s p held) (drop i x.surfaces) ≡ lines (fresh x) x.surfaces
  pub ahead : drop (2 * i) list ≡ after_each (state i s p held) (drop i x.surfaces) ++ rest

fresh_is : (x : Sheet) (s p : Float) → s ≡ (fresh x).s → p ≡ (fresh x).p → state 0 s p (fresh x).wavelength_nm ≡ fresh x
fresh_is x s p e f = ap (λ (z : Float). state 0 z p (fresh x).wavelength_nm) e ∙ ap (λ (z : Float). state 0 (fresh x).s z (fresh x).wavelength_nm) f

module _ (src : List ℕ) (x : Sheet) (s₀ p₀ : Float) (count : ℕ) (list : List Float) (run : RunOf src x s₀ p₀ count list) where
  pub started : (page : List ℕ) → Part x list run.rest page page s₀ p₀ 0 0
  started page = record {
    so_far = [];
    held = (fresh x).wavelength_nm;
    stands = record { counts = refl; long = refl; front = refl };
    left = ap (λ (z : State). lines z x.surfaces) (fresh_is x s₀ p₀ run.begins_s run.begins_p);
    ahead = run.wrote ∙ ap (λ (z : State). after_each z x.surfaces ++ run.rest) (sym (fresh_is x s₀ p₀ run.begins_s run.begins_p));
  }

  module _ (page₀ page after : List ℕ) (s p : Float) (at next i : ℕ) (part : Part x list run.rest page₀ page s p at i) (more : i < count) (d : Float) (reflected : Bool) (is : reflected ≡ reflects (nth_surface src i))
      (line : Appended page at (surface_line (i + 1) reflected (get_or list (2 * i) d) (get_or list (2 * i + 1) d)) next after) where
    ys : List SheetSurface
    ys = x.surfaces

    inside : i < length x.surfaces
    inside = omega (arith, run.counts)

    y : SheetSurface
    y = nth x.surfaces i

    st : State
    st = after_one (state i s p part.held) y

    cut : drop i x.surfaces ≡ y ∷ drop (i + 1) x.surfaces
    unfolding y
    cut = drop-cons x.surfaces i no_surface inside ∙ ap (λ (k : ℕ). nth x.surfaces i ∷ drop k x.surfaces) (sym (add-one i))

    ahead_is : drop (2 * i) list ≡ st.s ∷ st.p ∷ (after_each st (drop (i + 1) x.surfaces) ++ run.rest)
    unfolding st
    ahead_is = part.ahead ∙ ap (λ (z : List SheetSurface). after_each (state i s p part.held) z ++ run.rest) cut ∙ ap (λ (z : List Float). z ++ run.rest) (each_cons (state i s p part.held) y (drop (i + 1) x.surfaces))

    s_is : get_or list (2 * i) d ≡ st.s
    s_is = ap (λ (k : ℕ). get_or list k d) (sym (add-zero (2 * i))) ∙ sym (get_or-drop (2 * i) list 0 d) ∙ ap (λ (l : List Float). get_or l 0 d) ahead_is

    p_is : get_or list (2 * i + 1) d ≡ st.p
    p_is = sym (get_or-drop (2 * i) list 1 d) ∙ ap (λ (l : List Float). get_or l 1 d) ahead_is

    state_is : state (i + 1) (get_or list (2 * i) d) (get_or list (2 * i + 1) d) st.wavelength_nm ≡ st
    unfolding st
    state_is = ap (λ (z : Float). state (i + 1) z (get_or list (2 * i + 1) d) st.wavelength_nm) s_is ∙ ap (λ (z : Float). state (i + 1) st.s z st.wavelength_nm) p_is ∙ whole
      where
        whole : state (i + 1) st.s st.p st.wavelength_nm ≡ st
        whole = ap (λ (k : ℕ). state k st.s st.p st.wavelength_nm) (sym (done_on i s p part.held y))

    line_is : surface_line (i + 1) reflected (get_or list (2 * i) d) (get_or list (2 * i + 1) d) ≡ surface_line st.done (surface_value y).reflected st.s st.p
    unfolding y
    line_is =
        ap (λ (z : State). surface_line z.done reflected z.s z.p) state_is
        ∙ ap (λ (b : Bool). surface_line st.done b st.s st.p) (is ∙ reflects_at src x i run.is inside)

    pub onward : Part x list run.rest page₀ after (get_or list (2 * i) d) (get_or list (2 * i + 1) d) next (i + 1)
    onward = record {
      held = st.wavelength_nm;
      so_far = part.so_far ++ surface_line (i + 1) reflected (get_or list (2 * i) d) (get_or list (2 * i + 1) d);
      stands = then part.so_far (surface_line (i + 1) reflected (get_or list (2 * i) d) (get_or list (2 * i + 1) d)) part.stands line;
      left =
          append_assoc part.so_far (surface_line (i + 1) reflected (get_or list (2 * i) d) (get_or list (2 * i + 1) d)) _
          ∙ ap (λ (z : List ℕ). part.so_far ++ z)
          (ap (λ (z : State). surface_line (i + 1) reflected (get_or list (2 * i) d) (get_or list (2 * i + 1) d) ++ lines z (drop (i + 1) x.surfaces)) state_is
          ∙ ap (λ (z : List ℕ). z ++ lines st (drop (i + 1) x.surfaces)) line_is
          ∙ cons_is
          ∙ ap (lines (state i s p part.held)) (sym cut))
          ∙ part.left;
      ahead = ap (λ (k : ℕ). drop k list) (two_on i) ∙ sym (drop-drop 2 (2 * i) list) ∙ ap (drop 2) ahead_is ∙ ap (λ (z : State). after_each z (drop (i + 1) x.surfaces) ++ run.rest) (sym state_is);
    }
      where
        two_on : (i : ℕ) → 2 * (i + 1) ≡ 2 * i + 2
        two_on i = omega arith

        cons_is : surface_line st.done (surface_value y).reflected st.s st.p ++ lines st (drop (i + 1) x.surfaces) ≡ lines (state i s p part.held) (y ∷ drop (i + 1) x.surfaces)
        cons_is = unfold st in sym (lines_cons (state i s p part.held) y (drop (i + 1) x.surfaces))

  pub ended : (page₀ page after : List ℕ) (s p : Float) (at n i : ℕ) → Part x list run.rest page₀ page s p at i → count ≤ i → Appended page at (sum_line s p) n after → Appended page₀ 0 (text (answer x)) n after
  unfolding text lines
  ended page₀ page after s p at n i part h line =
      let l : length x.surfaces ≤ i = omega (arith, run.counts) in
      subst (λ (z : List ℕ). Appended page₀ 0 z n after)
      (ap (λ (z : List SheetSurface). part.so_far ++ lines (state i s p part.held) z) (sym (drop_of_length-le x.surfaces l)) ∙ part.left)
      (then part.so_far (sum_line s p) part.stands line)
