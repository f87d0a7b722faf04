-- Facts on lists of layers that the loops over layers cite: the i-th layer that is read stands where `nth_index` says, and one is taken at a turn.
-- Assumes nothing.
use mathlib.Core.Path.{◌≡◌, refl, sym, ◌∙◌, ap, subst}
use Prim.Native.Nat.{ℕ, suc, ◌+◌, ◌-◌, ◌<◌, ◌≤◌, zero-le}
use native.Mathlib.Nat.{not-suc-le-zero, le_refl, le_of_suc-le-suc, eq-or-lt_of_le}
use native.Mathlib.Numerals.{add-one}
use native.Mathlib.Omega.{arith}
use mathlib.Core.Bool.{Bool, true, false}
use mathlib.Core.List.{List, [], ◌∷◌, reverse, reverse-cons}
use mathlib.Core.Logic.{inl, inr}
use lib.ListN.{length, get_or, drop, length-reverse, get_or-append}
use lib.Seq.{drop-cons, drop-length, get_or_at}
use lib.Ieee.{Float}
use Rattle.refusal.specs.Outcome.{Outcome, answer, refusal, outcome}
use Rattle.thin_film_matrix.specs.Matrix.{Matrix, identity}
use Rattle.thin_film_solver.specs.declared.CoatingResponse.{CoatingResponse}
use Rattle.thin_film_solver.specs.declared.Incidence.{Incidence}
use Rattle.thin_film_solver.specs.declared.Terms.{Terms}
use Rattle.thin_film_solver.specs.declared.ThinFilmLayer.{ThinFilmLayer}
use Rattle.thin_film_solver.specs.Solve as Solve
use Rattle.thin_film_solver.specs.Solve.{no_response}
use Rattle.thin_film_solver.specs.Internal.{incidence, terms_of, step_s, step_p, finish, onward, solved}
use Rattle.thin_film_solver.proofs.Steps.{evaluates, takes, ends}
use Rattle.thin_film_layers.specs.declared.Prepared.{Prepared}
use Rattle.thin_film_layers.specs.declared.Prepared.TheVariants as P
use Rattle.thin_film_layers.specs.Evaluation.{ordered}
use Rattle.thin_film_layers.specs.Internal.{nth_index, read_from, read_count, reversed_in, light_in, concluded, all_layers, response}
use Rattle.std.specs.Prelude.{Ok, Err, Result}
use Rattle.refusal.specs.declared.Refusal.{Refusal}

pub front : (ls : List ThinFilmLayer) → ordered false ls ≡ ls
unfolding ordered
front ls = refl

pub as_long : (reversed : Bool) (ls : List ThinFilmLayer) → length (ordered reversed ls) ≡ length ls
unfolding ordered
as_long false ls = refl
as_long true ls = length-reverse ls

pub within : (reversed : Bool) (n i : ℕ) → i < n → nth_index reversed n i < n
within false n i h = h
within true n i h = omega arith

-- a list read from its end
get_d_reverse : (ls : List ThinFilmLayer) (i : ℕ) (d : ThinFilmLayer) → i < length ls → get_or (reverse ls) i d ≡ get_or ls (length ls - 1 - i) d
get_d_reverse [] i d h = absurd (not-suc-le-zero h)
get_d_reverse (x ∷ xs) i d h = ap (λ (l : List ThinFilmLayer). get_or l i d) (reverse-cons x xs) ∙ elim (eq-or-lt_of_le (le_of_suc-le-suc h)) [
  | inl e ↦ get_or_at (reverse xs) x [] d i (length-reverse xs ∙ sym e) ∙ ap (λ (m : ℕ). get_or (x ∷ xs) m d) (at_zero e)
  | inr l ↦ get_or-append (reverse xs) (x ∷ []) d i (rw length-reverse l) ∙ get_d_reverse xs i d l ∙ ap (λ (m : ℕ). get_or (x ∷ xs) m d) (one_in l)
]
  where
    at_zero : i ≡ length xs → 0 ≡ suc (length xs) - 1 - i
    at_zero e = omega arith

    one_in : i < length xs → suc (length xs - 1 - i) ≡ suc (length xs) - 1 - i
    one_in l = omega arith

pub nth : (reversed : Bool) (ls : List ThinFilmLayer) (i : ℕ) (d : ThinFilmLayer) → i < length ls → get_or ls (nth_index reversed (length ls) i) d ≡ get_or (ordered reversed ls) i d
unfolding ordered
nth false ls i d h = refl
nth true ls i d h = sym (get_d_reverse ls i d h)

-- what is left of the layers from the i-th on leads to the response of all of them
abbrev pub Left : Incidence → Matrix → Matrix → ℕ → List ThinFilmLayer → Type 0
Left light ms mp i ls = onward light ms mp (drop i ls) ≡ solved light ls

pub begun : (light : Incidence) (ls : List ThinFilmLayer) (ms mp : Matrix) → ms ≡ identity → mp ≡ identity → Left light ms mp 0 ls
begun light ls ms mp e f = ap (λ (m : Matrix). onward light m mp ls) e ∙ ap (λ (m : Matrix). onward light identity m ls) f

module _ (light : Incidence) (reversed : Bool) (ls : List ThinFilmLayer) where
  -- a turn that takes the i-th layer, which stands at j
  pub turn : (n i j : ℕ) (d y : ThinFilmLayer) (t : Terms) (ms mp ms' mp' : Matrix) → n ≡ length ls → i < n → j ≡ nth_index reversed n i → y ≡ get_or ls j d → t ≡ terms_of light.snell light.wavelength_nm y
      → ms' ≡ step_s ms t → mp' ≡ step_p mp t → Left light ms mp i (ordered reversed ls) → Left light ms' mp' (i + 1) (ordered reversed ls)
  turn n i j d y t ms mp ms' mp' n_is h j-is y_is t_is s_is p_is left =
      let within_list : i < length ls = subst (λ (m : ℕ). i < m) n_is h in
      let y_at : y ≡ get_or (ordered reversed ls) i d = y_is ∙ ap (λ (m : ℕ). get_or ls m d) (j-is ∙ ap (λ (m : ℕ). nth_index reversed m i) n_is) ∙ nth reversed ls i d within_list in
      ap (λ (m : Matrix). onward light m mp' (drop (i + 1) (ordered reversed ls))) s_is
      ∙ ap (λ (m : Matrix). onward light (step_s ms t) m (drop (i + 1) (ordered reversed ls))) p_is
      ∙ ap (λ (m : ℕ). onward light (step_s ms t) (step_p mp t) (drop m (ordered reversed ls))) (add-one i)
      ∙ takes light ms mp t (get_or (ordered reversed ls) i d) (drop (suc i) (ordered reversed ls)) (t_is ∙ ap (terms_of light.snell light.wavelength_nm) y_at)
      ∙ ap (onward light ms mp) (sym (drop-cons (ordered reversed ls) i d (rw as_long within_list))) ∙ left

  -- past the last layer nothing is left
  pub last : (ms mp : Matrix) (i : ℕ) → i ≡ length ls → Left light ms mp i (ordered reversed ls) → finish light ms mp ≡ solved light (ordered reversed ls)
  last ms mp i e left =
      ends light ms mp
      ∙ ap (onward light ms mp) (sym (drop-length (ordered reversed ls)))
      ∙ ap (λ (m : ℕ). onward light ms mp (drop m (ordered reversed ls))) (as_long reversed ls ∙ sym e) ∙ left

-- ---- an evaluation that is prepared, in both of its cases
pub answered : (p : Prepared) (a : Result CoatingResponse Refusal) (layers : List ThinFilmLayer) → p ≡ P.Answered a → outcome a ≡ read_from p layers
unfolding read_from
answered p a layers e = ap (λ (z : Prepared). read_from z layers) (sym e)

pub solves : (p : Prepared) (reversed : Bool) (light : Incidence) (layers : List ThinFilmLayer) (r : CoatingResponse) → p ≡ P.Layers reversed light → r ≡ solved light (ordered reversed layers) → answer r ≡ read_from p layers
unfolding read_from
solves p reversed light layers r e f = ap answer f ∙ ap (λ (z : Prepared). read_from z layers) (sym e)

-- ---- all or none of the caller's list
-- the layers that are read, in the order in which they are
abbrev pub reading : Prepared → List ThinFilmLayer → List ThinFilmLayer
reading (P.Answered a) ys = []
reading (P.Layers reversed light) ys = ordered reversed ys

pub bounded : (p : Prepared) (n : ℕ) → read_count p n ≤ n
bounded (P.Answered a) n = zero-le
bounded (P.Layers reversed light) n = le_refl n

pub inside : (p : Prepared) (n i : ℕ) → i < read_count p n → nth_index (reversed_in p) (read_count p n) i < n
inside (P.Answered a) n i h = absurd (not-suc-le-zero h)
inside (P.Layers reversed light) n i h = within reversed n i h

pub turns : (p : Prepared) (ys : List ThinFilmLayer) (i : ℕ) (d : ThinFilmLayer) (t : Terms) (ms mp ms' mp' : Matrix) → i < read_count p (length ys)
    → t ≡ terms_of (light_in p).snell (light_in p).wavelength_nm (get_or ys (nth_index (reversed_in p) (read_count p (length ys)) i) d)
    → ms' ≡ step_s ms t → mp' ≡ step_p mp t → Left (light_in p) ms mp i (reading p ys) → Left (light_in p) ms' mp' (i + 1) (reading p ys)
turns (P.Answered a) ys i d t ms mp ms' mp' h e f g left = absurd (not-suc-le-zero h)
turns (P.Layers reversed light) ys i d t ms mp ms' mp' h e f g left = turn light reversed ys (length ys) i _ d _ t ms mp ms' mp' refl h refl refl e f g left

pub concludes : (p : Prepared) (ys : List ThinFilmLayer) (ms mp : Matrix) (i : ℕ) → i ≡ read_count p (length ys) → Left (light_in p) ms mp i (reading p ys) → outcome (concluded p ms mp) ≡ read_from p ys
unfolding read_from
concludes (P.Answered a) ys ms mp i e left = refl
concludes (P.Layers reversed light) ys ms mp i e left = ap answer (last light reversed ys ms mp i e left)

-- ---- evaluate_tmm_multilayer
abbrev value : Outcome CoatingResponse → CoatingResponse
value (answer r) = r
value (refusal number place) = no_response

valued : (e : Result CoatingResponse Refusal) → response e ≡ value (outcome e)
valued (Ok r) = refl
valued (Err r) = refl

pub every : (n_incident n_substrate angle wavelength : Float) (layers : List ThinFilmLayer) (e : Result CoatingResponse Refusal)
    → outcome e ≡ read_from (all_layers n_incident n_substrate angle wavelength) layers → response e ≡ Solve.evaluate n_incident n_substrate angle wavelength layers
unfolding read_from
every n_incident n_substrate angle wavelength layers e h =
    valued e ∙ ap value h ∙ ap (solved (incidence n_incident n_substrate angle wavelength)) (front layers) ∙ evaluates n_incident n_substrate angle wavelength layers
