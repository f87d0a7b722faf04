-- From a text's films to its layers. Assumes nothing.
use mathlib.Core.Path.{◌≡◌, refl, sym, ap, ◌∙◌, subst}
use mathlib.Core.Bool.{Bool, true, false, cond}
use mathlib.Core.List.{List, [], ◌∷◌, ◌++◌, map}
use Prim.Native.Nat.{ℕ, ◌-◌, ◌≤◌}
use native.Mathlib.Omega.{arith}
use lib.Ieee.{Float}
use lib.ListN.{length, take, replicate, length-append, length-map}
use lib.Seq.{take_at}
use Rattle.refusal.specs.declared.Refusal.{Refusal}
use Rattle.refusal.specs.Outcome as Outcome
use Rattle.refusal.specs.Outcome.{Outcome, answer, refusal, refused}
use Rattle.thin_film_grammar.specs.declared.Film.{Film}
use Rattle.thin_film_grammar.specs.Reading.{reading}
use Rattle.thin_film_grammar.specs.Claim.{Gives, too_long, wrong, early, many, read}
use Rattle.thin_film_grammar.proofs.Claim as Grammar
use Rattle.thin_film_reader.specs.declared.Reading.{Reading}
use Rattle.thin_film_reader.specs.Read.{placed}
use Rattle.thin_film_reader.specs.InternalFilms.{no_film}
use Rattle.thin_film_solver.specs.declared.ThinFilmLayer.{ThinFilmLayer}
use Rattle.thin_film_coating.specs.Coating.{listed, layers_in}
use Rattle.thin_film_coating.proofs.Claim.{held}
use Rattle.thin_film_shorthand.specs.Stack.{valid, layer, stack}

-- at most 64 films, and no refusal with the number 0
abbrev pub Fine : Outcome (List Film) → Type 0
Fine (answer l) = length l ≤ 64
Fine (refusal number place) = number ≡ 0 → ⊥

fine : (text : List ℕ) (o : Outcome (List Film)) → Gives text o → Fine o
fine text o (too_long h) = λ e. omega arith
fine text o (wrong h k v n) = λ e. omega arith
fine text o (early h v n) = λ e. omega arith
fine text o (many h k l) = λ e. omega arith
fine text o (read h k l) = l

pub all_fine : (text : List ℕ) → Fine (reading text)
all_fine text = fine text (reading text) (Grammar.gives text)

-- no refusal with the number 0, as layers either
pub apart : (f : Film → ThinFilmLayer) (o : Outcome (List Film)) (place : ℕ) → Fine o → Outcome.map (map f) o ≡ refusal 0 place → ⊥
apart f (answer l) place h e = cc
apart f (refusal number p) place h e = h (its_number number p place e)
  where
    its_number : (n p place : ℕ) → ◌≡◌ {A = Outcome (List ThinFilmLayer)} (refusal n p) (refusal 0 place) → n ≡ 0
    its_number n p place e = cc

-- ---- what the reader hands over
same : {A : Type 0} (x y : A) → answer x ≡ answer y → x ≡ y
same x y e = cc

module _ (f : Film → ThinFilmLayer) where
  abbrev as_layers : Outcome (List Film) → Outcome (List ThinFilmLayer)
  as_layers = Outcome.map (map f)

  pub turned_back : (o : Outcome (List Film)) (r : Refusal) → refused r ≡ Outcome.map placed o → refused r ≡ Outcome.map layers_in (as_layers o)
  turned_back (answer l) r e = cc
  turned_back (refusal number place) r e = ap (Outcome.map (λ (x : Reading). layers_in [])) e

  pub taken_over : (o : Outcome (List Film)) (r : Reading) → answer r ≡ Outcome.map placed o → answer (layers_in (map f (take r.count r.films))) ≡ Outcome.map layers_in (as_layers o)
  taken_over (answer l) r e =
      ap (λ (x : Reading). answer (layers_in (map f (take x.count x.films)))) (same r (placed l) e)
      ∙ ap (λ (t : List Film). answer (layers_in (map f t))) (take_at l (replicate (64 - length l) no_film) (length l) refl)
  taken_over (refusal number place) r e = cc

pub few : (o : Outcome (List Film)) (r : Reading) → Fine o → answer r ≡ Outcome.map placed o → (r.count ≤ 64) × (r.count ≤ length r.films)
few (answer l) r h e = rw (same r (placed l) e) (h, (let k = length-append l (replicate (64 - length l) no_film) in omega (arith, k)))
few (refusal number place) r h e = absurd cc

module _ (text : List ℕ) (n_h n_l n_m design : Float) where
  pub bad : valid n_h n_l n_m design ≡ false → refusal 1 0 ≡ stack text n_h n_l n_m design
  unfolding stack
  bad e = simp e

  pub good : valid n_h n_l n_m design ≡ true → Outcome.map (map (layer n_h n_l n_m design)) (reading text) ≡ stack text n_h n_l n_m design
  unfolding stack
  good e = simp e

-- ---- what a caller reads out of what is handed over
pub read_out : (o : Outcome (List ThinFilmLayer)) → Outcome.map listed (Outcome.map layers_in o) ≡ o
read_out (answer layers) = ap answer (held layers)
read_out (refusal number place) = refl
