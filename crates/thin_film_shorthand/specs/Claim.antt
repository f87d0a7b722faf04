-- 02 slip 1: the claim, one type over all texts. Definitions only; proofs/Claim.antt has the proof.
use Rattle.std.specs.Prelude.{◌≡◌, true, false, List, map, ℕ, Float}
use Rattle.refusal.specs.Outcome as Outcome
use Rattle.refusal.specs.Outcome.{Outcome, answer, refusal}
use Rattle.thin_film_grammar.specs.declared.Film.{Film}
use Rattle.thin_film_grammar.specs.Grammar.{Stack, Text}
use Rattle.thin_film_grammar.specs.Claim.{Gives}
use Rattle.thin_film_solver.specs.declared.ThinFilmLayer.{ThinFilmLayer}
use Rattle.thin_film_coating.specs.Coating.{listed, layers_in}
use Rattle.thin_film_shorthand.specs.Stack.{valid, layer, stack}

-- what a text with three indices and a design wavelength gives, in the grammar's words: `Gives` has the five cases of a text, its films and
-- the places of 9
pub data Right (text : List ℕ) (n_h n_l n_m design : Float) : Outcome (List ThinFilmLayer) → Type 0 where
  -- 'bad indices or wavelength are 1, first of all'
  bad_number : valid n_h n_l n_m design ≡ false → Right text n_h n_l n_m design (refusal 1 0)
  -- else the films of the text as layers, or its refusal
  given : {o : Outcome (List Film)} → valid n_h n_l n_m design ≡ true → Gives text o →
      Right text n_h n_l n_m design (Outcome.map (map (layer n_h n_l n_m design)) o)

-- some call gives o
pub record Some (o : Outcome (List ThinFilmLayer) → Type 0) : Type 0 where
  pub text : List ℕ
  pub n_h : Float
  pub n_l : Float
  pub n_m : Float
  pub design : Float
  pub gives : o (stack text n_h n_l n_m design)

pub data Answered : Outcome (List ThinFilmLayer) → Type 0 where
  answered : {layers : List ThinFilmLayer} → Answered (answer layers)

pub data Refused (number : ℕ) : Outcome (List ThinFilmLayer) → Type 0 where
  refused : {place : ℕ} → Refused number (refusal number place)

pub record Shorthand : Type 0 where
  -- every call gives what is right, and nothing else is right
  pub right : (text : List ℕ) (n_h n_l n_m design : Float) → Right text n_h n_l n_m design (stack text n_h n_l n_m design)
  pub only : (text : List ℕ) (n_h n_l n_m design : Float) (o : Outcome (List ThinFilmLayer)) → Right text n_h n_l n_m design o →
      o ≡ stack text n_h n_l n_m design
  -- 'the reading of every accepted text is the only one that the grammar gives'
  pub only_tree : (text : List ℕ) (tree tree' : Stack) → Text text tree → Text text tree' → tree ≡ tree'
  -- what is handed over by value says the same; no refusal can be taken for an answer, which has no number
  pub told : (text : List ℕ) (n_h n_l n_m design : Float) →
      Outcome.map listed (Outcome.map layers_in (stack text n_h n_l n_m design)) ≡ stack text n_h n_l n_m design
  pub told_apart : (text : List ℕ) (n_h n_l n_m design : Float) (place : ℕ) → stack text n_h n_l n_m design ≡ refusal 0 place → ⊥
  -- each happens
  pub an_answer : Some Answered
  pub a_1 : Some (Refused 1)
  pub a_9 : Some (Refused 9)
  pub a_10 : Some (Refused 10)
