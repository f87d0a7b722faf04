-- The call of `evaluate_list`, for the functions that go on with a caller's list: what it is passed, what it asks, and what is known of its result.
-- `Prepared` is plain data: what a value owns is a fact, and is made where the callee asks for it. Assumes nothing.
use mathlib.Core.Path.{◌≡◌}
use mathlib.Core.List.{List, [], ◌∷◌}
use lib.ListN.{length}
use seplogic.Ra.Ura.{Ura}
use mir.Syntax.{named}
use mir.Val.{Val}
use base.Logic.{SProp, ent, snd∗, ex_e}
use base.Fml.{Lft, Share, Fml, ftrue, flft}
use prog.Memory.{Memory}
use prog.Routine.{Routine}
use types.Logic.{Logic, sem}
use contract.Monad.{Fun, fact}
use types.Kit.{‵, ◌⊛◌, ⋆, ◌$◌, ◌∵◌, !, qed, move, join, fjoin, frame, done}
use denote.Laws.{Is}
use denote.Ref.{Bor}
use denote.Slice.{slice_val, ShrSlice}
use denote.Steps.{owned, nothing}
use denote.Enum.Laws as EL
use denote.Triple.Statement.{Contract}
use denote.Triple.Spec.{triple_of}
use denote.Triple.Clauses.{ensured, lasts}
use Rattle.thin_film_solver.specs.declared.ThinFilmLayer.{ThinFilmLayer}
use Rattle.thin_film_solver.specs.contracts.ThinFilmLayer as L
use Rattle.thin_film_layers.specs.declared.Prepared.{Prepared}
use Rattle.thin_film_layers.specs.Internal.{read_from}
use Rattle.thin_film_layers.specs.contracts.Prepared as S
use Rattle.thin_film_layers.proofs.Prepared.TheLaws as S'
use Rattle.thin_film_layers.specs.contracts.evaluate_list as list
use Rattle.refusal.specs.Outcome.{outcome}
use Rattle.std.specs.Prelude.{Result}
use Rattle.refusal.specs.declared.Refusal.{Refusal}
use Rattle.thin_film_solver.specs.declared.CoatingResponse.{CoatingResponse}

module _ {M : Type 1} {𝓤 : Ura M} (𝓛 : Logic 𝓤) (mem : Memory → SProp 𝓤) (run : Routine → Fun 𝓤) where
  abbrev pub EvaluateList : Contract 𝓤
  EvaluateList = triple_of 𝓛 list.signature (list.spec 𝓛 mem run)

  -- the slice goes on with the lifetime's token, which comes back
  module _ (κ : Lft) (q : Share) (s : Bor (List ThinFilmLayer)) where
    abbrev pub v : Val
    v = slice_val s.ref_ptr (length s.now)

    abbrev pub Own : Fml
    Own = (ShrSlice (named 0) κ L.the_row).own_val s (v ∷ [])

    abbrev pub to_list : Prepared → Val → EvaluateList.Ghost
    to_list a u = (((κ, tt), (q, tt), tt, (s, (a, tt)), (v ∷ [], (u ∷ [], tt))), tt)

    pub goes_list : (a : Prepared) (u : Val) → Is S.the_row a (u ∷ []) → ent 𝓤 (⋆ 𝓛 (‵ Own ∷ (‵ (flft κ q) ⊛ ‵ ftrue) ∷ [])) (EvaluateList.pre (to_list a u))
    goes_list a u is =
        qed 𝓛 (‵ Own ∷ (‵ (flft κ q) ⊛ ‵ ftrue) ∷ []) ∵ nothing ! $ owned ! S.the_row (Is S.the_row) (EL.makes S.the_type S'.the_plain 𝓛) a (u ∷ []) is $ fjoin ! $
        move ! (1 ∷ 0 ∷ []) $ fjoin ! $ move ! (1 ∷ 0 ∷ []) $ join ! $ frame ! $ done !

    pub list_said : (a : Prepared) (r : Result CoatingResponse Refusal) → ent 𝓤 (ensured 𝓛 list.ended (list.clauses 𝓛 mem run) (κ, tt) (s, (a, tt)) tt r) (fact 𝓤 (outcome r ≡ read_from a s.now))
    list_said a r = ex_e 𝓤 _ (λ ws. snd∗ 𝓤 (sem 𝓛 (lasts list.ended (κ, tt) (s, (a, tt)) ws)) (fact 𝓤 (outcome r ≡ read_from a s.now)))
