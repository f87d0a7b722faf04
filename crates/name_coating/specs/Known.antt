-- Names that stand for a coating, and the names of coatings, as bytes. Types only; `proofs/Names.antt` computes them.
use Rattle.std.specs.Prelude.{◌≡◌, [], ◌∷◌, None, Some}
use Rattle.refusal.specs.Outcome.{answer}
use Rattle.thin_film_coating.specs.declared.Coating.TheVariants as C
use Rattle.thin_film.specs.declared.SurfaceCoating.TheVariants as S
use Rattle.thin_film.specs.Coating.{mgf2_default}
use Rattle.name_coating.specs.Name.{from_format_name, format_name}

pub record KnownNames : Type 0 where
  -- from_format_name: "uncoated", "MGF2", "BBAR", "Mirror", "xREFLx", "HR", "AR"
  pub uncoated : from_format_name (117 ∷ 110 ∷ 99 ∷ 111 ∷ 97 ∷ 116 ∷ 101 ∷ 100 ∷ []) ≡ answer None
  pub mgf2 : from_format_name (77 ∷ 71 ∷ 70 ∷ 50 ∷ []) ≡ answer (Some mgf2_default)
  pub bbar : from_format_name (66 ∷ 66 ∷ 65 ∷ 82 ∷ []) ≡ answer (Some S.BroadbandAr)
  pub mirror : from_format_name (77 ∷ 105 ∷ 114 ∷ 114 ∷ 111 ∷ 114 ∷ []) ≡ answer (Some S.HighReflectanceMirror)
  pub refl_inside : from_format_name (120 ∷ 82 ∷ 69 ∷ 70 ∷ 76 ∷ 120 ∷ []) ≡ answer (Some S.HighReflectanceMirror)
  pub hr : from_format_name (72 ∷ 82 ∷ []) ≡ answer (Some S.HighReflectanceMirror)
  pub ar : from_format_name (65 ∷ 82 ∷ []) ≡ answer (Some S.IdealAr)
  -- to_format_name: "AR", "MGF2", "BBAR", "MIRROR" and "CUSTOM"
  pub of_ideal : format_name S.IdealAr ≡ 65 ∷ 82 ∷ []
  pub of_mgf2 : format_name mgf2_default ≡ 77 ∷ 71 ∷ 70 ∷ 50 ∷ []
  pub of_broadband : format_name S.BroadbandAr ≡ 66 ∷ 66 ∷ 65 ∷ 82 ∷ []
  pub of_mirror : format_name S.HighReflectanceMirror ≡ 77 ∷ 73 ∷ 82 ∷ 82 ∷ 79 ∷ 82 ∷ []
  pub of_custom : format_name (S.Custom C.Multilayer) ≡ 67 ∷ 85 ∷ 83 ∷ 84 ∷ 79 ∷ 77 ∷ []
