-- 02 slip 1: the layers of a text, worked out apart. Types only; `proofs/Known.antt` computes them.
use Rattle.std.specs.Prelude.{◌≡◌, List, [], ◌∷◌, ℕ}
use Rattle.std.specs.Float.{binary64}
use Rattle.std.specs.Float.Ieee.{of_bits}
use Rattle.refusal.specs.Outcome.{Outcome, answer, refusal}
use Rattle.thin_film_solver.specs.declared.ThinFilmLayer.{ThinFilmLayer}
use Rattle.thin_film_presets.specs.Known.{film}
use Rattle.thin_film_shorthand.specs.Stack.{stack}

-- a text of H 2.3, L 1.46 and M of some bits, at a design wavelength of some bits
abbrev pub stacked : List ℕ → ℕ → ℕ → Outcome (List ThinFilmLayer)
stacked text m design =
    stack text (of_bits binary64 0x4002_6666_6666_6666) (of_bits binary64 0x3FF7_5C28_F5C2_8F5C) (of_bits binary64 m) (of_bits binary64 design)

pub record KnownStacks : Type 0 where
  -- HLM3H2M, M 1.7, at 632.8 nm. 3·(design / (4·2.3)) is not (3·design) / (4·2.3), which is an ulp more
  pub layers : stacked (0x48 ∷ 0x4C ∷ 0x4D ∷ 0x33 ∷ 0x48 ∷ 0x32 ∷ 0x4D ∷ []) 0x3FFB_3333_3333_3333 0x4083_C666_6666_6666 ≡
      answer (film 0x4002_6666_6666_6666 0x4051_3216_42C8_590B ∷ film 0x3FF7_5C28_F5C2_8F5C 0x405B_16CB_65B2_D96C
      ∷ film 0x3FFB_3333_3333_3333 0x4057_43C3_C3C3_C3C3 ∷ film 0x4002_6666_6666_6666 0x4069_CB21_642C_8590
      ∷ film 0x3FFB_3333_3333_3333 0x4067_43C3_C3C3_C3C3 ∷ [])
  -- 'bad indices or wavelength are 1, first of all': M 0 before the text h, which is 9; an infinite wavelength
  pub zero_index : stacked (0x68 ∷ []) 0 0x4083_C666_6666_6666 ≡ refusal 1 0
  pub wrong_text : stacked (0x68 ∷ []) 0x3FFB_3333_3333_3333 0x4083_C666_6666_6666 ≡ refusal 9 0
  pub infinite_wavelength : stacked (0x48 ∷ []) 0x3FFB_3333_3333_3333 0x7FF0_0000_0000_0000 ≡ refusal 1 0
