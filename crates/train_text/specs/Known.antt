-- Lines worked out by hand from 01's words, and a text of four surfaces that the original Rust gives. Definitions only; proofs/Known.antt
-- computes them.
use Rattle.std.specs.Prelude.{◌≡◌, true, false, [], ◌∷◌, ℕ}
use Rattle.ieee.specs.Functions.{one, half, seven_eighths}
use Rattle.refusal.specs.Outcome.{answer, refusal}
use Rattle.sheet.specs.Sheet.{keeps, SheetSurface, Sheet}
use Rattle.train_text.specs.Text.{surface_line, sum_line, text, train_text}

-- a SURFACE without layers
abbrev pub surface : ℕ → ℕ → ℕ → ℕ → SheetSurface
surface payload n_incident n_substrate angle =
    record { tuning = keeps; payload = payload; n_incident = n_incident; n_substrate = n_substrate; angle = angle; layers = [] }

-- 550 nm, s 0.75, p 1: through a bare surface at 0.5, off a bare one at 0.25, off an ideal mirror, through a beamsplitter
abbrev pub several : Sheet
several =
    record {
      edition = 1;
      wavelength = 0x4081_3000_0000_0000;
      s = 0x3FE8_0000_0000_0000;
      p = 0x3FF0_0000_0000_0000;
      surfaces =
          surface 0 0x3FF0_0000_0000_0000 0x3FF8_51EB_851E_B852 0x3FE0_0000_0000_0000
          ∷ surface 1 0x3FF8_51EB_851E_B852 0x3FF6_147A_E147_AE14 0x3FD0_0000_0000_0000
          ∷ surface 15 0x3FF0_0000_0000_0000 0x3FF8_0000_0000_0000 0
          ∷ surface 12 0x3FF0_0000_0000_0000 0x3FF8_0000_0000_0000 0
          ∷ [];
    }

pub record TextKnown : Type 0 where
  -- "12 R 3FF0000000000000 3FE0000000000000": s 1, p 0.5
  pub reflected : surface_line 12 true one half ≡
      49 ∷ 50 ∷ 32 ∷ 82 ∷ 32 ∷ 51 ∷ 70 ∷ 70 ∷ 48 ∷ 48 ∷ 48 ∷ 48 ∷ 48 ∷ 48 ∷ 48 ∷ 48 ∷ 48 ∷ 48 ∷ 48 ∷ 48 ∷ 48 ∷ 32 ∷ 51 ∷ 70 ∷ 69 ∷ 48 ∷ 48 ∷
      48 ∷ 48 ∷ 48 ∷ 48 ∷ 48 ∷ 48 ∷ 48 ∷ 48 ∷ 48 ∷ 48 ∷ 48 ∷ 10 ∷ []
  -- "1 T 3FEC000000000000 3FF0000000000000": s 0.875, p 1
  pub transmitted : surface_line 1 false seven_eighths one ≡
      49 ∷ 32 ∷ 84 ∷ 32 ∷ 51 ∷ 70 ∷ 69 ∷ 67 ∷ 48 ∷ 48 ∷ 48 ∷ 48 ∷ 48 ∷ 48 ∷ 48 ∷ 48 ∷ 48 ∷ 48 ∷ 48 ∷ 48 ∷ 32 ∷ 51 ∷ 70 ∷ 70 ∷ 48 ∷ 48 ∷ 48 ∷
      48 ∷ 48 ∷ 48 ∷ 48 ∷ 48 ∷ 48 ∷ 48 ∷ 48 ∷ 48 ∷ 48 ∷ 10 ∷ []
  -- "sum 3FF8000000000000": 1.5, of 1 and 0.5
  pub sum : sum_line one half ≡
      115 ∷ 117 ∷ 109 ∷ 32 ∷ 51 ∷ 70 ∷ 70 ∷ 56 ∷ 48 ∷ 48 ∷ 48 ∷ 48 ∷ 48 ∷ 48 ∷ 48 ∷ 48 ∷ 48 ∷ 48 ∷ 48 ∷ 48 ∷ 10 ∷ []
  -- "refused 6 15"
  pub refused : text (refusal 6 15) ≡ 114 ∷ 101 ∷ 102 ∷ 117 ∷ 115 ∷ 101 ∷ 100 ∷ 32 ∷ 54 ∷ 32 ∷ 49 ∷ 53 ∷ 10 ∷ []
  -- "refused 4 0": no bytes at all
  pub no_bytes : train_text [] ≡ 114 ∷ 101 ∷ 102 ∷ 117 ∷ 115 ∷ 101 ∷ 100 ∷ 32 ∷ 52 ∷ 32 ∷ 48 ∷ 10 ∷ []
  -- "1 T 3FE693D2EBE87F2A 3FEF170AA12D4046", "2 R 3F5EFA26BB14B03F 3F5FECEFF49E54A1",
  -- "3 R 3F5EFA26BB14B03F 3F5FECEFF49E54A1", "4 T 3F4EFA26BB14B03F 3F4FECEFF49E54A1", "sum 3F5F738B57D98270"
  pub of_several : text (answer several) ≡
      49 ∷ 32 ∷ 84 ∷ 32 ∷ 51 ∷ 70 ∷ 69 ∷ 54 ∷ 57 ∷ 51 ∷ 68 ∷ 50 ∷ 69 ∷ 66 ∷ 69 ∷ 56 ∷ 55 ∷ 70 ∷ 50 ∷ 65 ∷ 32 ∷ 51 ∷ 70 ∷ 69 ∷
      70 ∷ 49 ∷ 55 ∷ 48 ∷ 65 ∷ 65 ∷ 49 ∷ 50 ∷ 68 ∷ 52 ∷ 48 ∷ 52 ∷ 54 ∷ 10 ∷
      50 ∷ 32 ∷ 82 ∷ 32 ∷ 51 ∷ 70 ∷ 53 ∷ 69 ∷ 70 ∷ 65 ∷ 50 ∷ 54 ∷ 66 ∷ 66 ∷ 49 ∷ 52 ∷ 66 ∷ 48 ∷ 51 ∷ 70 ∷ 32 ∷ 51 ∷ 70 ∷ 53 ∷
      70 ∷ 69 ∷ 67 ∷ 69 ∷ 70 ∷ 70 ∷ 52 ∷ 57 ∷ 69 ∷ 53 ∷ 52 ∷ 65 ∷ 49 ∷ 10 ∷
      51 ∷ 32 ∷ 82 ∷ 32 ∷ 51 ∷ 70 ∷ 53 ∷ 69 ∷ 70 ∷ 65 ∷ 50 ∷ 54 ∷ 66 ∷ 66 ∷ 49 ∷ 52 ∷ 66 ∷ 48 ∷ 51 ∷ 70 ∷ 32 ∷ 51 ∷ 70 ∷ 53 ∷
      70 ∷ 69 ∷ 67 ∷ 69 ∷ 70 ∷ 70 ∷ 52 ∷ 57 ∷ 69 ∷ 53 ∷ 52 ∷ 65 ∷ 49 ∷ 10 ∷
      52 ∷ 32 ∷ 84 ∷ 32 ∷ 51 ∷ 70 ∷ 52 ∷ 69 ∷ 70 ∷ 65 ∷ 50 ∷ 54 ∷ 66 ∷ 66 ∷ 49 ∷ 52 ∷ 66 ∷ 48 ∷ 51 ∷ 70 ∷ 32 ∷ 51 ∷ 70 ∷ 52 ∷
      70 ∷ 69 ∷ 67 ∷ 69 ∷ 70 ∷ 70 ∷ 52 ∷ 57 ∷ 69 ∷ 53 ∷ 52 ∷ 65 ∷ 49 ∷ 10 ∷
      115 ∷ 117 ∷ 109 ∷ 32 ∷ 51 ∷ 70 ∷ 53 ∷ 70 ∷ 55 ∷ 51 ∷ 56 ∷ 66 ∷ 53 ∷ 55 ∷ 68 ∷ 57 ∷ 56 ∷ 50 ∷ 55 ∷ 48 ∷ 10 ∷ []
