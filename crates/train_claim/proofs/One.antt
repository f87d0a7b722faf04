-- Sheets of both editions within the grammar and the limits: every payload, met head on, with layers where they may stand. Assumes nothing.
use mathlib.Core.Path.{◌≡◌, refl}
use mathlib.Core.Logic.{◌⊎◌, inl, inr}
use mathlib.Core.List.{List, [], ◌∷◌}
use Prim.Native.Nat.{ℕ, zero, suc, ◌/◌, ◌≤◌}
use native.Mathlib.Omega.{arith}
use lib.Dec.{T}
use lib.ListN.{length, replicate}
use lib.Ieee as Ieee
use lib.Ieee.{of_bits}
use Rattle.ieee.specs.Functions.{abs, clamp}
use Rattle.ieee.proofs.Signs.{of_true}
use Rattle.whole_nearest.specs.Nearest.{nearest_whole}
use Rattle.math_trig.specs.Trig.{wrap, less_turns, reduce, first_line, fold, second_fold, series, sin_at, sin, cos_at, cos_of, cos}
use Rattle.thin_film_solver.specs.Solve.{dielectric}
use Rattle.thin_film_presets.specs.Layers.{bragg_layers, broadband_layers}
use Rattle.thin_film.specs.Coating.{mgf2_layers, mirror_layers, layers_of}
use Rattle.gate_limits.specs.Coating.{coded, interface}
use Rattle.gate_limits.specs.Limits.{within, beam_passes, layer_within, layers_within, angle_passes, surface_passes, metal_within, metals_within, absorption, absorptions, may_be_metal, metal_passes}
use Rattle.sheet.specs.Blocks.{All}
use Rattle.sheet.specs.Sheet.{SheetLayer, layer, cauchy, Tuning, keeps, tunes, SheetSurface, Sheet, GoodLayer, GoodTuning, GoodSurface, WellFormed, raw_words, layers_blocks, surfaces_blocks, blocks}
use Rattle.sheet.specs.Read.{numbers}
use Rattle.sheet_values.specs.Values.{value, cauchy_index, films}
use Rattle.gate.specs.Gate.{all_finite, verdict, tuned, leading, carried, walked}
use Rattle.gate.specs.Wavelength.{layers_admitted, layers_hold, holds}
use Rattle.gate.specs.Claim.{HoldsFrom, WithinLimits}
use Rattle.train_claim.specs.Claim.{EveryPayload, MetalFilm}

-- 1 to 1.5, angle 0
abbrev tuned_pane : Tuning → ℕ → List SheetLayer → SheetSurface
tuned_pane tuning payload layers = record { tuning = tuning; payload = payload; n_incident = 0x3FF0_0000_0000_0000; n_substrate = 0x3FF8_0000_0000_0000; angle = 0; layers = layers }

abbrev pane : ℕ → List SheetLayer → SheetSurface
pane payload layers = tuned_pane keeps payload layers

-- n 2, k 0, 64 nm
abbrev coat : SheetLayer
coat = layer 0x4000_0000_0000_0000 0 0x4050_0000_0000_0000

-- A 1.5, B 2^-8, C 2^-12, 64 nm
abbrev glass : SheetLayer
glass = cauchy 0x3FF8_0000_0000_0000 0x3F70_0000_0000_0000 0x3F30_0000_0000_0000 0x4050_0000_0000_0000

abbrev last_panes : List SheetSurface
last_panes = pane 12 [] ∷ pane 13 [] ∷ pane 14 [] ∷ pane 15 [] ∷ []

abbrev panes : Tuning → List SheetLayer → List SheetSurface
panes t ls =
    pane 0 [] ∷ pane 1 [] ∷ pane 2 [] ∷ pane 3 [] ∷ pane 4 [] ∷ pane 5 [] ∷ pane 6 [] ∷ pane 7 [] ∷ pane 8 [] ∷ pane 9 [] ∷ pane 10 (coat ∷ []) ∷ tuned_pane t 11 ls
    ∷ last_panes

-- 512 nm, s = p = 1
abbrev sheet : ℕ → Tuning → List SheetLayer → Sheet
sheet edition t ls = record { edition = edition; wavelength = 0x4080_0000_0000_0000; s = 0x3FF0_0000_0000_0000; p = 0x3FF0_0000_0000_0000; surfaces = panes t ls }

coats : (edition n : ℕ) → All (GoodLayer edition) (replicate n coat)
coats edition zero = tt
coats edition (suc n) = ((omega arith, (omega arith, omega arith)), coats edition n)

module _ (edition : ℕ) where
  plain : (p : ℕ) → p ≤ 15 → GoodSurface edition (pane p [])
  plain p le = record { tuning = tt; payload = le; n_incident = omega arith; n_substrate = omega arith; angle = omega arith; layers = tt; few = omega arith; custom = inl refl }

  custom : (t : Tuning) (p : ℕ) (ls : List SheetLayer) → GoodTuning edition t → p ≤ 15 → p / 2 ≡ 5 → length ls ≤ 16 → All (GoodLayer edition) ls → GoodSurface edition (tuned_pane t p ls)
  custom t p ls tunes-well le e few g = record { tuning = tunes-well; payload = le; n_incident = omega arith; n_substrate = omega arith; angle = omega arith; layers = g; few = few; custom = inr e }

  formed : (t : Tuning) (ls : List SheetLayer) → GoodTuning edition t → (edition ≡ 1) ⊎ (edition ≡ 2) → length ls ≤ 16 → All (GoodLayer edition) ls → WellFormed (sheet edition t ls)
  formed t ls tunes-well e few g = record {
    edition = e;
    wavelength = omega arith;
    s = omega arith;
    p = omega arith;
    surfaces = (plain 0 (omega arith), (plain 1 (omega arith), (plain 2 (omega arith), (plain 3 (omega arith), (plain 4 (omega arith), (plain 5 (omega arith), (plain 6 (omega arith), (plain 7 (omega arith), (plain 8 (omega arith), (plain 9 (omega arith), (custom keeps 10 (coat ∷ []) tt (omega arith) refl (omega arith) (coats edition 1), (custom t 11 ls tunes-well (omega arith) refl few g, (plain 12 (omega arith), (plain 13 (omega arith), (plain 14 (omega arith), (plain 15 (omega arith), tt))))))))))))))));
    few = omega arith;
  }

-- the layers within the limits at 512 nm, and from a kind 7 on at its own
abbrev Inside : Tuning → List SheetLayer → Type 0
Inside t ls = T (holds (value 0x4080_0000_0000_0000) (panes t ls)) × HoldsFrom t (pane 11 ls ∷ last_panes)

inside : (edition : ℕ) (t : Tuning) (ls : List SheetLayer) → Inside t ls → WithinLimits (sheet edition t ls)
unfolding dielectric mgf2_layers mirror_layers layers_of bragg_layers broadband_layers within beam_passes layer_within layers_within angle_passes surface_passes coded interface films nearest_whole wrap less_turns reduce first_line fold second_fold series sin_at sin cos_at cos_of cos abs clamp Ieee.rem Ieee.lt Ieee.le Ieee.eq Ieee.add Ieee.sub Ieee.mul Ieee.div Ieee.neg Ieee.of_int Ieee.is_nan of_bits
inside edition t ls h = record {
  beam = of_true _ refl;
  surfaces = (of_true _ refl, (of_true _ refl, (of_true _ refl, (of_true _ refl, (of_true _ refl, (of_true _ refl, (of_true _ refl, (of_true _ refl, (of_true _ refl, (of_true _ refl, (of_true _ refl, (of_true _ refl, (of_true _ refl, (of_true _ refl, (of_true _ refl, (of_true _ refl, tt))))))))))))))));
  holds = h.0;
  tuned = (tt, (tt, (tt, (tt, (tt, (tt, (tt, (tt, (tt, (tt, (tt, (h.1, (tt, (tt, (tt, (tt, tt))))))))))))))));
}

abbrev first_layers : List SheetLayer
first_layers = replicate 16 coat

abbrev second_layers : List SheetLayer
second_layers = coat ∷ glass ∷ replicate 14 coat

-- 1,024 nm
abbrev second_line : Tuning
second_line = tunes 0x4090_0000_0000_0000

first_inside : Inside keeps first_layers
unfolding holds layers_hold layers_admitted layer_within within sin sin_at nearest_whole wrap less_turns reduce first_line fold second_fold series cos_at cos_of cos abs clamp Ieee.rem Ieee.lt Ieee.le Ieee.eq Ieee.add Ieee.sub Ieee.mul Ieee.div Ieee.neg Ieee.of_int Ieee.is_nan of_bits
first_inside = (of_true _ refl, tt)

second_inside : Inside second_line second_layers
unfolding cauchy_index holds layers_hold layers_admitted layer_within within sin sin_at nearest_whole wrap less_turns reduce first_line fold second_fold series cos_at cos_of cos abs clamp Ieee.rem Ieee.lt Ieee.le Ieee.eq Ieee.add Ieee.sub Ieee.mul Ieee.div Ieee.neg Ieee.of_int Ieee.is_nan of_bits
second_inside = (of_true _ refl, of_true _ refl)

pub one : EveryPayload 1 (replicate 16 4) keeps
one = record {
  sheet = sheet 1 keeps first_layers;
  formed = formed 1 keeps first_layers tt (inl refl) (omega arith) (coats 1 16);
  within = inside 1 keeps first_layers first_inside;
  edition_is = refl;
  payloads = refl;
  layers = refl;
  tunings = refl;
}

pub two : EveryPayload 2 (4 ∷ 6 ∷ replicate 14 4) (tunes 0x4090_0000_0000_0000)
two = record {
  sheet = sheet 2 second_line second_layers;
  formed = formed 2 second_line second_layers (refl, omega arith) (inr refl) (omega arith) ((coats 2 1).0, ((refl, (omega arith, (omega arith, (omega arith, omega arith)))), coats 2 14));
  within = inside 2 second_line second_layers second_inside;
  edition_is = refl;
  payloads = refl;
  layers = refl;
  tunings = refl;
}

-- ---- a metal film: n 0.25, k 7, 32 nm, of a surface of 1 to 1.5 at angle 0, at 512 nm
abbrev gold : SheetLayer
gold = layer 0x3FD0_0000_0000_0000 0x401C_0000_0000_0000 0x4040_0000_0000_0000

abbrev gilt : Sheet
gilt = record { edition = 1; wavelength = 0x4080_0000_0000_0000; s = 0x3FF0_0000_0000_0000; p = 0x3FF0_0000_0000_0000; surfaces = pane 10 (gold ∷ []) ∷ [] }

pub metal : MetalFilm
unfolding blocks surfaces_blocks layers_blocks raw_words numbers walked verdict tuned carried leading metals_within metal_within absorption absorptions may_be_metal metal_passes all_finite holds layers_hold layers_admitted layers_of within beam_passes layer_within layers_within angle_passes surface_passes coded interface films sin sin_at nearest_whole wrap less_turns reduce first_line fold second_fold series cos_at cos_of cos abs clamp Ieee.rem Ieee.lt Ieee.le Ieee.eq Ieee.add Ieee.sub Ieee.mul Ieee.div Ieee.round Ieee.neg Ieee.of_int Ieee.is_nan of_bits
metal = record {
  sheet = gilt;
  formed = record { edition = inl refl; wavelength = omega arith; s = omega arith; p = omega arith; surfaces = (custom 1 keeps 10 (gold ∷ []) tt (omega arith) refl (omega arith) ((omega arith, (omega arith, omega arith)), tt), tt); few = omega arith };
  within = record { beam = of_true _ refl; surfaces = (of_true _ refl, tt); holds = of_true _ refl; tuned = (tt, tt) };
  layers = refl;
  outside = refl;
}
