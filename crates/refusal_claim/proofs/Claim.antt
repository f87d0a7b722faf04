-- Demand 1. Assumes nothing.
use Rattle.std.specs.Prelude.{None, Option, Some}
use mathlib.Core.Path.{◌≡◌, refl, sym, ap, ◌∙◌, subst}
use mathlib.Core.Bool.{Bool, true, false, ◌&&◌, ◌||◌, cond}
use mathlib.Core.Logic.{◌⊎◌, inl, inr, ⊎_elim}
use mathlib.Core.List.{List, [], ◌∷◌, ◌++◌, map as map-list}
use Prim.Native.Nat.{ℕ, zero, suc, ◌*◌, ◌%◌, ◌≤◌, ◌<◌}
use native.Mathlib.Omega.{arith}
use lib.Dec.{T, eqb, leb, ltb, lit≤, lit<}
use lib.ListN.{length, get_or, drop, replicate, length-replicate}
use lib.Ieee as Ieee
use lib.Ieee.{Float, nan, lt, of_bits}
use lib.Ieee.Bits.{is_true}
use borrow.Author.Tests.{eq-eqb, ne_eqb, ltb-true, ltb-false, le-ltb}
use Rattle.ieee.specs.Functions.{zero_f, one, finite_positive}
use Rattle.refusal.specs.Outcome.{Outcome, answer, refusal, map, bind, invalid_parameter, too_many_layers}
use Rattle.thin_film_solver.specs.declared.ThinFilmLayer.{ThinFilmLayer}
use Rattle.thin_film_solver.specs.declared.CoatingResponse.{CoatingResponse}
use Rattle.thin_film_solver.specs.Absorptance.{with_absorptance}
use Rattle.thin_film_solver.specs.Solve as Solve
use Rattle.thin_film_layers.specs.Evaluation.{ordered, no_layer}
use Rattle.thin_film_valid.specs.Valid.{valid}
use Rattle.thin_film_valid.specs.Ideal.{rust_ideal_ar}
use Rattle.thin_film_presets.specs.Layers.{bragg_layers}
use Rattle.thin_film_coating.specs.declared.Coating.{Coating}
use Rattle.thin_film_coating.specs.declared.Coating.TheVariants as C
use Rattle.thin_film_coating.specs.declared.Layers.{Layers}
use Rattle.thin_film_coating.specs.declared.Built as Declared
use Rattle.thin_film_coating.specs.Coating as Built
use Rattle.thin_film_coating.specs.Coating.{quarter_wave_layers}
use Rattle.thin_film_coating.specs.Evaluate.{rust_respond, rust_evaluate_coating, evaluate_coating}
use Rattle.thin_film.specs.declared.SurfaceCoating.{SurfaceCoating}
use Rattle.thin_film.specs.declared.SurfaceCoating.TheVariants as S
use Rattle.thin_film.specs.Coating.{standard_wavelength, coating_of, layers_of, to_coating}
use Rattle.thin_film_grammar.specs.Claim as Gives
use Rattle.thin_film_grammar.specs.Films.{film}
use Rattle.thin_film_grammar.specs.Reading.{counted, ended, read_from, reading}
use Rattle.thin_film_shorthand.specs.Stack as Stack
use Rattle.thin_film_shorthand.specs.Stack.{stack}
use Rattle.reflectance_range.specs.declared.ReflectanceRange.{ReflectanceRange}
use Rattle.reflectance_range.specs.Range.{index_valid, range_valid, reflectance_range}
use Rattle.thin_film_shorthand.specs.Claim as Shorthand
use Rattle.thin_film_shorthand.proofs.Claim.{shorthand}
use Rattle.thin_film.specs.Evaluate.{rust_evaluate_surface, evaluate_surface}
use Rattle.gate_limits.specs.Coating.{coded}
use Rattle.c_layers.specs.Evaluate.{layers, call_coating, evaluate_coded, evaluate}
use Rattle.c_scan.specs.Scan.{at_case, responses, paired, evaluate_list, all_numbers, scanned}
use Rattle.c_scan.specs.Argument.{invalid_argument}
use Rattle.math_trig.specs.Trig.{sin, cos}
use Rattle.name_bytes.specs.Trim.{span}
use Rattle.fresnel.specs.Fresnel.{fresnel_dielectric, fresnel_unpolarized, schlick_approx}
use Rattle.polarization_stokes.specs.Jones.{intensity, normalize, to_stokes}
use Rattle.polarization_mueller.specs.declared.JonesMatrix.{JonesMatrix}
use Rattle.polarization_mueller.specs.declared.MuellerMatrix.{MuellerMatrix}
use Rattle.polarization_mueller.specs.Jones.{linear_polarizer, retarder, quarter_wave_plate, half_wave_plate, diattenuator, apply, mul}
use Rattle.polarization_mueller.specs.Mueller.{to_mueller, apply_mueller}
use Rattle.polarization_born_wolf.specs.Conversion.{to_mueller_born_wolf}
use Rattle.surface.specs.declared.Answers.{Answers}
use Rattle.c_call.specs.Call.{Reply}
use Rattle.c_call.specs.Layout.{evaluated, response_numbers, common, surface_answered, rows, alone, entries}
use Rattle.c_stack.specs.Stack.{flat as flat-layers, stacked}
use Rattle.c_mueller.specs.Mueller.{jones, converted}
use Rattle.c_range.specs.Range.{ranged}
use Rattle.c_fresnel.specs.Fresnel.{reflectances, totals, matrices}
use Rattle.c_presets.specs.Presets.{mirror}
use Rattle.c_polarization.specs.Numbers.{of, of_two, vector, stokes, mueller, parts, parameters, figures}
use Rattle.c_names.specs.Names.{name_of, coating_name, name_said}
use Rattle.polarization.specs.declared.SurfaceJones.{SurfaceJones}
use Rattle.polarization.specs.Surface as Bare
use Rattle.polarization.specs.Surface.{indices_valid, surface_fresnel_jones}
use Rattle.name_bytes.specs.Ascii.{first_over}
use Rattle.name_coating.specs.Name.{from_format_name}
use Rattle.gate_limits.specs.Limits.{within, beam_passes}
use Rattle.sheet.specs.Words.{word, words_of, kind}
use Rattle.sheet.specs.Blocks.{Block, All, flat, blocks_from, starts}
use Rattle.sheet.specs.Sheet as Data
use Rattle.sheet.specs.Sheet.{nth, WellFormed, raw_words, surfaces_blocks, blocks, encode}
use Rattle.sheet.specs.Read.{floats_after, raws, numbers, may, decode}
use Rattle.sheet.specs.Claim.{Bytes}
use Rattle.sheet.proofs.Claim.{grammar_claim}
use Rattle.sheet_values.specs.Values.{value, met_at, films}
use Rattle.gate.specs.Gate.{verdict, tuned, carried, walked, verdicts, gated, gate}
use Rattle.gate.specs.Wavelength.{holds}
use Rattle.gate.proofs.Claim.{gate_claim}
use Rattle.quarter_waves.specs.Waves as Waves
use Rattle.quarter_waves.specs.Waves.{quarter_waves}
use Rattle.sheet_surfaces.specs.Surfaces.{of_surface, surface_of, numbered, layer_of, no_film, its_answers, nth_surface, nth_layer, surface_answers}
use Rattle.sheet_surfaces.proofs.Answers.{nth_answered}
use Rattle.train_steps.specs.declared.State.{State}
use Rattle.train_steps.specs.Train.{fresh, start, after_one, stepped, step, with_wavelength, retuned, retune, Ran, ran, run}
use Rattle.train_claim.specs.Claim.{EveryCall}
use Rattle.train_claim.proofs.Claim.{train_claim}
use Rattle.sheet_retuned.specs.Retuned.{answers_at}
use Rattle.dihkelu.specs.Numbers.{said}
use Rattle.dihkelu.specs.Band.{banded}
use Rattle.sheet_edition_1.specs.Edition.{translated, edition_1, Written, written, to_edition_1}
use Rattle.edition_1_claim.proofs.Claim.{edition_1_claim}
use Rattle.sheet_untuned.specs.Untuned.{no_tuning, without_tuning}
use Rattle.sheet_untuned.specs.Claim.{Untuned, FirstTuning}
use Rattle.sheet_untuned.proofs.Claim.{untuned_claim}
use Rattle.band.specs.declared.BandPowers.{BandPowers}
use Rattle.band.specs.Band.{each_line, tested, powers, band}
use Rattle.band.specs.Claim as Band
use Rattle.band.proofs.Claim.{band_claim}
use Rattle.refusal_claim.specs.Claim.{one_of, Only, Refuses, Sheet, Numbers, at, listed, always, RefusalClaim}

-- ---- numbers of refusals
wider : (n : ℕ) (ms ks : List ℕ) → T (one_of n ms) → T (one_of n (ms ++ ks))
wider n [] ks t = absurd t
wider n (m ∷ ms) ks t = by (eqb n m) t (wider n ms ks)
  where
    by : (b : Bool) → T (b || one_of n ms) → (T (one_of n ms) → T (one_of n (ms ++ ks))) → T (b || one_of n (ms ++ ks))
    by true t again = tt
    by false t again = again t

abbrev sheets : List ℕ
sheets = 4 ∷ 5 ∷ 6 ∷ []

module _ {A : Type 0} where
  more : (ks : List ℕ) (o : Outcome A) → Only sheets o → Only (sheets ++ ks) o
  more ks (answer a) t = tt
  more ks (refusal number place) t = wider number sheets ks t

  either : (ns : List ℕ) (b : Bool) (x y : Outcome A) → Only ns x → Only ns y → Only ns (cond b x y)
  either ns true x y h k = h
  either ns false x y h k = k

  mapped : {B : Type 0} (ns : List ℕ) (f : A → B) (o : Outcome A) → Only ns o → Only ns (map f o)
  mapped ns f (answer a) t = tt
  mapped ns f (refusal number place) t = t

  bound : {B : Type 0} (ns : List ℕ) (f : A → Outcome B) (o : Outcome A) → Only ns o → ((a : A) → o ≡ answer a → Only ns (f a)) → Only ns (bind o f)
  bound ns f (answer a) t h = h a refl
  bound ns f (refusal number place) t h = t

-- ---- the gate
gated_only : (src : List ℕ) → Only (4 ∷ 5 ∷ 6 ∷ []) (gated src)
gated_only src = go (gated src) refl
  where
    go : (o : Outcome Data.Sheet) → gated src ≡ o → Only (4 ∷ 5 ∷ 6 ∷ []) o
    go (answer x) e = tt
    go (refusal number place) e = ⊎_elim (λ k. rw k tt) (λ k. ⊎_elim (λ l. rw l tt) (λ l. rw l tt) k) (gate_claim.no_other src number place e)

-- ---- bytes that are refused with 4, 5 and 6, and a sheet that is admitted
zeros : (n : ℕ) → Bytes (replicate n 0)
zeros zero = tt
zeros (suc n) = (omega arith, zeros n)

none : Sheet
none = record { src = []; bytes = tt }

blank : Sheet
blank = record { src = replicate 36 0; bytes = zeros 36 }

abbrev dark : Data.Sheet
dark = record { edition = 1; wavelength = 0; s = 0; p = 0; surfaces = [] }

dark_formed : WellFormed dark
dark_formed = record { edition = inl refl; wavelength = omega arith; s = omega arith; p = omega arith; surfaces = tt; few = omega arith }

unlit : Sheet
unlit = record { src = encode dark; bytes = (grammar_claim.fits dark dark_formed).1 }

abbrev panes : Data.Sheet
panes = train_claim.one.sheet

whole : Sheet
whole = record { src = encode panes; bytes = (grammar_claim.fits panes train_claim.one.formed).1 }

mapped_length : {A B : Type 0} (f : A → B) (xs : List A) → length (map-list f xs) ≡ length xs
mapped_length f [] = refl
mapped_length f (x ∷ xs) = ap suc (mapped_length f xs)

sixteen : length panes.surfaces ≡ 16
sixteen = sym (mapped_length (λ (y : Data.SheetSurface). y.payload) panes.surfaces) ∙ ap length train_claim.one.payloads

four : gated none.src ≡ refusal 4 0
unfolding none gated word
four = refl

five : gated blank.src ≡ refusal 5 0
unfolding blank gated word decode words_of blocks_from may
five = refl

six : gated unlit.src ≡ refusal 6 1
unfolding unlit blocks surfaces_blocks raw_words starts numbers walked verdict tuned carried beam_passes within Ieee.le of_bits
six = (gate_claim.six (encode dark) unlit.bytes 1).1 (dark, ((dark_formed, refl), record { block = 1; inside = lit< tt; outside = refl; first = first; stands = refl }))
  where
    first : (i : ℕ) → i < 1 → get_or (verdicts dark) i true ≡ true
    first zero lt = refl
    first (suc i) lt = absurd (omega arith)

admitted : gated whole.src ≡ answer panes
unfolding whole
admitted = (gate_claim.admits (encode panes) whole.bytes panes).1 ((train_claim.one.formed, train_claim.one.within), refl)

-- ---- calls on sheets
abbrev Refused : {X A : Type 0} → (X → Outcome A) → ℕ → Type 0
Refused {X} call number = (x : X) × ((place : ℕ) × (call x ≡ refusal number place))

of_gate : Refuses (λ (x : Sheet). gate x.src) (4 ∷ 5 ∷ 6 ∷ [])
unfolding gate
of_gate = record {
  only = λ x. mapped (4 ∷ 5 ∷ 6 ∷ []) _ (gated x.src) (gated_only x.src);
  each = ((none, (0, ap (map _) four)), ((blank, (0, ap (map _) five)), ((unlit, (1, ap (map _) six)), tt)));
}

of_start : Refuses (λ (x : Sheet). start x.src) (4 ∷ 5 ∷ 6 ∷ [])
unfolding start
of_start = record {
  only = λ x. mapped (4 ∷ 5 ∷ 6 ∷ []) fresh (gated x.src) (gated_only x.src);
  each = ((none, (0, ap (map fresh) four)), ((blank, (0, ap (map fresh) five)), ((unlit, (1, ap (map fresh) six)), tt)));
}

abbrev still : State
still = record { done = 16; s = zero_f; p = zero_f; wavelength_nm = zero_f }

-- a wavelength that is no number is 11 wherever it is tested
abbrev lost : State
lost = record { done = 0; s = zero_f; p = zero_f; wavelength_nm = nan }

no_wavelength : (ys : List Data.SheetSurface) → holds nan ys ≡ false
unfolding holds within Ieee.le Ieee.lt Ieee.eq of_bits
no_wavelength ys = refl

of_step : Refuses (λ (x : Sheet × State). step x.0.src x.1) (4 ∷ 5 ∷ 6 ∷ 7 ∷ 11 ∷ [])
unfolding step
of_step = record {
  only = λ x. by x.0 x.1;
  each = (
    ((none, still), (0, (train_claim.turned_back none.src 4 0 four).steps still)),
    (
      ((blank, still), (0, (train_claim.turned_back blank.src 5 0 five).steps still)),
      (
        ((unlit, still), (1, (train_claim.turned_back unlit.src 6 1 six).steps still)),
        (
          ((whole, still), (0, (train_claim.every_call whole.src whole.bytes panes admitted).seven still (omega (arith, sixteen)))),
          (((whole, lost), (0, (train_claim.every_call whole.src whole.bytes panes admitted).eleven lost (omega (arith, sixteen)) (no_wavelength (drop 0 panes.surfaces)))), tt),
        ),
      ),
    ),
  );
}
  where
    by : (x : Sheet) (st : State) → Only (4 ∷ 5 ∷ 6 ∷ 7 ∷ 11 ∷ []) (step x.src st)
    by x st =
        bound (4 ∷ 5 ∷ 6 ∷ 7 ∷ 11 ∷ []) (stepped st) (gated x.src) (more (7 ∷ 11 ∷ []) (gated x.src) (gated_only x.src))
        (λ y e. either (4 ∷ 5 ∷ 6 ∷ 7 ∷ 11 ∷ []) (ltb st.done (length y.surfaces)) _ (refusal 7 0)
        (either (4 ∷ 5 ∷ 6 ∷ 7 ∷ 11 ∷ []) (holds st.wavelength_nm (drop st.done y.surfaces)) (answer _) (refusal 11 0) tt tt) tt)

of_retune : Refuses (λ (x : Sheet × (State × Float)). retune x.0.src x.1.0 x.1.1) (4 ∷ 5 ∷ 6 ∷ 11 ∷ [])
unfolding retune
of_retune = record {
  only = λ x. by x.0 x.1.0 x.1.1;
  each = (
    ((none, (still, nan)), (0, (train_claim.turned_back none.src 4 0 four).retunes still nan)),
    (
      ((blank, (still, nan)), (0, (train_claim.turned_back blank.src 5 0 five).retunes still nan)),
      (
        ((unlit, (still, nan)), (1, (train_claim.turned_back unlit.src 6 1 six).retunes still nan)),
        (((whole, (still, nan)), (0, (train_claim.every_call whole.src whole.bytes panes admitted).untuned still nan (no_wavelength (drop 16 panes.surfaces)))), tt),
      ),
    ),
  );
}
  where
    by : (x : Sheet) (st : State) (w : Float) → Only (4 ∷ 5 ∷ 6 ∷ 11 ∷ []) (retune x.src st w)
    by x st w =
        bound (4 ∷ 5 ∷ 6 ∷ 11 ∷ []) (retuned w st) (gated x.src) (more (11 ∷ []) (gated x.src) (gated_only x.src))
        (λ y e. either (4 ∷ 5 ∷ 6 ∷ 11 ∷ []) (holds w (drop st.done y.surfaces)) (answer _) (refusal 11 0) tt tt)

of_run : Refuses (λ (x : Sheet × List Float). (run x.0.src x.1).result) (4 ∷ 5 ∷ 6 ∷ 8 ∷ [])
unfolding run
of_run = record {
  only = λ x. by x.0 x.1;
  each = (
    ((none, []), (0, ap (λ (r : Ran). r.result) ((train_claim.turned_back none.src 4 0 four).runs []))),
    (
      ((blank, []), (0, ap (λ (r : Ran). r.result) ((train_claim.turned_back blank.src 5 0 five).runs []))),
      (
        ((unlit, []), (1, ap (λ (r : Ran). r.result) ((train_claim.turned_back unlit.src 6 1 six).runs []))),
        (((whole, []), (0, ap (λ (r : Ran). r.result) ((train_claim.every_call whole.src whole.bytes panes admitted).eight [] (omega (arith, sixteen))))), tt),
      ),
    ),
  );
}
  where
    ran_only : (list : List Float) (o : Outcome Data.Sheet) → Only (4 ∷ 5 ∷ 6 ∷ 8 ∷ []) o → Only (4 ∷ 5 ∷ 6 ∷ 8 ∷ []) (ran list o).result
    ran_only list (answer x) t = at (leb (2 * length x.surfaces) (length list)) _ _ tt tt
      where
        at : (b : Bool) (u v : Ran) → Only (4 ∷ 5 ∷ 6 ∷ 8 ∷ []) u.result → Only (4 ∷ 5 ∷ 6 ∷ 8 ∷ []) v.result → Only (4 ∷ 5 ∷ 6 ∷ 8 ∷ []) (cond b u v).result
        at true u v h k = h
        at false u v h k = k
    ran_only list (refusal number place) t = t

    by : (x : Sheet) (list : List Float) → Only (4 ∷ 5 ∷ 6 ∷ 8 ∷ []) (run x.src list).result
    by x list = ran_only list (gated x.src) (more (8 ∷ []) (gated x.src) (gated_only x.src))

-- ---- a sheet with a kind 7
abbrev colours : Data.Sheet
colours = train_claim.two.sheet

coloured : Sheet
coloured = record { src = encode colours; bytes = (grammar_claim.fits colours train_claim.two.formed).1 }

coloured_admitted : gated coloured.src ≡ answer colours
unfolding coloured
coloured_admitted = (gate_claim.admits (encode colours) (grammar_claim.fits colours train_claim.two.formed).1 colours).1 ((train_claim.two.formed, train_claim.two.within), refl)

keep_all : (ys : List Data.SheetSurface) (i : ℕ) → All (λ (y : Data.SheetSurface). y.tuning ≡ Data.keeps) ys → get_or (map-list (λ (y : Data.SheetSurface). y.tuning) ys) i Data.keeps ≡ Data.keeps
keep_all [] i k = refl
keep_all (y ∷ ys) zero k = k.0
keep_all (y ∷ ys) (suc i) k = keep_all ys i k.1

has_tuning : (place : ℕ) × FirstTuning colours place
has_tuning = ⊎_elim (λ k. absurd (never (sym (ap (λ (ts : List Data.Tuning). get_or ts 11 Data.keeps) train_claim.two.tunings) ∙ keep_all colours.surfaces 11 k))) (λ f. f) (untuned_claim.either colours train_claim.two.formed)
  where
    never : Data.tunes 0x4090_0000_0000_0000 ≡ Data.keeps → ⊥
    never e = let z : ◌≡◌ {A = ℕ} 0 1 = cc in omega arith

-- ---- a sheet without one: a sheet of edition 1
untuned_panes : Untuned panes
untuned_panes = untuned_claim.old panes train_claim.one.formed train_claim.one.edition_is

-- ---- an edition 1 sheet from a sheet
long_enough : (y : Data.Sheet) → 0 < length (encode y)
unfolding encode Data.bytes flat blocks
long_enough y = omega arith

abbrev twelve : List ℕ
twelve = 4 ∷ 5 ∷ 6 ∷ 12 ∷ 8 ∷ []

tuning_only : (y : Data.Sheet) (ps : List ℕ) (bs : List Block) → Only twelve (no_tuning y ps bs)
unfolding no_tuning
tuning_only y ps [] = tt
tuning_only y [] (b ∷ bs) = tt
tuning_only y (p ∷ ps) (b ∷ bs) = either twelve (eqb (kind b.word) 7) (refusal 12 p) (no_tuning y ps bs) tt (tuning_only y ps bs)

of_edition_1 : Refuses (λ (x : Sheet × List ℕ). (to_edition_1 x.0.src x.1).result) (4 ∷ 5 ∷ 6 ∷ 12 ∷ 8 ∷ [])
unfolding to_edition_1 edition_1 without_tuning
of_edition_1 = record {
  only = λ x. by x.0 x.1;
  each = (
    ((none, []), (0, ap (λ (r : Written). r.result) (edition_1_claim.turned_back none.src 4 0 four []))),
    (
      ((blank, []), (0, ap (λ (r : Written). r.result) (edition_1_claim.turned_back blank.src 5 0 five []))),
      (
        ((unlit, []), (1, ap (λ (r : Written). r.result) (edition_1_claim.turned_back unlit.src 6 1 six []))),
        (
          ((coloured, []), (has_tuning.0, ap (λ (r : Written). r.result) (edition_1_claim.twelve coloured.src coloured.bytes colours coloured_admitted has_tuning.0 has_tuning.1 []))),
          (((whole, []), (0, ap (λ (r : Written). r.result) ((edition_1_claim.written whole.src whole.bytes panes admitted untuned_panes).eight [] (long_enough (translated panes))))), tt),
        ),
      ),
    ),
  );
}
  where
    written_only : (output : List ℕ) (o : Outcome Data.Sheet) → Only twelve o → Only twelve (written o output).result
    written_only output (answer y) t = at (leb (length (encode y)) (length output)) _ _ tt tt
      where
        at : (b : Bool) (u v : Written) → Only twelve u.result → Only twelve v.result → Only twelve (cond b u v).result
        at true u v h k = h
        at false u v h k = k
    written_only output (refusal number place) t = t

    by : (x : Sheet) (output : List ℕ) → Only twelve (to_edition_1 x.src output).result
    by x output = written_only output (edition_1 x.src) (mapped twelve translated (without_tuning x.src) (bound twelve _ (gated x.src) (more (12 ∷ 8 ∷ []) (gated x.src) (gated_only x.src)) (λ y e. tuning_only y (Data.places y) (blocks y))))

-- ---- coatings
abbrev lit : Numbers
lit = record { n_incident = one; n_substrate = one; angle = zero_f; wavelength = one }

abbrev unlawful : Numbers
unlawful = record { n_incident = zero_f; n_substrate = one; angle = zero_f; wavelength = one }

module _ (n : Numbers) where
  coating_only : (coating : Coating) (layers : List ThinFilmLayer) → Only (1 ∷ 3 ∷ []) (evaluate_coating coating layers n.n_incident n.n_substrate n.angle n.wavelength)
  unfolding rust_evaluate_coating evaluate_coating rust_respond
  coating_only coating layers =
      mapped (1 ∷ 3 ∷ []) with_absorptance (rust_evaluate_coating coating layers n.n_incident n.n_substrate n.angle n.wavelength) (either (1 ∷ 3 ∷ []) (valid n.n_incident n.n_substrate n.angle n.wavelength) (rust_respond coating layers n.n_incident n.n_substrate n.angle n.wavelength) invalid_parameter (responds coating) tt)
    where
      responds : (c : Coating) → Only (1 ∷ 3 ∷ []) (rust_respond c layers n.n_incident n.n_substrate n.angle n.wavelength)
      responds C.IdealAr = tt
      responds C.IdealMirror = tt
      responds C.IdealBeamsplitter = tt
      responds C.Multilayer = either (1 ∷ 3 ∷ []) (leb (length layers) 64) (answer (Solve.rust_evaluate n.n_incident n.n_substrate n.angle n.wavelength layers)) too_many_layers tt tt

sixty_five : List ThinFilmLayer
sixty_five = replicate 65 no_layer

of_coating : Refuses (λ (x : Coating × (List ThinFilmLayer × Numbers)). let n = x.1.1 in evaluate_coating x.0 x.1.0 n.n_incident n.n_substrate n.angle n.wavelength) (1 ∷ 3 ∷ [])
unfolding sixty_five rust_evaluate_coating evaluate_coating rust_respond valid finite_positive Ieee.lt of_bits Ieee.le
of_coating = record {
  only = λ x. coating_only x.1.1 x.0 x.1.0;
  each = (((C.IdealAr, ([], unlawful)), (0, refl)), (((C.Multilayer, (sixty_five, lit)), (0, refl)), tt));
}

of_surface_coating : Refuses (λ (x : SurfaceCoating × (List ThinFilmLayer × Numbers)). let n = x.1.1 in evaluate_surface x.0 x.1.0 n.n_incident n.n_substrate n.angle n.wavelength) (1 ∷ 3 ∷ [])
unfolding sixty_five rust_evaluate_surface evaluate_surface rust_evaluate_coating evaluate_coating rust_respond valid layers_of ordered finite_positive Ieee.lt of_bits Ieee.le
of_surface_coating = record {
  only = λ x. let n = x.1.1 in coating_only n (coating_of x.0) (ordered (lt n.n_substrate n.n_incident) (layers_of x.0 x.1.0));
  each = (((S.IdealAr, ([], unlawful)), (0, refl)), (((S.Custom C.Multilayer, (sixty_five, lit)), (0, refl)), tt));
}

-- ---- many cases
module _ (code : ℕ) (design n_incident n_substrate : Float) (flat : List Float) where
  case_only : (angle wavelength : Float) → Only (1 ∷ 3 ∷ []) (evaluate code design n_incident n_substrate angle wavelength flat)
  unfolding evaluate evaluate_coded rust_evaluate_surface evaluate_surface evaluate_coating
  case_only angle wavelength = either (1 ∷ 3 ∷ []) (eqb (length flat % 3) 0) (evaluate_coded (call_coating code design) flat n_incident n_substrate angle wavelength) invalid_parameter (by (call_coating code design)) tt
    where
      by : (k : Option SurfaceCoating) → Only (1 ∷ 3 ∷ []) (evaluate_coded k flat n_incident n_substrate angle wavelength)
      by (Some s) = coating_only (record { n_incident = n_incident; n_substrate = n_substrate; angle = angle; wavelength = wavelength }) (coating_of s) (ordered (lt n_substrate n_incident) (layers_of s (layers flat)))
      by None = tt

  next_only : (i : ℕ) (o : Outcome CoatingResponse) (rest : Outcome (List CoatingResponse)) → Only (1 ∷ 3 ∷ []) o → Only (1 ∷ 3 ∷ []) rest → Only (1 ∷ 3 ∷ []) (bind (at_case i o) (λ r. map (λ rs. r ∷ rs) rest))
  next_only i (answer r) (answer rs) h k = tt
  next_only i (answer r) (refusal number place) h k = k
  next_only i (refusal number place) rest h k = h

  cases_only : (i : ℕ) (angles wavelengths : List Float) → Only (1 ∷ 3 ∷ []) (responses (λ angle wavelength. evaluate code design n_incident n_substrate angle wavelength flat) i angles wavelengths)
  unfolding responses
  cases_only i [] wavelengths = tt
  cases_only i (angle ∷ angles) [] = tt
  cases_only i (angle ∷ angles) (wavelength ∷ wavelengths) =
      next_only i (evaluate code design n_incident n_substrate angle wavelength flat) (responses (λ a w. evaluate code design n_incident n_substrate a w flat) (suc i) angles wavelengths) (case_only angle wavelength) (cases_only (suc i) angles wavelengths)

sixty_five_flat : List Float
sixty_five_flat = replicate 195 zero_f

of_evaluate_list : Refuses (λ (x : (ℕ × Numbers) × (List Float × (List Float × List Float))). let n = x.0.1 in evaluate_list x.0.0 n.wavelength n.n_incident n.n_substrate x.1.0 x.1.1.0 x.1.1.1) (1 ∷ 3 ∷ [])
unfolding sixty_five_flat evaluate_list responses evaluate evaluate_coded call_coating coded layers rust_evaluate_surface evaluate_surface rust_evaluate_coating evaluate_coating rust_respond valid layers_of ordered finite_positive Ieee.lt of_bits Ieee.le
of_evaluate_list = record {
  only = λ x. let n = x.0.1 in either (1 ∷ 3 ∷ []) (paired x.1.0 x.1.1.0) _ (refusal 1 0x1000_0000) (cases_only x.0.0 n.wavelength n.n_incident n.n_substrate x.1.1.1 0 x.1.0 x.1.1.0) tt;
  each = ((((5, lit), ([], (one ∷ [], []))), (0x1000_0000, refl)), ((((5, lit), (zero_f ∷ [], (one ∷ [], sixty_five_flat))), (0, refl)), tt));
}

of_fresnel : Refuses (λ (x : Numbers). surface_fresnel_jones x.n_incident x.n_substrate x.angle) (1 ∷ [])
unfolding surface_fresnel_jones indices_valid finite_positive Ieee.lt of_bits Ieee.le
of_fresnel = record {
  only = λ x. either (1 ∷ []) (indices_valid x.n_incident x.n_substrate x.angle) (answer _) invalid_parameter tt tt;
  each = ((unlawful, (0, refl)), tt);
}

of_name : Refuses from_format_name (2 ∷ [])
unfolding from_format_name
of_name = record {
  only = λ name. either (2 ∷ []) (ltb 32 (length name)) (refusal 2 32) _ tt (either (2 ∷ []) (ltb (first_over name) (length name)) (refusal 2 (first_over name)) (answer _) tt tt);
  each = ((replicate 33 65, (32, refl)), tt);
}

name_only : (i : Option SurfaceCoating) → Only (2 ∷ []) (name_of i)
name_only (Some coating) = tt
name_only None = tt

of_coating_name : Refuses coating_name (2 ∷ [])
unfolding call_coating coded
of_coating_name = record {
  only = λ code. name_only (call_coating code standard_wavelength);
  each = ((0, (0, refl)), tt);
}

-- ---- built coatings
built_only : (b : Bool) (x : Declared.Built) → x.refusal ≡ 0 → Only (3 ∷ []) (Built.outcome (cond b x Built.too_many))
built_only true x e = rw e tt
built_only false x e = tt

of_bragg_mirror : Refuses (λ (x : Numbers × ℕ). let n = x.0 in Built.outcome (Built.bragg_mirror n.n_incident n.n_substrate x.1 n.wavelength)) (3 ∷ [])
of_bragg_mirror = record {
  only = λ x. built_only (leb x.1 31) (Built.built C.Multilayer (bragg_layers x.0.n_incident x.0.n_substrate x.1 x.0.wavelength)) refl;
  each = (((lit, 32), (0, refl)), tt);
}

-- ---- the stack shorthand
module _ (text : List ℕ) (n_h n_l n_m design : Float) where
  stack_only : (o : Outcome (List ThinFilmLayer)) → Shorthand.Right text n_h n_l n_m design o → Only (1 ∷ 9 ∷ 10 ∷ []) o
  stack_only o (Shorthand.bad_number e) = tt
  stack_only o (Shorthand.given e (Gives.too_long h)) = tt
  stack_only o (Shorthand.given e (Gives.wrong h k v n)) = tt
  stack_only o (Shorthand.given e (Gives.early h v n)) = tt
  stack_only o (Shorthand.given e (Gives.many h k l)) = tt
  stack_only o (Shorthand.given e (Gives.read h k l)) = tt

with_place : (number : ℕ) (o : Outcome (List ThinFilmLayer)) → Shorthand.Refused number o → (place : ℕ) × (o ≡ refusal number place)
with_place number o (Shorthand.refused {place = place}) = (place, refl)

stack_each : (number : ℕ) → Shorthand.Some (Shorthand.Refused number) → (x : List ℕ × Numbers) × ((place : ℕ) × (at (stack x.0) x.1 ≡ refusal number place))
stack_each number s =
    ((s.text, record { n_incident = s.n_h; n_substrate = s.n_l; angle = s.n_m; wavelength = s.design }), with_place number (stack s.text s.n_h s.n_l s.n_m s.design) s.gives)

of_stack : Refuses (λ (x : List ℕ × Numbers). at (stack x.0) x.1) (1 ∷ 9 ∷ 10 ∷ [])
of_stack = record {
  only = λ x. let n = x.1 in stack_only x.0 n.n_incident n.n_substrate n.angle n.wavelength (at (stack x.0) n) (shorthand.right x.0 n.n_incident n.n_substrate n.angle n.wavelength);
  each = (stack_each 1 shorthand.a_1, (stack_each 9 shorthand.a_9, (stack_each 10 shorthand.a_10, tt)));
}

-- ---- ranges of indices
of_reflectance_range : Refuses (λ (x : Numbers). at reflectance_range x) (13 ∷ [])
unfolding reflectance_range range_valid index_valid Ieee.lt of_bits Ieee.le
of_reflectance_range = record {
  only = λ x. either (13 ∷ []) (range_valid x.n_incident x.n_substrate && range_valid x.angle x.wavelength) (answer _) (refusal 13 0) tt tt;
  each = ((lit, (0, refl)), tt);
}

many : Layers
many = record { items = []; count = 65 }

of_to_coating : Refuses (λ (x : SurfaceCoating × Layers). Built.outcome (to_coating x.0 x.1)) (3 ∷ [])
unfolding many
of_to_coating = record { only = λ x. by x.0 x.1; each = (((S.Custom C.Multilayer, many), (0, refl)), tt) }
  where
    by : (s : SurfaceCoating) (custom : Layers) → Only (3 ∷ []) (Built.outcome (to_coating s custom))
    by (S.Custom C.Multilayer) custom = built_only (leb custom.count 64) (record { refusal = 0; coating = C.Multilayer; layers = custom }) refl
    by (S.Custom C.IdealAr) custom = tt
    by (S.Custom C.IdealMirror) custom = tt
    by (S.Custom C.IdealBeamsplitter) custom = tt
    by S.IdealAr custom = tt
    by (S.MgF2 design) custom = tt
    by S.BroadbandAr custom = tt
    by S.HighReflectanceMirror custom = tt

-- ---- the surfaces of a sheet by their numbers
abbrev seven : List ℕ
seven = 4 ∷ 5 ∷ 6 ∷ 7 ∷ []

of_surface_only : {A : Type 0} (f : Float → Data.SheetSurface → Outcome A) (i : ℕ) (o : Outcome Data.Sheet) → Only seven o → ((x : Data.Sheet) → o ≡ answer x → i < length x.surfaces → Only seven (f (met_at (value x.wavelength) x.surfaces i) (nth x.surfaces i)))
    → Only seven (of_surface f i o)
of_surface_only f i (answer x) t h = by (ltb i (length x.surfaces)) refl (h x refl)
  where
    by : (b : Bool) → ltb i (length x.surfaces) ≡ b → (i < length x.surfaces → Only seven (f (met_at (value x.wavelength) x.surfaces i) (nth x.surfaces i))) → Only seven (cond b (f (met_at (value x.wavelength) x.surfaces i) (nth x.surfaces i)) (refusal 7 0))
    by true e h = h (ltb-true i (length x.surfaces) e)
    by false e h = tt
of_surface_only f i (refusal number place) t h = t

as_gated : {A : Type 0} (f : Float → Data.SheetSurface → Outcome A) (i : ℕ) (o : Outcome Data.Sheet) (number place : ℕ) → o ≡ refusal number place → of_surface f i o ≡ refusal number place
as_gated f i o number place e = ap (of_surface f i) e

past : {A : Type 0} (f : Float → Data.SheetSurface → Outcome A) → of_surface f 16 (gated whole.src) ≡ refusal 7 0
past f = ap (of_surface f 16) admitted ∙ rw (le-ltb 16 (length panes.surfaces) (omega (arith, sixteen)))

all_seven : (src : List ℕ) → Only seven (gated src)
all_seven src = more (7 ∷ []) (gated src) (gated_only src)

of_answers : Refuses (λ (x : Sheet × ℕ). surface_answers x.0.src x.1) (4 ∷ 5 ∷ 6 ∷ 7 ∷ [])
unfolding surface_answers
of_answers = record {
  only = λ x.
      of_surface_only its_answers x.1 (gated x.0.src) (all_seven x.0.src)
      (λ y e lt. let g = ((gate_claim.admits x.0.src x.0.bytes y).0 e).0 in rw (nth_answered y g.0 g.1 x.1 lt).is tt);
  each = (((none, 0), (0, as_gated its_answers 0 _ 4 0 four)), (((blank, 0), (0, as_gated its_answers 0 _ 5 0 five)), (((unlit, 0), (1, as_gated its_answers 0 _ 6 1 six)), (((whole, 16), (0, past its_answers)), tt))));
}

of_nth_surface : Refuses (λ (x : Sheet × ℕ). nth_surface x.0.src x.1) (4 ∷ 5 ∷ 6 ∷ 7 ∷ [])
unfolding nth_surface
of_nth_surface = record {
  only = λ x. mapped seven numbered (surface_of x.1 (gated x.0.src)) (of_surface_only (λ w y. answer y) x.1 (gated x.0.src) (all_seven x.0.src) (λ y e lt. tt));
  each = (
    ((none, 0), (0, ap (λ o. map numbered (surface_of 0 o)) four)),
    (
      ((blank, 0), (0, ap (λ o. map numbered (surface_of 0 o)) five)),
      (((unlit, 0), (1, ap (λ o. map numbered (surface_of 0 o)) six)), (((whole, 16), (0, ap (map numbered) (past (λ w y. answer y)))), tt)),
    ),
  );
}

of_nth_layer : Refuses (λ (x : Sheet × (ℕ × ℕ)). nth_layer x.0.src x.1.0 x.1.1) (4 ∷ 5 ∷ 6 ∷ 7 ∷ [])
unfolding nth_layer
of_nth_layer = record {
  only = λ x.
      of_surface_only (layer_of x.1.1) x.1.0 (gated x.0.src) (all_seven x.0.src)
      (λ y e lt. either {A = ThinFilmLayer} seven (ltb x.1.1 (length (nth y.surfaces x.1.0).layers)) (answer (get_or (films (met_at (value y.wavelength) y.surfaces x.1.0) (nth y.surfaces x.1.0).layers) x.1.1 no_film)) (refusal 7 0) tt tt);
  each = (
    ((none, (0, 0)), (0, as_gated (layer_of 0) 0 _ 4 0 four)),
    (((blank, (0, 0)), (0, as_gated (layer_of 0) 0 _ 5 0 five)), (((unlit, (0, 0)), (1, as_gated (layer_of 0) 0 _ 6 1 six)), (((whole, (16, 0)), (0, past (layer_of 0))), tt))),
  );
}

-- ---- a band
abbrev of_bands : List ℕ
of_bands = 4 ∷ 5 ∷ 6 ∷ 12 ∷ 15 ∷ 16 ∷ []

band_only : (x : Data.Sheet) (ws : List Float) (ns : List ℕ) (o : Outcome BandPowers) → Band.Told x ws ns o → Only of_bands o
band_only x ws ns _ (Band.lists f) = tt
band_only x ws ns _ (Band.weight l i f) = tt
band_only x ws ns _ (Band.wavelength l h i f) = tt
band_only x ws ns _ (Band.passed l h p) = tt

band_of : (x : Sheet) (ws : List Float) (ns : List ℕ) → Only of_bands (band x.src ws ns)
band_of x ws ns = go (gated x.src) refl (gated_only x.src)
  where
    go : (o : Outcome Data.Sheet) → gated x.src ≡ o → Only (4 ∷ 5 ∷ 6 ∷ []) o → Only of_bands (band x.src ws ns)
    go (refusal number place) g t = subst (Only of_bands) (sym (band_claim.turned_back x.src number place g ws ns)) (wider number sheets (12 ∷ 15 ∷ 16 ∷ []) t)
    go (answer y) g t = by (untuned_claim.either y ((gate_claim.admits x.src x.bytes y).0 g).0.0)
      where
        by : Untuned y ⊎ ((place : ℕ) × FirstTuning y place) → Only of_bands (band x.src ws ns)
        by (inl u) = band_only y ws ns (band x.src ws ns) (band_claim.told x.src x.bytes y g u ws ns)
        by (inr (place, f)) = subst (Only of_bands) (sym (band_claim.twelve x.src y g place f ws ns)) tt

whole_untuned : without_tuning whole.src ≡ answer panes
whole_untuned = untuned_claim.taken whole.src whole.bytes panes admitted untuned_panes

on_whole : (ws : List Float) (ns : List ℕ) → band whole.src ws ns ≡ map (λ t. powers panes ws ns) (tested panes ws ns)
unfolding band
on_whole ws ns = ap (λ o. bind o (λ x. map (λ t. powers x ws ns) (tested x ws ns))) whole_untuned

dark_line : holds nan panes.surfaces ≡ false
unfolding holds within Ieee.le of_bits
dark_line = refl

sixteen_th : band whole.src (nan ∷ []) (1 ∷ []) ≡ refusal 16 0
unfolding each_line
sixteen_th = on_whole (nan ∷ []) (1 ∷ []) ∙ rw dark_line

of_band : Refuses (λ (x : Sheet × (List Float × List ℕ)). band x.0.src x.1.0 x.1.1) (4 ∷ 5 ∷ 6 ∷ 12 ∷ 15 ∷ 16 ∷ [])
of_band = record {
  only = λ x. band_of x.0 x.1.0 x.1.1;
  each = (
    ((none, ([], [])), (0, band_claim.turned_back none.src 4 0 four [] [])),
    (
      ((blank, ([], [])), (0, band_claim.turned_back blank.src 5 0 five [] [])),
      (
        ((unlit, ([], [])), (1, band_claim.turned_back unlit.src 6 1 six [] [])),
        (((coloured, ([], [])), (has_tuning.0, band_claim.twelve coloured.src colours coloured_admitted has_tuning.0 has_tuning.1 [] [])), (((whole, ([], [])), (64, on_whole [] [])), (((whole, (nan ∷ [], 1 ∷ [])), (0, sixteen_th)), tt))),
      ),
    ),
  );
}

-- ---- quarter waves: lit's wavelength of 1 is too short
of_quarter_waves : Refuses (λ (x : Numbers). quarter_waves x.n_incident x.n_substrate x.wavelength) (14 ∷ [])
unfolding quarter_waves Waves.admitted within Ieee.le of_bits
of_quarter_waves = record {
  only = λ x. either (14 ∷ []) (Waves.admitted x.n_incident x.n_substrate x.wavelength) (answer _) (refusal 14 0) tt tt;
  each = ((lit, (0, refl)), tt);
}

-- ---- through C: a list that is too short
module _ {X A : Type 0} (layout : A → Reply) (call : X → Outcome A) where
  told_last : (ns : List ℕ) → T (one_of 8 (ns ++ 8 ∷ []))
  told_last [] = tt
  told_last (n ∷ ns) = by (eqb 8 n) (told_last ns)
    where
      by : (b : Bool) → T (one_of 8 (ns ++ 8 ∷ [])) → T (b || one_of 8 (ns ++ 8 ∷ []))
      by true t = tt
      by false t = t

  said_only : (ns : List ℕ) (o : Outcome A) (list : List Float) → Only ns o → Only (ns ++ 8 ∷ []) (said layout o list)
  said_only ns (answer a) list t = either (ns ++ 8 ∷ []) (leb (length (layout a).numbers) (length list)) (answer (layout a).returned) (refusal 8 0) tt (told_last ns)
  said_only ns (refusal number place) list t = wider number ns (8 ∷ []) t

  said_each : (ns : List ℕ) → All (Refused call) ns → Refused (listed layout call) 8 → All (Refused (listed layout call)) (ns ++ 8 ∷ [])
  said_each [] a e = (e, tt)
  said_each (n ∷ ns) a e = let r = a.0 in (((r.0, []), (r.1.0, ap (λ (o : Outcome A). said layout o []) r.1.1)), said_each ns a.1 e)

  -- with arguments that are answered by numbers
  with_8 : (ns : List ℕ) → Refuses call ns → (x : X) (a : A) → call x ≡ answer a → leb (length (layout a).numbers) 0 ≡ false → Refuses (listed layout call) (ns ++ 8 ∷ [])
  with_8 ns r x a e l = record {
    only = λ y. said_only ns (call y.0) y.1 (r.only y.0);
    each = said_each ns r.each ((x, []), (0, ap (λ (o : Outcome A). said layout o []) e ∙ rw l));
  }

none_refused : {X A : Type 0} (call : X → A) → Refuses (always call) []
none_refused call = record { only = λ x. tt; each = tt }

-- a call that is never refused, and writes numbers
module _ {X A : Type 0} (layout : A → Reply) (call : X → A) where
  only_8 : (x : X) → leb (length (layout (call x)).numbers) 0 ≡ false → Refuses (listed layout (always call)) (8 ∷ [])
  only_8 x l = with_8 layout (always call) [] (none_refused call) x (call x) refl l

-- ---- a surface of a sheet that is answered
first_answered : let w = met_at (value panes.wavelength) panes.surfaces 0 in (a : Answers) × (surface_answers whole.src 0 ≡ answer a)
first_answered =
    let r = nth_answered panes train_claim.one.formed train_claim.one.within 0 (omega (arith, sixteen)) in
    (r.value, (train_claim.every_call whole.src whole.bytes panes admitted).answered 0 (omega (arith, sixteen)) ∙ r.is)

has_numbers : (a : Answers) → leb (length (surface_answered a).numbers) 0 ≡ false
has_numbers a = go a.coated
  where
    go : (b : Bool) → leb (length (common a ++ cond b (response_numbers a.response) [])) 0 ≡ false
    go true = refl
    go false = refl

c_answers : Refuses (listed surface_answered (λ (x : Sheet × ℕ). surface_answers x.0.src x.1)) (4 ∷ 5 ∷ 6 ∷ 7 ∷ 8 ∷ [])
c_answers = with_8 surface_answered (λ (x : Sheet × ℕ). surface_answers x.0.src x.1) (4 ∷ 5 ∷ 6 ∷ 7 ∷ []) of_answers (whole, 0) first_answered.0 first_answered.1 (has_numbers first_answered.0)

-- ---- after a retune made right before it is stepped
abbrev after_retune : Sheet × (ℕ × Float) → Outcome Answers
after_retune x = answers_at x.0.src x.1.0 x.1.1

abbrev step_numbers : List ℕ
step_numbers = 4 ∷ 5 ∷ 6 ∷ 7 ∷ 11 ∷ []

abbrev begun : State
begun = fresh panes

begun_tuned : retune whole.src begun (value panes.wavelength) ≡ answer (with_wavelength (value panes.wavelength) begun)
begun_tuned = (train_claim.every_call whole.src whole.bytes panes admitted).tuned begun (value panes.wavelength) (is_true _ train_claim.one.within.holds)

of_answers_at : Refuses after_retune step_numbers
of_answers_at = record {
  only = λ x. by x.0 x.1.0 x.1.1;
  each = (
    ((none, (0, nan)), (0, (train_claim.turned_back none.src 4 0 four).answered_at 0 nan)),
    (
      ((blank, (0, nan)), (0, (train_claim.turned_back blank.src 5 0 five).answered_at 0 nan)),
      (
        ((unlit, (0, nan)), (1, (train_claim.turned_back unlit.src 6 1 six).answered_at 0 nan)),
        (
          ((whole, (16, nan)), (0, (train_claim.every_call whole.src whole.bytes panes admitted).no_surface_at 16 nan (omega (arith, sixteen)))),
          (((whole, (0, nan)), (0, (train_claim.every_call whole.src whole.bytes panes admitted).untuned_at lost nan (omega (arith, sixteen)) 11 0 ((train_claim.every_call whole.src whole.bytes panes admitted).untuned lost nan (no_wavelength (drop 0 panes.surfaces))))), tt),
        ),
      ),
    ),
  );
}
  where
    any_state : (i : ℕ) → State
    any_state i = record { done = i; s = zero_f; p = zero_f; wavelength_nm = zero_f }

    on_admitted : (x : Sheet) (y : Data.Sheet) → gated x.src ≡ answer y → (i : ℕ) (w : Float) → Only step_numbers (answers_at x.src i w)
    on_admitted x y e i w = go (ltb i (length y.surfaces)) refl
      where
        call : EveryCall x.src y
        call = train_claim.every_call x.src x.bytes y e

        tested : (o : Outcome State) → retune x.src (any_state i) w ≡ o → Only (4 ∷ 5 ∷ 6 ∷ 11 ∷ []) o → i < length y.surfaces → Only step_numbers (answers_at x.src i w)
        tested (answer next) r t l = let u = call.tuned_at (any_state i) w l next r in subst (Only step_numbers) (sym (u.1.1.0 ∙ u.1.1.1.is)) tt
        tested (refusal number place) r t l = subst (Only step_numbers) (sym (call.untuned_at (any_state i) w l number place r)) (elevens number t)
          where
            elevens : (n : ℕ) → T (one_of n (4 ∷ 5 ∷ 6 ∷ 11 ∷ [])) → T (one_of n step_numbers)
            elevens n t = pick (eqb n 4) (eqb n 5) (eqb n 6) (eqb n 7) (eqb n 11) t
              where
                pick : (a b c d e : Bool) → T (a || (b || (c || (e || false)))) → T (a || (b || (c || (d || (e || false)))))
                pick true b c d e t = tt
                pick false true c d e t = tt
                pick false false true d e t = tt
                pick false false false true e t = tt
                pick false false false false e t = t

        go : (b : Bool) → ltb i (length y.surfaces) ≡ b → Only step_numbers (answers_at x.src i w)
        go true h = tested (retune x.src (any_state i) w) refl (of_retune.only (x, (any_state i, w))) (ltb-true i (length y.surfaces) h)
        go false h = subst (Only step_numbers) (sym (call.no_surface_at i w (ltb-false i (length y.surfaces) h))) tt

    by : (x : Sheet) (i : ℕ) (w : Float) → Only step_numbers (answers_at x.src i w)
    by x i w = go (gated x.src) refl (gated_only x.src)
      where
        go : (o : Outcome Data.Sheet) → gated x.src ≡ o → Only sheets o → Only step_numbers (answers_at x.src i w)
        go (answer y) e t = on_admitted x y e i w
        go (refusal number place) e t = subst (Only step_numbers) (sym ((train_claim.turned_back x.src number place e).answered_at i w)) (wider number sheets (7 ∷ 11 ∷ []) t)

c_answers_at : Refuses (listed surface_answered after_retune) (4 ∷ 5 ∷ 6 ∷ 7 ∷ 11 ∷ 8 ∷ [])
c_answers_at =
    let u = (train_claim.every_call whole.src whole.bytes panes admitted).tuned_at begun (value panes.wavelength) (omega (arith, sixteen)) (with_wavelength (value panes.wavelength) begun) begun_tuned in
    with_8 surface_answered after_retune step_numbers of_answers_at (whole, (0, value panes.wavelength)) u.1.1.1.value (u.1.1.0 ∙ u.1.1.1.is) (has_numbers u.1.1.1.value)

-- ---- calls of single functions
c_coating_name : Refuses (λ (x : ℕ × List ℕ). name_said (coating_name x.0) x.1) (2 ∷ 8 ∷ [])
unfolding call_coating coded
c_coating_name = record {
  only = λ x. by (coating_name x.0) x.1 (of_coating_name.only x.0);
  each = (((0, []), (0, refl)), (((1, []), (0, refl)), tt));
}
  where
    by : (o : Outcome (List ℕ)) (output : List ℕ) → Only (2 ∷ []) o → Only (2 ∷ 8 ∷ []) (name_said o output)
    by (answer name) output t = either (2 ∷ 8 ∷ []) (leb (length name) (length output)) (answer (length name)) (refusal 8 0) tt tt
    by (refusal number place) output t = wider number (2 ∷ []) (8 ∷ []) t

-- of a list of so many numbers
module _ {A : Type 0} (layout : A → Reply) (count : ℕ) (call : List Float → A) where
  of_one : Refuses (of (suc count) call) (1 ∷ [])
  of_one = record {
    only = λ numbers. either (1 ∷ []) (eqb (length numbers) (suc count)) (answer (call numbers)) invalid_parameter tt tt;
    each = (([], (0, rw (ne_eqb 0 (suc count) (λ e. omega arith)) refl)), tt);
  }

  c_of : leb (length (layout (call (replicate (suc count) zero_f))).numbers) 0 ≡ false → Refuses (listed layout (of (suc count) call)) (1 ∷ 8 ∷ [])
  c_of l = with_8 layout (of (suc count) call) (1 ∷ []) of_one (replicate (suc count) zero_f) (call (replicate (suc count) zero_f)) (rw (eq-eqb (length (replicate (suc count) zero_f)) (suc count) (length-replicate (suc count) zero_f)) refl) l

-- of two
module _ {A : Type 0} (layout : A → Reply) (count other : ℕ) (call : List Float → List Float → A) where
  abbrev two : List Float × List Float → Outcome A
  two x = of_two (suc count) other call x.0 x.1

  abbrev lists : List Float × List Float
  lists = (replicate (suc count) zero_f, replicate other zero_f)

  of_both : Refuses two (1 ∷ [])
  of_both = record {
    only = λ x. either (1 ∷ []) (eqb (length x.0) (suc count) && eqb (length x.1) other) (answer (call x.0 x.1)) invalid_parameter tt tt;
    each = ((([], []), (0, rw (ne_eqb 0 (suc count) (λ e. omega arith)) refl)), tt);
  }

  c_two : leb (length (layout (call lists.0 lists.1)).numbers) 0 ≡ false → Refuses (listed layout two) (1 ∷ 8 ∷ [])
  c_two l = with_8 layout two (1 ∷ []) of_both lists (call lists.0 lists.1) (rw (eq-eqb (length lists.0) (suc count) (length-replicate (suc count) zero_f), eq-eqb (length lists.1) other (length-replicate other zero_f)) refl) l

-- ---- a band of one line, the BEAM's own
lit_line : holds (value panes.wavelength) panes.surfaces ≡ true
lit_line = is_true _ train_claim.one.within.holds

one_line : band whole.src (value panes.wavelength ∷ []) (1 ∷ []) ≡ answer (powers panes (value panes.wavelength ∷ []) (1 ∷ []))
unfolding each_line
one_line = on_whole (value panes.wavelength ∷ []) (1 ∷ []) ∙ rw lit_line

c_band : Refuses (listed banded (λ (x : Sheet × (List Float × List ℕ)). band x.0.src x.1.0 x.1.1)) (4 ∷ 5 ∷ 6 ∷ 12 ∷ 15 ∷ 16 ∷ 8 ∷ [])
c_band = with_8 banded (λ (x : Sheet × (List Float × List ℕ)). band x.0.src x.1.0 x.1.1) of_bands of_band (whole, (value panes.wavelength ∷ [], 1 ∷ [])) _ one_line refl

-- ---- a coating by its code
abbrev coded_call : (ℕ × Float) × (Numbers × List Float) → Outcome CoatingResponse
coded_call x = let n = x.1.0 in evaluate x.0.0 x.0.1 n.n_incident n.n_substrate n.angle n.wavelength x.1.1

lit_ideal : evaluate 1 one one one zero_f one [] ≡ answer (with_absorptance rust_ideal_ar)
unfolding evaluate evaluate_coded call_coating coded layers rust_evaluate_surface evaluate_surface rust_evaluate_coating evaluate_coating rust_respond valid layers_of ordered finite_positive Ieee.lt of_bits Ieee.le
lit_ideal = refl

of_evaluate : Refuses coded_call (1 ∷ 3 ∷ [])
unfolding sixty_five_flat evaluate evaluate_coded call_coating coded layers rust_evaluate_surface evaluate_surface rust_evaluate_coating evaluate_coating rust_respond valid layers_of ordered finite_positive Ieee.lt of_bits Ieee.le
of_evaluate = record {
  only = λ x. let n = x.1.0 in case_only x.0.0 x.0.1 n.n_incident n.n_substrate x.1.1 n.angle n.wavelength;
  each = ((((1, one), (unlawful, [])), (0, refl)), ((((5, one), (lit, sixty_five_flat)), (0, refl)), tt));
}

c_evaluate : Refuses (listed evaluated coded_call) (1 ∷ 3 ∷ 8 ∷ [])
c_evaluate = with_8 evaluated coded_call (1 ∷ 3 ∷ []) of_evaluate ((1, one), (lit, [])) _ lit_ideal refl

abbrev cases_call : (ℕ × Numbers) × (List Float × (List Float × List Float)) → Outcome (List CoatingResponse)
cases_call x = let n = x.0.1 in evaluate_list x.0.0 n.wavelength n.n_incident n.n_substrate x.1.0 x.1.1.0 x.1.1.1

one_case : evaluate_list 1 one one one (zero_f ∷ []) (one ∷ []) [] ≡ answer (with_absorptance rust_ideal_ar ∷ [])
unfolding evaluate_list responses
one_case = rw lit_ideal refl

c_evaluate_list : Refuses (listed scanned cases_call) (1 ∷ 3 ∷ 8 ∷ [])
unfolding all_numbers
c_evaluate_list = with_8 scanned cases_call (1 ∷ 3 ∷ []) of_evaluate_list ((1, lit), (zero_f ∷ [], (one ∷ [], []))) _ one_case refl

-- ---- a text of one letter
abbrev text_call : List ℕ × Numbers → Outcome (List ThinFilmLayer)
text_call x = at (stack x.0) x.1

abbrev all_one : Numbers
all_one = record { n_incident = one; n_substrate = one; angle = one; wavelength = one }

letter_h : stack (0x48 ∷ []) one one one one ≡ answer (Stack.layer one one one one (film 0 0) ∷ [])
unfolding stack Stack.valid finite_positive Ieee.lt Ieee.le of_bits reading read_from ended counted
letter_h = refl

c_stack : Refuses (listed stacked text_call) (1 ∷ 9 ∷ 10 ∷ 8 ∷ [])
unfolding flat-layers
c_stack = with_8 stacked text_call (1 ∷ 9 ∷ 10 ∷ []) of_stack (0x48 ∷ [], all_one) _ letter_h refl

-- ---- Mueller matrices
module _ (conversion : JonesMatrix → MuellerMatrix) where
  of_mueller : Refuses (converted conversion) (1 ∷ [])
  of_mueller = record {
    only = λ numbers. either (1 ∷ []) (eqb (length numbers) 8) (answer (conversion (jones numbers))) invalid_parameter tt tt;
    each = (([], (0, refl)), tt);
  }

  c_mueller : Refuses (listed rows (converted conversion)) (1 ∷ 8 ∷ [])
  c_mueller = with_8 rows (converted conversion) (1 ∷ []) of_mueller (replicate 8 zero_f) (conversion (jones (replicate 8 zero_f))) refl refl

-- ---- indices from 1 to 1
abbrev ranges_call : Numbers → Outcome ReflectanceRange
ranges_call x = at reflectance_range x

c_reflectance_range : Refuses (listed ranged ranges_call) (13 ∷ 8 ∷ [])
unfolding reflectance_range range_valid index_valid Ieee.lt of_bits Ieee.le
c_reflectance_range = with_8 ranged ranges_call (13 ∷ []) of_reflectance_range all_one _ refl refl

abbrev bare_call : Numbers → Outcome SurfaceJones
bare_call x = surface_fresnel_jones x.n_incident x.n_substrate x.angle

lit_bare : surface_fresnel_jones one one zero_f ≡ answer (Bare.bare one one (sin zero_f) (cos zero_f))
unfolding surface_fresnel_jones indices_valid finite_positive Ieee.lt of_bits Ieee.le
lit_bare = refl

c_surface_fresnel_jones : Refuses (listed matrices bare_call) (1 ∷ 8 ∷ [])
c_surface_fresnel_jones = with_8 matrices bare_call (1 ∷ []) of_fresnel lit _ lit_bare refl

-- ---- quarter waves
abbrev mirror_call : Numbers × ℕ → Outcome (List ThinFilmLayer)
mirror_call x = at (λ n_high n_low _ design. mirror n_high n_low x.1 design) x.0

of_mirror : Refuses mirror_call (3 ∷ [])
of_mirror = record {
  only = λ x. either (3 ∷ []) (leb x.1 31) (answer _) too_many_layers tt tt;
  each = (((lit, 32), (0, refl)), tt);
}

c_bragg_mirror : Refuses (listed stacked mirror_call) (3 ∷ 8 ∷ [])
unfolding flat-layers bragg_layers
c_bragg_mirror = with_8 stacked mirror_call (3 ∷ []) of_mirror (lit, 0) _ refl refl

c_quarter_wave_ar : Refuses (listed stacked (always (at (λ n-ambient n_substrate _ design. quarter_wave_layers n-ambient n_substrate design)))) (8 ∷ [])
unfolding flat-layers quarter_wave_layers
c_quarter_wave_ar = only_8 stacked (at (λ n-ambient n_substrate _ design. quarter_wave_layers n-ambient n_substrate design)) lit refl

pub refusal_claim : RefusalClaim
refusal_claim = record {
  of_gate = of_gate;
  of_start = of_start;
  of_step = of_step;
  of_retune = of_retune;
  of_run = of_run;
  of_edition_1 = of_edition_1;
  of_band = of_band;
  of_answers = of_answers;
  of_nth_surface = of_nth_surface;
  of_nth_layer = of_nth_layer;
  of_coating = of_coating;
  of_surface = of_surface_coating;
  of_evaluate_list = of_evaluate_list;
  of_fresnel = of_fresnel;
  of_name = of_name;
  of_coating_name = of_coating_name;
  of_bragg_mirror = of_bragg_mirror;
  of_to_coating = of_to_coating;
  of_stack = of_stack;
  of_reflectance_range = of_reflectance_range;
  of_quarter_waves = of_quarter_waves;
  c_answers_at = c_answers_at;
  c_answers = c_answers;
  c_band = c_band;
  c_evaluate = c_evaluate;
  c_evaluate_list = c_evaluate_list;
  c_invalid_argument = none_refused (at invalid_argument);
  c_stack = c_stack;
  c_to_mueller = c_mueller to_mueller;
  c_mueller_born_wolf = c_mueller to_mueller_born_wolf;
  c_reflectance_range = c_reflectance_range;
  c_fresnel_dielectric = only_8 reflectances (at (λ cos n1 n2 _. fresnel_dielectric cos n1 n2)) lit refl;
  c_fresnel_unpolarized = only_8 totals (at (λ cos n1 n2 _. fresnel_unpolarized cos n1 n2)) lit refl;
  c_schlick_approx = only_8 alone (at (λ cos n1 n2 _. schlick_approx cos n1 n2)) lit refl;
  c_surface_fresnel_jones = c_surface_fresnel_jones;
  c_quarter_wave_ar = c_quarter_wave_ar;
  c_bragg_mirror = c_bragg_mirror;
  c_coating_name = c_coating_name;
  c_trim = none_refused span;
  c_to_stokes = c_of parameters 3 (λ given. to_stokes (vector given)) refl;
  c_jones_normalize = c_of parts 3 (λ given. normalize (vector given)) refl;
  c_jones_intensity = c_of alone 3 (λ given. intensity (vector given)) refl;
  c_stokes_figures = c_of figures 3 (λ given. stokes given) refl;
  c_jones_apply = c_two parts 7 4 (λ given other. apply (jones given) (vector other)) refl;
  c_jones_mul = c_two entries 7 8 (λ given other. mul (jones given) (jones other)) refl;
  c_mueller_apply = c_two parameters 15 4 (λ given other. apply_mueller (mueller given) (stokes other)) refl;
  c_diattenuator = c_of entries 3 (λ given. diattenuator (vector given).ex (vector given).ey) refl;
  c_linear_polarizer = only_8 entries linear_polarizer zero_f refl;
  c_retarder = only_8 entries (λ (x : Float × Float). retarder x.0 x.1) (zero_f, zero_f) refl;
  c_quarter_wave_plate = only_8 entries quarter_wave_plate zero_f refl;
  c_half_wave_plate = only_8 entries half_wave_plate zero_f refl;
}
