-- The blocks of a well-formed sheet are in the grammar, and gathered again they are that sheet. Every standing that is reached can be brought to an end.
use mathlib.Core.Path.{◌≡◌, refl, sym, ◌∙◌, subst}
use mathlib.Core.Bool.{true}
use mathlib.Core.Logic.{◌⊎◌, inl, ⊎_elim}
use mathlib.Core.List.{List, [], ◌∷◌}
use Prim.Native.Nat.{ℕ, suc, ◌+◌, ◌-◌, ◌/◌, ◌^◌, ◌≤◌, ◌<◌}
use native.Mathlib.Omega.{arith}
use lib.ListN.{length}
use borrow.Author.Tests.{lt-ltb, eq-eqb}
use Rattle.sheet.specs.Words.{payload}
use Rattle.sheet.specs.Blocks.{Block, All, InGrammar}
use Rattle.sheet.specs.Sheet.{SheetLayer, layer, cauchy, Tuning, keeps, tunes, SheetSurface, no_surface, Sheet, GoodLayer, GoodTuning, GoodSurface, WellFormed, kind_word, block, surface_block, tuned_blocks, layers_blocks, surfaces_blocks, end_block, blocks}
use Rattle.sheet.specs.Read.{floats_after, Standing, at_open, at_beam, among, at_surface, ended, layers_after, may, after, may_end, sheet_grammar, Rest, put, gathered, sheet_of}
use Rattle.sheet.proofs.KindWords.{numbers_raw, kind_of, payload_of, made_good, Comes, comes_surface, comes_layer, comes_cauchy, comes_tuning, comes_end, comes, after_surface, after_layer, after_tuning, after_end, may_surface, may_end_word}

abbrev pub In : Standing → List Block → Type 0
In s bs = InGrammar sheet_grammar s bs

-- ---- blocks in grammar
module _ (edition done : ℕ) where
  pub end_in : (most : ℕ) → done < 2 ^ 28 → In (among edition done most) (end_block done ∷ [])
  unfolding may_end floats_after
  end_in most lt =
      let w = kind_word 5 done in
      (may_end_word edition done most w (kind_of 5 done lt) (payload_of 5 done lt), (made_good 5 done [] (omega arith) lt tt refl, subst (λ (s : Standing). may_end s ≡ true) (sym (after_end edition done most w (kind_of 5 done lt))) refl))

  layers_in : (most : ℕ) (ls : List SheetLayer) (more : List Block) → All (GoodLayer edition) ls → length ls ≤ most → ((r : ℕ) → In (among edition done r) more) → In (among edition done most) (layers_blocks ls more)
  unfolding layers_blocks may after floats_after
  layers_in most [] more g le h = h most
  layers_in most (layer n k t ∷ ls) more g le h =
      (rw (lt-ltb 0 most (omega arith)), (made_good 4 0 (n ∷ k ∷ t ∷ []) (omega arith) (omega arith) (g.0.0, (g.0.1.0, (g.0.1.1, tt))) refl, layers_in (most - 1) ls more g.1 (omega arith) h))
  layers_in most (cauchy a b c t ∷ ls) more g le h =
      (rw (lt-ltb 0 most (omega arith), eq-eqb edition 2 g.0.0), (made_good 6 0 (a ∷ b ∷ c ∷ t ∷ []) (omega arith) (omega arith) (g.0.1.0, (g.0.1.1.0, (g.0.1.1.1.0, (g.0.1.1.1.1, tt)))) refl, layers_in (most - 1) ls more g.1 (omega arith) h))

module _ (edition : ℕ) where
  most_for : (y : SheetSurface) → GoodSurface edition y → length y.layers ≤ layers_after y.payload
  most_for y g = ⊎_elim none (λ e. rw (eq-eqb (y.payload / 2) 5 e) g.few) g.custom
    where
      none : y.layers ≡ [] → length y.layers ≤ layers_after y.payload
      none e = rw e (omega arith)

  -- a SURFACE and its layers, from both standings in which one may come
  surface_in : (done : ℕ) (y : SheetSurface) (more : List Block) → GoodSurface edition y → done < 64 → ((r : ℕ) → In (among edition (suc done) r) more)
      → ((most : ℕ) → In (among edition done most) (surface_block y ∷ layers_blocks y.layers more)) × In (at_surface edition done) (surface_block y ∷ layers_blocks y.layers more)
  unfolding after floats_after
  surface_in done y more g d h =
      let w = kind_word 3 y.payload in
      let lt : y.payload < 2 ^ 28 = omega (arith, g.payload) in
      let k = kind_of 3 y.payload lt in
      let p = payload_of 3 y.payload lt in
      let b = made_good 3 y.payload (y.n_incident ∷ y.n_substrate ∷ y.angle ∷ []) (omega arith) lt (g.n_incident, (g.n_substrate, (g.angle, tt))) refl in
      let few : payload w ≤ 15 = omega (arith, g.payload) in
      let ls : In (among edition (suc done) (layers_after (payload w))) (layers_blocks y.layers more) =
      subst (λ (n : ℕ). In (among edition (suc done) (layers_after n)) (layers_blocks y.layers more)) (sym p) (layers_in edition (suc done) (layers_after y.payload) y.layers more g.layers (most_for y g) h) in
      let m : (most : ℕ) → (may (among edition done most) w ≡ true) × (may (at_surface edition done) w ≡ true) = λ most. may_surface edition done most w k d few in
      (λ most. ((m most).0, (b, subst (λ (s : Standing). In s (layers_blocks y.layers more)) (sym (after_surface edition done most w k)) ls)), ((m 0).1, (b, ls)))

  -- with its kind 7
  tuned_in : (done most : ℕ) (t : Tuning) (more : List Block) → GoodTuning edition t → done < 64 → ((r : ℕ) → In (among edition done r) more) → In (at_surface edition done) more → In (among edition done most) (tuned_blocks t more)
  unfolding may after floats_after
  tuned_in done most keeps more g d h i = h most
  tuned_in done most (tunes v) more g d h i = (rw (lt-ltb done 64 d, eq-eqb edition 2 g.0), (made_good 7 0 (v ∷ []) (omega arith) (omega arith) (g.1, tt) refl, i))

  pub surfaces_in : (done most total : ℕ) (ys : List SheetSurface) → total ≡ done + length ys → total ≤ 64 → All (GoodSurface edition) ys → In (among edition done most) (surfaces_blocks ys (end_block total ∷ []))
  unfolding surfaces_blocks
  surfaces_in done most total [] e le g = let q : total ≡ done = omega arith in rw q (end_in edition done most (omega arith))
  surfaces_in done most total (y ∷ ys) e le g =
      let more : (r : ℕ) → In (among edition (suc done) r) (surfaces_blocks ys (end_block total ∷ [])) = λ r. surfaces_in (suc done) r total ys (omega arith) le g.1 in
      let s = surface_in done y (surfaces_blocks ys (end_block total ∷ [])) g.0 (omega arith) more in
      tuned_in done most y.tuning _ g.0.tuning (omega arith) s.0 s.1

-- ---- the whole sheet
pub small_edition : (edition : ℕ) → (edition ≡ 1) ⊎ (edition ≡ 2) → edition < 2 ^ 28
small_edition edition h = ⊎_elim (λ e. omega arith) (λ e. omega arith) h

pub sheet_in : (x : Sheet) → WellFormed x → In at_open (blocks x)
unfolding blocks may after floats_after
sheet_in x h = (⊎_elim (λ e. rw e) (λ e. rw e) h.edition, (made_good 1 x.edition [] (omega arith) small tt refl, beam))
  where
    small : x.edition < 2 ^ 28
    small = small_edition x.edition h.edition

    beam : In (at_beam (payload (kind_word 1 x.edition))) (block 2 0 (x.wavelength ∷ x.s ∷ x.p ∷ []) ∷ surfaces_blocks x.surfaces (end_block (length x.surfaces) ∷ []))
    beam = rw (payload_of 1 x.edition small) (refl, (made_good 2 0 (x.wavelength ∷ x.s ∷ x.p ∷ []) (omega arith) (omega arith) (h.wavelength, (h.s, (h.p, tt))) refl, surfaces_in x.edition 0 0 (length x.surfaces) x.surfaces (omega arith) h.few h.surfaces))

-- ---- every standing that is reached can be brought to an end
abbrev pub Live : Standing → Type 0
Live at_open = Unit
Live (at_beam edition) = Unit
Live (among edition done most) = done ≤ 64
Live (at_surface edition done) = done < 64
Live ended = Unit

pub live_after : (s : Standing) (w : ℕ) → Live s → may s w ≡ true → Live (after s w)
unfolding may after
live_after at_open w l e = tt
live_after (at_beam edition) w l e = omega arith
live_after (among edition done most) w l e = by (comes edition done most w e)
  where
    by : Comes edition done most w → Live (after (among edition done most) w)
    by (comes_surface k d p) = rw (after_surface edition done most w k) d
    by (comes_layer k r p) = rw (after_layer edition done most w 4 k (λ q. omega arith) (λ q. omega arith) (λ q. omega arith)) l
    by (comes_cauchy q k r p) = rw (after_layer edition done most w 6 k (λ q. omega arith) (λ q. omega arith) (λ q. omega arith)) l
    by (comes_tuning q k d p) = rw (after_tuning edition done most w k) d
    by (comes_end k p) = rw (after_end edition done most w k) tt
live_after (at_surface edition done) w l e = l
live_after ended w l e = tt

pub finish : (s : Standing) → Live s → (bs : List Block) × In s bs
unfolding may_end may after floats_after
finish at_open l = (blocks dark, sheet_in dark (record { edition = inl refl; wavelength = omega arith; s = omega arith; p = omega arith; surfaces = tt; few = omega arith }))
  where
    dark : Sheet
    dark = record { edition = 1; wavelength = 0; s = 0; p = 0; surfaces = [] }
finish (at_beam edition) l = (block 2 0 (0 ∷ 0 ∷ 0 ∷ []) ∷ end_block 0 ∷ [], (refl, (made_good 2 0 (0 ∷ 0 ∷ 0 ∷ []) (omega arith) (omega arith) (omega arith, (omega arith, (omega arith, tt))) refl, end_in edition 0 0 (omega arith))))
finish (among edition done most) l = (end_block done ∷ [], end_in edition done most (omega arith))
finish (at_surface edition done) l =
    let g : GoodSurface edition no_surface = record { tuning = tt; payload = omega arith; n_incident = omega arith; n_substrate = omega arith; angle = omega arith; layers = tt; few = omega arith; custom = inl refl } in
    (surface_block no_surface ∷ layers_blocks [] (end_block (suc done) ∷ []), (surface_in edition done no_surface (end_block (suc done) ∷ []) g l (λ r. end_in edition (suc done) r (omega arith))).1)
finish ended l = ([], refl)

-- ---- gathered again
gathered_layers : (ls : List SheetLayer) (more : List Block) (r : Rest) → gathered more ≡ r → r.layers ≡ [] → gathered (layers_blocks ls more) ≡ record { layers = ls; surfaces = r.surfaces }
unfolding layers_blocks gathered put
gathered_layers [] more r e n = e ∙ (λ i. record { layers = n i; surfaces = r.surfaces })
gathered_layers (layer n k t ∷ ls) more r e z =
    rw (gathered_layers ls more r e z, numbers_raw (n ∷ k ∷ t ∷ [])) refl
gathered_layers (cauchy a b c t ∷ ls) more r e z =
    rw (gathered_layers ls more r e z, numbers_raw (a ∷ b ∷ c ∷ t ∷ [])) refl

-- without its kind 7, and with one
abbrev with_tuning : Tuning → SheetSurface → SheetSurface
with_tuning t y = record { tuning = t; payload = y.payload; n_incident = y.n_incident; n_substrate = y.n_substrate; angle = y.angle; layers = y.layers }

gathered_surface : (y : SheetSurface) (more : List Block) (ys : List SheetSurface) → y.payload < 2 ^ 28 → gathered more ≡ record { layers = y.layers; surfaces = ys }
    → gathered (surface_block y ∷ more) ≡ record { layers = []; surfaces = with_tuning keeps y ∷ ys }
unfolding gathered put
gathered_surface y more ys lt e =
    rw (e, kind_of 3 y.payload lt, payload_of 3 y.payload lt, numbers_raw (y.n_incident ∷ y.n_substrate ∷ y.angle ∷ [])) refl

gathered_tuned : (y : SheetSurface) (t : Tuning) → y.tuning ≡ t → (more : List Block) (ys : List SheetSurface) → gathered more ≡ record { layers = []; surfaces = with_tuning keeps y ∷ ys }
    → gathered (tuned_blocks t more) ≡ record { layers = []; surfaces = y ∷ ys }
unfolding gathered put
gathered_tuned y keeps q more ys e = e ∙ (λ i. record { layers = []; surfaces = with_tuning (sym q i) y ∷ ys })
gathered_tuned y (tunes v) q more ys e = rw (e, numbers_raw (v ∷ [])) (λ i. record { layers = []; surfaces = with_tuning (sym q i) y ∷ ys })

pub gathered_surfaces : (edition n : ℕ) (ys : List SheetSurface) → n < 2 ^ 28 → All (GoodSurface edition) ys → gathered (surfaces_blocks ys (end_block n ∷ [])) ≡ record { layers = []; surfaces = ys }
unfolding surfaces_blocks gathered put
gathered_surfaces edition n [] lt g = rw (kind_of 5 n lt) refl
gathered_surfaces edition n (y ∷ ys) lt g =
    let ih = gathered_surfaces edition n ys lt g.1 in
    let rest = surfaces_blocks ys (end_block n ∷ []) in
    let ls = layers_blocks y.layers rest in
    gathered_tuned y y.tuning refl (surface_block y ∷ ls) ys (gathered_surface y ls ys (omega (arith, g.0.payload)) (gathered_layers y.layers rest (record { layers = []; surfaces = ys }) ih refl))

pub sheet_of_blocks : (x : Sheet) → WellFormed x → sheet_of (blocks x) ≡ x
unfolding sheet_of blocks gathered put
sheet_of_blocks x h =
    rw (kind_of 1 x.edition small, payload_of 1 x.edition small, numbers_raw (x.wavelength ∷ x.s ∷ x.p ∷ []), gathered_surfaces x.edition (length x.surfaces) x.surfaces (omega (arith, h.few)) h.surfaces) refl
  where
    small : x.edition < 2 ^ 28
    small = small_edition x.edition h.edition
