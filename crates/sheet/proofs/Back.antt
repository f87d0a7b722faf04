-- Every list of blocks in the grammar is the blocks of a well-formed sheet. Assumes nothing.
use mathlib.Core.Path.{◌≡◌, refl, sym, ap, ◌∙◌, subst}
use mathlib.Core.Bool.{Bool, true, false, cond}
use mathlib.Core.Logic.{◌⊎◌, inl, inr, ⊎_elim}
use mathlib.Core.List.{List, [], ◌∷◌}
use Prim.Native.Nat.{ℕ, suc, ◌+◌, ◌-◌, ◌/◌, ◌≤◌, ◌<◌}
use native.Mathlib.Nat.{zero-add, add-zero}
use native.Mathlib.Omega.{arith}
use lib.Dec.{eqb}
use lib.ListN.{length}
use borrow.Author.Tests.{eqb-true}
use Rattle.sheet.specs.Words.{kind, payload}
use Rattle.sheet.specs.Blocks.{Block, All, GoodBlock}
use Rattle.sheet.specs.Sheet.{SheetLayer, layer, cauchy, keeps, tunes, SheetSurface, Sheet, Pattern, GoodLayer, GoodSurface, WellFormed, kind_word, block, surface_block, layers_blocks, surfaces_blocks, end_block, blocks}
use Rattle.sheet.specs.Read.{floats_after, Standing, at_open, at_beam, among, at_surface, ended, layers_after, may, after, may_end, sheet_grammar}
use Rattle.sheet.proofs.KindWords.{made_of, either, surface_facts, Comes, comes_surface, comes_layer, comes_cauchy, comes_tuning, comes_end, comes, after_surface, after_layer, after_tuning, after_end}
use Rattle.sheet.proofs.Forward.{In, small_edition}

-- ---- what stands after BEAM, a SURFACE or a layer; and after a kind 7
pub record Among (edition done most : ℕ) (bs : List Block) : Type 0 where
  pub layers : List SheetLayer
  pub surfaces : List SheetSurface
  pub is : bs ≡ layers_blocks layers (surfaces_blocks surfaces (end_block (done + length surfaces) ∷ []))
  pub good_layers : All (GoodLayer edition) layers
  pub fit : length layers ≤ most
  pub good : All (GoodSurface edition) surfaces
  pub few : done + length surfaces ≤ 64

pub record Onto (edition done : ℕ) (bs : List Block) : Type 0 where
  pub surface : SheetSurface
  pub surfaces : List SheetSurface
  pub untuned : surface.tuning ≡ keeps
  pub is : bs ≡ surface_block surface ∷ layers_blocks surface.layers (surfaces_blocks surfaces (end_block (done + suc (length surfaces)) ∷ []))
  pub good_first : GoodSurface edition surface
  pub good : All (GoodSurface edition) surfaces
  pub few : done + suc (length surfaces) ≤ 64

abbrev After : Standing → List Block → Type 0
After at_open bs = Unit
After (at_beam edition) bs = Unit
After (among edition done most) bs = done ≤ 64 → Among edition done most bs
After (at_surface edition done) bs = Onto edition done bs
After ended bs = bs ≡ []

-- ---- floats of a made block by their number
three : (fs : List ℕ) → length fs ≡ 3 → All Pattern fs → (a b c : ℕ) × (fs ≡ a ∷ b ∷ c ∷ []) × (Pattern a × (Pattern b × Pattern c))
three [] l h = absurd (omega arith)
three (a ∷ []) l h = absurd (omega arith)
three (a ∷ b ∷ []) l h = absurd (omega arith)
three (a ∷ b ∷ c ∷ []) l h = (a, b, c, refl, (h.0, (h.1.0, h.1.1.0)))
three (a ∷ b ∷ c ∷ d ∷ fs) l h = absurd (omega arith)

four : (fs : List ℕ) → length fs ≡ 4 → All Pattern fs → (a b c d : ℕ) × (fs ≡ a ∷ b ∷ c ∷ d ∷ []) × (Pattern a × (Pattern b × (Pattern c × Pattern d)))
four [] l h = absurd (omega arith)
four (a ∷ fs) l h = let t = three fs (omega arith) h.1 in (a, t.0, t.1, t.2, ap (λ (z : List ℕ). a ∷ z) t.3, (h.0, t.4))

one : (fs : List ℕ) → length fs ≡ 1 → All Pattern fs → (a : ℕ) × (fs ≡ a ∷ []) × Pattern a
one [] l h = absurd (omega arith)
one (a ∷ []) l h = (a, refl, h.0)
one (a ∷ b ∷ fs) l h = absurd (omega arith)

none : (fs : List ℕ) → length fs ≡ 0 → fs ≡ []
none [] l = refl
none (a ∷ fs) l = absurd (omega arith)

-- ---- block by block
few_custom : (p : ℕ) (ls : List SheetLayer) → length ls ≤ layers_after p → (length ls ≤ 16) × ((ls ≡ []) ⊎ (p / 2 ≡ 5))
few_custom p ls = by (eqb (p / 2) 5) refl ls
  where
    by : (t : Bool) → eqb (p / 2) 5 ≡ t → (ls : List SheetLayer) → length ls ≤ cond t 16 0 → (length ls ≤ 16) × ((ls ≡ []) ⊎ (p / 2 ≡ 5))
    by true e ls le = (le, inr (eqb-true (p / 2) 5 e))
    by false e [] le = (omega arith, inl refl)
    by false e (l ∷ ls) le = absurd (omega arith)

module _ (edition done : ℕ) (b : Block) (bs : List Block) (g : GoodBlock sheet_grammar b) where
  onto : kind b.word ≡ 3 → payload b.word ≤ 15 → Among edition (suc done) (layers_after (payload b.word)) bs → Onto edition done (b ∷ bs)
  unfolding floats_after
  onto k p a =
      let m = made_of b 3 g k in
      let t = three m.floats m.many m.patterns in
      let c = few_custom (payload b.word) a.layers a.fit in
      record {
        surface = record { tuning = keeps; payload = payload b.word; n_incident = t.0; n_substrate = t.1; angle = t.2; layers = a.layers };
        surfaces = a.surfaces;
        untuned = refl;
        is = λ i. (m.is ∙ ap (block 3 (payload b.word)) t.3) i ∷ (a.is ∙ ap (λ (n : ℕ). layers_blocks a.layers (surfaces_blocks a.surfaces (end_block n ∷ []))) (count (length a.surfaces))) i;
        good_first = record { tuning = tt; payload = p; n_incident = t.4.0; n_substrate = t.4.1.0; angle = t.4.1.1; layers = a.good_layers; few = c.0; custom = c.1 };
        good = a.good;
        few = omega (arith, a.few);
      }
    where
      count : (n : ℕ) → suc done + n ≡ done + suc n
      count n = omega arith

  -- a SURFACE without a kind 7
  plain : (most : ℕ) → Onto edition done (b ∷ bs) → Among edition done most (b ∷ bs)
  unfolding layers_blocks surfaces_blocks
  plain most o = record {
    layers = [];
    surfaces = o.surface ∷ o.surfaces;
    is = o.is ∙ rw o.untuned refl;
    good_layers = tt;
    fit = omega arith;
    good = (o.good_first, o.good);
    few = o.few;
  }

  tuning_on : (most : ℕ) → edition ≡ 2 → kind b.word ≡ 7 → payload b.word ≡ 0 → Onto edition done bs → Among edition done most (b ∷ bs)
  unfolding floats_after layers_blocks surfaces_blocks
  tuning_on most e k p o =
      let m = made_of b 7 g k in
      let t = one m.floats m.many m.patterns in
      let y = o.surface in
      let f = o.good_first in
      record {
        layers = [];
        surfaces = record { tuning = tunes t.0; payload = y.payload; n_incident = y.n_incident; n_substrate = y.n_substrate; angle = y.angle; layers = y.layers } ∷ o.surfaces;
        is = λ i. (m.is ∙ (λ j. block 7 (p j) (t.1 j))) i ∷ o.is i;
        good_layers = tt;
        fit = omega arith;
        good = (record { tuning = (e, t.2); payload = f.payload; n_incident = f.n_incident; n_substrate = f.n_substrate; angle = f.angle; layers = f.layers; few = f.few; custom = f.custom }, o.good);
        few = o.few;
      }

  layer_on : (most : ℕ) → kind b.word ≡ 4 → 0 < most → payload b.word ≡ 0 → Among edition done (most - 1) bs → Among edition done most (b ∷ bs)
  unfolding floats_after layers_blocks
  layer_on most k r p a =
      let m = made_of b 4 g k in
      let t = three m.floats m.many m.patterns in
      record {
        layers = layer t.0 t.1 t.2 ∷ a.layers;
        surfaces = a.surfaces;
        is = λ i. (m.is ∙ (λ j. block 4 (p j) (t.3 j))) i ∷ a.is i;
        good_layers = (t.4, a.good_layers);
        fit = omega (arith, a.fit);
        good = a.good;
        few = a.few;
      }

  cauchy_on : (most : ℕ) → edition ≡ 2 → kind b.word ≡ 6 → 0 < most → payload b.word ≡ 0 → Among edition done (most - 1) bs → Among edition done most (b ∷ bs)
  unfolding floats_after layers_blocks
  cauchy_on most e k r p a =
      let m = made_of b 6 g k in
      let t = four m.floats m.many m.patterns in
      record {
        layers = cauchy t.0 t.1 t.2 t.3 ∷ a.layers;
        surfaces = a.surfaces;
        is = λ i. (m.is ∙ (λ j. block 6 (p j) (t.4 j))) i ∷ a.is i;
        good_layers = ((e, t.5), a.good_layers);
        fit = omega (arith, a.fit);
        good = a.good;
        few = a.few;
      }

  end_on : (most : ℕ) → done ≤ 64 → kind b.word ≡ 5 → payload b.word ≡ done → bs ≡ [] → Among edition done most (b ∷ bs)
  unfolding floats_after layers_blocks surfaces_blocks
  end_on most le k p e =
      let m = made_of b 5 g k in
      record {
        layers = [];
        surfaces = [];
        is = λ i. (m.is ∙ (λ j. block 5 ((p ∙ sym (add-zero done)) j) (none m.floats m.many j))) i ∷ e i;
        good_layers = tt;
        fit = omega arith;
        good = tt;
        few = omega arith;
      }

-- ---- all of them
onward : (bs : List Block) (s : Standing) → In s bs → After s bs
unfolding may after may_end
onward [] at_open h = tt
onward [] (at_beam edition) h = tt
onward [] (among edition done most) h = absurd (let z : ◌≡◌ {A = ℕ} 0 1 = cc in omega arith)
onward [] (at_surface edition done) h = absurd (let z : ◌≡◌ {A = ℕ} 0 1 = cc in omega arith)
onward [] ended h = refl
onward (b ∷ bs) at_open h = tt
onward (b ∷ bs) (at_beam edition) h = tt
onward (b ∷ bs) (among edition done most) h = λ le. by le (λ s i. onward bs s i) (comes edition done most b.word h.0)
  where
    by : done ≤ 64 → ((s : Standing) → In s bs → After s bs) → Comes edition done most b.word → Among edition done most (b ∷ bs)
    by le again (comes_surface k d p) = plain edition done b bs h.1.0 most (onto edition done b bs h.1.0 k p (again _ (subst (λ (s : Standing). In s bs) (after_surface edition done most b.word k) h.1.1) d))
    by le again (comes_layer k r p) = layer_on edition done b bs h.1.0 most k r p (again _ (subst (λ (s : Standing). In s bs) (after_layer edition done most b.word 4 k (λ q. omega arith) (λ q. omega arith) (λ q. omega arith)) h.1.1) le)
    by le again (comes_cauchy e k r p) = cauchy_on edition done b bs h.1.0 most e k r p (again _ (subst (λ (s : Standing). In s bs) (after_layer edition done most b.word 6 k (λ q. omega arith) (λ q. omega arith) (λ q. omega arith)) h.1.1) le)
    by le again (comes_tuning e k d p) = tuning_on edition done b bs h.1.0 most e k p (again _ (subst (λ (s : Standing). In s bs) (after_tuning edition done most b.word k) h.1.1))
    by le again (comes_end k p) = end_on edition done b bs h.1.0 most le k p (again _ (subst (λ (s : Standing). In s bs) (after_end edition done most b.word k) h.1.1))
onward (b ∷ bs) (at_surface edition done) h =
    let f = surface_facts done b.word h.0 in
    onto edition done b bs h.1.0 f.0 f.1.1 (onward bs (among edition (suc done) (layers_after (payload b.word))) h.1.1 f.1.0)
onward (b ∷ bs) ended h = absurd (let z : ◌≡◌ {A = ℕ} 0 1 = cc in omega arith)

-- ---- the whole sheet
pub record Formed (bs : List Block) : Type 0 where
  pub sheet : Sheet
  pub formed : WellFormed sheet
  pub is : bs ≡ blocks sheet

no_layers : (ls : List SheetLayer) → length ls ≤ 0 → ls ≡ []
no_layers [] h = refl
no_layers (l ∷ ls) h = absurd (omega arith)

closed : (edition : ℕ) (o b : Block) (bs : List Block) → ((edition ≡ 1) ⊎ (edition ≡ 2)) → GoodBlock sheet_grammar o → o.word ≡ kind_word 1 edition → GoodBlock sheet_grammar b → b.word ≡ kind_word 2 0 → Among edition 0 0 bs → Formed (o ∷ b ∷ bs)
unfolding floats_after blocks layers_blocks
closed edition o b bs ed ho wo hb wb a =
    let small = small_edition edition ed in
    let mo = made_of o 1 ho (omega arith) in
    let mb = made_of b 2 hb (omega arith) in
    let t = three mb.floats mb.many mb.patterns in
    let po : payload o.word ≡ edition = omega arith in
    let pb : payload b.word ≡ 0 = omega arith in
    let l : a.layers ≡ [] = no_layers a.layers a.fit in
    record {
      sheet = record { edition = edition; wavelength = t.0; s = t.1; p = t.2; surfaces = a.surfaces };
      formed = record { edition = ed; wavelength = t.4.0; s = t.4.1.0; p = t.4.1.1; surfaces = a.good; few = omega (arith, a.few) };
      is = λ i. (mo.is ∙ (λ j. block 1 (po j) (none mo.floats mo.many j))) i ∷ (mb.is ∙ (λ j. block 2 (pb j) (t.3 j))) i ∷ (a.is ∙ (λ j. layers_blocks (l j) (surfaces_blocks a.surfaces (end_block (zero-add (length a.surfaces) j) ∷ [])))) i;
    }

pub formed : (bs : List Block) → In at_open bs → Formed bs
unfolding may after may_end
formed [] h = absurd (let z : ◌≡◌ {A = ℕ} 0 1 = cc in omega arith)
formed (o ∷ []) h = absurd (let e : false ≡ true = h.1.1 in let z : ◌≡◌ {A = ℕ} 0 1 = cc in omega arith)
formed (o ∷ b ∷ bs) h =
    ⊎_elim (λ e. by 1 (inl refl) (eqb-true o.word (kind_word 1 1) e)) (λ e. by 2 (inr refl) (eqb-true o.word (kind_word 1 2) e))
    (either (eqb o.word (kind_word 1 1)) _ h.0)
  where
    by : (edition : ℕ) → (edition ≡ 1) ⊎ (edition ≡ 2) → o.word ≡ kind_word 1 edition → Formed (o ∷ b ∷ bs)
    by edition ed e =
        let small = small_edition edition ed in
        let p : payload o.word ≡ edition = omega arith in
        closed edition o b bs ed h.1.0 e h.1.1.1.0 (eqb-true b.word (kind_word 2 0) h.1.1.0)
        (onward bs (among edition 0 0) (subst (λ (n : ℕ). In (among n 0 0) bs) p h.1.1.1.1) (omega arith))
