-- Which sheets have no kind 7. Assumes nothing.
use mathlib.Core.Path.{◌≡◌, refl, sym, ap, ◌∙◌}
use mathlib.Core.Logic.{◌⊎◌, inl, inr}
use mathlib.Core.Bool.{Bool, true, false, cond}
use mathlib.Core.List.{List, [], ◌∷◌}
use Prim.Native.Nat.{ℕ, zero, suc, ◌+◌, ◌^◌, ◌<◌}
use native.Mathlib.Omega.{arith}
use lib.Dec.{eqb}
use lib.ListN.{length, get_or}
use borrow.Author.Tests.{eq-eqb, ne_eqb, eqb-true}
use Rattle.refusal.specs.Outcome.{answer, refusal}
use Rattle.sheet.specs.Words.{kind}
use Rattle.sheet.specs.Blocks.{Block, All, starts}
use Rattle.sheet.specs.Sheet.{SheetLayer, layer, cauchy, Tuning, keeps, tunes, SheetSurface, Sheet, GoodTuning, GoodSurface, WellFormed, kind_word, block, surface_block, tuned_blocks, layers_blocks, surfaces_blocks, blocks}
use Rattle.sheet.specs.Read.{no_block}
use Rattle.sheet.proofs.KindWords.{kind_of}
use Rattle.sheet.proofs.Forward.{small_edition}
use Rattle.gate.proofs.Claim.{gate_claim}
use Rattle.sheet_untuned.specs.Untuned.{no_tuning, without_tuning}
use Rattle.sheet_untuned.specs.Claim.{Untuned, FirstTuning, UntunedClaim}

abbrev Other : Block → Type 0
Other b = kind b.word ≡ 7 → ⊥

-- ---- the data and the blocks
other_kind : (k p : ℕ) → p < 2 ^ 28 → (k ≡ 7 → ⊥) → kind (kind_word k p) ≡ 7 → ⊥
other_kind k p lt n e = n (sym (kind_of k p lt) ∙ e)

layers_other : (ls : List SheetLayer) (more : List Block) → All Other more → All Other (layers_blocks ls more)
unfolding layers_blocks
layers_other [] more h = h
layers_other (layer n k t ∷ ls) more h = (other_kind 4 0 (omega arith) (λ e. omega arith), layers_other ls more h)
layers_other (cauchy a b c t ∷ ls) more h = (other_kind 6 0 (omega arith) (λ e. omega arith), layers_other ls more h)

surfaces_other : (edition : ℕ) (ys : List SheetSurface) (more : List Block) → All (GoodSurface edition) ys → All (λ (y : SheetSurface). y.tuning ≡ keeps) ys → All Other more → All Other (surfaces_blocks ys more)
unfolding surfaces_blocks
surfaces_other edition [] more g u h = h
surfaces_other edition (y ∷ ys) more g u h =
    rw u.0 (other_kind 3 y.payload (omega (arith, g.0.payload)) (λ e. omega arith), layers_other y.layers _ (surfaces_other edition ys more g.1 u.1 h))

untuned_other : (x : Sheet) → WellFormed x → Untuned x → All Other (blocks x)
unfolding blocks
untuned_other x w u =
    (other_kind 1 x.edition (small_edition x.edition w.edition) (λ e. omega arith), (other_kind 2 0 (omega arith) (λ e. omega arith), surfaces_other x.edition x.surfaces _ w.surfaces u (other_kind 5 (length x.surfaces) (omega (arith, w.few)) (λ e. omega arith), tt)))

-- ---- and back
past_layers : (ls : List SheetLayer) (more : List Block) → All Other (layers_blocks ls more) → All Other more
unfolding layers_blocks
past_layers [] more h = h
past_layers (l ∷ ls) more h = past_layers ls more h.1

other_surfaces : (ys : List SheetSurface) (more : List Block) → All Other (surfaces_blocks ys more) → All (λ (y : SheetSurface). y.tuning ≡ keeps) ys
unfolding surfaces_blocks
other_surfaces [] more h = tt
other_surfaces (y ∷ ys) more h = by y.tuning refl h (λ g. other_surfaces ys more g)
  where
    by : (t : Tuning) → y.tuning ≡ t → All Other (tuned_blocks t (surface_block y ∷ layers_blocks y.layers (surfaces_blocks ys more)))
        → (All Other (surfaces_blocks ys more) → All (λ (z : SheetSurface). z.tuning ≡ keeps) ys) → All (λ (z : SheetSurface). z.tuning ≡ keeps) (y ∷ ys)
    by keeps e h again = (e, again (past_layers y.layers _ h.1))
    by (tunes v) e h again = absurd (h.0 (kind_of 7 0 (omega arith)))

other_untuned : (x : Sheet) → All Other (blocks x) → Untuned x
unfolding blocks
other_untuned x h = other_surfaces x.surfaces _ h.1.1

-- ---- the first one
record First (at : ℕ) (bs : List Block) (place : ℕ) : Type 0 where
  block : ℕ
  inside : block < length bs
  seven : kind (get_or bs block no_block).word ≡ 7
  first : (i : ℕ) → i < block → kind (get_or bs i no_block).word ≡ 7 → ⊥
  stands : place ≡ get_or (starts at bs) block 0

none_there : {A : Type 0} (a : A) (at : ℕ) (bs : List Block) → All Other bs → no_tuning a (starts at bs) bs ≡ answer a
unfolding no_tuning starts
none_there a at [] h = refl
none_there a at (b ∷ bs) h = rw (ne_eqb (kind b.word) 7 h.0) (none_there a (at + suc (length b.raw)) bs h.1)

found_there : {A : Type 0} (a : A) (at : ℕ) (bs : List Block) (n place : ℕ) → n < length bs → kind (get_or bs n no_block).word ≡ 7 → ((i : ℕ) → i < n → kind (get_or bs i no_block).word ≡ 7 → ⊥) → place ≡ get_or (starts at bs) n 0 → no_tuning a (starts at bs) bs ≡ refusal 12 place
unfolding no_tuning starts
found_there a at [] n place lt s f e = absurd (omega arith)
found_there a at (b ∷ bs) zero place lt s f e = rw (eq-eqb (kind b.word) 7 s) (ap (refusal 12) (sym e))
found_there a at (b ∷ bs) (suc n) place lt s f e = rw (ne_eqb (kind b.word) 7 (f 0 (omega arith))) (found_there a (at + suc (length b.raw)) bs n place (omega arith) s (λ i l. f (suc i) (omega arith)) e)

search : (at : ℕ) (bs : List Block) → All Other bs ⊎ ((place : ℕ) × First at bs place)
unfolding starts
search at [] = inl tt
search at (b ∷ bs) = by (eqb (kind b.word) 7) refl (search (at + suc (length b.raw)) bs)
  where
    other : eqb (kind b.word) 7 ≡ false → Other b
    other e q = let z : eqb (kind b.word) 7 ≡ true = eq-eqb (kind b.word) 7 q in absurd (let y : ◌≡◌ {A = Bool} true false = sym z ∙ e in apart y)
      where
        apart : ◌≡◌ {A = Bool} true false → ⊥
        apart y = let n : ◌≡◌ {A = ℕ} 0 1 = ap (λ (t : Bool). cond t 0 1) y in omega arith

    by : (t : Bool) → eqb (kind b.word) 7 ≡ t → All Other bs ⊎ ((place : ℕ) × First (at + suc (length b.raw)) bs place) → All Other (b ∷ bs) ⊎ ((place : ℕ) × First at (b ∷ bs) place)
    by true e r = inr (at, record { block = 0; inside = omega arith; seven = eqb-true (kind b.word) 7 e; first = λ i l. absurd (omega arith); stands = refl })
    by false e (inl h) = inl (other e, h)
    by false e (inr (place, f)) = inr (place, record { block = suc f.block; inside = omega (arith, f.inside); seven = f.seven; first = earlier f; stands = f.stands })
      where
        earlier : (f : First (at + suc (length b.raw)) bs place) (i : ℕ) → i < suc f.block → kind (get_or (b ∷ bs) i no_block).word ≡ 7 → ⊥
        earlier f zero l = other e
        earlier f (suc i) l = f.first i (omega arith)

-- ---- the claim
either : (x : Sheet) → WellFormed x → Untuned x ⊎ ((place : ℕ) × FirstTuning x place)
either x w = by (search 0 (blocks x))
  where
    by : All Other (blocks x) ⊎ ((place : ℕ) × First 0 (blocks x) place) → Untuned x ⊎ ((place : ℕ) × FirstTuning x place)
    by (inl h) = inl (other_untuned x h)
    by (inr (place, f)) = inr (place, record { block = f.block; inside = f.inside; seven = f.seven; first = f.first; stands = f.stands })

old_surfaces : (ys : List SheetSurface) (edition : ℕ) → edition ≡ 1 → All (GoodSurface edition) ys → All (λ (y : SheetSurface). y.tuning ≡ keeps) ys
old_surfaces [] edition e g = tt
old_surfaces (y ∷ ys) edition e g = (by y.tuning g.0.tuning, old_surfaces ys edition e g.1)
  where
    by : (t : Tuning) → GoodTuning edition t → t ≡ keeps
    by keeps h = refl
    by (tunes v) h = absurd (omega (arith, h.0))

pub untuned_claim : UntunedClaim
unfolding without_tuning
untuned_claim = record {
  either = either;
  old = λ x w e. old_surfaces x.surfaces x.edition e w.surfaces;
  taken = λ src bs x g u. rw g (none_there x 0 (blocks x) (untuned_other x ((gate_claim.admits src bs x).0 g).0.0 u));
  twelve = λ src x g place f. rw g (found_there x 0 (blocks x) f.block place f.inside f.seven f.first f.stands);
  turned_back = λ src number place e. rw e;
}
