-- What is left of a sheet from a place on: how many SURFACEs, or a fault. One block more, and the three ways in which there is none. Assumes nothing.
use mathlib.Core.Path.{◌≡◌, refl, sym, ap, ◌∙◌}
use mathlib.Core.Bool.{Bool, true, false, not, ◌&&◌, cond}
use mathlib.Core.Logic.{⊎_elim}
use mathlib.Core.List.{List, [], ◌∷◌}
use Prim.Native.Nat.{ℕ, zero, suc, ◌+◌, ◌≤◌, ◌<◌}
use native.Mathlib.Nat.{add-zero}
use native.Mathlib.Numerals.{add-one}
use native.Mathlib.Omega.{arith}
use lib.Dec.{eqb, leb}
use lib.ListN.{length, take, drop, length-drop, drop_of_length-le}
use lib.Seq.{drop-cons, drop-drop}
use borrow.Author.Tests.{lt-ltb, le-leb, lt-leb, eqb-true, ne_eqb, not-true, not-false}
use Rattle.refusal.specs.Outcome.{Outcome, answer, refusal, map}
use Rattle.sheet.specs.Words.{word, count, kind, words_of}
use Rattle.sheet.specs.Blocks.{Block, Grammar, Result, read, fault, mapped, blocks_from}
use Rattle.sheet.specs.Sheet.{SheetSurface, kind_word}
use Rattle.sheet.specs.Read.{Standing, at_open, at_beam, among, at_surface, ended, layer_kind, may, after, may_end, raws, sheet_grammar, Rest, tuned, put, gathered, sheet_of, decode, graded, surfaces_of, grammar}
use Rattle.sheet.proofs.Measure.{words_of_length, words_of_at}
use Rattle.sheet.specs.Internal.{counted, next_place}
use Rattle.sheet.proofs.KindWords.{either, surface_facts, Comes, comes_surface, comes_layer, comes_cauchy, comes_tuning, comes_end, comes, after_surface, after_layer, after_tuning, after_end}

-- ---- SURFACEs among blocks
unfoldable pub count3 : List Block → ℕ
count3 [] = 0
count3 (b ∷ bs) = cond (eqb (kind b.word) 3) (suc (count3 bs)) (count3 bs)

tuned_length : (v : ℕ) (ys : List SheetSurface) → length (tuned v ys) ≡ length ys
tuned_length v [] = refl
tuned_length v (y ∷ ys) = refl

one_of : (n : ℕ) (t f v : Bool) (A B C D : Rest) → length A.surfaces ≡ suc n → length B.surfaces ≡ n → length C.surfaces ≡ n → length D.surfaces ≡ n → length (cond t A (cond f B (cond v C D))).surfaces ≡ cond t (suc n) n
one_of n true f v A B C D a b c d = a
one_of n false true v A B C D a b c d = b
one_of n false false true A B C D a b c d = c
one_of n false false false A B C D a b c d = d

put_length : (b : Block) (r : Rest) → length (put b r).surfaces ≡ cond (eqb (kind b.word) 3) (suc (length r.surfaces)) (length r.surfaces)
unfolding put
put_length b r = one_of (length r.surfaces) (eqb (kind b.word) 3) (layer_kind 2 (kind b.word)) (eqb (kind b.word) 7) _ _ _ _ refl refl (tuned_length _ r.surfaces) refl

gathered_length : (bs : List Block) → length (gathered bs).surfaces ≡ count3 bs
unfolding gathered count3
gathered_length [] = refl
gathered_length (b ∷ bs) = put_length b (gathered bs) ∙ ap (λ (n : ℕ). cond (eqb (kind b.word) 3) (suc n) n) (gathered_length bs)

-- ---- how much fuel does not matter, as long as there is enough
fuel_same : (g : Grammar) (f e : ℕ) (s : g.Standing) (at : ℕ) (ws : List ℕ) → length ws < f → length ws < e → blocks_from g f s at ws ≡ blocks_from g e s at ws
unfolding blocks_from
fuel_same g zero e s at ws l m = absurd (omega arith)
fuel_same g (suc f) zero s at ws l m = absurd (omega arith)
fuel_same g (suc f) (suc e) s at [] l m = refl
fuel_same g (suc f) (suc e) s at (w ∷ ws) l m =
    let n = g.raws w in
    ap (λ (r : Result (List Block)). cond (g.may s w && leb n (length ws)) (mapped (λ bs. record { word = w; raw = take n ws } ∷ bs) r) (fault at))
    (fuel_same g f e (g.after s w) (at + suc n) (drop n ws) (omega (arith, length-drop n ws)) (omega (arith, length-drop n ws)))

-- ---- what is left
unfoldable pub left : List ℕ → Standing → ℕ → Result ℕ
left src s at = let ws = words_of src in mapped count3 (blocks_from sheet_grammar (suc (length ws)) s at (drop at ws))

abbrev pub tally : ℕ → Result ℕ → Result ℕ
tally n (read k) = read (n + k)
tally n (fault place) = fault place

pub whole : (src : List ℕ) → graded (tally 0 (left src at_open 0)) ≡ grammar src
unfolding left decode sheet_of grammar
whole src = by (blocks_from sheet_grammar (suc (length (words_of src))) at_open 0 (words_of src))
  where
    by : (r : Result (List Block)) → graded (tally 0 (mapped count3 r)) ≡ map surfaces_of (graded (mapped sheet_of r))
    by (read bs) = ap answer (omega (arith, gathered_length bs))
    by (fault place) = refl

module _ (src : List ℕ) (s : Standing) (at w : ℕ) (lt : at < count src) (is : w ≡ word src at) where
  front : drop at (words_of src) ≡ w ∷ drop (suc at) (words_of src)
  front = drop-cons (words_of src) at 0 (omega (arith, words_of_length src)) ∙ ap (λ (v : ℕ). v ∷ drop (suc at) (words_of src)) (words_of_at src at ∙ sym is)

  pub not_here : may s w ≡ false → left src s at ≡ fault at
  unfolding left blocks_from
  not_here e = rw (front, e) refl

  pub past_end : may s w ≡ true → count src ≤ at + raws w → left src s at ≡ fault at
  unfolding left blocks_from
  past_end e le = rw (front, e, lt-leb (raws w) (length (drop (suc at) (words_of src))) (omega (arith, length-drop (suc at) (words_of src), words_of_length src))) refl

  pub onward : (n : ℕ) → may s w ≡ true → at + raws w < count src → tally n (left src s at) ≡ tally (cond (eqb (kind w) 3) (n + 1) n) (left src (after s w) (at + (raws w + 1)))
  unfolding left blocks_from count3
  onward n e l =
      let ws = words_of src in
      let k = raws w in
      let place : at + suc k ≡ at + (k + 1) = omega arith in
      let there : suc at + k ≡ at + suc k = omega arith in
      let rest : drop k (drop (suc at) ws) ≡ drop (at + suc k) ws = drop-drop k (suc at) ws ∙ ap (λ (j : ℕ). drop j ws) there in
      rw (
        front,
        e,
        le-leb k (length (drop (suc at) ws)) (omega (arith, length-drop (suc at) ws, words_of_length src)),
        rest,
        fuel_same sheet_grammar (length ws) (suc (length ws)) (after s w) (at + suc k) (drop (at + suc k) ws) (omega (arith, length-drop (at + suc k) ws, words_of_length src)) (omega (arith, length-drop (at + suc k) ws)),
        ← place,
      )
      (by (blocks_from sheet_grammar (suc (length ws)) (after s w) (at + suc k) (drop (at + suc k) ws)))
    where
      more : (t : Bool) (k : ℕ) → n + cond t (suc k) k ≡ cond t (n + 1) n + k
      more true k = omega arith
      more false k = refl

      by : (r : Result (List Block)) → tally n (mapped count3 (mapped (λ bs. record { word = w; raw = take (raws w) (drop (suc at) (words_of src)) } ∷ bs) r)) ≡ tally (cond (eqb (kind w) 3) (n + 1) n) (mapped count3 r)
      by (fault place) = refl
      by (read bs) = ap read (more (eqb (kind w) 3) (count3 bs))

pub at_end : (src : List ℕ) (s : Standing) (at : ℕ) → count src ≤ at → left src s at ≡ cond (may_end s) (read 0) (fault at)
unfolding left blocks_from count3
at_end src s at le = rw (drop_of_length-le (words_of src) {i = at} (omega (arith, words_of_length src))) (by (may_end s))
  where
    by : (t : Bool) → mapped count3 (cond t (read []) (fault at)) ≡ cond t (read 0) (fault at)
    by true = refl
    by false = refl

-- ---- the loop: what is left tallies to o
module _ (src : List ℕ) (s : Standing) (at n : ℕ) (o : Outcome ℕ) (inv : graded (tally n (left src s at)) ≡ o) where
  module _ (w : ℕ) (lt : at < count src) (is : w ≡ word src at) (r : Bool) (can : r ≡ may s w) where
    pub stop_kind : not r ≡ true → refusal 5 at ≡ o
    stop_kind e = sym (ap (λ (r : Result ℕ). graded (tally n r)) (not_here src s at w lt is (sym can ∙ not-true r e))) ∙ inv

    module _ (e : not r ≡ false) (next : ℕ) (next_is : next ≡ next_place src at) where
      size : next ≡ at + (raws w + 1)
      unfolding next_place
      size = next_is ∙ rw (lt-ltb at (count src) lt, ← is) (one at (raws w))
        where
          one : (a b : ℕ) → a + suc b ≡ a + (b + 1)
          one a b = omega arith

      pub stop_raw : count src < next → refusal 5 at ≡ o
      stop_raw h = sym (ap (λ (r : Result ℕ). graded (tally n r)) (past_end src s at w lt is (sym can ∙ not-false r e) (omega (arith, size)))) ∙ inv

      pub nearer : next ≤ count src → at < next
      nearer h = omega (arith, size)

      pub go_on : next ≤ count src → (t : Standing) → t ≡ after s w → (n' : ℕ) → n' ≡ counted w n → graded (tally n' (left src t next)) ≡ o
      go_on h t q n' c = rw (q, size, c) (sym (ap graded (onward src s at w lt is n (sym can ∙ not-false r e) (omega (arith, size)))) ∙ inv)

  module _ (le : count src ≤ at) (r : Bool) (ends : r ≡ may_end s) where
    pub end_whole : r ≡ true → answer n ≡ o
    end_whole e = ap answer (sym (add-zero n)) ∙ sym (ap (λ (r : Result ℕ). graded (tally n r)) (at_end src s at le ∙ ap (λ (b : Bool). cond b (read 0) (fault at)) (sym ends ∙ e))) ∙ inv

    pub end_missing : r ≡ false → refusal 5 at ≡ o
    end_missing e = sym (ap (λ (r : Result ℕ). graded (tally n r)) (at_end src s at le ∙ ap (λ (b : Bool). cond b (read 0) (fault at)) (sym ends ∙ e))) ∙ inv

-- ---- the SURFACEs so far are those that the standing counts: 64 at the most
abbrev pub Counts : Standing → ℕ → Type 0
Counts at_open n = n ≡ 0
Counts (at_beam edition) n = n ≡ 0
Counts (among edition done most) n = (n ≡ done) × (done ≤ 64)
Counts (at_surface edition done) n = (n ≡ done) × (done ≤ 64)
Counts ended n = n ≤ 64

pub counts_few : (s : Standing) (n : ℕ) → Counts s n → n ≤ 64
counts_few at_open n c = omega arith
counts_few (at_beam edition) n c = omega arith
counts_few (among edition done most) n c = omega (arith, c.0, c.1)
counts_few (at_surface edition done) n c = omega (arith, c.0, c.1)
counts_few ended n c = c

module _ (w n : ℕ) where
  other : (k : ℕ) → kind w ≡ k → ¬ (k ≡ 3) → counted w n ≡ n
  other k e h = rw (ne_eqb (kind w) 3 (λ q. h (sym e ∙ q)))

  one_more : kind w ≡ 3 → counted w n ≡ suc n
  one_more e = rw e (add-one n)

  pub counts_on : (s : Standing) → Counts s n → may s w ≡ true → Counts (after s w) (counted w n)
  unfolding may after
  counts_on at_open c e = other 1 (⊎_elim (λ f. let q : w ≡ kind_word 1 1 = eqb-true w (kind_word 1 1) f in omega arith) (λ f. let q : w ≡ kind_word 1 2 = eqb-true w (kind_word 1 2) f in omega arith) (either (eqb w (kind_word 1 1)) _ e)) (λ q. omega arith) ∙ c
  counts_on (at_beam edition) c e = (other 2 (let q : w ≡ kind_word 2 0 = eqb-true w (kind_word 2 0) e in omega arith) (λ q. omega arith) ∙ c, omega arith)
  counts_on (among edition done most) c e = by (comes edition done most w e)
    where
      by : Comes edition done most w → Counts (after (among edition done most) w) (counted w n)
      by (comes_surface k d p) = rw (after_surface edition done most w k) (one_more k ∙ ap suc c.0, d)
      by (comes_layer k r p) = rw (after_layer edition done most w 4 k (λ q. omega arith) (λ q. omega arith) (λ q. omega arith)) (other 4 k (λ q. omega arith) ∙ c.0, c.1)
      by (comes_cauchy q k r p) = rw (after_layer edition done most w 6 k (λ q. omega arith) (λ q. omega arith) (λ q. omega arith)) (other 6 k (λ q. omega arith) ∙ c.0, c.1)
      by (comes_tuning q k d p) = rw (after_tuning edition done most w k) (other 7 k (λ q. omega arith) ∙ c.0, c.1)
      by (comes_end k p) = rw (after_end edition done most w k) (omega (arith, other 5 k (λ q. omega arith), c.0, c.1))
  counts_on (at_surface edition done) c e = let f = surface_facts done w e in (one_more f.0 ∙ ap suc c.0, f.1.0)
  counts_on ended c e = absurd (let z : ◌≡◌ {A = ℕ} 0 1 = cc in omega arith)
