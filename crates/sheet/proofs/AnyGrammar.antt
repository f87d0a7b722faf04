-- The reader of any grammar of blocks: what it reads is the one list of blocks in the grammar that has these words, and a fault is at the least word that no such
-- list has there, or at the last kind word of one that goes on. Nothing here knows a kind or a length. Assumes nothing.
use mathlib.Core.Path.{◌≡◌, refl, sym, ap, ◌∙◌, subst}
use mathlib.Core.Bool.{Bool, true, false, ◌&&◌, cond, true≢false}
use mathlib.Core.Logic.{⊎_elim}
use mathlib.Core.List.Memᴰ
use mathlib.Core.List.{List, [], ◌∷◌, ◌++◌, Memᴰ}
use Prim.Native.Nat.{ℕ, zero, suc, ◌+◌, ◌-◌, ◌≤◌, ◌<◌}
use native.Mathlib.Omega.{arith}
use lib.Dec.{leb}
use lib.ListN.{length, take, drop, replicate, length-append, length-drop, length-replicate, take-append-drop, get_or-append}
use lib.Seq.{length-take-le, take_at, drop_at}
use borrow.Author.Tests.{leb-true, leb-false, le-leb}
use Rattle.sheet.specs.Blocks.{Block, Grammar, All, Word, GoodBlock, InGrammar, flat, starts, Result, read, fault, mapped, blocks_from}
use Rattle.sheet.proofs.Lists.{Same, front_same, back_same, all_drop, all_take, all_append, zeros, starts_from}

-- ---- agreement of blocks in grammar with the first n of some words
pub record Agree (g : Grammar) (s : g.Standing) (bs : List Block) (ws : List ℕ) (n : ℕ) : Type 0 where
  pub good : InGrammar g s bs
  pub long : n ≤ length (flat bs)
  pub same : Same (flat bs) ws n

pub record Out (g : Grammar) (s : g.Standing) (ws : List ℕ) (k : ℕ) : Type 0 where
  pub inside : k < length ws
  pub before : (bs : List Block) × Agree g s bs ws k
  pub never : (bs : List Block) → Agree g s bs ws (suc k) → ⊥

pub record Cut (g : Grammar) (s : g.Standing) (at : ℕ) (ws : List ℕ) (place : ℕ) : Type 0 where
  pub blocks : List Block
  pub agree : Agree g s blocks ws (length ws)
  pub longer : length ws < length (flat blocks)
  pub kind_place : Memᴰ place (starts at blocks)
  pub reached : place ≤ at + length ws
  pub last : (q : ℕ) → Memᴰ q (starts at blocks) → q ≤ at + length ws → q ≤ place

pub data Outcome (g : Grammar) (s : g.Standing) (at : ℕ) (ws : List ℕ) : Result (List Block) → Type 0 where
  whole : (bs : List Block) → InGrammar g s bs → flat bs ≡ ws → Outcome g s at ws (read bs)
  out : (place k : ℕ) → place ≡ at + k → Out g s ws k → Outcome g s at ws (fault place)
  cut : (place : ℕ) → Cut g s at ws place → Outcome g s at ws (fault place)

abbrev made : ℕ → List ℕ → Block
made w raw = record { word = w; raw = raw }

-- ---- a block put in front, and taken away
module _ (g : Grammar) (s : g.Standing) (w : ℕ) (raw : List ℕ) (may : g.may s w ≡ true) (good : GoodBlock g (made w raw)) where
  agree_front : (bs : List Block) (ws : List ℕ) (n : ℕ) → Agree g (g.after s w) bs ws n → Agree g s (made w raw ∷ bs) (w ∷ (raw ++ ws)) (suc (length raw + n))
  unfolding flat
  agree_front bs ws n a = record { good = (may, (good, a.good)); long = omega (arith, length-append raw (flat bs), a.long); same = by }
    where
      by : Same (w ∷ (raw ++ flat bs)) (w ∷ (raw ++ ws)) (suc (length raw + n))
      by zero lt = refl
      by (suc i) lt = front_same raw (flat bs) ws n a.same i (omega arith)

  agree_back : (cs : List Block) (ws : List ℕ) (n : ℕ) → Agree g s cs (w ∷ (raw ++ ws)) (suc (length raw + n)) → (bs : List Block) × Agree g (g.after s w) bs ws n
  unfolding flat
  agree_back [] ws n a = absurd (omega (arith, a.long))
  agree_back (c ∷ cs) ws n a =
      let e : c.word ≡ w = a.same 0 (omega arith) in
      let l : length c.raw ≡ length raw = a.good.1.0.size ∙ ap g.raws e ∙ sym good.size in (
        cs,
        record {
          good = subst (λ (v : ℕ). InGrammar g (g.after s v) cs) e a.good.1.1;
          long = omega (arith, l, length-append c.raw (flat cs), a.long);
          same = back_same c.raw raw (flat cs) ws n l (λ i lt. a.same (suc i) (omega arith));
        },
      )

  cut_front : (at n place : ℕ) → length raw ≡ n → (ws : List ℕ) → Cut g (g.after s w) (at + suc n) ws place → Cut g s at (w ∷ (raw ++ ws)) place
  unfolding flat starts
  cut_front at n place l ws c =
      let a = agree_front c.blocks ws (length ws) c.agree in
      let f : at + suc n ≤ place = starts_from (at + suc n) place c.blocks c.kind_place in
      let e : at + suc n ≡ at + suc (length raw) = omega arith in
      record {
        blocks = made w raw ∷ c.blocks;
        agree = subst (Agree g s (made w raw ∷ c.blocks) (w ∷ (raw ++ ws))) (ap suc (sym (length-append raw ws))) a;
        longer = omega (arith, length-append raw ws, length-append raw (flat c.blocks), c.longer);
        kind_place = Memᴰ.tail (subst (λ (k : ℕ). Memᴰ place (starts k c.blocks)) e c.kind_place);
        reached = omega (arith, length-append raw ws, c.reached);
        last = λ q m le.
            ⊎_elim (λ p. omega arith)
            (λ t. c.last q (subst (λ (k : ℕ). Memᴰ q (starts k c.blocks)) (sym e) t) (omega (arith, length-append raw ws)))
            (Memᴰ.cases_cons m);
      }

  front : (at n : ℕ) → length raw ≡ n → (ws : List ℕ) {r : Result (List Block)} → Outcome g (g.after s w) (at + suc n) ws r → Outcome g s at (w ∷ (raw ++ ws)) (mapped (λ bs. made w raw ∷ bs) r)
  unfolding flat
  front at n l ws (whole bs h e) = whole (made w raw ∷ bs) (may, (good, h)) (ap (λ (z : List ℕ). w ∷ (raw ++ z)) e)
  front at n l ws (out place k e o) = out place (suc (length raw + k)) (omega arith) record {
    inside = omega (arith, length-append raw ws, o.inside);
    before = (made w raw ∷ o.before.0, agree_front o.before.0 ws k o.before.1);
    never = λ cs a. let b = agree_back cs ws (suc k) (subst (Agree g s cs (w ∷ (raw ++ ws))) (more k) a) in o.never b.0 b.1;
  }
    where
      more : (k : ℕ) → suc (suc (length raw + k)) ≡ suc (length raw + suc k)
      more k = omega arith
  front at n l ws (cut place c) = cut place (cut_front at n place l ws c)

-- ---- every word list: from any standing that can be brought to an end
module _ (g : Grammar) (Live : g.Standing → Type 0) (live_after : (s : g.Standing) (w : ℕ) → Live s → g.may s w ≡ true → Live (g.after s w))
    (finish : (s : g.Standing) → Live s → (bs : List Block) × InGrammar g s bs) (at : ℕ) (s : g.Standing) (live : Live s) where
  at_the_end : g.may_end s ≡ false → Cut g s at [] at
  unfolding flat starts
  at_the_end e = by (finish s live).0 (finish s live).1
    where
      by : (bs : List Block) → InGrammar g s bs → Cut g s at [] at
      by [] h = absurd (true≢false (sym h ∙ e))
      by (b ∷ bs) h = record {
        blocks = b ∷ bs;
        agree = record { good = h; long = omega arith; same = λ i lt. absurd (omega arith) };
        longer = omega arith;
        kind_place = Memᴰ.head refl;
        reached = omega arith;
        last = λ q m le. omega arith;
      }

  module _ (w : ℕ) (ws : List ℕ) where
    out_here : g.may s w ≡ false → Out g s (w ∷ ws) 0
    unfolding flat
    out_here e = record {
      inside = omega arith;
      before = ((finish s live).0, record { good = (finish s live).1; long = omega arith; same = λ i lt. absurd (omega arith) });
      never = by;
    }
      where
        by : (bs : List Block) → Agree g s bs (w ∷ ws) 1 → ⊥
        by [] a = omega (arith, a.long)
        by (b ∷ bs) a = true≢false (sym a.good.0 ∙ ap (g.may s) (a.same 0 (omega arith)) ∙ e)

    -- raw words past the end: any words in their place
    cut_here : g.may s w ≡ true → length ws < g.raws w → Word w → All Word ws → Cut g s at (w ∷ ws) at
    unfolding flat starts
    cut_here e lt hw h =
        let fill : List ℕ = replicate (g.raws w - length ws) 0 in
        let f = finish (g.after s w) (live_after s w live e) in
        let n : length (ws ++ fill) ≡ g.raws w = filled in
        record {
          blocks = made w (ws ++ fill) ∷ f.0;
          agree = record {
            good = (e, (record { word = hw; raw = all_append ws fill h (zeros (g.raws w - length ws)); size = n }, f.1));
            long = omega (arith, length-append (ws ++ fill) (flat f.0));
            same = same (flat f.0);
          };
          longer = omega (arith, length-append (ws ++ fill) (flat f.0));
          kind_place = Memᴰ.head refl;
          reached = omega arith;
          last = λ q m le. ⊎_elim (λ p. omega arith) (λ t. absurd (omega (arith, starts_from (at + suc (length (ws ++ fill))) q f.0 t))) (Memᴰ.cases_cons m);
        }
      where
        filled : length (ws ++ replicate (g.raws w - length ws) 0) ≡ g.raws w
        filled = omega (arith, length-append ws (replicate (g.raws w - length ws) 0), length-replicate {A = ℕ} (g.raws w - length ws) 0)

        same : (more : List ℕ) → Same (w ∷ ((ws ++ replicate (g.raws w - length ws) 0) ++ more)) (w ∷ ws) (suc (length ws))
        same more zero le = refl
        same more (suc i) le =
            get_or-append (ws ++ replicate (g.raws w - length ws) 0) more 0 i (omega (arith, filled)) ∙ get_or-append ws (replicate (g.raws w - length ws) 0) 0 i (omega arith)

module _ (g : Grammar) (Live : g.Standing → Type 0) (live_after : (s : g.Standing) (w : ℕ) → Live s → g.may s w ≡ true → Live (g.after s w))
    (finish : (s : g.Standing) → Live s → (bs : List Block) × InGrammar g s bs) where
  pub walk : (fuel : ℕ) (s : g.Standing) (at : ℕ) (ws : List ℕ) → length ws < fuel → Live s → All Word ws → Outcome g s at ws (blocks_from g fuel s at ws)
  unfolding blocks_from flat
  walk zero s at ws lt live h = absurd (omega arith)
  walk (suc fuel) s at [] lt live h = by (g.may_end s) refl
    where
      by : (t : Bool) → g.may_end s ≡ t → Outcome g s at [] (cond t (read []) (fault at))
      by true e = whole [] e refl
      by false e = cut at (at_the_end g Live live_after finish at s live e)
  walk (suc fuel) s at (w ∷ ws) lt live h =
      by (g.may s w) refl (leb (g.raws w) (length ws)) refl
      (λ e. walk fuel (g.after s w) (at + suc (g.raws w)) (drop (g.raws w) ws) (omega (arith, length-drop (g.raws w) ws)) (live_after s w live e) (all_drop (g.raws w) ws h.1))
    where
      rest : Result (List Block)
      rest = blocks_from g fuel (g.after s w) (at + suc (g.raws w)) (drop (g.raws w) ws)

      by : (t : Bool) → g.may s w ≡ t → (u : Bool) → leb (g.raws w) (length ws) ≡ u → (g.may s w ≡ true → Outcome g (g.after s w) (at + suc (g.raws w)) (drop (g.raws w) ws) rest)
          → Outcome g s at (w ∷ ws) (cond (t && u) (mapped (λ bs. made w (take (g.raws w) ws) ∷ bs) rest) (fault at))
      by true e true u again =
          let n = g.raws w in
          let l : length (take n ws) ≡ n = length-take-le n ws (leb-true n (length ws) u) in
          let b : GoodBlock g (made w (take n ws)) = record { word = h.0; raw = all_take n ws h.1; size = l } in
          subst (λ (z : List ℕ). Outcome g s at (w ∷ z) (mapped (λ bs. made w (take n ws) ∷ bs) rest)) (take-append-drop n ws)
          (front g s w (take n ws) e b at n l (drop n ws) (again e))
      by true e false u again = cut at (cut_here g Live live_after finish at s live w ws e (leb-false (g.raws w) (length ws) u) h.0 h.1)
      by false e u f again = out at 0 (omega arith) (out_here g Live live_after finish at s live w ws e)

-- ---- blocks in grammar are read
pub complete : (g : Grammar) (fuel : ℕ) (s : g.Standing) (at : ℕ) (bs : List Block) → InGrammar g s bs → length (flat bs) < fuel → blocks_from g fuel s at (flat bs) ≡ read bs
unfolding blocks_from flat
complete g zero s at bs h lt = absurd (omega arith)
complete g (suc fuel) s at [] h lt = rw h
complete g (suc fuel) s at (b ∷ bs) h lt =
    let n = g.raws b.word in
    let l = length-append b.raw (flat bs) in
    let k : length b.raw ≡ n = h.1.0.size in
    let le : n ≤ length (b.raw ++ flat bs) = omega arith in
    rw (h.0, le-leb n (length (b.raw ++ flat bs)) le, take_at b.raw (flat bs) n k, drop_at b.raw (flat bs) n k, complete g fuel (g.after s b.word) (at + suc n) bs h.1.1 (omega arith)) refl

-- ---- two lists in grammar that have their first n words in common, and more words each, have the places up to there in common
pub starts_same : (g : Grammar) (s : g.Standing) (at n q : ℕ) (bs cs : List Block) → InGrammar g s bs → InGrammar g s cs → Same (flat bs) (flat cs) n → n < length (flat cs)
    → Memᴰ q (starts at bs) → q ≤ at + n → Memᴰ q (starts at cs)
unfolding flat starts
starts_same g s at n q [] cs hb hc e lt m le = absurd (Memᴰ.not-nil m)
starts_same g s at n q (b ∷ bs) [] hb hc e lt m le = absurd (omega arith)
starts_same g s at n q (b ∷ bs) (c ∷ cs) hb hc e lt m le =
    ⊎_elim Memᴰ.head
    (λ t. Memᴰ.tail (later t (λ k p hc' e' lt' m' le'. starts_same g (g.after s b.word) (at + suc (length b.raw)) k q bs cs hb.1.1 hc' e' lt' m' le')))
    (Memᴰ.cases_cons m)
  where
    later : Memᴰ q (starts (at + suc (length b.raw)) bs)
        → ((k : ℕ) → suc (length b.raw + k) ≡ n → InGrammar g (g.after s b.word) cs → Same (flat bs) (flat cs) k → k < length (flat cs) → Memᴰ q (starts (at + suc (length b.raw)) bs) → q ≤ at + suc (length b.raw) + k → Memᴰ q (starts (at + suc (length b.raw)) cs))
        → Memᴰ q (starts (at + suc (length c.raw)) cs)
    later t again =
        let f : at + suc (length b.raw) ≤ q = starts_from (at + suc (length b.raw)) q bs t in
        let w : b.word ≡ c.word = e 0 (omega arith) in
        let l : length b.raw ≡ length c.raw = hb.1.0.size ∙ ap g.raws w ∙ sym hc.1.0.size in
        let k : ℕ = n - suc (length b.raw) in
        let p : suc (length b.raw + k) ≡ n = omega arith in
        subst (λ (z : ℕ). Memᴰ q (starts (at + suc z) cs)) l
        (again k p (subst (λ (v : ℕ). InGrammar g (g.after s v) cs) (sym w) hc.1.1)
        (back_same b.raw c.raw (flat bs) (flat cs) k l (λ i lt'. e (suc i) (omega arith)))
        (omega (arith, length-append c.raw (flat cs))) t (omega arith))
