-- From what a run returned to the text, and from the text to the buffer. Assumes nothing.
use mathlib.Core.Path.{◌≡◌, refl, sym, ap, ◌∙◌, subst}
use mathlib.Core.Bool.{Bool, true, false, cond}
use mathlib.Core.List.{List, ◌++◌}
use Prim.Native.Nat.{ℕ, ◌+◌, ◌*◌, ◌≤◌, ◌<◌}
use native.Mathlib.Omega.{arith}
use borrow.Author.Tests.{leb-true, lt-leb, le-leb}
use lib.Dec.{leb}
use lib.ListN.{length, take, drop}
use lib.Ieee.{Float}
use Rattle.refusal.specs.Outcome.{Outcome, answer, refusal, map}
use Rattle.sheet.specs.Sheet.{Sheet}
use Rattle.gate.specs.Gate.{gated}
use Rattle.train_steps.specs.declared.State.{State}
use Rattle.train_steps.specs.Train.{fresh, start, after_each, Ran, ran, run}
use Rattle.train_text.specs.Text.{refused_line, text, with_room, train_text, Left, written}
use Rattle.train_text.specs.Page.{Appended, RunOf}

never : {A : Type 0} → ◌≡◌ {A = ℕ} 0 1 → A
never e = absurd (omega arith)

-- ---- a fresh train
fresh_of : (src : List ℕ) (x : Sheet) (st : State) → answer st ≡ start src → gated src ≡ answer x → st ≡ fresh x
unfolding start
fresh_of src x st e f = let g : answer st ≡ answer (fresh x) = e ∙ ap (map fresh) f in cc

pub restart : (src : List ℕ) (x : Sheet) (st : State) (count : ℕ) (list : List Float) → answer st ≡ start src → RunOf src x (fresh x).s (fresh x).p count list → RunOf src x st.s st.p count list
restart src x st count list e run = record {
  is = run.is;
  begins_s = ap (λ (z : State). z.s) (fresh_of src x st e run.is);
  begins_p = ap (λ (z : State). z.p) (fresh_of src x st e run.is);
  counts = run.counts;
  rest = run.rest;
  wrote = run.wrote;
}

pub not_refused : {A : Type 0} (src : List ℕ) (x : Sheet) (number place : ℕ) → refusal number place ≡ start src → gated src ≡ answer x → A
unfolding start
not_refused src x number place e f = let g : refusal number place ≡ answer (fresh x) = e ∙ ap (map fresh) f in never (cc)

-- ---- a run into a list of 128 places
module _ (src : List ℕ) (list : List Float) (long : length list ≡ 128) where
  room : (n : ℕ) (o : Outcome Sheet) → answer n ≡ (ran list o).result → 2 * n ≤ length list
  room n (refusal number place) e = never (cc)
  room n (answer x) e = go (leb (2 * length x.surfaces) (length list)) _ refl e
    where
      go : (b : Bool) (rest : List Float) → leb (2 * length x.surfaces) (length list) ≡ b → answer n ≡ (cond {A = Ran} b (record { result = answer (length x.surfaces); list = rest }) (record { result = refusal 8 0; list = list })).result → 2 * n ≤ length list
      go true rest h e = let q : n ≡ length x.surfaces = cc in omega (arith, leb-true (2 * length x.surfaces) (length list) h)
      go false rest h e = never (cc)

  module _ (out : List Float) (g : Outcome ℕ) (e : record { result = g; list = out } ≡ run src list) where
    pub had_room : (n : ℕ) → g ≡ answer n → n ≤ 64
    unfolding run
    had_room n q = omega (arith, room n (gated src) (sym q ∙ ap (λ (r : Ran). r.result) e))

    -- the text of a sheet that ran
    pub ran_text : {p q : List ℕ} {r : ℕ} (n : ℕ) → g ≡ answer n → ((x : Sheet) → RunOf src x (fresh x).s (fresh x).p n out → Appended p 0 (text (answer x)) r q) → Appended p 0 (train_text src) r q
    unfolding run train_text
    ran_text {p} {q} {r} n is h = go (gated src) refl e
      where
        at : (x : Sheet) → gated src ≡ answer x → (b : Bool) → leb (2 * length x.surfaces) (length list) ≡ b
            → record { result = g; list = out } ≡ cond {A = Ran} b (record { result = answer (length x.surfaces); list = after_each (fresh x) x.surfaces ++ drop (2 * length x.surfaces) list }) (record { result = refusal 8 0; list = list })
            → Appended p 0 (text (cond b (answer x) (refusal 8 0))) r q
        at x f true t d =
            let k : answer (length x.surfaces) ≡ answer n = sym (ap (λ (z : Ran). z.result) d) ∙ is in
            h x (record {
              is = f;
              begins_s = refl;
              begins_p = refl;
              counts = cc;
              rest = drop (2 * length x.surfaces) list;
              wrote = ap (λ (z : Ran). z.list) d;
            })
        at x f false t d = let k : refusal 8 0 ≡ answer n = sym (ap (λ (z : Ran). z.result) d) ∙ is in never (cc)

        go : (o : Outcome Sheet) → gated src ≡ o → record { result = g; list = out } ≡ ran list o → Appended p 0 (text (with_room o)) r q
        go (answer x) f d =
            subst (λ (k : ℕ). Appended p 0 (text (cond (leb (2 * length x.surfaces) k) (answer x) (refusal 8 0))) r q) long
            (at x f (leb (2 * length x.surfaces) (length list)) refl d)
        go (refusal number place) f d = let k : refusal number place ≡ answer n = sym (ap (λ (z : Ran). z.result) d) ∙ is in never (cc)

    -- and of one that did not
    pub refused_text : (number place : ℕ) → g ≡ refusal number place → refused_line number place ≡ train_text src
    unfolding run train_text text
    refused_text number place is = go (gated src) e
      where
        line : (a b c d : ℕ) → ◌≡◌ {A = Outcome ℕ} (refusal a b) (refusal c d) → refused_line a b ≡ refused_line c d
        line a b c d k = let l : a ≡ c = cc in let m : b ≡ d = cc in ap (λ (z : ℕ). refused_line z b) l ∙ ap (refused_line c) m

        at : (x : Sheet) (b : Bool) (rest : List Float)
            → record { result = g; list = out } ≡ cond {A = Ran} b (record { result = answer (length x.surfaces); list = rest }) (record { result = refusal 8 0; list = list })
            → refused_line number place ≡ text (cond b (answer x) (refusal 8 0))
        at x true rest d = let k : answer (length x.surfaces) ≡ refusal number place = sym (ap (λ (z : Ran). z.result) d) ∙ is in never (cc)
        at x false rest d = line number place 8 0 (sym is ∙ ap (λ (z : Ran). z.result) d)

        go : (o : Outcome Sheet) → record { result = g; list = out } ≡ ran list o → refused_line number place ≡ text (with_room o)
        go (answer x) d =
            subst (λ (k : ℕ). refused_line number place ≡ text (cond (leb (2 * length x.surfaces) k) (answer x) (refusal 8 0))) long
            (at x (leb (2 * length x.surfaces) (length list)) _ d)
        go (refusal a b) d = line number place a b (sym is ∙ ap (λ (z : Ran). z.result) d)

-- ---- a lent buffer
module _ (t buffer : List ℕ) where
  pub too_short : (n : ℕ) → n ≡ 0 + length t → length buffer < n → record { result = refusal 8 0; buffer = buffer } ≡ written t buffer
  unfolding written
  too_short n e h = let l : length buffer < length t = omega arith in rw (lt-leb (length t) (length buffer) l)

  pub fits : (p page out : List ℕ) (n : ℕ) → Appended p 0 t n page → n ≤ length buffer → out ≡ take n page ++ drop (length (take n page)) buffer → record { result = answer n; buffer = out } ≡ written t buffer
  unfolding written
  fits p page out n a h e =
      let k : n ≡ length t = omega (arith, a.counts) in
      let l : length t ≤ length buffer = omega arith in
      let f : out ≡ t ++ drop (length t) buffer = e ∙ ap (λ (z : List ℕ). z ++ drop (length z) buffer) a.front in
      rw (le-leb (length t) (length buffer) l) (ap (λ (m : ℕ). record { result = answer m; buffer = out }) k ∙ ap (λ (z : List ℕ). record { result = answer (length t); buffer = z }) f)

  -- what is written fits
  pub written_fits : (out : List ℕ) (g : Outcome ℕ) (n : ℕ) → record { result = g; buffer = out } ≡ written t buffer → g ≡ answer n → n ≤ length buffer
  unfolding written
  written_fits out g n e is = go (leb (length t) (length buffer)) refl e
    where
      go : (b : Bool) → leb (length t) (length buffer) ≡ b → record { result = g; buffer = out } ≡ cond {A = Left} b (record { result = answer (length t); buffer = t ++ drop (length t) buffer }) (record { result = refusal 8 0; buffer = buffer }) → n ≤ length buffer
      go true h d =
          let k : answer (length t) ≡ answer n = sym (ap (λ (z : Left). z.result) d) ∙ is in
          let l : length t ≡ n = cc in
          omega (arith, leb-true (length t) (length buffer) h)
      go false h d = let k : refusal 8 0 ≡ answer n = sym (ap (λ (z : Left). z.result) d) ∙ is in never (cc)
