-- What is cut from a name is blank, and what is left neither begins nor ends blank. Assumes nothing.
use mathlib.Core.Path.{◌≡◌, refl, sym, ap, ◌∙◌, subst}
use Prim.Native.Nat.{ℕ, suc, ◌-◌, ◌≤◌, ◌<◌}
use native.Mathlib.Omega.{arith}
use mathlib.Core.Bool.{Bool, true, false, not, ◌&&◌, cond}
use mathlib.Core.List.{List, [], ◌∷◌, ◌++◌, reverse, reverse-cons, reverse-append, reverse-reverse, cons-ne-nil}
use borrow.Author.Tests.{lt-ltb, le-ltb}
use lib.Dec.{T}
use lib.ListN.{length, take, drop, length-drop, length-reverse, take-append-drop}
use lib.Seq.{take_at, length-take-le}
use Rattle.name_bytes.specs.Trim.{blank, prefix, kept, trim_end, trimmed, span, all_blank, Trimming}

-- ---- tests
both : (a b : Bool) → T a → T b → T (a && b)
both true b s t = t
both false b s t = s

first : (a b : Bool) → T (a && b) → T a
first true b t = tt
first false b t = t

second : (a b : Bool) → T (a && b) → T b
second true b t = t
second false b t = absurd t

never : (b : Bool) → T b → T (not b) → ⊥
never true s t = t
never false s t = s

-- ---- lists of blank bytes
join : (s t : List ℕ) → T (all_blank s) → T (all_blank t) → T (all_blank (s ++ t))
unfolding all_blank
join [] t a b = b
join (x ∷ xs) t a b = both (blank x) (all_blank (xs ++ t)) (first (blank x) (all_blank xs) a) (join xs t (second (blank x) (all_blank xs) a) b)

turned : (s : List ℕ) → T (all_blank s) → T (all_blank (reverse s))
unfolding all_blank
turned [] a = tt
turned (x ∷ xs) a = rw reverse-cons (join (reverse xs) (x ∷ []) (turned xs (second (blank x) (all_blank xs) a)) (both (blank x) true (first (blank x) (all_blank xs) a) tt))

-- ---- the blank bytes at the beginning, and what follows them
cut : (s : List ℕ) → T (all_blank (take (prefix blank s) s))
unfolding all_blank prefix
cut [] = tt
cut (b ∷ bs) = go (blank b) refl (cut bs)
  where
    go : (t : Bool) → blank b ≡ t → T (all_blank (take (prefix blank bs) bs)) → T (all_blank (take (cond t (suc (prefix blank bs)) 0) (b ∷ bs)))
    go true e h = both (blank b) (all_blank (take (prefix blank bs) bs)) (subst T (sym e) tt) h
    go false e h = tt

next : (s : List ℕ) (b : ℕ) (bs : List ℕ) → drop (prefix blank s) s ≡ b ∷ bs → T (not (blank b))
unfolding prefix
next [] b bs e = absurd (cons-ne-nil b bs (sym e))
next (x ∷ xs) b bs e = go (blank x) refl (next xs b bs) e
  where
    head : x ∷ xs ≡ b ∷ bs → x ≡ b
    head f = cc

    go : (t : Bool) → blank x ≡ t → (drop (prefix blank xs) xs ≡ b ∷ bs → T (not (blank b))) → drop (cond t (suc (prefix blank xs)) 0) (x ∷ xs) ≡ b ∷ bs → T (not (blank b))
    go true f h g = h g
    go false f h g = subst (λ (y : ℕ). T (not (blank y))) (head g) (subst (λ (t : Bool). T (not t)) (sym f) tt)

prefix_le : (s : List ℕ) → prefix blank s ≤ length s
unfolding prefix
prefix_le [] = omega arith
prefix_le (b ∷ bs) = go (blank b) (prefix_le bs)
  where
    go : (t : Bool) → prefix blank bs ≤ length bs → cond t (suc (prefix blank bs)) 0 ≤ suc (length bs)
    go true h = omega arith
    go false h = omega arith

-- ---- the blank bytes at the end are those at the beginning of what is turned round
module _ (t : List ℕ) where
  p : ℕ
  p = prefix blank (reverse t)

  abbrev rest : List ℕ
  rest = reverse (drop p (reverse t))

  abbrev last : List ℕ
  last = reverse (take p (reverse t))

  apart : t ≡ rest ++ last
  apart = sym (reverse-reverse t) ∙ ap reverse (sym (take-append-drop p (reverse t))) ∙ reverse-append (take p (reverse t)) (drop p (reverse t))

  rest_length : length rest ≡ kept t
  unfolding kept p
  rest_length = length-reverse (drop p (reverse t)) ∙ length-drop p (reverse t) ∙ ap (λ (n : ℕ). n - p) (length-reverse t)

  end_is : trim_end t ≡ rest
  end_is = ap (take (kept t)) apart ∙ take_at rest last (kept t) rest_length

  last_blank : T (all_blank last)
  unfolding p
  last_blank = turned (take p (reverse t)) (cut (reverse t))

  end_ends : (bs : List ℕ) (b : ℕ) → rest ≡ bs ++ (b ∷ []) → T (not (blank b))
  unfolding p
  end_ends bs b e = next (reverse t) b (reverse bs) (sym (reverse-reverse (drop p (reverse t))) ∙ ap reverse e ∙ reverse-append bs (b ∷ []))

-- ---- the claim
module _ (s : List ℕ) where
  n : ℕ
  n = prefix blank s

  -- what is left of the name from its first byte that is not blank on
  t : List ℕ
  t = drop n s

  part_is : trimmed s ≡ rest t
  unfolding trimmed n t
  part_is = end_is t

  t_is : t ≡ trimmed s ++ last t
  t_is = apart t ∙ ap (λ (l : List ℕ). l ++ last t) (sym part_is)

  begins : (b : ℕ) (bs : List ℕ) → trimmed s ≡ b ∷ bs → T (not (blank b))
  unfolding n t
  begins b bs e = next s b (bs ++ last t) (t_is ∙ ap (λ (l : List ℕ). l ++ last t) e)

  whole : s ≡ take n s ++ (trimmed s ++ last t)
  unfolding t
  whole = sym (take-append-drop n s) ∙ ap (λ (l : List ℕ). take n s ++ l) t_is

  place_inside : n < length s → (span s).place ≡ n
  unfolding span n
  place_inside h = simp (lt-ltb (prefix blank s) (length s) h)

  place_outside : length s ≤ n → (span s).place ≡ 0
  unfolding span n
  place_outside h = simp (le-ltb (prefix blank s) (length s) h)

  -- where the part has a byte, the name goes on behind its blank bytes
  has_more : (b : ℕ) (bs : List ℕ) → trimmed s ≡ b ∷ bs → n < length s
  unfolding t
  has_more b bs e =
      let d : length (drop n s) ≡ length s - n = length-drop n s in
      let f : length (drop n s) ≡ suc (length (bs ++ last t)) = ap length (t_is ∙ ap (λ (l : List ℕ). l ++ last t) e) in
      omega arith

  stands : (b : ℕ) (bs : List ℕ) → trimmed s ≡ b ∷ bs → (span s).place ≡ length (take n s)
  unfolding n
  stands b bs e = place_inside (has_more b bs e) ∙ sym (length-take-le (prefix blank s) s (prefix_le s))

  -- an empty part leaves nothing but blank bytes
  nothing_left : (l : List ℕ) → t ≡ l → T (all_blank l) → l ≡ []
  unfolding all_blank n t
  nothing_left [] e a = refl
  nothing_left (b ∷ bs) e a = absurd (never (blank b) (first (blank b) (all_blank bs) a) (next s b bs e))

  empty : trimmed s ≡ [] → (span s).place ≡ 0
  unfolding t
  empty e =
      let none : drop n s ≡ [] = t_is ∙ ap (λ (l : List ℕ). l ++ last t) e ∙ nothing_left (last t) (t_is ∙ ap (λ (l : List ℕ). l ++ last t) e) (last_blank t) in
      let d : length s - n ≡ 0 = sym (length-drop n s) ∙ ap length none in
      place_outside (omega arith)

pub trimming : Trimming
unfolding n
trimming s = record {
  before = take (n s) s;
  after = last (t s);
  whole = whole s;
  blank_before = cut s;
  blank_after = last_blank (t s);
  begins = begins s;
  ends = λ bs b e. end_ends (t s) bs b (sym (part_is s) ∙ e);
  stands = stands s;
  empty = empty s;
}
