-- The claim of the grammar, from the reader of any grammar and from sheets as blocks. Assumes nothing.
use mathlib.Core.Path.{◌≡◌, refl, sym, ap, ◌∙◌, subst}
use mathlib.Core.Logic.{inl, inr}
use mathlib.Core.List.{List, [], ◌∷◌, ◌++◌, Memᴰ, append_assoc}
use Prim.Native.Nat.{ℕ, zero, suc, ◌+◌, ◌≤◌, ◌<◌}
use native.Mathlib.Omega.{arith}
use lib.Dec.{T}
use lib.ListN.{length, get_or, length-append}
use lib.Seq.{get_or_at}
use Rattle.sheet.specs.Sheet.{bytes}
use Rattle.sheet.specs.Words.{count, words_of}
use Rattle.sheet.specs.Blocks.{Block, flat, starts, Result, read, fault, mapped}
use Rattle.sheet.specs.Sheet.{Sheet, WellFormed, blocks, words, encode}
use Rattle.sheet.specs.Read.{at_open, sheet_grammar, sheet_of, decode, no_block}
use Rattle.sheet.specs.Claim.{Bytes, length_fits, Agrees, OutOfGrammar, CutOff, Fault, GrammarClaim}
use Rattle.sheet.proofs.Lists.{starts_length}
use Rattle.sheet.proofs.AnyGrammar.{Agree, Out, Cut, Outcome, whole, out, cut, walk, complete, starts_same}
use Rattle.sheet.proofs.Forward.{In, sheet_in, Live, live_after, finish, sheet_of_blocks}
use Rattle.sheet.proofs.Back.{formed}
use Rattle.sheet.proofs.Longest.{longest_one, longest_two}
use Rattle.sheet.proofs.Measure.{words_of_length, words_of_at, words_of_good, words_of_bytes, bytes_words_of, flat_good, fits_count, encode_fits}

-- ---- sheets and blocks agree alike
module _ (src : List ℕ) where
  agree_of : (x : Sheet) (n : ℕ) → Agrees x src n → Agree sheet_grammar at_open (blocks x) (words_of src) n
  agree_of x n a = record { good = sheet_in x a.formed; long = a.long; same = λ i lt. a.same i lt ∙ sym (words_of_at src i) }

  agrees_of : (x : Sheet) (n : ℕ) → WellFormed x → Agree sheet_grammar at_open (blocks x) (words_of src) n → Agrees x src n
  agrees_of x n h a = record { formed = h; long = a.long; same = λ i lt. a.same i lt ∙ words_of_at src i }

  sheet_agrees : (bs : List Block) (n : ℕ) → Agree sheet_grammar at_open bs (words_of src) n → (x : Sheet) × ((bs ≡ blocks x) × Agrees x src n)
  sheet_agrees bs n a =
      let f = formed bs a.good in
      (f.sheet, (f.is, agrees_of f.sheet n f.formed (subst (λ (z : List Block). Agree sheet_grammar at_open z (words_of src) n) f.is a)))

-- ---- what is read
pub data Decoded (src : List ℕ) : Result Sheet → Type 0 where
  sheet : (x : Sheet) → WellFormed x → encode x ≡ src → Decoded src (read x)
  at_fault : (place : ℕ) → Fault src place → Decoded src (fault place)

module _ (src : List ℕ) (bs : Bytes src) (t : T (length_fits src)) where
  out_fault : (k : ℕ) → Out sheet_grammar at_open (words_of src) k → OutOfGrammar src k
  out_fault k o =
      let b = sheet_agrees src o.before.0 k o.before.1 in
      record { inside = omega (arith, words_of_length src, o.inside); before = (b.0, b.1.1); never = λ x a. o.never (blocks x) (agree_of src x (suc k) a) }

  cut_fault : (place : ℕ) → Cut sheet_grammar at_open 0 (words_of src) place → CutOff src place
  cut_fault place c =
      let b = sheet_agrees src c.blocks (length (words_of src)) c.agree in
      let n = words_of_length src in
      record {
        sheet = b.0;
        agrees = subst (Agrees b.0 src) n b.1.1;
        longer = omega (arith, n, ap (λ (z : List Block). length (flat z)) b.1.0, c.longer);
        kind_place = subst (λ (z : List Block). Memᴰ place (starts 0 z)) b.1.0 c.kind_place;
        reached = omega (arith, n, c.reached);
        last = λ q m le. c.last q (subst (λ (z : List Block). Memᴰ q (starts 0 z)) (sym b.1.0) m) (omega (arith, n));
      }

  sheet_read : (cs : List Block) → In at_open cs → flat cs ≡ words_of src → Decoded src (read (sheet_of cs))
  unfolding encode
  sheet_read cs h e =
      let f = formed cs h in
      let s : sheet_of cs ≡ f.sheet = ap sheet_of f.is ∙ sheet_of_blocks f.sheet f.formed in
      subst (λ (x : Sheet). Decoded src (read x)) (sym s) (sheet f.sheet f.formed (ap (λ (z : List Block). bytes (flat z)) (sym f.is) ∙ ap bytes e ∙ bytes_words_of src bs (fits_count src t)))

  decoded_of : (r : Result (List Block)) → Outcome sheet_grammar at_open 0 (words_of src) r → Decoded src (mapped sheet_of r)
  decoded_of _ (whole cs h e) = sheet_read cs h e
  decoded_of _ (out place k e o) = at_fault place (inl (subst (OutOfGrammar src) (sym (zero_plus e)) (out_fault k o)))
    where
      zero_plus : place ≡ 0 + k → place ≡ k
      zero_plus e = omega arith
  decoded_of _ (cut place c) = at_fault place (inr (cut_fault place c))

  pub decoded : Decoded src (decode src)
  unfolding decode
  decoded = decoded_of _ (walk sheet_grammar Live live_after finish (suc (length (words_of src))) at_open 0 (words_of src) (omega arith) tt (words_of_good src bs))

-- ---- what is encoded
pub encode_decodes : (x : Sheet) → WellFormed x → decode (encode x) ≡ read x
unfolding decode encode
encode_decodes x h =
    let i = sheet_in x h in
    let w : words_of (encode x) ≡ words x = words_of_bytes (words x) (flat_good at_open (blocks x) i) in
    rw w (ap (mapped sheet_of) (complete sheet_grammar (suc (length (words x))) at_open 0 (blocks x) i (omega arith)) ∙ ap read (sheet_of_blocks x h))

-- ---- the place of a fault is the only one
agrees_less : (x : Sheet) (src : List ℕ) (m n : ℕ) → m ≤ n → Agrees x src n → Agrees x src m
agrees_less x src m n le a = record { formed = a.formed; long = omega (arith, a.long); same = λ i lt. a.same i (omega arith) }

cut_least : (src : List ℕ) (p q : ℕ) → CutOff src p → CutOff src q → p ≤ q
cut_least src p q c d =
    d.last p
    (starts_same sheet_grammar at_open 0 (count src) p (blocks c.sheet) (blocks d.sheet) (sheet_in c.sheet c.agrees.formed) (sheet_in d.sheet d.agrees.formed)
    (λ i lt. c.agrees.same i lt ∙ sym (d.agrees.same i lt)) d.longer c.kind_place (omega (arith, c.reached)))
    c.reached

one_fault : (src : List ℕ) (p q : ℕ) → Fault src p → Fault src q → p ≤ q
one_fault src p q (inl o) (inl o') =
    let n : ¬ (q < p) = λ lt. o'.never o.before.0 (agrees_less o.before.0 src (suc q) p lt o.before.1) in
    omega arith
one_fault src p q (inl o) (inr c) = absurd (o.never c.sheet (agrees_less c.sheet src (suc p) (count src) o.inside c.agrees))
one_fault src p q (inr c) (inl o) = absurd (o.never c.sheet (agrees_less c.sheet src (suc q) (count src) o.inside c.agrees))
one_fault src p q (inr c) (inr d) = cut_least src p q c d

module _ (src : List ℕ) (bs : Bytes src) (t : T (length_fits src)) where
  read_formed : (x : Sheet) → Decoded src (read x) → WellFormed x × (encode x ≡ src)
  read_formed x (sheet y h e) = (h, e)

  fault_fault : (place : ℕ) → Decoded src (fault place) → Fault src place
  fault_fault place (at_fault q f) = f

  where_fault : (place : ℕ) → ((x : Sheet) → WellFormed x → encode x ≡ src → ⊥) → Fault src place → {r : Result Sheet} → Decoded src r → r ≡ fault place
  where_fault place no-sheet f (sheet x h e) = absurd (no-sheet x h e)
  where_fault place no-sheet f (at_fault q g) = ap fault (omega (arith, one_fault src place q f g, one_fault src q place g f))

-- ---- the places are those of the kind words
kind_words_at : (at : ℕ) (front : List ℕ) → length front ≡ at → (bs : List Block) (i : ℕ) → i < length bs → get_or (front ++ flat bs) (get_or (starts at bs) i 0) 0 ≡ (get_or bs i no_block).word
unfolding flat starts
kind_words_at at front l [] i lt = absurd (omega arith)
kind_words_at at front l (b ∷ bs) zero lt = get_or_at front b.word (b.raw ++ flat bs) 0 at l
kind_words_at at front l (b ∷ bs) (suc i) lt =
    rw append_assoc at (kind_words_at (at + suc (length b.raw)) (front ++ (b.word ∷ b.raw)) (omega (arith, length-append front (b.word ∷ b.raw))) bs i (omega arith))

pub grammar_claim : GrammarClaim
grammar_claim = record {
  reads = λ src bs t x. (
    λ e. read_formed src bs t x (subst (Decoded src) e (decoded src bs t)),
    λ h. sym (ap decode h.1) ∙ encode_decodes x h.0,
  );
  only = λ x y hx hy e. let r : read x ≡ read y = sym (encode_decodes x hx) ∙ ap decode e ∙ encode_decodes y hy in cc;
  fits = encode_fits;
  longest_one = longest_one;
  longest_two = longest_two;
  faults = λ src bs t place. (
    λ e. (λ x h q. let z : ◌≡◌ {A = ℕ} 0 1 = cc (encode_decodes x h) in omega arith, fault_fault src bs t place (subst (Decoded src) e (decoded src bs t))),
    λ h. where_fault src bs t place h.0 h.1 (decoded src bs t),
  );
  placed = λ x. (starts_length 0 (blocks x), λ i lt. kind_words_at 0 [] refl (blocks x) i lt);
}
