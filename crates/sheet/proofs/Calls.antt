-- The calls of `sheet::new` and `sheet::word` in a walk: what each is passed, what it asks, and what is known of its result.
-- Assumes nothing.
use mathlib.Core.Path.{◌≡◌}
use Prim.Native.Nat.{ℕ}
use mathlib.Core.List.{List, [], ◌∷◌}
use lib.ListN.{length}
use seplogic.Ra.Ura.{Ura}
use mir.Syntax.{named, w64}
use mir.Val.{Val, vint}
use base.Logic.{SProp, ent, snd∗, ex_e}
use base.Fml.{Lft, Share, ftrue, flft}
use prog.Memory.{Memory}
use prog.Routine.{Routine}
use types.Logic.{Logic, sem}
use contract.Lifetimes.{Lfts}
use contract.Monad.{Fun, fact}
use types.Kit.{‵, ◌⊛◌, ⋆, ◌$◌, ◌∵◌, !, qed, move, join, fjoin, frame, done}
use denote.RattleType.{RattleType, owns}
use denote.Builtin.{u8, usize}
use denote.Ref.{Bor}
use denote.Signature.{named_lft}
use denote.Slice.{slice_val, ShrSlice}
use denote.Steps.{nothing}
use denote.Triple.Statement.{Contract}
use denote.Triple.Entry.{Vals, on_entry}
use denote.Triple.Spec.{triple_of}
use denote.Triple.Clauses.{ensured, lasts}
use Rattle.sheet.specs.Words.{word as word_of}
use Rattle.sheet.specs.declared.Reader.{Reader}
use Rattle.sheet.specs.contracts.Reader as T
use Rattle.sheet.specs.contracts.new as new
use Rattle.sheet.specs.contracts.word as word

-- the struct's type, over the signature's lifetimes
abbrev pub B : Lfts 1 → RattleType
B κs = T.the_row (named_lft 1 0 tt κs)

-- the machine value of a slice
abbrev pub lowered : Bor (List ℕ) → Val
lowered s = slice_val s.ref_ptr (length s.now)

module _ {M : Type 1} {𝓤 : Ura M} (𝓛 : Logic 𝓤) (mem : Memory → SProp 𝓤) (run : Routine → Fun 𝓤) where
  abbrev pub New : Contract 𝓤
  New = triple_of 𝓛 new.signature (new.spec 𝓛 mem run)

  abbrev pub Word : Contract 𝓤
  Word = triple_of 𝓛 word.signature (word.spec 𝓛 mem run)

module _ {M : Type 1} {𝓤 : Ura M} (𝓛 : Logic 𝓤) (mem : Memory → SProp 𝓤) (run : Routine → Fun 𝓤) (κ : Lft) (q : Share) where
  module _ (s : Bor (List ℕ)) (n : ℕ) where
    abbrev at : Vals new.signature (κ, tt)
    at = (lowered s ∷ [], (vint w64 n ∷ [], tt))

    abbrev pub to_new : (New 𝓛 mem run).Ghost
    to_new = (((κ, tt), (q, tt), tt, (s, (n, tt)), at), tt)

    pub goes_new : ent 𝓤 (on_entry 𝓛 new.signature (κ, tt) (q, tt) (s, (n, tt)) at) ((New 𝓛 mem run).pre to_new)
    goes_new = qed 𝓛 ((‵ (flft κ q) ⊛ ‵ ftrue) ∷ ‵ (owns (ShrSlice (named 0) κ u8 ∷ usize ∷ []) (s, (n, tt)) at) ∷ []) ∵ join ! $ frame ! $ done !

    pub new_said : (r : Reader) → ent 𝓤 (ensured 𝓛 new.ended (new.clauses 𝓛 mem run) (κ, tt) (s, (n, tt)) tt r) (fact 𝓤 ((r.src ≡ s) × (r.at ≡ n)))
    new_said r = ex_e 𝓤 _ (λ ws. snd∗ 𝓤 (sem 𝓛 (lasts new.ended (κ, tt) (s, (n, tt)) ws)) (fact 𝓤 ((r.src ≡ s) × (r.at ≡ n))))

  module _ (r : Reader) where
    abbrev pub to_word : Val → (Word 𝓛 mem run).Ghost
    to_word u = (((κ, tt), (q, tt), tt, (r, tt), (u ∷ [], tt)), tt)

    pub goes_word : (u : Val) → ent 𝓤 (⋆ 𝓛 (‵ ((B (κ, tt)).own_val r (u ∷ [])) ∷ (‵ (flft κ q) ⊛ ‵ ftrue) ∷ [])) ((Word 𝓛 mem run).pre (to_word u))
    goes_word u = qed 𝓛 (‵ ((B (κ, tt)).own_val r (u ∷ [])) ∷ (‵ (flft κ q) ⊛ ‵ ftrue) ∷ []) ∵ nothing ! $ move ! (1 ∷ 0 ∷ []) $ fjoin ! $ move ! (1 ∷ 0 ∷ []) $ join ! $ frame ! $ done !

    pub word_said : (t : ℕ) → ent 𝓤 (ensured 𝓛 word.ended (word.clauses 𝓛 mem run) (κ, tt) (r, tt) tt t) (fact 𝓤 (t ≡ word_of r.src.now r.at))
    word_said t = ex_e 𝓤 _ (λ ws. snd∗ 𝓤 (sem 𝓛 (lasts word.ended (κ, tt) (r, tt) ws)) (fact 𝓤 (t ≡ word_of r.src.now r.at)))
