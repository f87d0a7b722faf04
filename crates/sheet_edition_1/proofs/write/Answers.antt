-- `sheet_edition_1::write` meets its contract. The loop's invariant: what comes of the blocks so far stands at the front. Assumes nothing.
use mathlib.Core.Path.{◌≡◌, refl, sym, ap, ◌∙◌}
use mathlib.Core.List.{List, ◌++◌}
use Prim.Native.Nat.{ℕ, ◌+◌, ◌*◌, ◌≤◌, ◌<◌}
use native.Mathlib.Omega.{arith}
use lib.ListN.{length, drop}
use lib.Seq.{sets, length-sets}
use lib.Ieee.{Float}
use Rattle.refusal.specs.Outcome.{answer}
use Rattle.sheet.specs.Words.{count}
use Rattle.sheet.specs.Sheet.{Sheet, bytes, encode}
use Rattle.sheet.specs.Internal.{next_place}
use Rattle.sheet.proofs.WordBytes.{length_bytes}
use Rattle.sheet.proofs.Stands.{Known}
use Rattle.sheet_values.specs.declared.Beam.{Beam}
use Rattle.sheet_values.specs.Internal.{beam_at}
use Rattle.sheet_values.proofs.Here.{beam_here}
use Rattle.gate.specs.Gate.{gated}
use Rattle.gate.proofs.Admitted.{gives}
use Rattle.sheet_edition_1.specs.Edition.{translated}
use Rattle.sheet_edition_1.specs.Internal.{new_size, new_words, Room}
use Rattle.sheet_edition_1.proofs.NewBlocks.{less_left}
use Rattle.sheet_edition_1.proofs.Walk.{all, one_on, wrote_first, wrote_on, wrote_all}
use Rattle.sheet_edition_1.proofs.write.Invariants.{Before}
use Rattle.sheet_edition_1.proofs.write.Goals as goal

begun : (src output : List ℕ) → Known src → (b : Beam) → b ≡ beam_at src (next_place src 0) → Before src output output b.wavelength_nm 0 0
begun src output known b is = record {
  long = refl;
  beam = λ x g. ap (λ (z : Beam). z.wavelength_nm) (is ∙ beam_here src x (gives src known x g).0);
  wrote = λ x g. wrote_first src output x (gives src known x g).0;
}

words_fit : (x : Sheet) (output : List ℕ) → length (encode (translated x)) ≤ length output → 4 * length (all x) ≤ length output
unfolding encode
words_fit x output h = omega (arith, length_bytes (all x))

module _ (src output₀ output : List ℕ) (w : Float) (at to : ℕ) (b : Before src output₀ output w at to) where
  has_room : Room src output₀ → at < count src → (next_place src at ≤ count src) × (4 * (to + new_size src at) ≤ length output)
  has_room r lt =
      let o = one_on src r.sheet at to lt (b.wrote r.sheet r.is).half in
      (o.inside, omega (arith, o.room, words_fit r.sheet output₀ r.room, b.long))

  further : at < count src → (next : List ℕ) (on : ℕ) → (next ≡ sets output (4 * to) (bytes (new_words w src at))) × (on ≡ to + new_size src at) → (q : ℕ) → q ≡ next_place src at → Before src output₀ next w q on
  further lt next on is q q-is = record {
    long = ap length is.0 ∙ length-sets output (4 * to) (bytes (new_words w src at)) ∙ b.long;
    beam = b.beam;
    wrote = λ x g. wrote_on src output₀ output x at to (b.wrote x g) lt w (b.beam x g) next is.0 on is.1 q q-is;
  }

  whole : Room src output₀ → count src ≤ at → (x : Sheet) → gated src ≡ answer x → output ≡ encode (translated x) ++ drop (length (encode (translated x))) output₀
  whole r le x g =
      let e : r.sheet ≡ x = same (sym r.is ∙ g) in
      wrote_all src output₀ output x at to (b.wrote x g) le (rw e at r.room)
    where
      same : {y : Sheet} → answer y ≡ answer x → y ≡ x
      same p = cc

pub loop-at-init : goal.loop-at-init
loop-at-init c = begun _ _ c.type_inv.src _ c.beam_of-beam.ensures

pub put_block-to-requires : goal.put_block-to-requires
put_block-to-requires c = has_room _ _ _ _ _ _ c.loop-at.invariant c.requires c.loop-at-test.true

pub loop-at-smaller : goal.loop-at-smaller
loop-at-smaller c = less_left _ _ _ c.loop-at-test.true c.next_place-at.ensures

pub loop-at-preserved : goal.loop-at-preserved
loop-at-preserved c = further _ _ _ _ _ _ c.loop-at.invariant c.loop-at-test.true _ _ c.put_block-to.ensures _ c.next_place-at.ensures

pub shape_of-output : goal.shape_of-output
shape_of-output c = c.loop-at.invariant.long

pub returns : goal.returns
returns c = whole _ _ _ _ _ _ c.loop-at.invariant c.requires c.loop-at-test.false
