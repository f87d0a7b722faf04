-- `c_call::place_common` meets its contract. Assumes nothing.
use mathlib.Core.Path.{◌≡◌, ap, ◌∙◌}
use mathlib.Core.List.{List, [], ◌++◌}
use Prim.Native.Nat.{ℕ, ◌+◌}
use lib.ListN.{length, take, drop}
use lib.Ieee.{Float}
use Rattle.surface.specs.declared.Answers.{Answers}
use Rattle.c_call.specs.Layout.{jones_numbers, mueller_numbers, head, common}
use Rattle.c_call.proofs.Front.{nothing, more}
use borrow.Author.Rules.{rules}
use Rattle.c_call.proofs.place_common.Goals as goal

abbrev Placed : ℕ → List Float → List Float → List Float → Type 0
Placed at numbers list next = next ≡ take at list ++ numbers ++ drop (at + length numbers) list

module _ (a : Answers) (l₀ l₁ l₂ l₃ l₄ l₅ h j k m t : List Float) (eh : h ≡ head a) (ej : j ≡ jones_numbers a.reflection) (ek : k ≡ jones_numbers a.transmission) (em : m ≡ mueller_numbers a.reflection_mueller) (et : t ≡ mueller_numbers a.transmission_mueller)
    (p₁ : Placed 0 h l₀ l₁) (p₂ : Placed 5 j l₁ l₂) (p₃ : Placed 13 k l₂ l₃) (p₄ : Placed 21 m l₃ l₄) (p₅ : Placed 37 t l₄ l₅) where
  all : l₅ ≡ common a ++ drop 53 l₀
  all =
      let f₁ = more l₀ l₀ [] 0 (nothing l₀) h 5 (ap length eh) l₁ p₁ in
      let f₂ = more l₀ l₁ h 5 f₁ j 8 (ap length ej) l₂ p₂ in
      let f₃ = more l₀ l₂ (h ++ j) 13 f₂ k 8 (ap length ek) l₃ p₃ in
      let f₄ = more l₀ l₃ (h ++ j ++ k) 21 f₃ m 16 (ap length em) l₄ p₄ in
      let f₅ = more l₀ l₄ (h ++ j ++ k ++ m) 37 f₄ t 16 (ap length et) l₅ p₅ in
      f₅.is ∙ rw (eh, ej, ek, em, et)

pub returns : goal.returns
returns c =
    all c.args.a _ _ _ _ _ _ _ _ _ _ _ c.head-first.ensures c.jones-j.ensures c.jones-k.ensures c.mueller-m.ensures c.mueller-t.ensures c.place.ensures c.place-2.ensures c.place-3.ensures c.place-4.ensures c.place-5.ensures
