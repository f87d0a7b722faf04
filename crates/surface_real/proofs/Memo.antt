-- A loop that reads layers and writes their media, of which one can come again. Assumes nothing.
use mathlib.Core.Path.{◌≡◌, refl, sym, ap, ◌∙◌}
use mathlib.Core.Logic.{inl, inr}
use Prim.Native.Nat.{ℕ, ◌+◌}
use mathlib.Core.List.{List}
use lib.ListN.{set}
use lib.Ieee.{Float, binary64, lt, eq, mul, div, of_bits}
use Rattle.math_waves.proofs.Written.{written_none, written_more, written_all}
use Rattle.thin_film_solver.specs.declared.ThinFilmLayer.{ThinFilmLayer}
use Rattle.surface_real.specs.declared.Medium.{Medium}
use Rattle.surface_real.specs.declared.Seen.{Seen}
use Rattle.surface_real.specs.declared.Recent.{Recent}
use Rattle.surface_real.specs.Internal.{over, cos_theta, medium_of, unseen, no_recent, Again, Right}
use Rattle.surface_real.specs.InternalFilms.{Wrote}

module _ (snell wavelength : Float) where
  pub again : (layer : ThinFilmLayer) (earlier : Seen) (m : Medium) → earlier.medium ≡ medium_of snell wavelength earlier.layer → Again snell wavelength layer earlier m → m ≡ medium_of snell wavelength layer
  again layer earlier m right (inl e) = e
  again layer earlier m right (inr (l, e)) = e ∙ right ∙ ap (medium_of snell wavelength) (sym l)

  none : unseen.medium ≡ medium_of snell wavelength unseen.layer
  unfolding medium_of cos_theta over lt eq mul div of_bits
  none = refl

  pub begun : (t : Recent) → t ≡ no_recent → Right snell wavelength t
  begun t e = rw e (record { earlier = none; last = none })

  -- one layer more
  pub turns : (layer : ThinFilmLayer) (t r : Recent) → Right snell wavelength t → r.earlier ≡ t.last → r.last.layer ≡ layer → Again snell wavelength layer t.earlier r.last.medium
      → Right snell wavelength r × (r.last.medium ≡ medium_of snell wavelength layer)
  turns layer t r right e l told =
      let m = again layer t.earlier r.last.medium right.earlier told in
      (record { earlier = ap (λ (s : Seen). s.medium) e ∙ right.last ∙ ap (λ (s : Seen). medium_of snell wavelength s.layer) (sym e); last = m ∙ ap (medium_of snell wavelength) (sym l) }, m)

  -- ---- what the loop has written
  module _ (f : ℕ → ThinFilmLayer) (s₀ p₀ d₀ : List Float) where
    pub wrote_none : Wrote snell wavelength f 0 s₀ p₀ d₀ s₀ p₀ d₀
    wrote_none = (written_none _ _, written_none _ _, written_none _ _)

    pub wrote_more : (i : ℕ) (s p d : List Float) (m : Medium) → Wrote snell wavelength f i s₀ p₀ d₀ s p d → m ≡ medium_of snell wavelength (f i)
        → Wrote snell wavelength f (i + 1) s₀ p₀ d₀ (set s i m.eta_s) (set p i m.eta_p) (set d i m.delta)
    wrote_more i s p d m (w, v, u) e = (
      written_more _ _ _ _ _ w (ap (λ (z : Medium). z.eta_s) e),
      written_more _ _ _ _ _ v (ap (λ (z : Medium). z.eta_p) e),
      written_more _ _ _ _ _ u (ap (λ (z : Medium). z.delta) e),
    )

    pub wrote_all : (i n : ℕ) (s p d : List Float) → i ≡ n → Wrote snell wavelength f i s₀ p₀ d₀ s p d → Wrote snell wavelength f n s₀ p₀ d₀ s p d
    wrote_all i n s p d e (w, v, u) = (written_all _ _ _ _ _ e w, written_all _ _ _ _ _ e v, written_all _ _ _ _ _ e u)
