-- 02 slip 1: what some texts give, each computed in proofs/Known.antt. Definitions only.
use Rattle.std.specs.Prelude.{◌≡◌, List, [], ◌∷◌, ◌++◌, ℕ}
use Rattle.refusal.specs.Outcome.{answer, refusal}
use Rattle.thin_film_grammar.specs.declared.Film.{Film}
use Rattle.thin_film_grammar.specs.Films.{film, times}
use Rattle.thin_film_grammar.specs.Reading.{reading}

abbrev pub H : Film
H = film 0 0

abbrev pub L : Film
L = film 1 0

abbrev pub M : Film
M = film 2 0

pub record KnownReadings : Type 0 where
  -- (HL)^7 H: 'we type fifteen layers'
  pub mirror : reading (0x28 ∷ 0x48 ∷ 0x4C ∷ 0x29 ∷ 0x5E ∷ 0x37 ∷ 0x20 ∷ 0x48 ∷ []) ≡ answer (times 7 (H ∷ L ∷ []) ++ (H ∷ []))
  -- 2H^3: 'three double layers'
  pub doubles : reading (0x32 ∷ 0x48 ∷ 0x5E ∷ 0x33 ∷ []) ≡ answer (film 0 2 ∷ film 0 2 ∷ film 0 2 ∷ [])
  -- 99M and M^31
  pub highest : reading (0x39 ∷ 0x39 ∷ 0x4D ∷ 0x4D ∷ 0x5E ∷ 0x33 ∷ 0x31 ∷ []) ≡ answer (film 2 99 ∷ times 31 (M ∷ []))
  -- HH: neighbours of one letter stay separate
  pub neighbours : reading (0x48 ∷ 0x48 ∷ []) ≡ answer (H ∷ H ∷ [])
  -- 2 H ^ 3 with spaces
  pub spaces : reading (0x32 ∷ 0x20 ∷ 0x48 ∷ 0x20 ∷ 0x5E ∷ 0x20 ∷ 0x33 ∷ []) ≡ answer (film 0 2 ∷ film 0 2 ∷ film 0 2 ∷ [])
  -- H^3 2H
  pub numbers_apart : reading (0x48 ∷ 0x5E ∷ 0x33 ∷ 0x20 ∷ 0x32 ∷ 0x48 ∷ []) ≡ answer (H ∷ H ∷ H ∷ film 0 2 ∷ [])
  -- H^32H is wrong at its 2
  pub touching : reading (0x48 ∷ 0x5E ∷ 0x33 ∷ 0x32 ∷ 0x48 ∷ []) ≡ refusal 9 3
  -- 1 2H is wrong at its 2
  pub number_with_a_space : reading (0x31 ∷ 0x20 ∷ 0x32 ∷ 0x48 ∷ []) ≡ refusal 9 2
  -- 100H is wrong at its second 0
  pub hundred : reading (0x31 ∷ 0x30 ∷ 0x30 ∷ 0x48 ∷ []) ≡ refusal 9 2
  -- 0H is wrong at once
  pub leading_zero : reading (0x30 ∷ 0x48 ∷ []) ≡ refusal 9 0
  -- 2(H) is wrong at the bracket
  pub number_before_a_bracket : reading (0x32 ∷ 0x28 ∷ 0x48 ∷ 0x29 ∷ []) ≡ refusal 9 1
  -- () is wrong at its end
  pub empty_bracket : reading (0x28 ∷ 0x29 ∷ []) ≡ refusal 9 1
  -- H^2^2 is wrong at the second ^
  pub two_powers : reading (0x48 ∷ 0x5E ∷ 0x32 ∷ 0x5E ∷ 0x32 ∷ []) ≡ refusal 9 3
  -- (((((H is wrong at the fifth bracket
  pub fifth_bracket : reading (0x28 ∷ 0x28 ∷ 0x28 ∷ 0x28 ∷ 0x28 ∷ 0x48 ∷ []) ≡ refusal 9 4
  -- h and a tab are wrong
  pub lower_case : reading (0x68 ∷ []) ≡ refusal 9 0
  pub tab : reading (0x48 ∷ 0x09 ∷ 0x4C ∷ []) ≡ refusal 9 1
  -- nothing, spaces alone, (H, 2 and H^ stop early
  pub nothing : reading [] ≡ refusal 9 0
  pub blanks : reading (0x20 ∷ 0x20 ∷ []) ≡ refusal 9 2
  pub unclosed : reading (0x28 ∷ 0x48 ∷ []) ≡ refusal 9 2
  pub number_alone : reading (0x32 ∷ []) ≡ refusal 9 1
  pub no_power : reading (0x48 ∷ 0x5E ∷ []) ≡ refusal 9 2
  -- (H^31)^2 M^2 has 64 layers, (H^31)^2 M^3 one more
  pub sixty_four : reading (0x28 ∷ 0x48 ∷ 0x5E ∷ 0x33 ∷ 0x31 ∷ 0x29 ∷ 0x5E ∷ 0x32 ∷ 0x4D ∷ 0x5E ∷ 0x32 ∷ [])
      ≡ answer (times 62 (H ∷ []) ++ (M ∷ M ∷ []))
  pub sixty_five : reading (0x28 ∷ 0x48 ∷ 0x5E ∷ 0x33 ∷ 0x31 ∷ 0x29 ∷ 0x5E ∷ 0x32 ∷ 0x4D ∷ 0x5E ∷ 0x33 ∷ []) ≡ refusal 10 0
  -- 10 after 9: (H^31)^3 ) is wrong at its end
  pub nine_first : reading (0x28 ∷ 0x48 ∷ 0x5E ∷ 0x33 ∷ 0x31 ∷ 0x29 ∷ 0x5E ∷ 0x33 ∷ 0x29 ∷ []) ≡ refusal 9 8
