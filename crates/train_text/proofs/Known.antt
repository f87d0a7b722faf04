-- Known lines and a known text, computed. Assumes nothing.
use mathlib.Core.Path.{refl}
use lib.Ieee.{neg, add, sub, mul, div, rem, eq, lt, le, of_bits, to_bits, of_int}
use Rattle.ieee.specs.Functions.{abs, max, clamp, finite_positive}
use Rattle.whole_nearest.specs.Nearest.{nearest_whole}
use Rattle.math_root.specs.Root.{square_root}
use Rattle.math_trig.specs.Trig as Trig
use Rattle.fresnel.specs.Fresnel as Fresnel
use Rattle.thin_film_complex.specs.Complex.{real}
use Rattle.thin_film_solver.specs.Absorptance.{with_absorptance}
use Rattle.thin_film_solver.specs.Solve as Solve
use Rattle.thin_film_valid.specs.Valid.{valid}
use Rattle.thin_film_layers.specs.Evaluation.{ordered}
use Rattle.thin_film_coating.specs.Evaluate.{rust_respond, rust_evaluate_coating}
use Rattle.thin_film.specs.Coating.{layers_of}
use Rattle.thin_film.specs.Evaluate.{rust_evaluate_surface, evaluate_surface}
use Rattle.polarization.specs.Surface as Polarization
use Rattle.gate_limits.specs.Coating.{coded, interface}
use Rattle.surface.specs.Answers.{assembled, coated_powers, coated_answers, bare_powers, bare_answers, answers_of}
use Rattle.gate.specs.Gate.{gated}
use Rattle.train_steps.specs.Train.{chosen_powers, after_one}
use Rattle.train_text.specs.Text.{hex, pattern, bits, digits, decimal, surface_line, sum_line, refused_line, lines, text, train_text}
use Rattle.train_text.specs.Known.{TextKnown}

pub text_known : TextKnown
unfolding train_text text lines refused_line sum_line surface_line decimal digits bits pattern hex gated after_one chosen_powers answers_of bare_answers bare_powers coated_answers coated_powers assembled interface coded evaluate_surface rust_evaluate_surface layers_of ordered rust_evaluate_coating rust_respond with_absorptance Solve.rust_respond valid real Polarization.indices_valid Polarization.surface_fresnel_jones Fresnel.fresnel_dielectric Fresnel.refracted Fresnel.power Fresnel.sin2_t Fresnel.cos_t Trig.cos Trig.cos_of Trig.cos_at Trig.fold Trig.wrap Trig.first_line Trig.reduce Trig.less_turns Trig.series nearest_whole square_root abs max clamp finite_positive rem lt le eq add sub mul div neg of_bits to_bits of_int
text_known = record { reflected = refl; transmitted = refl; sum = refl; refused = refl; no_bytes = refl; of_several = refl }
