-- Numbers and lines as they are printed.
use mathlib.Core.Path.{◌≡◌, refl}
use mathlib.Core.List.{[], ◌∷◌}
use Rattle.rules.specs.declared.Call.TheVariants.{Create, Seek}
use Rattle.texts.specs.Texts.{bytes, digits, places, decimal, octal, listed}
use Rattle.texts.specs.Results.{spelling, result_text, refused_text}

pub decimal-0 : decimal 0 ≡ bytes "0"
unfolding decimal digits places bytes
decimal-0 = refl

pub decimal-262143 : decimal 262143 ≡ bytes "262143"
unfolding decimal digits places bytes
decimal-262143 = refl

pub decimal-top : decimal 18446744073709551615 ≡ bytes "18446744073709551615"
unfolding decimal digits places bytes
decimal-top = refl

-- the number 070001 is 28673
pub octal-070001 : octal 28673 ≡ bytes "070001"
unfolding octal digits bytes
octal-070001 = refl

pub seek-line : result_text (Seek 0) (record { number = 0; count = 3; shown = 20 ∷ 3 ∷ 4 ∷ [] }) ≡ bytes "SEEK 000000 3 20 3 4\n"
unfolding result_text spelling octal listed decimal digits places bytes
seek-line = refl

pub refused-line : refused_text Create ≡ bytes "CREATE 020007 0\n"
unfolding refused_text spelling bytes
refused-line = refl
