-- The first line of a text, and the lines after it.
use Rattle.std.proofs.Common.{◌≡◌, ℕ, ◌<◌, List, [], ◌∷◌, length, unwrap_or, refl, ap, arith}
use Rattle.std.proofs.lemmas.Grind.{common_steps}
use Rattle.text.specs.Cuts.{before, after}
use Rattle.text.specs.Lines.{onto, lines}

pub first_line : (text : List ℕ) → 0 < length text → lines text ≡ before 10 text ∷ lines (unwrap_or (after 10 text) [])
first_line [] some = absurd (omega arith)
first_line (b ∷ []) some = grind (arith, common_steps)
first_line (b ∷ d ∷ ds) some = grind (arith, common_steps, ap (onto b) (first_line (d ∷ ds) (omega arith)))

-- what follows the first line is shorter
pub rest_shorter : (text rest : List ℕ) → rest ≡ unwrap_or (after 10 text) [] → 0 < length text → length rest < length text
rest_shorter [] rest is some = absurd (omega arith)
rest_shorter (b ∷ []) rest is some = rw is (grind (arith, common_steps))
rest_shorter (b ∷ d ∷ ds) rest is some = rw is (grind (arith, common_steps, rest_shorter (d ∷ ds) _ refl))
