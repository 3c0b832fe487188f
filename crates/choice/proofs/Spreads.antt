-- The assembly of a size, if there is one.
use Rattle.std.proofs.Common.{◌≡◌, ℕ, suc, ◌-◌, ◌≤◌, true, List, [], ◌∷◌, length, Some, Option, refl, ap, ◌∙◌, arith}
use Rattle.std.proofs.lemmas.Bool.{true_from_ne_false}
use Rattle.face.specs.declared.parts.Part.{Part}
use Rattle.choice.specs.declared.slacks.TheConstants.{MOST_JOINTS}
use Rattle.choice.specs.Assemblies.{pieces, mosts_from, mosts}
use Rattle.choice.specs.Spans.{possible, span}
use Rattle.choice.specs.Walking.{excess_in}
use Rattle.choice.proofs.Sizing.{possible_parts}

length_mosts_from : (a : Part) (ps : List Part) → length (mosts_from a ps) ≡ length ps
length_mosts_from a [] = refl
length_mosts_from a (p ∷ ps) = ap suc (length_mosts_from p ps)

length_mosts : (ps : List Part) → length (mosts ps) ≡ length ps - 1
length_mosts [] = omega arith
length_mosts (a ∷ ps) = omega (arith, length_mosts_from a ps)

-- where a size lies in the span of a repeat count, an assembly is possible there, and has few joints
pub few_joints : (least : ℕ) (parts : List Part) (r z e : ℕ) (o : Option (ℕ × ℕ)) → o ≡ span least parts r → Some e ≡ excess_in o z → length (mosts (pieces r parts)) ≤ MOST_JOINTS
few_joints least parts r z e o is fits =
    let can : possible least parts r ≡ true = true_from_ne_false (possible least parts r) (λ cannot. let none = rw cannot at is in let absent = fits ∙ ap (λ s. excess_in s z) none in cc) in
    omega (arith, length_mosts (pieces r parts), (possible_parts least parts r can).few)
