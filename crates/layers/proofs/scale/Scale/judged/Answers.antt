use Rattle.std.proofs.Common.{◌≡◌, Some, Ok, sym, ap, ◌∙◌, rules}
use Rattle.std.specs.Result.{result_map_both}
use Rattle.face.specs.Faults.{passed_up}
use Rattle.face.specs.Meaning.{looked}
use Rattle.face.specs.Offers.{offered}
use Rattle.layers.proofs.Places.{longest_fits}
use Rattle.layers.proofs.ScaledAnswers.{looked_below, looked_offered}
use Rattle.layers.proofs.scale.Scale.judged.Goals as goal

pub returns-then-fits : goal.returns-then-fits
returns-then-fits g c =
    let face = c.args.self.now.face in
    let m = g.F.Face.meaning face c.args.key in
    let fits = longest_fits c.args.self.now.by _ m (g.F.Face.bounded face c.args.key) (search rules) in
    let known : offered m ≡ Ok (Some c.in-Some.known) = search rules in
    let told : looked m ≡ Ok (Some c.look-look.result) = looked_offered m _ known ∙ ap (λ l. Ok (Some l)) (sym c.look-look.ensures) in
    sym (looked_below c.args.self.now.by c.args.key m fits ∙ ap (result_map_both (λ l. l) passed_up) told)
