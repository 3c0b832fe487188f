use Rattle.std.proofs.Common.{◌≡◌, true, rules}
use Rattle.layers.specs.Answers.{judged_below}
use Rattle.layers.proofs.Places.{longest_fits}
use Rattle.layers.proofs.ScaledAnswers.{is_known, entries_scaled, none_too_long}
use Rattle.layers.proofs.scale.Scale.scales.Goals as goal

pub returns-then-fits : goal.returns-then-fits
returns-then-fits g c =
    let m = g.F.Face.meaning c.args.self.now.face c.args.key in
    rw c.if-fits.true
    (entries_scaled _ c.args.key m (longest_fits _ _ m (g.F.Face.bounded c.args.self.now.face c.args.key) (search rules)))

pub returns-in-Ok-Some : goal.returns-in-Ok-Some
returns-in-Ok-Some g c =
    let m = g.F.Face.meaning c.args.self.now.face c.args.key in
    let k = c.args.self.now.by in
    let known : is_known (judged_below k c.args.key m) ≡ true = search rules in
    entries_scaled k c.args.key m (none_too_long k c.args.key m known)
