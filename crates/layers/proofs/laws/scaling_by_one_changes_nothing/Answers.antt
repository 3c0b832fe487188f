use Rattle.layers.proofs.Unchanging.{scaled_once}
use Rattle.layers.proofs.laws.scaling_by_one_changes_nothing.Goals as goal

pub returns : goal.returns
returns g c key =
    let face = c.args.face.now in
    scaled_once (g.F.Face.reach face) (g.F.Face.largest face) key (g.F.Face.meaning face key) (g.F.Face.bounded face key)
