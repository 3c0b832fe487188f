use Rattle.std.proofs.Common.{rules, ap, ◌∙◌, ◌*◌, Some, not, leb}
use Rattle.std.proofs.lemmas.Iterator.{YieldsList-from_map}
use Rattle.std.proofs.lemmas.Iterator.Adapters.{YieldsList-from_once, position_from-zero}
use Rattle.std.proofs.lemmas.Iterator.Consumers.{YieldsList-from_first, YieldsList-from_chain}
use Rattle.std.proofs.lemmas.Iterator.Search.{position_from_yields_List}
use Rattle.face.specs.Bounds.{LARGEST}
use Rattle.face.specs.declared.looks.Look.{Look}
use Rattle.layers.specs.Scaling.{lengths}
use Rattle.layers.proofs.scale.Scale.first_too_long.Goals as goal

-- each adapter's list, from the least overlap on, and where the first of them does not fit
pub returns-clause-first : goal.returns-clause-first
returns-clause-first g c =
    let test = λ (x : _). not (leb (c.args.self.now.by * x) LARGEST) in
    position_from_yields_List test _ _ _ c.position.ensures.ran
    (YieldsList-from_chain
    (YieldsList-from_chain (YieldsList-from_once (Some c.args.offer.now.least) (cc (ap (λ (l : Look). l.least) c.look.ensures)))
    (YieldsList-from_map _ (λ v. v.advance) (YieldsList-from_first (λ x. x) (λ s. s) c.args.offer.now.variants (cc)) (cc) (λ x r q k. search rules)) (cc) (cc))
    (YieldsList-from_map _ (λ p. p.full) (YieldsList-from_first (λ x. x) (λ s. s) c.args.offer.now.parts (cc)) (cc) (λ x r q k. search rules)) (cc) (cc))
    (λ x b q k. search rules)
    ∙ position_from-zero test (lengths c.args.offer.now)
