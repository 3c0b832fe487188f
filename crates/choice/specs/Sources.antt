-- The pieces of a sign that are still to come. This serves private code.
use Rattle.std.specs.Prelude.{List, [], ◌∷◌, Some, None}
use Rattle.choice.specs.declared.placing.Piece.{Piece}
use Rattle.choice.specs.declared.placing.Source.{Source}
use Rattle.choice.specs.declared.placing.Source.TheVariants.{Ready, Stacked}

-- a ready-made piece, if it is still to come, or those of a stack
abbrev pub to_come : {F Found : Type 0} → Source F Found → List Piece
to_come (Ready None) = []
to_come (Ready (Some p)) = p ∷ []
to_come (Stacked ps) = ps
