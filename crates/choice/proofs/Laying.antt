-- How the pieces of an assembly that is taken lie.
use Rattle.std.proofs.Common.{◌≡◌, ℕ, zero, suc, ◌+◌, ◌-◌, ◌≤◌, true, List, [], ◌∷◌, map, length, Some, sym, refl, ap, ◌∙◌, arith}
use Rattle.std.proofs.lemmas.Bool.{and_from, le-leb}
use Rattle.std.specs.List.{slice_get}
use Rattle.face.specs.declared.parts.Part.{Part}
use Rattle.face.specs.Meaning.{Construction}
use Rattle.choice.specs.declared.placing.Piece.{Piece}
use Rattle.choice.specs.Assemblies.{Within, pieces, mosts_from, mosts}
use Rattle.choice.specs.Laws.{LaidOut, TakenAssembliesAreLaidOut}
use Rattle.choice.specs.Pieces.{pieces_from, placed, in_span}
use Rattle.choice.specs.Spans.{smallest, largest, span}
use Rattle.choice.specs.Spreading.{overlaps}
use Rattle.choice.proofs.Sizing.{sizes_lie_between}

-- how pieces behind another lie
record LaidBehind (a : Part) (ps : List Part) (os : List ℕ) (qs : List Piece) : Type 0 where
  count : length qs ≡ length ps
  faces : map (λ p. p.face) qs ≡ map (λ p. p.face) ps
  glyphs : map (λ p. p.glyph) qs ≡ map (λ p. p.glyph) ps
  overlaps_are : map (λ p. p.overlap) qs ≡ os
  apart : (i : ℕ) (b : Part) (p : Piece) → slice_get (a ∷ ps) i ≡ Some b → slice_get qs i ≡ Some p → p.distance + p.overlap ≡ b.full

laid_behind : (least : ℕ) (a : Part) (ps : List Part) (os : List ℕ) → Within least os (mosts_from a ps) → LaidBehind a ps os (pieces_from a ps os)
laid_behind least a [] [] w = record { count = refl; faces = refl; glyphs = refl; overlaps_are = refl; apart = λ i b p at there. cc }
laid_behind least a [] (o ∷ os) w = absurd w
laid_behind least a (p ∷ ps) [] w = absurd w
laid_behind least a (p ∷ ps) (o ∷ os) w =
    let more = laid_behind least p ps os w.1 in
    record {
      count = ap suc more.count;
      faces = ap (λ fs. p.face ∷ fs) more.faces;
      glyphs = ap (λ gs. p.glyph ∷ gs) more.glyphs;
      overlaps_are = ap (λ xs. o ∷ xs) more.overlaps_are;
      apart = behind more.apart;
    }
  where
    behind : ((i : ℕ) (b : Part) (q : Piece) → slice_get (p ∷ ps) i ≡ Some b → slice_get (pieces_from p ps os) i ≡ Some q → q.distance + q.overlap ≡ b.full)
        → (i : ℕ) (b : Part) (q : Piece) → slice_get (a ∷ (p ∷ ps)) i ≡ Some b → slice_get (pieces_from a (p ∷ ps) (o ∷ os)) i ≡ Some q → q.distance + q.overlap ≡ b.full
    behind later zero b q at there =
        let is : a ≡ b = cc in
        let far : a.full - o ≡ q.distance = ap (λ x. x.distance) (some_is there) in
        let over : o ≡ q.overlap = ap (λ x. x.overlap) (some_is there) in
        let full : a.full ≡ b.full = ap (λ x. x.full) is in
        let fits : o ≤ a.full = omega (arith, w.0.1, a.ends) in
        omega arith
      where
        some_is : {X : Type 0} {x y : X} → Some x ≡ Some y → x ≡ y
        some_is e = cc
    behind later (suc i) b q at there = later i b q at there

-- how the pieces of a legal assembly lie
laid_out : (c : Construction) (r z : ℕ) (ps : List Part) → pieces r c.parts ≡ ps → 1 ≤ length ps
    → Within c.least (overlaps c.least c.parts r z) (mosts ps)
    → LaidOut c r z (length (pieces r c.parts)) (placed ps (overlaps c.least c.parts r z))
laid_out c r z [] are some within = absurd (omega arith)
laid_out c r z (a ∷ ps) are some within =
    let os = overlaps c.least c.parts r z in
    let more = laid_behind c.least a ps os within in
    record {
      count = ap suc more.count ∙ ap length (sym are);
      faces = ap (λ fs. a.face ∷ fs) more.faces ∙ ap (map (λ p. p.face)) (sym are);
      glyphs = ap (λ gs. a.glyph ∷ gs) more.glyphs ∙ ap (map (λ p. p.glyph)) (sym are);
      overlaps_are = ap (λ xs. 0 ∷ xs) more.overlaps_are;
      apart = λ i b p at there.
          let next : i + 1 ≡ suc i = omega arith in
          more.apart i b p (ap (λ qs. slice_get qs i) (sym are) ∙ at) (ap (slice_get (placed (a ∷ ps) os)) (sym next) ∙ there);
    }

pub taken_assemblies_are_laid_out : TakenAssembliesAreLaidOut
taken_assemblies_are_laid_out c target r z n taken =
    let legal = taken.best.legal in
    let b = sizes_lie_between c.least c.parts r _ legal in
    let low : smallest c.parts r ≤ z = omega (arith, b.1, taken.size_is) in
    let high : z ≤ largest c.least c.parts r = omega (arith, b.2, taken.size_is) in
    let inside : in_span (span c.least c.parts r) z ≡ true = rw b.0 (and_from _ _ (le-leb _ _ low) (le-leb _ _ high)) in
    rw (inside, ← taken.pieces_are) (laid_out c r z (pieces r c.parts) refl legal.some legal.within)
