-- Which length of a key is the first that is too long.
use Rattle.std.proofs.Common.{◌≡◌, ℕ, zero, suc, ◌+◌, ◌*◌, ◌<◌, ◌≤◌, List, [], ◌∷◌, length, Some, refl, ap, ◌∙◌, arith}
use Rattle.std.proofs.lemmas.Bool.{le-leb, lt-leb}
use Rattle.std.specs.Option.{option_map}
use Rattle.std.specs.List.{slice_get}
use Rattle.face.specs.Bounds.{LARGEST}
use Rattle.face.specs.Meaning.{Construction}
use Rattle.layers.specs.Laws.{EachLengthHasAPlace, WhatFitsIsScaled, TheFirstLengthTooLongIsTheFault}
use Rattle.layers.specs.Scaling.{scaled_construction, lengths, first_too_long, judged}
use Rattle.std.proofs.lemmas.Option.{slice_get_within}
use Rattle.face.proofs.Indexes.{all_from_nth}
use Rattle.layers.proofs.Places.{variant_length, part_length, all_fit_none}

module _ (k : ℕ) where
  first_is_found : (from place x : ℕ) (xs : List ℕ) → slice_get xs place ≡ Some x → LARGEST < k * x → ((q y : ℕ) → q < place → slice_get xs q ≡ Some y → k * y ≤ LARGEST)
      → first_too_long k from xs ≡ Some (from + place)
  first_is_found from place x [] at long fit = cc
  first_is_found from zero x (y ∷ ys) at long fit =
      let is : y ≡ x = cc in
      let here : from + zero ≡ from = omega arith in
      rw (is, lt-leb (k * x) LARGEST long, here) refl
  first_is_found from (suc place) x (y ∷ ys) at long fit =
      let more : from + suc place ≡ from + 1 + place = omega arith in
      rw (le-leb (k * y) LARGEST (fit 0 y (omega arith) refl), more)
      (first_is_found (from + 1) place x ys at long (λ q z less at. fit (suc q) z (omega arith) at))

pub what_fits_is_scaled : WhatFitsIsScaled
what_fits_is_scaled k key c fit =
    ap (λ o. judged key o (scaled_construction k c)) (all_fit_none k 0 (lengths c) (all_from_nth (λ x. k * x ≤ LARGEST) (lengths c) fit))

pub the_first_length_too_long_is_the_fault : TheFirstLengthTooLongIsTheFault
the_first_length_too_long_is_the_fault k key c place x at long fit =
    let here : 0 + place ≡ place = omega arith in
    ap (λ o. judged key o (scaled_construction k c)) (first_is_found k 0 place x (lengths c) at long fit ∙ ap Some here)

pub each_length_has_a_place : (c : Construction) → EachLengthHasAPlace c
each_length_has_a_place c =
    record {
      least = refl;
      variant = λ i v at.
          let next : 1 + i ≡ suc i = omega arith in
          ap (slice_get (lengths c)) next ∙ variant_length c.variants _ i (slice_get_within c.variants i v at) ∙ ap (option_map (λ v. v.advance)) at;
      part = λ i p at.
          let next : 1 + length c.variants + i ≡ suc (length c.variants + i) = omega arith in
          ap (slice_get (lengths c)) next ∙ part_length c.variants c.parts i ∙ ap (option_map (λ p. p.full)) at;
    }
