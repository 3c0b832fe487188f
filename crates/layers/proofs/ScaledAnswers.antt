-- What a scaled key answers, by its first length that is too long.
use Rattle.std.proofs.Common.{◌≡◌, ℕ, zero, suc, ◌*◌, ◌≤◌, Bool, true, false, List, [], ◌∷◌, map, Some, None, Ok, Err, Option, Result, refl, ap, ◌∙◌, mul-le-mul_left, arith}
use lib.ListN.{length-map}
use Rattle.std.specs.Option.{option_map}
use Rattle.std.specs.Result.{result_map_both}
use Rattle.std.specs.List.{All, slice_get}
use Rattle.std.proofs.lemmas.List.Elements.{All-nil, All-head, All-tail, All-weaker}
use Rattle.face.specs.declared.faults.Fault.{Fault}
use Rattle.face.specs.declared.keys.Key.{Key}
use Rattle.face.specs.declared.looks.Look.{Look}
use Rattle.face.specs.declared.parts.Part.{Part}
use Rattle.face.specs.declared.variants.Variant.{Variant}
use Rattle.face.specs.Bounds.{LARGEST}
use Rattle.face.specs.Faults.{passed_up}
use Rattle.face.specs.Meaning.{Meaning, unknown, faulty, construction, Construction, summary, looked, variants_of, parts_of}
use Rattle.face.specs.Offers.{offered}
use Rattle.face.proofs.SameParts.{same_part}
use Rattle.layers.specs.Answers.{times, judged_below, look_from, variant_from, part_from, lengths_of, Entries}
use Rattle.layers.specs.Limits.{fitting}
use Rattle.layers.specs.Scaling.{scaled_variant, scaled_part, scaled_construction, lengths, first_too_long, judged, scaled}

-- did look find a construction?
abbrev pub is_known : Result (Option Look) Fault → Bool
is_known (Ok None) = false
is_known (Ok (Some look)) = true
is_known (Err f) = false

-- what is looked at where a construction is offered
pub looked_offered : (m : Meaning) (c : Construction) → offered m ≡ Ok (Some c) → looked m ≡ Ok (Some (summary c))
looked_offered unknown c e = cc
looked_offered (faulty f) c e = cc
looked_offered (construction d) c e = let is : d ≡ c = cc in ap (λ c. Ok (Some (summary c))) is

-- a product that fits is not stopped
whole : (k x : ℕ) → k * x ≤ LARGEST → k * x ≡ times k x
whole k x fits = omega arith

module _ (k : ℕ) (key : Key) where
  looked_judged : (c : Construction) (place : Option ℕ) → first_too_long k 0 (lengths c) ≡ place
      → looked (judged key place (scaled_construction k c)) ≡ result_map_both (option_map (look_from k)) (λ f. f) (looked (judged key place c))
  looked_judged c (Some place) e = refl
  looked_judged c None e =
      let least = whole k c.least (fitting k c e).least in
      let variants = length-map c.variants (scaled_variant k) in
      let parts = length-map c.parts (scaled_part k) in
      λ i. Ok (Some (record { limit = times k c.limit; least = least i; variants = variants i; parts = parts i }))

  -- look under a scale makes of what is judged below a larger look
  pub looked_scaled : (m : Meaning) → looked (scaled k key m) ≡ result_map_both (option_map (look_from k)) (λ f. f) (judged_below k key m)
  looked_scaled unknown = refl
  looked_scaled (faulty f) = refl
  looked_scaled (construction c) = looked_judged c (first_too_long k 0 (lengths c)) refl

  -- lists whose entries come to the same one by one
  same_entries : {X : Type 0} (f g : X → X) (xs : List X) → All (λ x. f x ≡ g x) xs → (i : ℕ) → slice_get (map f xs) i ≡ option_map g (slice_get xs i)
  same_entries f g [] same i = refl
  same_entries f g (x ∷ xs) same zero = ap Some (All-head (λ x. f x ≡ g x) x xs same)
  same_entries f g (x ∷ xs) same (suc i) = same_entries f g xs (All-tail (λ x. f x ≡ g x) x xs same) i

  variant_whole : (v : Variant) → k * v.advance ≤ LARGEST → scaled_variant k v ≡ variant_from k v
  variant_whole v fits = let advance = whole k v.advance fits in λ i. record { face = v.face; glyph = v.glyph; advance = advance i }

  part_whole : (p : Part) → k * p.full ≤ LARGEST → scaled_part k p ≡ part_from k p
  part_whole p fits =
      let start = mul-le-mul_left k p.starts in
      let end = mul-le-mul_left k p.ends in
      same_part (scaled_part k p) (part_from k p) refl refl (omega arith) (omega arith) (whole k p.full fits) refl

  entries_of : (m above : Meaning) → All (λ v. k * v.advance ≤ LARGEST) (variants_of m) → All (λ p. k * p.full ≤ LARGEST) (parts_of m)
      → variants_of above ≡ map (scaled_variant k) (variants_of m) → parts_of above ≡ map (scaled_part k) (parts_of m) → Entries k m above true
  entries_of m above advances fulls variants parts =
      let vs = All-weaker _ (λ v. scaled_variant k v ≡ variant_from k v) variant_whole (variants_of m) advances in
      let ps = All-weaker _ (λ p. scaled_part k p ≡ part_from k p) part_whole (parts_of m) fulls in
      record {
        variants = λ i. ap (λ vs. slice_get vs i) variants ∙ same_entries (scaled_variant k) (variant_from k) (variants_of m) vs i;
        parts = λ i. ap (λ ps. slice_get ps i) parts ∙ same_entries (scaled_part k) (part_from k) (parts_of m) ps i;
      }

  pub entries_scaled : (m : Meaning) → first_too_long k 0 (lengths_of m) ≡ None → Entries k m (scaled k key m) true
  entries_scaled unknown e = entries_of unknown (scaled k key unknown) (All-nil _) (All-nil _) refl refl
  entries_scaled (faulty f) e = entries_of (faulty f) (scaled k key (faulty f)) (All-nil _) (All-nil _) refl refl
  entries_scaled (construction c) e =
      let fit = fitting k c e in
      entries_of (construction c) (scaled k key (construction c)) fit.advances fit.fulls
      (ap (λ o. variants_of (judged key o (scaled_construction k c))) e) (ap (λ o. parts_of (judged key o (scaled_construction k c))) e)

  judged_none : (c : Construction) (place : Option ℕ) → is_known (looked (judged key place c)) ≡ true → place ≡ None
  judged_none c None e = refl
  judged_none c (Some place) e = cc

  pub none_too_long : (m : Meaning) → is_known (judged_below k key m) ≡ true → first_too_long k 0 (lengths_of m) ≡ None
  none_too_long unknown e = refl
  none_too_long (faulty f) e = refl
  none_too_long (construction c) e = judged_none c (first_too_long k 0 (lengths c)) e

  -- where every length fits, the scale finds below what look tells there
  pub looked_below : (m : Meaning) → first_too_long k 0 (lengths_of m) ≡ None → judged_below k key m ≡ result_map_both (λ l. l) passed_up (looked m)
  looked_below unknown fits = refl
  looked_below (faulty f) fits = refl
  looked_below (construction c) fits = ap (λ o. looked (judged key o c)) fits
