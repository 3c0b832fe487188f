-- What was parted is joined again, and what was joined is parted.
use Rattle.std.proofs.Common.{◌≡◌, ◌≢◌, ℕ, All, List, [], ◌∷◌, ◌++◌, None, refl, ap, ◌∙◌, arith}
use Rattle.std.proofs.lemmas.Grind.{common_steps}
use Rattle.std.proofs.lemmas.List.Elements.{All-nil, All-cons, All-head, All-tail}
use Rattle.text.specs.Cuts.{after}
use Rattle.text.specs.Lines.{onto, lines}
use Rattle.text.proofs.Parting.{first_line}
use Rattle.text.specs.Laws.{Without, joined, ended, ACutJoinedAgainIsTheBytes, WhatIsJoinedIsCutThere, LinesJoinedAgainAreTheText, LinesAreReadAsTheyAreWritten}

pub a_cut_joined_again_is_the_bytes : ACutJoinedAgainIsTheBytes
a_cut_joined_again_is_the_bytes s [] = (refl, All-nil _)
a_cut_joined_again_is_the_bytes s (b ∷ bs) =
    let p = a_cut_joined_again_is_the_bytes s bs in
    (grind (arith, common_steps, p.0), grind (arith, common_steps, p.1))

without_parts : (s b : ℕ) (bs : List ℕ) → Without s (b ∷ bs) → (b ≢ s) × Without s bs
without_parts s b bs w = (All-head (λ x. x ≢ s) b bs w, All-tail (λ x. x ≢ s) b bs w)

pub what_is_joined_is_cut_there : WhatIsJoinedIsCutThere
what_is_joined_is_cut_there s [] back w = (grind (arith, common_steps), grind (arith, common_steps))
what_is_joined_is_cut_there s (b ∷ front) back w =
    let v = without_parts s b front w in
    let p = what_is_joined_is_cut_there s front back v.1 in
    (grind (arith, common_steps, p.0, v.0), grind (arith, common_steps, p.1, v.0))

-- without a separator nothing is cut off
pub after_without : (s : ℕ) (bs : List ℕ) → Without s bs → after s bs ≡ None
after_without s [] w = refl
after_without s (b ∷ bs) w =
    let v = without_parts s b bs w in
    grind (arith, common_steps, after_without s bs v.1, v.0)

-- lines lose nothing of the text
joined_again : (text : List ℕ) → joined (lines text) ≡ ended text
joined_again [] = refl
joined_again (b ∷ []) = grind (arith, common_steps)
joined_again (b ∷ d ∷ ds) =
    let e = first_line (d ∷ ds) (omega arith) in
    grind (arith, common_steps, joined_again (d ∷ ds), ap (onto b) e)

-- lines hold no line feed
without_onto : (b : ℕ) (each : List (List ℕ)) → b ≢ 10 → All (Without 10) each → All (Without 10) (onto b each)
without_onto b [] n w = All-cons (Without 10) (b ∷ []) [] (All-cons (λ x. x ≢ 10) b [] n (All-nil _)) w
without_onto b (line ∷ rest) n w =
    let first = All-cons (λ x. x ≢ 10) b line n (All-head (Without 10) line rest w) in
    All-cons (Without 10) (b ∷ line) rest first (All-tail (Without 10) line rest w)

no_line_feeds : (text : List ℕ) → All (Without 10) (lines text)
no_line_feeds [] = All-nil _
no_line_feeds (b ∷ bs) = grind (arith, common_steps, no_line_feeds bs, without_onto b (lines bs))

pub lines_joined_again_are_the_text : LinesJoinedAgainAreTheText
lines_joined_again_are_the_text text = (joined_again text, no_line_feeds text)

pub lines_are_read_as_they_are_written : LinesAreReadAsTheyAreWritten
lines_are_read_as_they_are_written [] w = refl
lines_are_read_as_they_are_written (line ∷ rest) w =
    in_line line (All-head (Without 10) line rest w)
    ∙ ap (λ ls. line ∷ ls) (lines_are_read_as_they_are_written rest (All-tail (Without 10) line rest w))
  where
    in_line : (bs : List ℕ) → Without 10 bs → lines (bs ++ 10 ∷ joined rest) ≡ bs ∷ lines (joined rest)
    in_line [] v = refl
    in_line (b ∷ bs) v =
        let p = without_parts 10 b bs v in
        grind (arith, common_steps, in_line bs p.1, p.0)
