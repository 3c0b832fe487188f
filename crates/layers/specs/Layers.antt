-- What a layer means, by the meanings of the faces below it.
use Rattle.std.specs.Prelude.{ℕ, min}
use Rattle.face.specs.Faults.{passed_up}
use Rattle.face.specs.Meaning.{Meaning, unknown, faulty, construction, Construction}

-- every layer passes a fault up whole, and changes constructions only
abbrev pub through : (Construction → Meaning) → Meaning → Meaning
through change unknown = unknown
through change (faulty f) = faulty (passed_up f)
through change (construction c) = change c

-- a meaning that is passed up and not changed
abbrev pub raised : Meaning → Meaning
raised = through construction

-- the first meaning, and the second where the first is unknown
abbrev pub fallen_back : Meaning → Meaning → Meaning
fallen_back unknown second = raised second
fallen_back (faulty f) second = raised (faulty f)
fallen_back (construction c) second = raised (construction c)

-- the limit is lowered to `most` where it is larger, and nothing else changes
abbrev pub capped : ℕ → Meaning → Meaning
capped most = through (λ c. construction (record {
  limit = min c.limit most;
  least = c.least;
  variants = c.variants;
  parts = c.parts;
}))
