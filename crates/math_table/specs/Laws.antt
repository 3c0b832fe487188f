-- What holds of the meaning of every table.
use Rattle.std.specs.Prelude.{◌≡◌, ℕ, List, []}
use Rattle.face.specs.declared.faults.Fault.{Fault}
use Rattle.face.specs.declared.keys.Key.{Key}
use Rattle.face.specs.Meaning.{unknown, faulty, construction, Construction}
use Rattle.math_table.specs.FaultPlaces.{FaultStands}
use Rattle.math_table.specs.HasNothing.{HasNothing}
use Rattle.math_table.specs.Meanings.{math_meaning}
use Rattle.math_table.specs.Offers.{Offers}

-- every construction that a table is said to have stands in it, word by word
abbrev pub KnownKeysAreReadOffTheTable : Type 0
KnownKeysAreReadOffTheTable =
    (table : List ℕ) (face : ℕ) (key : Key) (c : Construction) → math_meaning table face key ≡ construction c → Offers table face key c

-- every construction that stands in a table is the one that it is said to have
abbrev pub WhatTheTableOffersIsKnown : Type 0
WhatTheTableOffersIsKnown =
    (table : List ℕ) (face : ℕ) (key : Key) (c : Construction) → Offers table face key c → math_meaning table face key ≡ construction c

-- the table has what a fault says of it at the place of the fault
abbrev pub FaultsAreWhereTheySay : Type 0
FaultsAreWhereTheySay =
    (table : List ℕ) (face : ℕ) (key : Key) (f : Fault) → math_meaning table face key ≡ faulty f → FaultStands table key f

-- a table has nothing for a key that it is said not to know: no fault makes a key unknown
abbrev pub UnknownKeysHaveNothing : Type 0
UnknownKeysHaveNothing = (table : List ℕ) (face : ℕ) (key : Key) → math_meaning table face key ≡ unknown → HasNothing table key

-- a key for which a table has nothing is one that it is said not to know
abbrev pub WhatHasNothingIsUnknown : Type 0
WhatHasNothingIsUnknown = (table : List ℕ) (face : ℕ) (key : Key) → HasNothing table key → math_meaning table face key ≡ unknown

abbrev pub AnEmptyTableKnowsNoKey : Type 0
AnEmptyTableKnowsNoKey = (face : ℕ) (key : Key) → math_meaning [] face key ≡ unknown
