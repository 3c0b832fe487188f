-- What a coverage table says of a glyph.
use Rattle.std.specs.Prelude.{ℕ, zero, suc, ◌+◌, ◌-◌, if◌then◌else◌, ◌&&◌, List, Some, None, Ok, Err, Option, Result, ◌==◌, nat_le}
use Rattle.face.specs.declared.faults.Cause.TheVariants.{CoverageFormat}
use Rattle.face.specs.declared.faults.Fault.{Fault}
use Rattle.face.specs.declared.keys.Key.{Key}
use Rattle.math_table.specs.declared.coverages.Format.{Format}
use Rattle.math_table.specs.declared.coverages.Format.TheVariants.{Glyphs, Ranges}
use Rattle.math_table.specs.Reading.{word, fault_at, bind}

abbrev pub format_of : ℕ → Option Format
format_of w = if w == 1 then Some Glyphs else (if w == 2 then Some Ranges else None)

-- an entry is one word or three
abbrev pub entry_size : Format → ℕ
entry_size Glyphs = 2
entry_size Ranges = 6

-- the index that an entry gives to the glyph, if it holds it: in format 1 its own position,
-- in format 2 the index of the range's first glyph and as many more as the glyph comes after that
abbrev pub entry_index : List ℕ → Key → Format → (place position : ℕ) → Result (Option ℕ) Fault
entry_index table key Glyphs place position =
    bind (word table key place) (λ glyph. Ok (if glyph == key.glyph then Some position else None))
entry_index table key Ranges place position =
    bind (word table key place) (λ start.
    bind (word table key (place + 2)) (λ last.
    bind (word table key (place + 4)) (λ first.
    Ok (if nat_le start key.glyph && nat_le key.glyph last then Some (first + (key.glyph - start)) else None))))

-- what is found, or else the answer of what comes after
abbrev pub or_else : {X : Type 0} → Result (Option X) Fault → Option X → Result (Option X) Fault
or_else later (Some x) = Ok (Some x)
or_else later None = later

-- the first of n entries that holds the glyph counts; the entries before it are read whole
abbrev pub first_holding : List ℕ → Key → Format → (n place position : ℕ) → Result (Option ℕ) Fault
first_holding table key format zero place position = Ok None
first_holding table key format (suc n) place position =
    bind (entry_index table key format place position) (or_else (first_holding table key format n (place + entry_size format) (position + 1)))

-- after the format come the count and the entries
abbrev pub index_by : List ℕ → Key → ℕ → Option Format → Result (Option ℕ) Fault
index_by table key place None = Err (fault_at CoverageFormat key place)
index_by table key place (Some format) =
    bind (word table key (place + 2)) (λ n. first_holding table key format n (place + 4) 0)

-- the index of the key's glyph in the coverage table at an offset, if it is covered
abbrev pub coverage_index : List ℕ → Key → ℕ → Result (Option ℕ) Fault
coverage_index table key place = bind (word table key place) (λ w. index_by table key place (format_of w))
