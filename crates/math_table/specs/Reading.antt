-- The words of a table, and one reading after another.
use Rattle.std.specs.Prelude.{ℕ, zero, suc, ◌+◌, ◌*◌, ◌%◌, if◌then◌else◌, List, [], ◌∷◌, length, Some, None, Ok, Err, Option, Result, ◌==◌, nat_le, slice_index}
use Rattle.std.specs.Option.{ok_or}
use Rattle.face.specs.declared.faults.Cause.{Cause}
use Rattle.face.specs.declared.faults.Cause.TheVariants.{OutsideTable}
use Rattle.face.specs.declared.faults.Fault.{Fault}
use Rattle.face.specs.declared.faults.Layer.TheVariants.{Math}
use Rattle.face.specs.declared.keys.Key.{Key}
use Rattle.face.specs.Faults.{found}

-- the byte at an offset; it is below 256 as it is, and `% 256` says so of every list of numbers
abbrev pub byte_at : List ℕ → ℕ → ℕ
byte_at table place = slice_index table place % 256

-- the word at an offset, if both its bytes are inside the table; the first byte is the more significant
abbrev pub word_at : List ℕ → ℕ → Option ℕ
word_at table place =
    if nat_le (place + 2) (length table) then Some (byte_at table place * 256 + byte_at table (place + 1)) else None

-- two bytes tell no number above this
abbrev pub LARGEST_WORD : ℕ
LARGEST_WORD = 65535

-- a fault of the table itself, at an offset
abbrev pub fault_at : Cause → Key → ℕ → Fault
fault_at = found Math

-- a word that is read for a key: outside the table it is a fault
abbrev pub word : List ℕ → Key → ℕ → Result ℕ Fault
word table key place = ok_or (word_at table place) (fault_at OutsideTable key place)

-- one reading after another: the first fault counts
abbrev pub bind : {X Y : Type 0} → Result X Fault → (X → Result Y Fault) → Result Y Fault
bind (Ok x) next = next x
bind (Err f) next = Err f

-- reading goes on where something was found, else the key is unknown
abbrev pub on_found : {X Y : Type 0} → Option X → (X → Result (Option Y) Fault) → Result (Option Y) Fault
on_found None next = Ok None
on_found (Some x) next = next x

-- an offset of 0 leads nowhere: the key is unknown
abbrev pub via : {Y : Type 0} → ℕ → Result (Option Y) Fault → Result (Option Y) Fault
via offset next = if offset == 0 then Ok None else next

-- n entries, each `size` bytes after the one before
abbrev pub entries : {X : Type 0} → (ℕ → Result X Fault) → ℕ → ℕ → ℕ → Result (List X) Fault
entries read size zero place = Ok []
entries read size (suc n) place =
    bind (read place) (λ x. bind (entries read size n (place + size)) (λ xs. Ok (x ∷ xs)))
