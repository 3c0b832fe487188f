-- What a pile and a question are, in their own words.
use Rattle.std.specs.Prelude.{◌≡◌, ℕ, ◌≤◌, List, ◌∷◌, ◌++◌, Ok, decimal as written}
use Rattle.face.specs.Axes.{number_of}
use Rattle.face.specs.declared.keys.Key.{Key}
use Rattle.signs.specs.declared.piles.Pile.{Pile}
use Rattle.signs.specs.Piles.{piled}
use Rattle.signs.specs.Questions.{asked}

-- a pile as it is written: scale, tab, cap
abbrev pub written_pile : Pile → List ℕ
written_pile pile = written pile.scale ++ 9 ∷ written pile.cap

-- every scale and cap can be told
abbrev pub APileIsReadAsItIsWritten : Type 0
APileIsReadAsItIsWritten = (pile : Pile) → pile.scale ≤ 4294967295 → pile.cap ≤ 4294967295 → piled (written_pile pile) ≡ Ok pile

-- a key as it is written: glyph, tab, axis
abbrev pub written_key : Key → List ℕ
written_key key = written key.glyph ++ 9 ∷ written (number_of key.axis)

-- every key can be asked about
abbrev pub AQuestionIsReadAsItIsWritten : Type 0
AQuestionIsReadAsItIsWritten = (key : Key) → key.glyph ≤ 65535 → asked (written_key key) ≡ Ok key
