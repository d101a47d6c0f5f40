-- The head of a name: the number of its first bytes, by which most names are told apart before they are read. The project's own.
use Rattle.std.specs.Prelude.{◌≡◌, ℕ, zero, suc, ◌+◌, ◌*◌, ◌<◌, min, cond, nat_lt, get_or, [], ◌∷◌}
use Rattle.filing_model.specs.Common.Text.{Text}

-- the number of so many bytes from a place on, after another number; 0 after the last
abbrev pub number_from : ℕ → ℕ → ℕ → Text → ℕ
number_from zero i n name = n
number_from (suc k) i n name = number_from k (i + 1) (n * 256 + get_or name i 0) name

-- the number of the first 16
abbrev pub head_of : Text → ℕ
head_of name = number_from 16 0 0 name

-- a text of bytes
abbrev pub AreBytes : Text → Type 0
AreBytes name = (i : ℕ) → get_or name i 0 < 256

-- this is the head of a text of bytes
abbrev pub IsHeadOf : Text → ℕ → Type 0
IsHeadOf name head = (head ≡ head_of name) × AreBytes name

-- the first item of a text as a byte: 0 where there is none, and 255 in place of an item that is no byte
abbrev pub first_byte : Text → ℕ
first_byte [] = 0
first_byte (b ∷ bs) = min b 255

-- the items after the first. None is after one that is no byte, so that it stands for each byte from its place on
abbrev pub later_bytes : Text → Text
later_bytes [] = []
later_bytes (b ∷ bs) = cond (nat_lt b 256) bs (b ∷ bs)

-- the number of so many first bytes, after another number
abbrev pub key_from : ℕ → ℕ → Text → ℕ
key_from zero n name = n
key_from (suc k) n name = key_from k (n * 256 + first_byte name) (later_bytes name)

-- the key of the entries of a name: the number of its first 8 bytes
abbrev pub name_key : Text → ℕ
name_key name = key_from 8 0 name

-- this is the key of each name with this head
abbrev pub IsKeyOfHead : ℕ → ℕ → Type 0
IsKeyOfHead head key = (name : Text) → IsHeadOf name head → key ≡ name_key name
