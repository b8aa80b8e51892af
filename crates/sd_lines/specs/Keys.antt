-- Names as keys of plain bytes.
-- Source: this project's own.
use Rattle.std.specs.Prelude.{ℕ, ◌-◌, Bool, ◌&&◌, ◌==◌, nat_le, List, ◌++◌, length, take, replicate}
use Rattle.sd_types.specs.Works.{same_bytes}
use Rattle.sd_types.specs.Limits.{most_name_bytes}
use Rattle.sd_lines.specs.declared.key.NameKey.{NameKey}

-- 16 bytes: those of the word, and zeros behind them
abbrev pub padded : List ℕ → List ℕ
padded word = word ++ replicate (16 - length word) 0

abbrev pub key_of : List ℕ → NameKey
key_of word = record { length = length word; bytes = padded word }

abbrev pub word_of : NameKey → List ℕ
word_of k = take k.length k.bytes

-- it is the key of its word, which is short
abbrev pub is_key : NameKey → Bool
is_key k = nat_le k.length most_name_bytes && (length (word_of k) == k.length) && same_bytes (padded (word_of k)) k.bytes
