-- What a hasher of texts computes, by words under two keys.
use Rattle.std.specs.Prelude.{◌≡◌, ◌<◌, ◌≤◌, ℕ, true, nat_eq, zero, suc, ◌+◌, ◌-◌, ◌*◌, ◌/◌, ◌^◌, List, length, take, slice_range, get_or, if◌then◌else◌, nat_le, nat_lt, bit_and, bit_xor}
use Rattle.std.specs.Int.{w16, w32, w64, from_le_bytes}
use Rattle.std.specs.List.{list_any}
use Rattle.std.specs.Str.{bytes_eq}
use Rattle.shb_lines.specs.declared.hashing.KeyedHasher.{KeyedHasher}
use Rattle.shb_lines.specs.declared.hashing.HashKeys.{HashKeys}

-- the two halves of the 128 bits of a product, joined by xor
unfoldable pub folded_product : ℕ → ℕ → ℕ
folded_product a b = bit_xor (bit_and (a * b) (2 ^ 64 - 1)) (a * b / 2 ^ 64)

-- the eight bytes from an offset on, as a word
unfoldable pub word_at : List ℕ → ℕ → ℕ
word_at bytes at = from_le_bytes w64 (slice_range bytes at (at + 8))

-- the first bytes of a text of at most 16 as a word, and its last bytes
unfoldable pub first_word : List ℕ → ℕ
first_word bytes =
    let n = length bytes in
    if nat_lt n 2 then get_or bytes 0 0
    else (if nat_lt n 4 then from_le_bytes w16 (take 2 bytes)
    else (if nat_lt n 8 then from_le_bytes w32 (take 4 bytes) else from_le_bytes w64 (take 8 bytes)))

unfoldable pub last_word : List ℕ → ℕ
last_word bytes =
    let n = length bytes in
    if nat_lt n 2 then get_or bytes 0 0
    else (if nat_lt n 4 then from_le_bytes w16 (slice_range bytes (n - 2) n)
    else (if nat_lt n 8 then from_le_bytes w32 (slice_range bytes (n - 4) n) else from_le_bytes w64 (slice_range bytes (n - 8) n)))

-- the state after the two words at an offset
abbrev pub with_words : List ℕ → ℕ → ℕ → ℕ → ℕ
with_words bytes key state at = folded_product (bit_xor state (word_at bytes at)) (bit_xor key (word_at bytes (at + 8)))

-- the state after the first n times 16 bytes
unfoldable pub with_blocks : List ℕ → ℕ → ℕ → ℕ → ℕ
with_blocks bytes key state zero = state
with_blocks bytes key state (suc n) = with_words bytes key (with_blocks bytes key state n) (16 * n)

-- of at most 16 bytes both ends; of more 16 at a time, and the last 16 once more
unfoldable pub short_hash : ℕ → ℕ → List ℕ → ℕ
short_hash state key bytes = folded_product (bit_xor state (first_word bytes)) (bit_xor key (last_word bytes))

unfoldable pub long_hash : ℕ → ℕ → List ℕ → ℕ
long_hash state key bytes =
    let n = length bytes in
    with_words bytes key (with_blocks bytes key state ((n - 1) / 16)) (n - 16)

-- the state after some bytes: their length is mixed in first
unfoldable pub hash : ℕ → ℕ → List ℕ → ℕ
hash state key bytes =
    let n = length bytes in
    let seeded = folded_product (bit_xor state n) key in
    if nat_le n 16 then short_hash seeded key bytes else long_hash seeded key bytes

-- the hasher after bytes were written
abbrev pub written : KeyedHasher → List ℕ → KeyedHasher
written h bytes = record h { state = hash h.state h.key bytes }

-- the hasher that the keys make
abbrev pub keyed : HashKeys → KeyedHasher
keyed keys = record { state = keys.keys.first; key = keys.keys.second }

-- two texts have the same bytes from an offset on up to another
abbrev pub AreAlike : List ℕ → List ℕ → ℕ → ℕ → Type 0
AreAlike a b from to = (k : ℕ) → from ≤ k → k < to → get_or a k 0 ≡ get_or b k 0

-- the hash of a text under two keys
abbrev pub hash_in : HashKeys → List ℕ → ℕ
hash_in keys bytes = hash keys.keys.first keys.keys.second bytes

-- the hash of each name is among these
abbrev pub AreHashed : HashKeys → List ℕ → List (List ℕ) → Type 0
AreHashed keys hashes names = (name : List ℕ) → list_any (bytes_eq name) names ≡ true → list_any (nat_eq (hash_in keys name)) hashes ≡ true
