-- Words that a generator gives, by its key, its stream and the place of the next word.
use Rattle.std.specs.Prelude.{ℕ, ◌+◌, ◌%◌, ◌^◌, ◌++◌, replicate}
use Rattle.std.specs.Int.{w64, to_le_bytes}
use Rattle.rand_chacha.specs.ChaCha.{ChaCha, key_of, word_at}

-- a stream of the generator of a seed, from its first word on: the key is the seed in 8 bytes, little-endian, and 24 zeros
abbrev pub stream_of : ℕ → ℕ → ChaCha
stream_of seed stream = record { key = key_of (to_le_bytes w64 seed ++ replicate 24 0); stream = stream; word_pos = 0 }

-- the next word modulo n, and the generator after it
unfoldable pub draw : ChaCha → ℕ → ℕ × ChaCha
draw g n = (word_at 10 g.key g.stream g.word_pos % n, record g { word_pos = (g.word_pos + 1) % 2 ^ 68 })
