-- What a write makes of bytes.
use Rattle.std.specs.Prelude.{◌≡◌, ℕ, ◌+◌, ◌-◌, ◌≤◌, min, List, ◌++◌, length, take, drop, replicate, refl}
use Rattle.std.proofs.Common.{sym, ap, ◌∙◌, arith, append_assoc}
use Rattle.std.proofs.lemmas.List.{take-take, take-append-le, take_min, drop_at, drop-drop, length-append, length-drop, length-take, length-take-le, length-replicate}
use Rattle.gp_edge.specs.Disks.{padded, put, Torn, Shortened}

length_padded : (at : ℕ) (old : List ℕ) → at ≤ length (padded at old)
length_padded at old = let sum = length-append old (replicate (at - length old) 0) in let more = length-replicate {A = ℕ} (at - length old) 0 in omega (arith, sum, more)

length_front : (at : ℕ) (old : List ℕ) → length (take at (padded at old)) ≡ at
length_front at old = length-take-le at (padded at old) (length_padded at old)

-- the bytes before it are unchanged
pub put_front : (n at : ℕ) (bytes old : List ℕ) → n ≤ at → n ≤ length old → take n (put at bytes old) ≡ take n old
put_front n at bytes old before inside =
    let front = take at (padded at old) in
    let rest = drop (at + length bytes) old in
    let len = length_front at old in
    ap (take n) (append_assoc front bytes rest)
    ∙ take-append-le n front (bytes ++ rest) (omega (arith, len))
    ∙ take-take n at (padded at old) before
    ∙ take-append-le n old (replicate (at - length old) 0) inside

-- its bytes are at its place
pub put_there : (at : ℕ) (bytes old : List ℕ) → drop at (put at bytes old) ≡ bytes ++ drop (at + length bytes) old
put_there at bytes old =
    let front = take at (padded at old) in
    let rest = drop (at + length bytes) old in
    ap (drop at) (append_assoc front bytes rest) ∙ drop_at front (bytes ++ rest) at (length_front at old)

-- the bytes after it are unchanged
pub put_behind : (m at : ℕ) (bytes old : List ℕ) → at + length bytes ≤ m → drop m (put at bytes old) ≡ drop m old
put_behind m at bytes old behind =
    let p = at + length bytes in
    let front = take at (padded at old) ++ bytes in
    let rest = drop p old in
    let len : length front ≡ p = length-append (take at (padded at old)) bytes ∙ ap (λ n. n + length bytes) (length_front at old) in
    let there : drop p (put at bytes old) ≡ drop p old = drop_at front rest p len in
    let m_is : p + (m - p) ≡ m = omega arith in
    ap (λ n. drop n (put at bytes old)) (sym m_is)
    ∙ sym (drop-drop (m - p) p (put at bytes old))
    ∙ ap (drop (m - p)) there
    ∙ drop-drop (m - p) p old
    ∙ ap (λ n. drop n old) m_is

-- a crash may leave the whole write
pub torn_whole : (at : ℕ) (bytes old : List ℕ) → Torn at (length bytes) old (put at bytes old)
torn_whole at bytes old =
    let front = length_front at old in
    let first = length-append (take at (padded at old)) bytes in
    let sum = length-append (take at (padded at old) ++ bytes) (drop (at + length bytes) old) in
    let rest = length-drop (at + length bytes) old in
    record {
      before = put_front (min at (length old)) at bytes old (omega arith) (omega arith) ∙ take_min at old;
      after = put_behind (at + length bytes) at bytes old (omega arith);
      no_shorter = omega (arith, front, first, sum, rest);
      no_longer = omega (arith, front, first, sum, rest);
    }

-- a crash may leave nothing of the write
pub torn_none : (at n : ℕ) (old : List ℕ) → Torn at n old old
torn_none at n old = record { before = take_min at old; after = refl; no_shorter = omega arith; no_longer = omega arith }

pub shortened_whole : (n : ℕ) (old : List ℕ) → Shortened n old (take n old)
shortened_whole n old = let len = length-take n old in record {
  no_shorter = omega (arith, len);
  front = ap (λ k. take k old) len ∙ take_min n old;
}
