-- A log that is begun, and one that is read again.
use Rattle.std.proofs.Common.{◌≡◌, ℕ, ◌+◌, ◌-◌, ◌<◌, ◌≤◌, Bool, true, false, List, [], ◌∷◌, ◌++◌, length, Option, None, Ok, Err, refl, sym, ap, ◌∙◌, subst, arith}
use Rattle.std.specs.Prelude.{nat_eq, nat_le, ◌&&◌}
use Rattle.std.specs.Int.{w32, to_le_bytes}
use Rattle.std.proofs.lemmas.Bool.{eq-eqb, leb-true}
use Rattle.std.proofs.lemmas.Nat.{from_le_bytes-to_le_bytes_4}
use Rattle.gp_edge.specs.Disks.{IfRevealed, Only}
use Rattle.gp_msg.specs.declared.durable.Durable.{Durable}
use Rattle.gp_vlog.specs.Bodies.{LogEntry, entry_of}
use Rattle.gp_vlog.specs.Files.{is_limit, Contents, read_log, head_bytes}
use Rattle.std.proofs.lemmas.List.{length-map}
use Rattle.gp_vlog.specs.Logs.{IsOnDisk, Shows, HoldsEntries, entry_for, log_entries, has_old}
use Rattle.gp_vlog.proofs.Areas.{leads_none}
use Rattle.gp_vlog.proofs.Standing.{Stands, IsSized, stands_reads, reads_stands}
use Rattle.gp_vlog.proofs.Appends.{log_with, limit_allowed, shows_stored}
use Rattle.gp_vlog.proofs.Moments.{tell, told}

-- a header and a closed gate
begun_stands : (limit : ℕ) → IsSized limit → Stands limit 0 [] 0 (head_bytes limit 0 ++ 0 ∷ [])
begun_stands limit sized =
    let low = sized.low in
    let high = sized.high in
    record {
      mark = to_le_bytes w32 limit;
      front = [];
      behind = [];
      marks = record { four = refl; says = from_le_bytes-to_le_bytes_4 limit (omega arith) };
      head = refl;
      split = refl;
      place = refl;
      leads = leads_none entry_of (limit - 16) None 0;
      room = omega arith;
    }

pub begun_reads : (limit : ℕ) → IsSized limit → read_log is_limit (head_bytes limit 0 ++ 0 ∷ []) ≡ Ok (log_with limit false [] 0)
begun_reads limit sized = stands_reads is_limit limit 0 [] 0 (head_bytes limit 0 ++ 0 ∷ []) sized (limit_allowed limit sized) (begun_stands limit sized)

-- a limit in range
pub sized_in_range : (limit : ℕ) → is_limit limit ≡ true → IsSized limit
sized_in_range limit in_range =
    let both = both_true (nat_le 64 limit) (nat_le limit 67108864) in_range in
    record { low = leb-true 64 limit both.0; high = leb-true limit 67108864 both.1 }
  where
    both_true : (a b : Bool) → (a && b) ≡ true → (a ≡ true) × (b ≡ true)
    both_true false b e = absurd cc
    both_true true b e = (refl, e)

-- what is in range does not matter where the limit that was read is
pub read_again : (a b : ℕ → Bool) (s : List ℕ) (c : Contents) → IsSized c.limit → b c.limit ≡ true → read_log a s ≡ Ok c → read_log b s ≡ Ok c
read_again a b s c sized in_range reads =
    let low = sized.low in
    let k = reads_stands a s c (omega arith) reads in
    stands_reads b c.limit k.switch c.entries c.closed s sized in_range k.stands ∙ ap (λ x. Ok (log_with c.limit x c.entries c.closed)) (sym k.second)

module _ {D : Type 0} (content : D → Option (List ℕ)) (image : D → List ℕ → Type 0) (disk : D) (limit : ℕ) (sized : IsSized limit) where
  abbrev pub Stored : Bool → List LogEntry → ℕ → Type 0
  Stored second es closed = IfRevealed (content disk) (λ t. (read_log is_limit t ≡ Ok (log_with limit second es closed)) × Only t (image disk))

  pub stored_new : (ds : List Durable) → ds ≡ [] → IfRevealed (content disk) (λ s. (s ≡ head_bytes limit 0 ++ 0 ∷ []) × Only s (image disk)) → Stored false (log_entries false ds) 0
  stored_new ds none begun = subst (λ (l : List Durable). Stored false (log_entries false l) 0) (sym none) (tell (content disk) _ (λ t is.
      let k = told (content disk) _ t is begun in (ap (read_log is_limit) k.0 ∙ begun_reads limit sized, k.1)))

  pub stored_again : (found second : _) (es : List LogEntry) (closed : ℕ) → found ≡ limit → IfRevealed (content disk) (λ s. (read_log (nat_eq limit) s ≡ Ok (log_with found second es closed)) × Only s (image disk)) → Stored second es closed
  stored_again found second es closed same stored = tell (content disk) _ (λ t is.
      let k = told (content disk) _ t is stored in
      (read_again (nat_eq limit) is_limit t (log_with limit second es closed) sized (limit_allowed limit sized) (k.0 ∙ ap (λ n. Ok (log_with n second es closed)) same), k.1))

  pub keeps_stored : (second old : Bool) (ds : List Durable) (closed : ℕ) → 17 + closed ≤ limit → (old ≡ true → 0 < length ds) → Stored second (log_entries old ds) closed → IsOnDisk content image disk limit second old (log_entries old ds) closed true
  keeps_stored second old ds closed room some stored = record { low = sized.low; high = sized.high; room = room; some = λ t. let long = some t in let same = length-map ds (entry_for old) in omega (arith, long, same); revealed = λ _. stored }

  pub shows : (second : Bool) (es : List LogEntry) (closed : ℕ) → Stored second es closed → IfRevealed (content disk) (λ t. Shows limit es (17 + closed) t × Only t (image disk))
  shows second es closed stored = shows_stored content image disk limit second es closed stored

-- entries of version 1 are there where the log says so
pub old_is_had : (old : Bool) (ds : List Durable) → (old ≡ true → 0 < length (log_entries old ds)) → old ≡ has_old (log_entries old ds)
old_is_had true [] some = absurd (let none = some refl in omega arith)
old_is_had true (d ∷ ds) some = refl
old_is_had false ds some = none_of ds
  where
    none_of : (ds : List Durable) → false ≡ has_old (log_entries false ds)
    none_of [] = refl
    none_of (d ∷ ds) = none_of ds

-- a log is no other file
pub no_break : (limit : ℕ) (es : List LogEntry) (s : List ℕ) (at : ℕ) → HoldsEntries limit es s → read_log is_limit s ≡ Err at → ⊥
no_break limit es s at k e = let reads = k.1.reads in cc

pub no_break_again : (limit : ℕ) (es : List LogEntry) (s : List ℕ) (at : ℕ) → IsSized limit → HoldsEntries limit es s → read_log (nat_eq limit) s ≡ Err at → ⊥
no_break_again limit es s at sized k e =
    let c = k.1.contents in
    let same = k.1.limit_is in
    let again = read_again is_limit (nat_eq limit) s c (subst IsSized (sym same) sized) (eq-eqb limit c.limit (sym same)) k.1.reads in
    cc
