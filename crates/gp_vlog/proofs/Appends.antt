-- An append and a renewal of a log that a disk holds.
use Rattle.std.proofs.Common.{◌≡◌, ◌⊎◌, ℕ, ◌+◌, ◌-◌, ◌≤◌, Bool, true, false, List, [], ◌∷◌, ◌++◌, length, inl, inr, ⊎_elim, arith, Option, Some, None, Ok, refl, sym, ap, ◌∙◌, subst}
use Rattle.std.specs.Prelude.{Result, Err, not, slice_get, nat_le, ◌&&◌}
use Rattle.std.specs.Option.{option_map}
use Rattle.std.specs.Result.{IsErrAnd}
use Rattle.std.specs.Int.{w32, to_le_bytes}
use Rattle.std.proofs.lemmas.Bool.{le-leb}
use Rattle.std.proofs.lemmas.List.{length-append, map-append}
use Rattle.gp_edge.specs.declared.refusal.Refused.{Refused}
use Rattle.gp_edge.specs.declared.refusal.Refused.TheVariants as refused
use Rattle.gp_edge.specs.Disks.{IfRevealed, RevealsAlike, IfBothRevealed, Only, put, Torn, LeavesOnly}
use Rattle.gp_msg.specs.declared.durable.Durable.{Durable}
use Rattle.gp_vlog.specs.declared.fault.AppendFault.{AppendFault}
use Rattle.gp_vlog.specs.declared.fault.AppendFault.TheVariants.{Full, Disk, NoMemory}
use Rattle.gp_vlog.specs.Causes.{fault_of}
use Rattle.gp_vlog.specs.Bodies.{LogEntry, entry_of}
use Rattle.gp_vlog.specs.Gates.{block}
use Rattle.gp_vlog.specs.Files.{is_limit, is_second, first_gate, Contents, read_log}
use Rattle.gp_vlog.specs.Logs.{LogState, StaysUnready, StaysWhole, IsOnDisk, Shows, HoldsEntries, OldOrAdded, OldOrRenewed, entry_for, log_entries, last}
use Rattle.gp_vlog.proofs.Areas.{last_or}
use Rattle.gp_vlog.proofs.Standing.{Stands, IsSized, stands_reads, reads_stands, append_torn, append_staged, append_opened, append_marked, MayFollow}
use Rattle.gp_vlog.proofs.Renewing.{renew_torn, renew_staged, renew_switched, switched_over, MayStandAlone}
use Rattle.gp_vlog.proofs.Moments.{tell, told, tells_back, stays, weaker}

pub limit_allowed : (limit : ℕ) → IsSized limit → is_limit limit ≡ true
limit_allowed limit sized =
    let low = le-leb 64 limit sized.low in
    let high = le-leb limit 67108864 sized.high in
    ap (λ b. b && nat_le limit 67108864) low ∙ high

pub keeps : (limit x : ℕ) (es : List LogEntry) (g : ℕ) (s : List ℕ) → IsSized limit → Stands limit x es g s → HoldsEntries limit es s
keeps limit x es g s sized k = (
  17 + g,
  record {
    contents = record { limit = limit; second = is_second x; entries = es; closed = g };
    reads = stands_reads is_limit limit x es g s sized (limit_allowed limit sized) k;
    limit_is = refl;
    entries_are = refl;
    size_is = refl;
  },
)

abbrev pub log_with : ℕ → Bool → List LogEntry → ℕ → Contents
log_with limit second es g = record { limit = limit; second = second; entries = es; closed = g }

module _ (limit : ℕ) (second : Bool) (es : List LogEntry) (g : ℕ) (sized : IsSized limit) (s : List ℕ) (reads : read_log is_limit s ≡ Ok (log_with limit second es g)) where
  pub record IsStood : Type 0 where
    pub x : ℕ
    pub second_is : second ≡ is_second x
    pub stands : Stands limit x es g s

  pub stood : IsStood
  stood =
      let low = sized.low in
      let k = reads_stands is_limit s (log_with limit second es g) (omega arith) reads in
      record { x = k.switch; second_is = k.second; stands = k.stands }

  pub kept_now : HoldsEntries limit es s
  kept_now = let k = stood in keeps limit k.x es g s sized k.stands

  pub record Follows (body : List ℕ) (e : LogEntry) : Type 0 where
    pub means : entry_of (last_or entry_of (limit - 16) None es) body ≡ Some e
    pub room : 17 + g + (5 + length body) ≤ limit

  may_follow : (x : ℕ) (body : List ℕ) (e : LogEntry) → Follows body e → MayFollow limit x es g sized body e
  may_follow x body e f = let room = f.room in record { means = f.means; below = omega (arith, room) }

  abbrev gate : ℕ
  gate = first_gate limit second + g

  at_gate : (k : IsStood) → gate ≡ first_gate limit (is_second k.x) + g
  at_gate k = ap (λ b. first_gate limit b + g) k.second_is

  behind_gate : (k : IsStood) → gate + 1 ≡ first_gate limit (is_second k.x) + (g + 1)
  behind_gate k = let here = at_gate k in omega (arith, here)

  -- at any moment of the two writes
  pub append_moment : (body : List ℕ) (e : LogEntry) (c : List ℕ) → Follows body e → Torn (gate + 1) (length (block body)) s c ⊎ Torn gate 1 (put (gate + 1) (block body) s) c → OldOrAdded limit es e c
  append_moment body e c f torn =
      let k = stood in
      let may = may_follow k.x body e f in
      ⊎_elim
      (λ (first : Torn (gate + 1) (length (block body)) s c). inl (keeps limit k.x es g c sized (append_torn limit k.x es g sized s c (length (block body)) k.stands (subst (λ n. Torn n (length (block body)) s c) (behind_gate k) first))))
      (λ (mark : Torn gate 1 (put (gate + 1) (block body) s) c).
      let t = put (gate + 1) (block body) s in
      let t' = put (first_gate limit (is_second k.x) + (g + 1)) (block body) s in
      let same : t ≡ t' = ap (λ n. put n (block body) s) (behind_gate k) in
      let here : Torn (first_gate limit (is_second k.x) + g) 1 t' c = subst (λ u. Torn (first_gate limit (is_second k.x) + g) 1 u c) same (subst (λ n. Torn n 1 t c) (at_gate k) mark) in
      ⊎_elim
      (λ (before : Stands limit k.x es g c). inl (keeps limit k.x es g c sized before))
      (λ (added : Stands limit k.x (es ++ e ∷ []) (g + (5 + length body)) c). inr (keeps limit k.x (es ++ e ∷ []) (g + (5 + length body)) c sized added))
      (append_marked limit k.x es g sized body e t' c may (append_staged limit k.x es g sized s body k.stands) here))
      torn

  -- after both
  pub append_done : (body : List ℕ) (e : LogEntry) → Follows body e → read_log is_limit (put gate (1 ∷ []) (put (gate + 1) (block body) s)) ≡ Ok (log_with limit second (es ++ e ∷ []) (g + (5 + length body)))
  append_done body e f =
      let k = stood in
      let may = may_follow k.x body e f in
      let t' = put (first_gate limit (is_second k.x) + (g + 1)) (block body) s in
      let same : put gate (1 ∷ []) (put (gate + 1) (block body) s) ≡ put (first_gate limit (is_second k.x) + g) (1 ∷ []) t' =
      ap (λ n. put n (1 ∷ []) (put (gate + 1) (block body) s)) (at_gate k) ∙ ap (λ n. put (first_gate limit (is_second k.x) + g) (1 ∷ []) (put n (block body) s)) (behind_gate k) in
      ap (read_log is_limit) same
      ∙ stands_reads is_limit limit k.x (es ++ e ∷ []) (g + (5 + length body)) _ sized (limit_allowed limit sized) (append_opened limit k.x es g sized 1 body e t' (λ z. absurd (omega (arith, z))) may (append_staged limit k.x es g sized s body k.stands))
      ∙ ap (λ b. Ok (log_with limit b (es ++ e ∷ []) (g + (5 + length body)))) (sym k.second_is)

  size_of : (body : List ℕ) → length (1 ∷ block body) ≡ 6 + length body
  size_of body =
      let inner = length-append body (0 ∷ []) in
      let outer = length-append (to_le_bytes w32 (length body)) (body ++ 0 ∷ []) in
      omega (arith, inner, outer)

  other_gate : (k : IsStood) → first_gate limit (not second) ≡ first_gate limit (not (is_second k.x))
  other_gate k = ap (λ b. first_gate limit (not b)) k.second_is

  pub record Alone (body : List ℕ) (e : LogEntry) : Type 0 where
    pub means : entry_of None body ≡ Some e
    pub room : 17 + (5 + length body) ≤ limit

  alone : (x : ℕ) (body : List ℕ) (e : LogEntry) → Alone body e → MayStandAlone limit x es g sized body e
  alone x body e f = let room = f.room in record { means = f.means; below = omega (arith, room) }

  -- at any moment of the two writes
  pub renew_moment : (body : List ℕ) (e : LogEntry) (c : List ℕ) → Alone body e → Torn (first_gate limit (not second)) (length (1 ∷ block body)) s c ⊎ Torn 12 1 (put (first_gate limit (not second)) (1 ∷ block body) s) c → OldOrRenewed limit es e c
  renew_moment body e c f torn =
      let k = stood in
      let may = alone k.x body e f in
      let room = f.room in
      let size = size_of body in
      let other_is = other_gate k in
      let n = length (1 ∷ block body) in
      ⊎_elim
      (λ (first : Torn (first_gate limit (not second)) n s c). inl (keeps limit k.x es g c sized (renew_torn limit k.x es g sized n s c (omega (arith, size, room)) k.stands (subst (λ o. Torn o n s c) other_is first))))
      (λ (mark : Torn 12 1 (put (first_gate limit (not second)) (1 ∷ block body) s) c).
      let t' = put (first_gate limit (not (is_second k.x))) (1 ∷ block body) s in
      let same : put (first_gate limit (not second)) (1 ∷ block body) s ≡ t' = ap (λ o. put o (1 ∷ block body) s) other_is in
      let some_of = renew_switched limit k.x es g sized body e t' c may (renew_staged limit k.x es g sized s body (omega (arith, room)) k.stands) (subst (λ u. Torn 12 1 u c) same mark) in
      ⊎_elim
      (λ (before : Stands limit some_of.0 es g c). inl (keeps limit some_of.0 es g c sized before))
      (λ (new : Stands limit some_of.0 (e ∷ []) (5 + length body) c). inr (keeps limit some_of.0 (e ∷ []) (5 + length body) c sized new))
      some_of.1)
      torn

  -- after both
  pub renew_done : (mark : ℕ) (body : List ℕ) (e : LogEntry) → is_second mark ≡ not second → Alone body e → read_log is_limit (put 12 (mark ∷ []) (put (first_gate limit (not second)) (1 ∷ block body) s)) ≡ Ok (log_with limit (not second) (e ∷ []) (5 + length body))
  renew_done mark body e over f =
      let k = stood in
      let may = alone k.x body e f in
      let room = f.room in
      let other_is = other_gate k in
      let t' = put (first_gate limit (not (is_second k.x))) (1 ∷ block body) s in
      let same : put 12 (mark ∷ []) (put (first_gate limit (not second)) (1 ∷ block body) s) ≡ put 12 (mark ∷ []) t' = ap (λ o. put 12 (mark ∷ []) (put o (1 ∷ block body) s)) other_is in
      ap (read_log is_limit) same
      ∙ stands_reads is_limit limit mark (e ∷ []) (5 + length body) _ sized (limit_allowed limit sized)
      (switched_over limit k.x es g sized mark body e t' (over ∙ ap not k.second_is) may (renew_staged limit k.x es g sized s body (omega (arith, room)) k.stands))
      ∙ ap (λ b. Ok (log_with limit b (e ∷ []) (5 + length body))) over

-- the entry before the next
last_on : (old : Bool) (d : Durable) (ds : List Durable) (room : ℕ) → last_or entry_of room (Some (entry_for old d)) (log_entries old ds) ≡ option_map (entry_for old) (slice_get (d ∷ ds) (length ds))
last_on old d [] room = refl
last_on old d (d' ∷ ds) room = last_on old d' ds room

pub last_kept : (old : Bool) (ds : List Durable) (room : ℕ) → last_or entry_of room None (log_entries old ds) ≡ option_map (entry_for old) (last ds)
last_kept old [] room = refl
last_kept old (d ∷ ds) room = let same : length ds ≡ length (d ∷ ds) - 1 = omega arith in last_on old d ds room ∙ ap (λ n. option_map (entry_for old) (slice_get (d ∷ ds) n)) same

-- ---- on a disk

module _ {D : Type 0} (content : D → Option (List ℕ)) (image : D → List ℕ → Type 0) (moment : D → ℕ) (since : D → ℕ → List ℕ → Type 0) (limit : ℕ) (second : Bool) (es : List LogEntry) (g : ℕ) (sized : IsSized limit) where
  -- the disk holds this log and nothing else
  abbrev pub HoldsLog : D → Type 0
  HoldsLog disk = IfRevealed (content disk) (λ s. (read_log is_limit s ≡ Ok (log_with limit second es g)) × Only s (image disk))

  abbrev pub Moments : D → D → (List ℕ → Type 0) → Type 0
  Moments old new P = IfRevealed (content old) (λ s. LeavesOnly moment since old new P)

  -- where nothing was written
  pub unwritten : (old : D) (P : List ℕ → Type 0) → HoldsLog old → ((c : List ℕ) → since old (moment old) c → image old c) → ((c : List ℕ) → HoldsEntries limit es c → P c) → Moments old old P
  unwritten old P holds only_now keeps_p = tell (content old) (λ s. LeavesOnly moment since old old P) (λ s is.
      let k = told (content old) _ s is holds in
      stays moment since old P (λ c left. subst P (sym (k.1 c (only_now c left))) (keeps_p s (kept_now limit second es g sized s k.0))))

  abbrev gate_place : ℕ
  gate_place = first_gate limit second + g

  pub appending : (old new : D) (body piece : List ℕ) (e : LogEntry) → HoldsLog old → piece ≡ block body → entry_of (last_or entry_of (limit - 16) None es) body ≡ Some e → 17 + g + (5 + length body) ≤ limit
      → IfRevealed (content old) (λ s. LeavesOnly moment since old new (λ c. Torn (gate_place + 1) (length piece) s c ⊎ Torn gate_place 1 (put (gate_place + 1) piece s) c))
      → Moments old new (OldOrAdded limit es e)
  appending old new body piece e holds is_block means room moments = tell (content old) (λ s. LeavesOnly moment since old new (OldOrAdded limit es e)) (λ s is.
      let k = told (content old) _ s is holds in
      let f : Follows limit second es g sized s k.0 body e = record { means = means; room = room } in
      weaker moment since old new _ _ (told (content old) _ s is moments) (λ c torn.
      append_moment limit second es g sized s k.0 body e c f (subst (λ b. Torn (gate_place + 1) (length b) s c ⊎ Torn gate_place 1 (put (gate_place + 1) b s) c) is_block torn)))

  pub appended : (old new : D) (body piece : List ℕ) (e : LogEntry) → HoldsLog old → piece ≡ block body → entry_of (last_or entry_of (limit - 16) None es) body ≡ Some e → 17 + g + (5 + length body) ≤ limit → RevealsAlike (content old) (content new)
      → IfBothRevealed (λ s t. (t ≡ put gate_place (1 ∷ []) (put (gate_place + 1) piece s)) × Only t (image new)) (content old) (content new)
      → IfRevealed (content new) (λ t. (read_log is_limit t ≡ Ok (log_with limit second (es ++ e ∷ []) (g + (5 + length body)))) × Only t (image new))
  appended old new body piece e holds is_block means room tells turns = tell (content new) _ (λ t is_t.
      let s = tells_back (content old) (content new) t is_t tells in
      let k = told (content old) _ s.0 s.1 holds in
      let f : Follows limit second es g sized s.0 k.0 body e = record { means = means; room = room } in
      let w = told (content new) _ t is_t (told (content old) _ s.0 s.1 turns) in
      (ap (read_log is_limit) (w.0 ∙ ap (λ b. put gate_place (1 ∷ []) (put (gate_place + 1) b s.0)) is_block) ∙ append_done limit second es g sized s.0 k.0 body e f, w.1))

  pub renewing : (old new : D) (body piece : List ℕ) (e : LogEntry) → HoldsLog old → piece ≡ 1 ∷ block body → entry_of None body ≡ Some e → 17 + (5 + length body) ≤ limit
      → IfRevealed (content old) (λ s. LeavesOnly moment since old new (λ c. Torn (first_gate limit (not second)) (length piece) s c ⊎ Torn 12 1 (put (first_gate limit (not second)) piece s) c))
      → Moments old new (OldOrRenewed limit es e)
  renewing old new body piece e holds is_block means room moments = tell (content old) (λ s. LeavesOnly moment since old new (OldOrRenewed limit es e)) (λ s is.
      let k = told (content old) _ s is holds in
      let f : Alone limit second es g sized s k.0 body e = record { means = means; room = room } in
      weaker moment since old new _ _ (told (content old) _ s is moments) (λ c torn.
      renew_moment limit second es g sized s k.0 body e c f (subst (λ b. Torn (first_gate limit (not second)) (length b) s c ⊎ Torn 12 1 (put (first_gate limit (not second)) b s) c) is_block torn)))

  pub renewed : (old new : D) (mark : ℕ) (body piece : List ℕ) (e : LogEntry) → HoldsLog old → is_second mark ≡ not second → piece ≡ 1 ∷ block body → entry_of None body ≡ Some e → 17 + (5 + length body) ≤ limit → RevealsAlike (content old) (content new)
      → IfBothRevealed (λ s t. (t ≡ put 12 (mark ∷ []) (put (first_gate limit (not second)) piece s)) × Only t (image new)) (content old) (content new)
      → IfRevealed (content new) (λ t. (read_log is_limit t ≡ Ok (log_with limit (not second) (e ∷ []) (5 + length body))) × Only t (image new))
  renewed old new mark body piece e holds over is_block means room tells turns = tell (content new) _ (λ t is_t.
      let s = tells_back (content old) (content new) t is_t tells in
      let k = told (content old) _ s.0 s.1 holds in
      let f : Alone limit second es g sized s.0 k.0 body e = record { means = means; room = room } in
      let w = told (content new) _ t is_t (told (content old) _ s.0 s.1 turns) in
      (ap (read_log is_limit) (w.0 ∙ ap (λ b. put 12 (mark ∷ []) (put (first_gate limit (not second)) b s.0)) is_block) ∙ renew_done limit second es g sized s.0 k.0 mark body e over f, w.1))

  pub added_seen : (v w : LogState D) (new : D) (e : LogEntry) → v ≡ w → w.is_old ≡ false → Moments v.disk new (OldOrAdded v.limit (log_entries v.is_old v.entries) e) → Moments w.disk new (OldOrAdded w.limit (log_entries false w.entries) e)
  added_seen v w new e same not_old m =
      subst (λ b. Moments w.disk new (OldOrAdded w.limit (log_entries b w.entries) e)) not_old
      (subst (λ (u : LogState D). Moments u.disk new (OldOrAdded u.limit (log_entries u.is_old u.entries) e)) same m)

  pub renewed_seen : (v w : LogState D) (new : D) (e : LogEntry) → v ≡ w → Moments v.disk new (OldOrRenewed v.limit (log_entries v.is_old v.entries) e) → Moments w.disk new (OldOrRenewed w.limit (log_entries w.is_old w.entries) e)
  renewed_seen v w new e same m = subst (λ (u : LogState D). Moments u.disk new (OldOrRenewed u.limit (log_entries u.is_old u.entries) e)) same m

-- ---- what the log keeps then

module _ {D : Type 0} (content : D → Option (List ℕ)) (image : D → List ℕ → Type 0) (disk : D) (limit : ℕ) where
  abbrev pub Stored : Bool → List LogEntry → ℕ → Type 0
  Stored second es closed = IfRevealed (content disk) (λ t. (read_log is_limit t ≡ Ok (log_with limit second es closed)) × Only t (image disk))

  pub shows_stored : (second : Bool) (es : List LogEntry) (closed : ℕ) → Stored second es closed → IfRevealed (content disk) (λ t. Shows limit es (17 + closed) t × Only t (image disk))
  shows_stored second es closed stored = tell (content disk) _ (λ t is.
      let k = told (content disk) _ t is stored in
      (record { contents = log_with limit second es closed; reads = k.0; limit_is = refl; entries_are = refl; size_is = refl }, k.1))

  log_entries-append : (old : Bool) (ds : List Durable) (d : Durable) → log_entries old (ds ++ d ∷ []) ≡ log_entries old ds ++ entry_for old d ∷ []
  log_entries-append old ds d = map-append (entry_for old) ds (d ∷ [])

  stored_added : (second old : Bool) (ds all : List Durable) (d : Durable) (closed more now : ℕ) → old ≡ false → all ≡ ds ++ d ∷ [] → now ≡ closed + more → Stored second (log_entries old ds ++ entry_for false d ∷ []) (closed + more) → Stored second (log_entries old all) now
  stored_added second old ds all d closed more now is_new grown now_is stored =
      let same : log_entries old ds ++ entry_for false d ∷ [] ≡ log_entries old all = ap (λ b. log_entries old ds ++ entry_for b d ∷ []) (sym is_new) ∙ sym (log_entries-append old ds d) ∙ ap (log_entries old) (sym grown) in
      subst (λ n. Stored second (log_entries old all) n) (sym now_is) (subst (λ l. Stored second l (closed + more)) same stored)

  pub kept_added : (second old : Bool) (ds all : List Durable) (d : Durable) (closed more now : ℕ) → IsSized limit → old ≡ false → all ≡ ds ++ d ∷ [] → now ≡ closed + more → 17 + closed + more ≤ limit
      → Stored second (log_entries old ds ++ entry_for false d ∷ []) (closed + more) → IsOnDisk content image disk limit second old (log_entries old all) now true
  kept_added second old ds all d closed more now sized is_new grown now_is fits stored = record {
    low = sized.low;
    high = sized.high;
    room = omega (arith, now_is, fits);
    some = λ t. absurd cc;
    revealed = λ _. stored_added second old ds all d closed more now is_new grown now_is stored;
  }

  pub ready_added : (second old : Bool) (ds all : List Durable) (d : Durable) (closed more now : ℕ) → IsSized limit → old ≡ false → all ≡ ds ++ d ∷ [] → now ≡ closed + more → 17 + closed + more ≤ limit
      → Stored second (log_entries old ds ++ entry_for false d ∷ []) (closed + more) → IfRevealed (content disk) (λ t. Shows limit (log_entries old all) (17 + now) t × Only t (image disk))
  ready_added second old ds all d closed more now sized is_new grown now_is fits stored = shows_stored second (log_entries old all) now (stored_added second old ds all d closed more now is_new grown now_is stored)

  stored_renewed : (second : Bool) (all : List Durable) (d : Durable) (need now : ℕ) → all ≡ d ∷ [] → now ≡ need → Stored (not second) (entry_for false d ∷ []) need → Stored (not second) (log_entries false all) now
  stored_renewed second all d need now alone now_is stored = subst (λ n. Stored (not second) (log_entries false all) n) (sym now_is) (subst (λ (l : List Durable). Stored (not second) (log_entries false l) need) (sym alone) stored)

  pub kept_renewed : (second : Bool) (all : List Durable) (d : Durable) (need now : ℕ) → IsSized limit → all ≡ d ∷ [] → now ≡ need → 17 + need ≤ limit → Stored (not second) (entry_for false d ∷ []) need → IsOnDisk content image disk limit (not second) false (log_entries false all) now true
  kept_renewed second all d need now sized alone now_is fits stored = record {
    low = sized.low;
    high = sized.high;
    room = omega (arith, now_is, fits);
    some = λ t. absurd cc;
    revealed = λ _. stored_renewed second all d need now alone now_is stored;
  }

  pub ready_renewed : (second : Bool) (all : List Durable) (d : Durable) (need now : ℕ) → IsSized limit → all ≡ d ∷ [] → now ≡ need → 17 + need ≤ limit → Stored (not second) (entry_for false d ∷ []) need → IfRevealed (content disk) (λ t. Shows limit (log_entries false all) (17 + now) t × Only t (image disk))
  ready_renewed second all d need now sized alone now_is fits stored = shows_stored (not second) (log_entries false all) now (stored_renewed second all d need now alone now_is stored)

-- a log after a write that was refused
pub left_unready : {D T : Type 0} (old new : LogState D) (r : Result T AppendFault) (e : Refused) → IsErrAnd r (λ y. y ≡ fault_of e) → StaysUnready old new → StaysWhole old new r
left_unready old new (Ok x) e is k = absurd is
left_unready old new (Err (Full size need)) refused.Failed is k = absurd cc
left_unready old new (Err (Full size need)) refused.NoMemory is k = absurd cc
left_unready old new (Err Disk) e is k = k
left_unready old new (Err NoMemory) e is k = k
