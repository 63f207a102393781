-- A disk that is taken out of a list and put back.
use Rattle.std.proofs.Common.{◌≡◌, ℕ, zero, suc, ◌<◌, Bool, List, [], ◌∷◌, length, Option, Some, refl, sym, ap, ◌∙◌, subst, arith}
use Rattle.std.specs.Prelude.{◌≢◌, slice_get, slice_set}
use Rattle.std.specs.List.{remove, insert}
use Rattle.gp_cli.specs.Outside.{DeviceState, device, disk_states, AllBut}
use Rattle.gp_msg.specs.declared.record.Record.{Record}
use Rattle.gp_cli.specs.Causes.{log_cause, device_at}
use Rattle.gp_cli.specs.Logs.{LogEnds}
use Rattle.gp_cli.specs.Serving.{EachDisk, EndsBy}
use Rattle.gp_cli.proofs.Causes.{log_ends}

module _ {D : Type 0} where
  -- what was taken out and put back at its place is the only change
  put_back : (xs : List D) (k : ℕ) (d : D) → k < length xs → insert (remove xs k) k d ≡ slice_set xs k d
  put_back [] k d lt = absurd (omega (arith, lt))
  put_back (x ∷ xs) zero d lt = refl
  put_back (x ∷ xs) (suc k) d lt = ap (λ (ys : List D). x ∷ ys) (put_back xs k d (omega (arith, lt)))

  set_length : (xs : List D) (k : ℕ) (d : D) → length (slice_set xs k d) ≡ length xs
  set_length [] k d = refl
  set_length (x ∷ xs) zero d = refl
  set_length (x ∷ xs) (suc k) d = ap suc (set_length xs k d)

  set_same : (xs : List D) (k : ℕ) (d : D) → k < length xs → slice_get (slice_set xs k d) k ≡ Some d
  set_same [] k d lt = absurd (omega (arith, lt))
  set_same (x ∷ xs) zero d lt = refl
  set_same (x ∷ xs) (suc k) d lt = set_same xs k d (omega (arith, lt))

  set_other : (xs : List D) (k i : ℕ) (d : D) → k ≢ i → slice_get (slice_set xs k d) i ≡ slice_get xs i
  set_other [] k i d ne = refl
  set_other (x ∷ xs) zero zero d ne = absurd (ne refl)
  set_other (x ∷ xs) zero (suc i) d ne = refl
  set_other (x ∷ xs) (suc k) zero d ne = refl
  set_other (x ∷ xs) (suc k) (suc i) d ne = set_other xs k i d (λ e. ne (ap suc e))

  pub all_but : (xs ys : List D) (k : ℕ) (d : D) → k < length xs → ys ≡ insert (remove xs k) k d → AllBut (Some k) xs ys
  all_but xs ys k d lt is =
      let set = is ∙ put_back xs k d lt in
      record {
        count = ap length set ∙ set_length xs k d;
        others = λ i ne. ap (λ (zs : List D). slice_get zs i) set ∙ set_other xs k i d (λ e. ne (ap (λ (j : ℕ). Some j) e));
      }

  alike : (P : D → D → Type 0) (a b c d : D) → P a b → a ≡ c → b ≡ d → P c d
  alike P a b c d h e f = subst (λ (x : D). P x d) e (subst (P a) f h)

  each_at : (P : D → D → Type 0) (xs : List D) (k i : ℕ) (was now a b : D) → P was now → ((d : D) → P d d) → slice_get xs k ≡ Some was → slice_get xs i ≡ Some a → slice_get (slice_set xs k now) i ≡ Some b → P a b
  each_at P [] k i was now a b changed same there at_a at_b = cc
  each_at P (x ∷ xs) zero zero was now a b changed same there at_a at_b =
      alike P was now a b changed (let e : was ≡ a = cc in e) (let e : now ≡ b = cc in e)
  each_at P (x ∷ xs) zero (suc i) was now a b changed same there at_a at_b = alike P a a a b (same a) refl (let e : Some a ≡ Some b = sym at_a ∙ at_b in let f : a ≡ b = cc in f)
  each_at P (x ∷ xs) (suc k) zero was now a b changed same there at_a at_b = alike P a a a b (same a) refl (let e : Some a ≡ Some b = sym at_a ∙ at_b in let f : a ≡ b = cc in f)
  each_at P (x ∷ xs) (suc k) (suc i) was now a b changed same there at_a at_b = each_at P xs k i was now a b changed same there at_a at_b

  -- what holds of the disk that was used, and of each that stayed, holds of each disk
  pub each_disk : (P : D → D → Type 0) (xs ys : List D) (k : ℕ) (was now : D) → k < length xs → slice_get xs k ≡ Some was → ys ≡ insert (remove xs k) k now → P was now → ((d : D) → P d d) → EachDisk P xs ys
  each_disk P xs ys k was now lt there is changed same = λ i a b at_a at_b.
      each_at P xs k i was now a b changed same there at_a (sym (ap (λ (zs : List D). slice_get zs i) (is ∙ put_back xs k now lt)) ∙ at_b)

-- what is seen of a disk at its place
module _ {D : Type 0} (content : D → Option (List ℕ)) (faults : D → ℕ) where
  pub device_there : (xs : List D) (k : ℕ) (d : D) → slice_get xs k ≡ Some d → device_at k (disk_states content faults xs) ≡ device (content d) (faults d)
  device_there [] k d at = cc
  device_there (x ∷ xs) zero d at = ap (λ (y : D). device (content y) (faults y)) (let e : x ≡ d = cc in e)
  device_there (x ∷ xs) (suc k) d at = device_there xs k d at

  pub device_put_back : (xs ys : List D) (k : ℕ) (d : D) → k < length xs → ys ≡ insert (remove xs k) k d → device_at k (disk_states content faults ys) ≡ device (content d) (faults d)
  device_put_back xs ys k d lt is = device_there ys k d (ap (λ (zs : List D). slice_get zs k) (is ∙ put_back xs k d lt) ∙ set_same xs k d lt)

-- what came of the disk at its place came of it in the list
module _ {D : Type 0} (content : D → Option (List ℕ)) (faults : D → ℕ) where
  pub ends_there : (upgrades : Bool) (xs ys : List D) (k : ℕ) (was now : D) (before after : DeviceState) (status : ℕ) (trail : List Record) → k < length xs → slice_get xs k ≡ Some was → ys ≡ insert (remove xs k) k now
      → LogEnds (log_cause upgrades k (device (content was) (faults was)) (device (content now) (faults now))) before after status → trail ≡ []
      → EndsBy (log_cause upgrades k (device_at k (disk_states content faults xs)) (device_at k (disk_states content faults ys))) before after status trail
  ends_there upgrades xs ys k was now before after status trail lt at is ends none =
      let first = device_there content faults xs k was at in
      let second = device_put_back content faults xs ys k now lt is in
      let there : LogEnds (log_cause upgrades k (device_at k (disk_states content faults xs)) (device_at k (disk_states content faults ys))) before after status =
      subst (λ (s : DeviceState). LogEnds (log_cause upgrades k s (device_at k (disk_states content faults ys))) before after status) (sym first)
      (subst (λ (s : DeviceState). LogEnds (log_cause upgrades k (device (content was) (faults was)) s) before after status) (sym second) ends) in
      log_ends (log_cause upgrades k (device_at k (disk_states content faults xs)) (device_at k (disk_states content faults ys))) _ before after status trail (λ ending cause. cause) there none
