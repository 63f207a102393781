-- A loop over the gates of an area.
use Rattle.std.proofs.Common.{◌≡◌, ◌≢◌, ℕ, zero, suc, ◌+◌, ◌-◌, ◌<◌, ◌≤◌, Bool, true, false, cond, List, [], ◌∷◌, ◌++◌, length, get_or, take, drop, Option, Some, None, Result, Ok, Err, refl, sym, ap, ◌∙◌, subst, arith}
use Rattle.std.specs.Prelude.{not, slice_get, IfSome}
use Rattle.std.specs.List.{All}
use Rattle.std.specs.Option.{option_map}
use Rattle.std.proofs.lemmas.List.{append-nil, drop_more, drop-drop, length-drop, length-take-le, map-append}
use Rattle.gp_msg.specs.declared.durable.Durable.{Durable}
use Rattle.gp_command.proofs.Fields.{when_some}
use Rattle.gp_vlog.specs.Bodies.{LogEntry, ◌>>=◌, kind_of, epoch_at, part_at, part_before, fits_version, entry_with, entry_of}
use Rattle.gp_vlog.specs.Gates.{length_at, body_at, meant_by, opened, goes_on, area}
use Rattle.gp_vlog.specs.Logs.{entry_for, log_entries, last}
use Rattle.gp_vlog.proofs.Areas.{after, after_ok, after_err, after_more, opened_holds, area_step, area_closed}
use Rattle.gp_vlog.proofs.Written.{bind_some, finish}

module _ {E : Type 0} (meaning : Option E → List ℕ → Option E) (room : ℕ) (bytes : List ℕ) (all : Result (List E × ℕ) ℕ) where
  abbrev pub Sofar : List E → Option E → ℕ → Type 0
  Sofar es before at = all ≡ after meaning room es (area meaning room before at zero (drop at bytes))

  pub walk_closed : (es : List E) (before : Option E) (at : ℕ) → Sofar es before at → at < length bytes → get_or bytes at 0 ≡ 0 → all ≡ Ok (es, at)
  walk_closed es before at sofar lt shut =
      let here : drop at bytes ≡ 0 ∷ drop (at + 1) bytes = drop_more bytes at 0 lt ∙ ap (λ b. b ∷ drop (at + 1) bytes) shut in
      sofar
      ∙ ap (λ l. after meaning room es (area meaning room before at zero l)) here
      ∙ ap (after meaning room es) (area_closed meaning room before at (drop (at + 1) bytes))
      ∙ after_ok meaning room es [] at
      ∙ ap (λ (l : List E). Ok (l, at)) (append-nil es)

  pub at_end : (before : Option E) (at : ℕ) → area meaning room before at zero [] ≡ Err at
  unfolding area
  at_end before at = refl

  pub walk_end : (es : List E) (before : Option E) (at : ℕ) → Sofar es before at → length bytes ≤ at → all ≡ Err at
  walk_end es before at sofar le =
      let here : drop at bytes ≡ [] = nothing bytes at le in
      sofar ∙ ap (λ l. after meaning room es (area meaning room before at zero l)) here ∙ ap (after meaning room es) (at_end before at) ∙ after_err meaning room es at
    where
      nothing : (xs : List ℕ) (n : ℕ) → length xs ≤ n → drop n xs ≡ []
      nothing [] zero le = refl
      nothing [] (suc n) le = refl
      nothing (x ∷ xs) zero le = absurd (omega arith)
      nothing (x ∷ xs) (suc n) le = nothing xs n (omega arith)

  pub broken_gate : (before : Option E) (at gate : ℕ) (rest : List ℕ) → gate ≢ 0 → opened meaning room before at rest ≡ None → area meaning room before at zero (gate ∷ rest) ≡ Err at
  unfolding area
  broken_gate before at zero rest is_open none = absurd (is_open refl)
  broken_gate before at (suc gate) rest is_open none = ap (λ o. goes_on at o (λ f. area meaning room (Some f) (at + (5 + length_at rest)) (4 + length_at rest) rest)) none

  pub walk_broken : (es : List E) (before : Option E) (at : ℕ) → Sofar es before at → at < length bytes → get_or bytes at 0 ≢ 0 → opened meaning room before at (drop (at + 1) bytes) ≡ None → all ≡ Err at
  walk_broken es before at sofar lt is_open none =
      sofar
      ∙ ap (λ l. after meaning room es (area meaning room before at zero l)) (drop_more bytes at 0 lt)
      ∙ ap (after meaning room es) (broken_gate before at (get_or bytes at 0) (drop (at + 1) bytes) is_open none)
      ∙ after_err meaning room es at

  -- the body is whole, and stands for an entry
  pub record Step (es : List E) (before : Option E) (at : ℕ) (body : List ℕ) (e : E) : Type 0 where
    pub sofar : Sofar es before at
    pub inside : at < length bytes
    pub is_open : get_or bytes at 0 ≢ 0
    pub there : body_at room at (drop (at + 1) bytes) ≡ Some body
    pub means : meaning before body ≡ Some e

  pub record Next (es : List E) (at : ℕ) (body : List ℕ) (e : E) : Type 0 where
    pub sofar : Sofar (es ++ e ∷ []) (Some e) (at + (5 + length body))
    pub within : at + (5 + length body) < length bytes
    pub below : at + (5 + length body) < room

  text_of : (b : Bool) (text body : List ℕ) → cond b (Some text) None ≡ Some body → text ≡ body
  text_of true text body e = cc
  text_of false text body e = absurd cc

  pub walk_more : (es : List E) (before : Option E) (at : ℕ) (body : List ℕ) (e : E) → Step es before at body e → Next es at body e
  walk_more es before at body e s =
      let rest = drop (at + 1) bytes in
      let is : opened meaning room before at rest ≡ Some e = ap (meant_by (meaning before)) s.there ∙ s.means in
      let h = opened_holds meaning room before at rest e is in
      let text : take (length_at rest) (drop 4 rest) ≡ body = text_of _ (take (length_at rest) (drop 4 rest)) body s.there in
      let inside = h.inside in
      let left = length-drop 4 rest in
      let long : length body ≡ length_at rest = ap length (sym text) ∙ length-take-le (length_at rest) (drop 4 rest) (omega (arith, left)) in
      let behind = length-drop (at + 1) bytes in
      let lt = s.inside in
      let below = h.below in
      let place : at + 1 + (4 + length_at rest) ≡ at + (5 + length body) = omega (arith, long) in
      let tail : drop (4 + length_at rest) rest ≡ drop (at + (5 + length body)) bytes = drop-drop (4 + length_at rest) (at + 1) bytes ∙ ap (λ n. drop n bytes) place in
      record {
        sofar =
            s.sofar
            ∙ ap (λ l. after meaning room es (area meaning room before at zero l)) (drop_more bytes at 0 s.inside)
            ∙ ap (after meaning room es) (area_step meaning room before at (get_or bytes at 0) rest e s.is_open h)
            ∙ sym (after_more meaning room es (e ∷ []) (area meaning room (Some e) (at + (5 + length_at rest)) zero (drop (4 + length_at rest) rest)))
            ∙ ap (λ n. after meaning room (es ++ e ∷ []) (area meaning room (Some e) (at + (5 + n)) zero (drop (4 + length_at rest) rest))) (sym long)
            ∙ ap (λ l. after meaning room (es ++ e ∷ []) (area meaning room (Some e) (at + (5 + length body)) zero l)) tail;
        within = omega (arith, long, inside, behind);
        below = omega (arith, long, below);
      }

-- ---- entries of one version

fits_gives : (b : LogEntry) (v : Bool) → fits_version (Some b) v ≡ true → b.old ≡ v
fits_gives b true e = e
fits_gives b false e = turned b.old e
  where
    turned : (a : Bool) → not a ≡ true → a ≡ false
    turned true k = absurd cc
    turned false k = refl

version_of : (before : Option LogEntry) (body : List ℕ) (x : LogEntry) → entry_of before body ≡ Some x → fits_version before x.old ≡ true
unfolding entry_of
version_of before [] x e = absurd cc
version_of before (first ∷ bytes) x e =
    let kind = bind_some (kind_of first) (λ kind. epoch_at kind.0 bytes >>= λ epoch. part_at kind.1 (part_before before) epoch.0 epoch.1 >>= λ part. finish before kind.0 part) x e in
    let epoch = bind_some (epoch_at kind.0.0 bytes) (λ epoch. part_at kind.0.1 (part_before before) epoch.0 epoch.1 >>= λ part. finish before kind.0.0 part) x kind.2 in
    let part = bind_some (part_at kind.0.1 (part_before before) epoch.0.0 epoch.0.1) (λ part. finish before kind.0.0 part) x epoch.2 in
    let w = when_some (fits_version before kind.0.0) (entry_with kind.0.0 part.0) x part.2 in
    ap (λ (y : LogEntry). fits_version before y.old) (sym w.1) ∙ w.0

some_last : (d : Durable) (ds : List Durable) → (x : Durable) × (last (d ∷ ds) ≡ Some x)
some_last d ds = go d ds
  where
    at_length : (d : Durable) (ds : List Durable) → (x : Durable) × (slice_get (d ∷ ds) (length ds) ≡ Some x)
    at_length d [] = (d, refl)
    at_length d (d' ∷ ds) = at_length d' ds

    go : (d : Durable) (ds : List Durable) → (x : Durable) × (last (d ∷ ds) ≡ Some x)
    go d ds = let r = at_length d ds in let same : length (d ∷ ds) - 1 ≡ length ds = omega arith in (r.0, ap (slice_get (d ∷ ds)) same ∙ r.1)

same_version : (old v : Bool) (ds : List Durable) (d : Durable) (body : List ℕ) → entry_of (option_map (entry_for old) (last ds)) body ≡ Some (entry_for v d) → log_entries old ds ≡ log_entries v ds
same_version old v [] d body e = refl
same_version old v (x ∷ xs) d body e =
    let l = some_last x xs in
    let before : option_map (entry_for old) (last (x ∷ xs)) ≡ Some (entry_for old l.0) = ap (option_map (entry_for old)) l.1 in
    let same = fits_gives (entry_for old l.0) v (ap (λ o. fits_version o v) (sym before) ∙ version_of (option_map (entry_for old) (last (x ∷ xs))) body (entry_for v d) e) in
    ap (λ b. log_entries b (x ∷ xs)) same

pub kept_grown : (old v : Bool) (ds more : List Durable) (d : Durable) (body : List ℕ) → entry_of (option_map (entry_for old) (last ds)) body ≡ Some (entry_for v d) → more ≡ ds ++ d ∷ [] → log_entries old ds ++ entry_for v d ∷ [] ≡ log_entries v more
kept_grown old v ds more d body e is = ap (λ l. l ++ entry_for v d ∷ []) (same_version old v ds d body e) ∙ sym (map-append (entry_for v) ds (d ∷ [])) ∙ ap (log_entries v) (sym is)

last_push : (ds : List Durable) (d : Durable) → last (ds ++ d ∷ []) ≡ Some d
last_push [] d = refl
last_push (x ∷ xs) d =
    let same : length ((x ∷ xs) ++ d ∷ []) - 1 ≡ length (xs ++ d ∷ []) = omega arith in ap (slice_get (x ∷ (xs ++ d ∷ []))) same ∙ found x xs d
  where
    found : (x : Durable) (xs : List Durable) (d : Durable) → slice_get (x ∷ (xs ++ d ∷ [])) (length (xs ++ d ∷ [])) ≡ Some d
    found x [] d = refl
    found x (y ∷ ys) d = found y ys d

pub last_grown : (v : Bool) (ds more : List Durable) (d : Durable) → more ≡ ds ++ d ∷ [] → Some (entry_for v d) ≡ option_map (entry_for v) (last more)
last_grown v ds more d is = sym (ap (λ l. option_map (entry_for v) (last l)) is ∙ ap (option_map (entry_for v)) (last_push ds d))

pub last_keeps : (P : Durable → Type 0) (ds : List Durable) (o : Option Durable) → All P ds → o ≡ last ds → IfSome o P
last_keeps P ds o all is = subst (λ q. IfSome q P) (sym is) (at_last ds all)
  where
    at_place : (xs : List Durable) (n : ℕ) → All P xs → IfSome (slice_get xs n) P
    at_place [] n h = tt
    at_place (x ∷ xs) zero h = h 0 x (omega arith)
    at_place (x ∷ xs) (suc n) h = at_place xs n (λ k d lt. h (suc k) d (omega arith))

    at_last : (xs : List Durable) → All P xs → IfSome (last xs) P
    at_last xs h = at_place xs (length xs - 1) h
