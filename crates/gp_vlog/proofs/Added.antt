-- What votes add to each other.
use Rattle.std.proofs.Common.{◌≡◌, ℕ, zero, suc, ◌+◌, ◌<◌, ◌≤◌, Bool, true, false, cond, List, [], ◌∷◌, ◌++◌, filter, length, get_or, take, Some, refl, sym, ap, subst, ◌∙◌, arith}
use Rattle.std.specs.Prelude.{not, slice_index_or, slice_get, Option, None, IfSome}
use Rattle.std.specs.Option.{option_map}
use Rattle.std.specs.List.{list_any, All}
use Rattle.std.proofs.lemmas.List.{take_more}
use Rattle.gp_vlog.specs.Bodies.{base_or_empty}
use Rattle.gp_command.specs.declared.command.Command.{Command}
use Rattle.gp_command.specs.Conflict.{same}
use Rattle.gp_command.proofs.ConflictLemmas.{same_itself, same-true}
use Rattle.gp_history.specs.History.{History, IsHistory, IsPrefix, has, push, pushes, empty}
use Rattle.gp_history.specs.Sequence.{history_of, no_repeat}
use Rattle.gp_history.specs.Canonical.{canonical}
use Rattle.gp_history.proofs.Tests.{In, both, fst_of, snd_of, left_of, right_of, one_of, by_cases, never}
use Rattle.gp_history.proofs.Sets.{has_history_of}
use Rattle.gp_history.proofs.Joins.{empty_none, history_of_is, history_of-push}
use Rattle.gp_history.proofs.Push.{push_there, has-push}
use Rattle.gp_history.proofs.Bound.{extended_by}
use Rattle.gp_history.proofs.Places.{take_next}
use Rattle.gp_history.proofs.Canonical.{in_filtered, canonical_stands}
use Rattle.gp_history.proofs.Acyclic.{canonical_no_repeat}
use Rattle.gp_history.proofs.Counts.{no_longer_lists}
use Rattle.gp_history.proofs.Meet.{in_filter, from_filter}
use Rattle.gp_vlog.specs.Prefixes.{fresh, additions, are_same, adds}

-- ---- members

pub all_in : (P : Command → Type 0) (xs : List Command) (c : Command) → All P xs → In xs c → P c
all_in P [] c h i = absurd cc
all_in P (x ∷ xs) c h i = one_of (same c x) (list_any (same c) xs) i
    (λ s. subst P (sym (same-true c x s)) (h 0 x (omega arith)))
    (λ m. all_in P xs c (λ k d lt. h (suc k) d (omega arith)) m)

in_at : (xs : List Command) (k : ℕ) (d : Command) → k < length xs → In xs (slice_index_or xs k d)
in_at [] k d lt = absurd (omega arith)
in_at (x ∷ xs) zero d lt = left_of (same x x) _ (same_itself x)
in_at (x ∷ xs) (suc k) d lt = right_of (same (slice_index_or xs k d) x) _ (in_at xs k d (omega arith))

pub all_of : (P : Command → Type 0) (xs : List Command) → ((c : Command) → In xs c → P c) → All P xs
all_of P xs f k d lt = f (slice_index_or xs k d) (in_at xs k d lt)

-- what is added stands in the vote
pub in_additions : (base : History) (xs : List Command) (c : Command) → In (additions base (history_of xs)) c → In xs c
in_additions base xs c i =
    let there = in_filtered (λ d. not (has base d)) (canonical (history_of xs)) c i in
    sym (has_history_of xs c) ∙ ap (λ (h : History). has h c) (sym (canonical_stands xs)) ∙ has_history_of (canonical (history_of xs)) c ∙ there

pub all_added : (P : Command → Type 0) (base : History) (xs : List Command) → All P xs → All P (additions base (history_of xs))
all_added P base xs h = all_of P (additions base (history_of xs)) (λ c i. all_in P xs c h (in_additions base xs c i))

-- ---- pushing what is added

pushes_fresh : (base h : History) (cs : List Command) → ((c : Command) → has base c ≡ true → has h c ≡ true) → pushes h (fresh base cs) ≡ pushes h cs
pushes_fresh base h [] within = refl
pushes_fresh base h (c ∷ cs) within = by_cases (has base c)
    (λ there.
    let gone : fresh base (c ∷ cs) ≡ fresh base cs = ap (λ b. cond (not b) (c ∷ fresh base cs) (fresh base cs)) there in
    ap (pushes h) gone ∙ pushes_fresh base h cs within ∙ ap (λ (u : History). pushes u cs) (sym (push_there h c (within c there))))
    (λ new.
    let stays : fresh base (c ∷ cs) ≡ c ∷ fresh base cs = ap (λ b. cond (not b) (c ∷ fresh base cs) (fresh base cs)) new in
    ap (pushes h) stays ∙ pushes_fresh base (push h c) cs (λ d k. has-push h c d ∙ right_of (same d c) (has h d) (within d k)))

pub add_up : (base v : History) → IsHistory base → IsHistory v → IsPrefix base v → pushes base (additions base v) ≡ v
add_up base v hb hv p = pushes_fresh base base (canonical v) (λ c k. k) ∙ extended_by base v hb hv p

are_same-refl : (cs : List Command) → are_same cs cs ≡ true
are_same-refl [] = refl
are_same-refl (c ∷ cs) = both (same_itself c) (are_same-refl cs)

-- what is written keeps the rule
pub adds_additions : (base v : History) → IsHistory base → IsHistory v → IsPrefix base v → adds base (additions base v) ≡ true
adds_additions base v hb hv p = ap (λ u. are_same (additions base u) (additions base v)) (add_up base v hb hv p) ∙ are_same-refl (additions base v)

-- ---- no vote at all

pub nothing_in_empty : (c : Command) → has empty c ≡ false
nothing_in_empty c = empty_none c

-- ---- one more command

pushes-push : (h : History) (xs : List Command) (c : Command) → pushes h (xs ++ c ∷ []) ≡ push (pushes h xs) c
pushes-push h [] c = refl
pushes-push h (x ∷ xs) c = pushes-push (push h x) xs c

pub pushed_history : (xs new : List Command) (c : Command) → new ≡ cond (has (history_of xs) c) xs (xs ++ c ∷ []) → history_of new ≡ push (history_of xs) c
pushed_history xs new c is = by_cases (has (history_of xs) c)
    (λ there. ap history_of (is ∙ ap (λ b. cond b xs (xs ++ c ∷ [])) there) ∙ sym (push_there (history_of xs) c there))
    (λ gone. ap history_of (is ∙ ap (λ b. cond b xs (xs ++ c ∷ [])) gone) ∙ history_of-push xs c)

pub pushed_more : (h : History) (cs xs new : List Command) (i : ℕ) (c d : Command) → i < length cs → c ≡ get_or cs i c → d ≡ c → history_of xs ≡ pushes h (take i cs) → new ≡ cond (has (history_of xs) d) xs (xs ++ d ∷ []) → history_of new ≡ pushes h (take (i + 1) cs)
pushed_more h cs xs new i c d lt at same sofar is =
    pushed_history xs new d is
    ∙ ap (λ (u : History). push u d) sofar
    ∙ ap (push (pushes h (take i cs))) (same ∙ at)
    ∙ sym (ap (pushes h) (take_more cs i c lt) ∙ pushes-push h (take i cs) (get_or cs i c))

fresh-append : (base : History) (xs : List Command) (c : Command) → fresh base (xs ++ c ∷ []) ≡ cond (not (has base c)) (fresh base xs ++ c ∷ []) (fresh base xs)
fresh-append base [] c = by_cases (has base c)
    (λ there. ap (λ b. cond (not b) (c ∷ []) []) there ∙ sym (ap (λ b. cond (not b) (c ∷ []) []) there))
    (λ gone. refl)
fresh-append base (x ∷ xs) c =
    ap (λ (l : List Command). cond (not (has base x)) (x ∷ l) l) (fresh-append base xs c) ∙ swapped (has base x) (has base c)
  where
    swapped : (a b : Bool) → cond (not a) (x ∷ cond (not b) (fresh base xs ++ c ∷ []) (fresh base xs)) (cond (not b) (fresh base xs ++ c ∷ []) (fresh base xs))
        ≡ cond (not b) (cond (not a) (x ∷ fresh base xs) (fresh base xs) ++ c ∷ []) (cond (not a) (x ∷ fresh base xs) (fresh base xs))
    swapped true true = refl
    swapped true false = refl
    swapped false true = refl
    swapped false false = refl

pub fresh_more : (base : History) (cs : List Command) (i : ℕ) (c : Command) → slice_get cs i ≡ Some c → has base c ≡ false → fresh base (take (i + 1) cs) ≡ fresh base (take i cs) ++ c ∷ []
fresh_more base cs i c at gone = ap (fresh base) (take_next cs i c at) ∙ fresh-append base (take i cs) c ∙ ap (λ b. cond (not b) (fresh base (take i cs) ++ c ∷ []) (fresh base (take i cs))) gone

pub fresh_same : (base : History) (cs : List Command) (i : ℕ) (c : Command) → slice_get cs i ≡ Some c → has base c ≡ true → fresh base (take (i + 1) cs) ≡ fresh base (take i cs)
fresh_same base cs i c at there = ap (fresh base) (take_next cs i c at) ∙ fresh-append base (take i cs) c ∙ ap (λ b. cond (not b) (fresh base (take i cs) ++ c ∷ []) (fresh base (take i cs))) there

-- ---- whose commands a vote has

has-pushes : (h : History) (cs : List Command) (c : Command) → has (pushes h cs) c ≡ true → (P : Type 0) → (has h c ≡ true → P) → (In cs c → P) → P
has-pushes h [] c e P there among = there e
has-pushes h (x ∷ xs) c e P there among = has-pushes (push h x) xs c e P
    (λ k. one_of (same c x) (has h c) (sym (has-push h x c) ∙ k) (λ s. among (left_of (same c x) (list_any (same c) xs) s)) there)
    (λ m. among (right_of (same c x) (list_any (same c) xs) m))

pub all_pushed : (P : Command → Type 0) (base : History) (cs vote : List Command) → history_of vote ≡ pushes base cs → ((c : Command) → has base c ≡ true → P c) → All P cs → All P vote
all_pushed P base cs vote is log_entries more = all_of P vote (λ c i. has-pushes base cs c (ap (λ (h : History). has h c) (sym is) ∙ has_history_of vote c ∙ i) (P c) (log_entries c) (all_in P cs c more))

pub all_of_base : (P : Command → Type 0) (o : Option (List Command)) (c : Command) → IfSome o (λ vote. All P vote) → has (base_or_empty (option_map history_of o)) c ≡ true → P c
all_of_base P None c h e = never (has empty c) e (empty_none c)
all_of_base P (Some vote) c h e = all_in P vote c h (sym (has_history_of vote c) ∙ e)

-- ---- one addition alone

in_canonical : (xs : List Command) (c : Command) → list_any (same c) (canonical (history_of xs)) ≡ list_any (same c) xs
in_canonical xs c = sym (has_history_of (canonical (history_of xs)) c) ∙ ap (λ (h : History). has h c) (canonical_stands xs) ∙ has_history_of xs c

fresh_as : (base : History) (xs ys : List Command) → ((c : Command) → In xs c → In ys c) → (c : Command) → In (fresh base xs) c → In (fresh base ys) c
fresh_as base xs ys within c i = in_filter (λ d. not (has base d)) ys c (within c (in_filtered (λ d. not (has base d)) xs c i)) (from_filter (λ d. not (has base d)) xs c i)

no_repeat_filter : (p : Command → Bool) (xs : List Command) → no_repeat xs ≡ true → no_repeat (filter p xs) ≡ true
no_repeat_filter p [] n = refl
no_repeat_filter p (x ∷ xs) n = by_cases (p x)
    (λ k. rw k (both (by_cases (list_any (same x) (filter p xs))
    (λ i. absurd (never (list_any (same x) xs) (in_filtered p xs x i) (no_more (list_any (same x) xs) (fst_of (not (list_any (same x) xs)) (no_repeat xs) n))))
    (λ i. ap not i))
    (no_repeat_filter p xs (snd_of (not (list_any (same x) xs)) (no_repeat xs) n))))
    (λ k. rw k (no_repeat_filter p xs (snd_of (not (list_any (same x) xs)) (no_repeat xs) n)))
  where
    no_more : (b : Bool) → not b ≡ true → b ≡ false
    no_more true e = absurd cc
    no_more false e = refl

same_few : (fs gs : List Command) → length fs ≤ 1 → no_repeat gs ≡ true → ((c : Command) → In fs c → In gs c) → ((c : Command) → In gs c → In fs c) → fs ≡ gs
same_few [] [] few n there back = refl
same_few [] (a ∷ gs) few n there back = let i = back a (left_of (same a a) _ (same_itself a)) in absurd cc
same_few (c ∷ []) [] few n there back = let i = there c (left_of (same c c) _ (same_itself c)) in absurd cc
same_few (c ∷ []) (a ∷ []) few n there back = ap (λ d. d ∷ []) (sym (one_of (same a c) false (back a (left_of (same a a) _ (same_itself a))) (λ s. same-true a c s) (λ i. absurd cc)))
same_few (c ∷ []) (a ∷ b ∷ gs) few n there back = let le = no_longer_lists (a ∷ b ∷ gs) (c ∷ []) n back in absurd (omega (arith, le))
same_few (c ∷ d ∷ fs) gs few n there back = absurd (omega (arith, few))

pub few_added : (base : History) (xs added : List Command) → added ≡ fresh base xs → length added ≤ 1 → added ≡ additions base (history_of xs)
few_added base xs added is few =
    let h = history_of xs in
    is ∙ same_few (fresh base xs) (additions base h) (subst (λ l. length l ≤ 1) is few)
    (no_repeat_filter (λ c. not (has base c)) (canonical h) (canonical_no_repeat h (history_of_is xs)))
    (fresh_as base xs (canonical h) (λ c i. in_canonical xs c ∙ i))
    (fresh_as base (canonical h) xs (λ c i. sym (in_canonical xs c) ∙ i))
