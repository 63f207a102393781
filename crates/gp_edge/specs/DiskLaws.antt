-- The laws of a disk in memory.
use Rattle.std.specs.Prelude.{◌≡◌, ℕ, ◌≤◌, List, [], ◌∷◌, length, drop, Option, Some, refl}
use Rattle.std.proofs.Common.{subst, arith}
use Rattle.gp_edge.specs.declared.call.Call.{Call}
use Rattle.gp_edge.specs.declared.call.Call.TheVariants as call
use Rattle.gp_edge.specs.Puts.{torn_whole, shortened_whole}
use Rattle.gp_edge.specs.Records.{content_after, IsImage, LeftSince}

pub shows_content : (start : List ℕ) (calls : List Call) → IsImage start calls (content_after start calls)
shows_content start [] = refl
shows_content start (call.Write at bytes ∷ before) = (content_after start before, shows_content start before, torn_whole at bytes (content_after start before))
shows_content start (call.Cut n ∷ before) = (content_after start before, shows_content start before, shortened_whole n (content_after start before))
shows_content start (call.Sync ∷ before) = refl

pub now_counts : (start : List ℕ) (calls : List Call) (t : ℕ) (c : List ℕ) → t ≤ length calls → IsImage start calls c → LeftSince start calls t c
now_counts start calls t c le now = (0, omega arith, now)

pub now_only : (start : List ℕ) (calls : List Call) (c : List ℕ) → LeftSince start calls (length calls) c → IsImage start calls c
now_only start calls c left = let k : ℕ = left.0 in let le = left.1 in let none : k ≡ 0 = omega arith in subst (λ n. IsImage start (drop n calls) c) none left.2

pub shows_it : (start s : List ℕ) (calls : List Call) → ◌≡◌ {A = Option (List ℕ)} (Some (content_after start calls)) (Some s) → IsImage start calls s
shows_it start s calls e = let same : content_after start calls ≡ s = cc in subst (IsImage start calls) same (shows_content start calls)
