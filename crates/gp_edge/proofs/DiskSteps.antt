-- One call more of a disk in memory.
use Rattle.std.proofs.Common.{◌≡◌, ◌⊎◌, ℕ, zero, suc, ◌+◌, ◌≤◌, List, [], ◌∷◌, length, take, drop, refl, sym, ap, subst, inl, inr, arith}
use Rattle.gp_edge.specs.declared.call.Call.{Call}
use Rattle.gp_edge.specs.declared.call.Call.TheVariants as call
use Rattle.gp_edge.specs.Disks.{Shortened, Elapses, Follows, NoMore}
use Rattle.gp_edge.specs.Records.{DiskRecord, content_of, IsImage, LeftSince, Images, GoesOn, noted}
use Rattle.gp_edge.specs.DiskLaws.{shows_content}

module _ (start : List ℕ) (calls : List Call) where
  one_more : (x : Call) → Elapses (length calls) (length (x ∷ calls)) (LeftSince start calls) (LeftSince start (x ∷ calls)) (IsImage start (x ∷ calls))
  one_more x = record {
    later = omega arith;
    nothing_else = λ t c le left. before t c left.0 left.1 left.2;
    keeps = λ t c le left. let h = left.1 in (suc left.0, omega arith, left.2);
  }
    where
      before : (t : ℕ) (c : List ℕ) (k : ℕ) → k + t ≤ length (x ∷ calls) → IsImage start (drop k (x ∷ calls)) c → LeftSince start calls t c ⊎ IsImage start (x ∷ calls) c
      before t c zero le image = inr image
      before t c (suc k) le image = inl (k, omega arith, image)

pub passes : (old new : DiskRecord) (x : Call) → new ≡ noted x old → GoesOn old new
passes old new x same = subst (GoesOn old) (sym same) (one_more old.opening old.calls x)

pub cut : (old new : DiskRecord) (n : ℕ) → new ≡ noted (call.Cut n) old → Follows (Shortened n) (Images old) (Images new)
cut old new n same c image = subst (λ d. Images d c) same image

all_taken : (xs : List ℕ) → take (length xs) xs ≡ xs
all_taken [] = refl
all_taken (x ∷ xs) = ap (λ l. x ∷ l) (all_taken xs)

pub shortened_none : (n : ℕ) (c : List ℕ) → Shortened n c c
shortened_none n c = record { no_shorter = omega arith; front = all_taken c }

pub synced : (old new : DiskRecord) → new ≡ noted call.Sync old → NoMore (Images old) (Images new)
synced old new same c image = let now : c ≡ content_of old = subst (λ d. Images d c) same image in subst (Images old) (sym now) (shows_content old.opening old.calls)
