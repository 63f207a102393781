-- What holds of two lists place by place.
use Rattle.std.proofs.Common.{◌≡◌, ℕ, zero, suc, ◌-◌, ◌<◌, ◌≤◌, List, [], ◌∷◌, ◌++◌, length, map, take, drop, Option, Some, refl, sym, ap, subst, ◌∙◌, arith}
use Rattle.std.specs.Prelude.{slice_get}
use Rattle.std.specs.List.{AllZip}
use Rattle.std.proofs.lemmas.List.{length-map}
use Rattle.std.proofs.lemmas.Option.{slice_get_within}
use Rattle.std.proofs.lemmas.Slice.Zip.{AllZip-long}
use Rattle.gp_round.specs.Counts.{Counts}
use Rattle.gp_vlog.specs.Logs.{LogState}
use Rattle.gp_shelf.specs.declared.making.LendFault.{LendFault}
use Rattle.gp_shelf.specs.declared.making.LendFault.TheVariants.{Disk, NoMemory}
use Rattle.gp_shelf.specs.Places.{logged, place_at}
use Rattle.gp_shelf.specs.Lists.{lent_of, unlent_of, shelved, disk_in}
use Rattle.gp_shelf.specs.Making.{IsMade, StaysFirst, SomeRose, HasCause, ComesBack, Counted}
use Rattle.gp_shelf.proofs.Segments.{come_back, lent_at, shelved_at, length-unlent, length-lent}

pub AllZip-append : {A B : Type 0} (R : A → B → Type 0) (xs us : List A) (ys vs : List B) → AllZip R xs ys → AllZip R us vs → AllZip R (xs ++ us) (ys ++ vs)
AllZip-append R [] us [] vs p q = q
AllZip-append R [] us (y ∷ ys) vs p q = absurd p
AllZip-append R (x ∷ xs) us [] vs p q = absurd p
AllZip-append R (x ∷ xs) us (y ∷ ys) vs p q = (p.0, AllZip-append R xs us ys vs p.1 q)

module _ {D : Type 0} where
  pub AllZip-same : (R : D → D → Type 0) → ((d : D) → R d d) → (xs : List D) → AllZip R xs xs
  AllZip-same R same [] = tt
  AllZip-same R same (x ∷ xs) = (same x, AllZip-same R same xs)

  AllZip-take : (R : D → D → Type 0) (n : ℕ) (xs ys : List D) → AllZip R xs ys → AllZip R (take n xs) (take n ys)
  AllZip-take R zero xs ys p = tt
  AllZip-take R (suc n) [] [] p = tt
  AllZip-take R (suc n) [] (y ∷ ys) p = absurd p
  AllZip-take R (suc n) (x ∷ xs) [] p = absurd p
  AllZip-take R (suc n) (x ∷ xs) (y ∷ ys) p = (p.0, AllZip-take R n xs ys p.1)

  AllZip-drop : (R : D → D → Type 0) (n : ℕ) (xs ys : List D) → AllZip R xs ys → AllZip R (drop n xs) (drop n ys)
  AllZip-drop R zero xs ys p = p
  AllZip-drop R (suc n) [] [] p = tt
  AllZip-drop R (suc n) [] (y ∷ ys) p = absurd p
  AllZip-drop R (suc n) (x ∷ xs) [] p = absurd p
  AllZip-drop R (suc n) (x ∷ xs) (y ∷ ys) p = AllZip-drop R n xs ys p.1

  zip_shelved : (R : D → D → Type 0) → ((d : D) → R d d) → (n : Counts) (unlent xs ys : List D) → AllZip R xs ys → AllZip R (shelved n unlent xs) (shelved n unlent ys)
  zip_shelved R same n unlent xs ys p =
      AllZip-append R (take n.acceptors xs ++ take (7 - n.acceptors) unlent ++ drop n.acceptors xs) (drop (7 - n.acceptors) unlent) (take n.acceptors ys ++ take (7 - n.acceptors) unlent ++ drop n.acceptors ys) (drop (7 - n.acceptors) unlent)
      (AllZip-append R (take n.acceptors xs ++ take (7 - n.acceptors) unlent) (drop n.acceptors xs) (take n.acceptors ys ++ take (7 - n.acceptors) unlent) (drop n.acceptors ys)
      (AllZip-append R (take n.acceptors xs) (take (7 - n.acceptors) unlent) (take n.acceptors ys) (take (7 - n.acceptors) unlent)
      (AllZip-take R n.acceptors xs ys p)
      (AllZip-same R same (take (7 - n.acceptors) unlent)))
      (AllZip-drop R n.acceptors xs ys p))
      (AllZip-same R same (drop (7 - n.acceptors) unlent))

  -- what holds of the disks of nodes holds of all, if it holds of what stays
  pub zip_all : (R : D → D → Type 0) → ((d : D) → R d d) → (n : Counts) (disks back : List D) → n.acceptors ≤ 7 → n.coordinators ≤ 5 → length disks ≡ 12
      → AllZip R (lent_of n disks) back → AllZip R disks (shelved n (unlent_of n disks) back)
  zip_all R same n disks back a c twelve p =
      subst (λ (xs : List D). AllZip R xs (shelved n (unlent_of n disks) back)) (come_back n disks twelve a c)
      (zip_shelved R same n (unlent_of n disks) (lent_of n disks) back p)

  -- ---- the counts of faults

  module _ (faults : D → ℕ) where
    rose_there : (n : Counts) (disks back : List D) → n.acceptors ≤ 7 → n.coordinators ≤ 5 → length disks ≡ 12 → length back ≡ logged n
        → SomeRose faults (lent_of n disks) back → SomeRose faults disks (shelved n (unlent_of n disks) back)
    rose_there n disks back a c twelve many r =
        let within : r.place < logged n = omega (arith, slice_get_within back r.place r.is r.after, many) in
        record {
          place = place_at n r.place;
          was = r.was;
          is = r.is;
          before = sym (lent_at n disks r.place twelve a within) ∙ r.before;
          after = shelved_at n (unlent_of n disks) back a c (length-unlent n disks twelve a c) many r.place within ∙ r.after;
          rose = r.rose;
        }

    pub fell_there : (n : Counts) (disks back : List D) (why : LendFault) → n.acceptors ≤ 7 → n.coordinators ≤ 5 → length disks ≡ 12
        → ComesBack faults (lent_of n disks) back why → ComesBack faults disks (shelved n (unlent_of n disks) back) why
    fell_there n disks back Disk a c twelve p =
        let many : length back ≡ logged n = AllZip-long (λ was is. faults was ≤ faults is) (lent_of n disks) back p.0 ∙ length-lent n disks twelve a c in
        (zip_all (λ was is. faults was ≤ faults is) (λ d. omega arith) n disks back a c twelve p.0, rose_there n disks back a c twelve many p.1)
    fell_there n disks back NoMemory a c twelve p =
        (zip_all (λ was is. faults was ≤ faults is) (λ d. omega arith) n disks back a c twelve p.0, zip_all (λ was is. faults is ≡ faults was) (λ d. refl) n disks back a c twelve p.1)

    get_there : (xs : List D) (x : D) (ys : List D) → slice_get (xs ++ x ∷ ys) (length xs) ≡ Some x
    get_there [] x ys = refl
    get_there (y ∷ xs) x ys = get_there xs x ys

    module _ (content : D → Option (List ℕ)) (image : D → List ℕ → Type 0) (limit : ℕ) where
      steady_logs : (xs : List D) (logs : List (LogState D)) → AllZip (IsMade content image faults limit) xs logs → AllZip (λ was is. faults is ≡ faults was) xs (map disk_in logs)
      steady_logs [] [] p = tt
      steady_logs [] (l ∷ logs) p = absurd p
      steady_logs (x ∷ xs) [] p = absurd p
      steady_logs (x ∷ xs) (l ∷ logs) p = (p.0.steady, steady_logs xs logs p.1)

      none_fell : (xs : List D) (logs : List (LogState D)) → AllZip (IsMade content image faults limit) xs logs → AllZip (λ was is. faults was ≤ faults is) xs (map disk_in logs)
      none_fell [] [] p = tt
      none_fell [] (l ∷ logs) p = absurd p
      none_fell (x ∷ xs) [] p = absurd p
      none_fell (x ∷ xs) (l ∷ logs) p = (omega (arith, p.0.steady), none_fell xs logs p.1)

      -- the disks of the logs that were made, and that on which none was made, come back
      pub unmade : (done old new : List D) (logs : List (LogState D)) (why : LendFault) → AllZip (IsMade content image faults limit) done logs → StaysFirst faults old new why
          → ComesBack faults (done ++ old) (map disk_in logs ++ new) why
      unmade done old new logs why made s =
          subst (λ (xs : List D). ComesBack faults (done ++ xs) (map disk_in logs ++ new) why) (sym s.before)
          (subst (λ (ys : List D). ComesBack faults (done ++ s.was ∷ s.rest) (map disk_in logs ++ ys) why) (sym s.after)
          (AllZip-append (λ was is. faults was ≤ faults is) done (s.was ∷ s.rest) (map disk_in logs) (s.is ∷ s.rest) (none_fell done logs made) (s.never_falls, AllZip-same (λ was is. faults was ≤ faults is) (λ d. omega arith) s.rest), cause why s.counted))
        where
          cause : (w : LendFault) → Counted (faults s.was) (faults s.is) w → HasCause faults (done ++ s.was ∷ s.rest) (map disk_in logs ++ s.is ∷ s.rest) w
          cause Disk rose = record {
            place = length done;
            was = s.was;
            is = s.is;
            before = get_there done s.was s.rest;
            after = ap (slice_get (map disk_in logs ++ s.is ∷ s.rest)) (sym (length-map logs disk_in ∙ AllZip-long (IsMade content image faults limit) done logs made)) ∙ get_there (map disk_in logs) s.is s.rest;
            rose = rose;
          }
          cause NoMemory same = AllZip-append (λ was is. faults is ≡ faults was) done (s.was ∷ s.rest) (map disk_in logs) (s.is ∷ s.rest) (steady_logs done logs made) (same, AllZip-same (λ was is. faults is ≡ faults was) (λ d. refl) s.rest)
