-- A run that ended before its wire was closed, and the room for what is left.
use Rattle.std.proofs.Common.{◌≡◌, ◌≤◌, ◌⊎◌, inl, inr, ℕ, List, [], ◌∷◌, length, refl, sym, subst, arith, Option, Some, None}
use Rattle.std.specs.Prelude.{vec_capacity, IfSome}
use Rattle.std.specs.Global.{Vec}
use Rattle.std.specs.List.{AllZip}
use Rattle.std.proofs.lemmas.Slice.Zip.{AllZip-long}
use Rattle.gp_command.specs.Views.{DraftView}
use Rattle.gp_round.specs.Counts.{Counts}
use Rattle.gp_msg.specs.declared.record.Record.{Record}
use Rattle.gp_vlog.specs.Logs.{LogState}
use Rattle.gp_shelf.specs.Lists.{HasRoomFor}
use Rattle.gp_shelf.specs.Making.{HasCause}
use Rattle.gp_shelf.specs.declared.making.LendFault.{LendFault}
use Rattle.gp_shelf.specs.declared.making.LendFault.TheVariants as fault
use Rattle.gp_ending.specs.declared.ends.RunEnd.{RunEnd}
use Rattle.gp_ending.specs.declared.ends.RunEnd.TheVariants.{Learned, NoMemory, Disk}
use Rattle.gp_cluster.specs.Cells.{LogGoes}
use Rattle.gp_cluster.specs.Offers.{AreOffered}
use Rattle.gp_cluster.specs.declared.policy.RoundPolicy.{RoundPolicy}
use Rattle.gp_cluster.specs.declared.policy.RoundPolicy.TheVariants.{Adaptive}
use Rattle.gp_cluster.specs.Runs.{IsRunOf, EndCause}
use Rattle.gp_cluster.specs.Seated.{RunsFrom, lent_end}

not_learned : {P : Type 0} → NoMemory ≡ Learned → P
not_learned e = absurd cc

module _ {D : Type 0} (faults : D → ℕ) where
  still : (logs : List (LogState D)) → AllZip (LogGoes faults) logs logs
  still [] = tt
  still (l ∷ ls) = (record { limit = refl; later = omega arith }, still ls)

  -- nothing is said to be posted, and the logs are those of the run so far
  pub unposted : (policy : RoundPolicy) (content : D → Option (List ℕ)) (config : Counts) (offers : List (ℕ × DraftView)) (first last : List (LogState D)) (posted : Option (List Record)) (end : RunEnd)
      → posted ≡ None → end ≡ NoMemory → AllZip (LogGoes faults) first last → RunsFrom policy faults content config offers first last posted end
  unposted policy content config offers first last posted end none e goes = subst (λ p. RunsFrom policy faults content config offers first last p end) (sym none) (subst (RunsFrom policy faults content config offers first last None) (sym e) from)
    where
      from : RunsFrom policy faults content config offers first last None NoMemory
      from = record {
        going = goes;
        run = tt;
        none = λ n. refl;
        learned = λ l. not_learned l;
        quiet = λ l. not_learned l;
        cause = λ limit limits. tt;
        parts = λ limit limits l. not_learned l;
      }

  -- nothing is said to be posted, and the logs are as they were
  pub nothing_said : (policy : RoundPolicy) (content : D → Option (List ℕ)) (config : Counts) (offers : List (ℕ × DraftView)) (first last : List (LogState D)) (posted : Option (List Record)) (end : RunEnd)
      → posted ≡ None → end ≡ NoMemory → last ≡ first → RunsFrom policy faults content config offers first last posted end
  nothing_said policy content config offers first last posted end none e same = unposted policy content config offers first last posted end none e (subst (AllZip (LogGoes faults) first) (sym same) (still first))

  no_offers_yet : (config : Counts) (offers : List (ℕ × DraftView)) (posted : Option (List Record)) → IfSome posted (IsRunOf Adaptive config []) → IfSome posted (IsRunOf Adaptive config offers)
  no_offers_yet config offers None run = tt
  no_offers_yet config offers (Some list) run = record { legal = run.legal; offered = by_choice run.offered }
    where
      by_choice : AreOffered [] list ⊎ AreOffered [] list → AreOffered offers list ⊎ AreOffered [] list
      by_choice (inl none) = inr none
      by_choice (inr none) = inr none

  -- a run whose rounds adapt, which ended before any offer was made
  pub ended_early : (content : D → Option (List ℕ)) (config : Counts) (offers : List (ℕ × DraftView)) (first last : List (LogState D)) (posted : Option (List Record)) (end : RunEnd) → ¬ (end ≡ Learned)
      → RunsFrom Adaptive faults content config [] first last posted end → RunsFrom Adaptive faults content config offers first last posted end
  ended_early content config offers first last posted end not from = record {
    going = from.going;
    run = no_offers_yet config offers posted from.run;
    none = from.none;
    learned = λ l. absurd (not l);
    quiet = λ l. absurd (not l);
    cause = from.cause;
    parts = from.parts;
  }

  -- the logs of a run fit where its first ones did
  pub as_many_logs : (first last : List (LogState D)) (room : Vec (LogState D)) → AllZip (LogGoes faults) first last → HasRoomFor (length first) room → HasRoomFor (length last) room
  as_many_logs first last room goes fits = (fits.0, let long = AllZip-long (LogGoes faults) first last goes in subst (λ n. n ≤ vec_capacity room) (sym long) fits.1)

-- a run whose logs could not be made
pub unlent_end : (why : LendFault) (end : RunEnd) → end ≡ lent_end why → (end ≡ NoMemory) ⊎ (end ≡ Disk)
unlent_end fault.Disk end is = inr is
unlent_end fault.NoMemory end is = inl is

pub unlent_cause : {D : Type 0} (content : D → Option (List ℕ)) (faults : D → ℕ) (config : Counts) (limit : ℕ) (old new : List D) (why : LendFault) (end : RunEnd) → end ≡ lent_end why → HasCause faults old new why → EndCause content faults config limit old new None end
unlent_cause content faults config limit old new fault.Disk end is cause = subst (λ e. EndCause content faults config limit old new None e) (sym is) cause
unlent_cause content faults config limit old new fault.NoMemory end is cause = subst (λ e. EndCause content faults config limit old new None e) (sym is) tt
