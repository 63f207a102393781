-- Stretches of work, one after another.
use Rattle.std.proofs.Common.{◌≡◌, ℕ, ◌+◌, ◌≤◌, ◌⊎◌, Bool, true, false, List, [], ◌++◌, length, refl, sym, ap, ◌∙◌, inl, inr, arith, Option, Some, None, append_assoc, length-append}
use Rattle.std.proofs.lemmas.List.{append-nil, length-map}
use Rattle.std.proofs.lemmas.Grind.{flat_map-append}
use Rattle.gp_msg.specs.declared.event.Event.{Event}
use Rattle.gp_msg.specs.declared.record.Record.{Record}
use Rattle.gp_msg.specs.Records.{messages_in}
use Rattle.gp_work.specs.declared.faults.JobFault.{JobFault}
use Rattle.gp_work.specs.declared.faults.JobFault.TheVariants.{NoMemory, Disk, Full, NotLog, Changed}
use Rattle.gp_wire.specs.Own.{own, own_events, event_in}
use Rattle.gp_edge.specs.Faults.{Rose}
use Rattle.gp_work.specs.Doing.{ProcessState, posted, have, IsUpTo, HasRisen, RoseTwice, Goes, Posted}
use Rattle.gp_work.specs.Causes.{FaultCauses}
use Rattle.gp_work.specs.Jobs.{Stretch, Caused}

pub up_same : (t : Option ℕ) → IsUpTo t t
up_same None = tt
up_same (Some t) = omega arith

pub up_on : (t u w : Option ℕ) → IsUpTo t u → IsUpTo u w → IsUpTo t w
up_on None u w a b = tt
up_on (Some t) None w a b = absurd a
up_on (Some t) (Some u) None a b = absurd b
up_on (Some t) (Some u) (Some w) a b = omega arith

pub risen_on : (t u w : Option ℕ) → IsUpTo t u → HasRisen u w → HasRisen t w
risen_on t u None a b = absurd (none u b) where
  none : (u : Option ℕ) → HasRisen u None → ⊥
  none None b = b
  none (Some u) b = b
risen_on None u (Some w) a b = tt
risen_on (Some t) None (Some w) a b = absurd a
risen_on (Some t) (Some u) (Some w) a b = omega arith

pub goes_same : (p : ProcessState) → Goes p p
goes_same p = record { node = refl; config = refl; more = []; grown = sym (append-nil p.list); turn = up_same p.turn; faults = omega arith; limit = refl }

pub goes_on : (p q r : ProcessState) → Goes p q → Goes q r → Goes p r
goes_on p q r a b = record {
  node = b.node ∙ a.node;
  config = b.config ∙ a.config;
  more = a.more ++ b.more;
  grown = b.grown ∙ ap (λ l. l ++ b.more) a.grown ∙ append_assoc p.list a.more b.more;
  turn = up_on p.turn q.turn r.turn a.turn b.turn;
  faults = let x = a.faults in let y = b.faults in omega arith;
  limit = b.limit ∙ a.limit;
}

-- messages that stood stand first
pub messages_grown : (p q : ProcessState) (g : Goes p q) → messages_in q.list ≡ messages_in p.list ++ messages_in g.more
messages_grown p q g = ap messages_in g.grown ∙ flat_map-append (λ (r : Record). r.out) p.list g.more

pub have_grown : (p q : ProcessState) → Goes p q → have p ≤ have q
have_grown p q g = let e = ap length (messages_grown p q g) in let l = length-append (messages_in p.list) (messages_in g.more) in omega arith

pub rose_on : (a b c : ℕ) → a ≤ b → Rose b c → Rose a c
rose_on a b c l r = omega arith

rose_twice_on : (a b c : ℕ) → a ≤ b → RoseTwice b c → RoseTwice a c
rose_twice_on a b c l r = omega arith

rose_rose : (a b c : ℕ) → Rose a b → Rose b c → RoseTwice a c
rose_rose a b c r s = omega arith

pub rose_then : (a b c : ℕ) → Rose a b → b ≤ c → Rose a c
rose_then a b c r l = omega arith

pub stretch_same : (p : ProcessState) (f : Bool) → Stretch p f p f
stretch_same p f = record { goes = goes_same p; stays = λ e. e; turned = λ a b. absurd (apart f a b) } where
  apart : (f : Bool) → f ≡ false → f ≡ true → ⊥
  apart true a b = cc
  apart false a b = cc

pub stretch_on : (p : ProcessState) (f : Bool) (q : ProcessState) (g : Bool) (r : ProcessState) (h : Bool) → Stretch p f q g → Stretch q g r h → Stretch p f r h
stretch_on p f q g r h a b = record {
  goes = goes_on p q r a.goes b.goes;
  stays = λ e. b.stays (a.stays e);
  turned = λ was is. by_mid g refl was is;
}
  where
    by_mid : (m : Bool) → g ≡ m → f ≡ false → h ≡ true → Rose p.faults r.faults
    by_mid true e was is = rose_then p.faults q.faults r.faults (a.turned was e) b.goes.faults
    by_mid false e was is = rose_on p.faults q.faults r.faults a.goes.faults (b.turned e is)

-- why a later part of the work ended is why the work ended
pub caused_on : (p : ProcessState) (f : Bool) (q : ProcessState) (g h : Bool) (now : ℕ) (causes : FaultCauses) (fault : JobFault) → Stretch p f q g → Caused g h q.faults now causes fault → Caused f h p.faults now causes fault
caused_on p f q g h now causes NoMemory s c = tt
caused_on p f q g h now causes Disk s (up, inl c) = (up, inl (rose_twice_on p.faults q.faults now s.goes.faults c))
caused_on p f q g h now causes Disk s (up, inr c) = (up, by_first f refl)
  where
    by_first : (b : Bool) → f ≡ b → RoseTwice p.faults now ⊎ ((f ≡ true) × Rose p.faults now)
    by_first true e = inr (e, rose_on p.faults q.faults now s.goes.faults c.1)
    by_first false e = inl (rose_rose p.faults q.faults now (s.turned e c.0) c.1)
caused_on p f q g h now causes (Full size need) s c = c
caused_on p f q g h now causes (NotLog at) s c = (c.0, rose_on p.faults q.faults now s.goes.faults c.1, c.2)
caused_on p f q g h now causes (Changed found) s c = (c.0, rose_on p.faults q.faults now s.goes.faults c.1, c.2)

pub posted_none : (p : ProcessState) → Posted p p []
posted_none p = sym (append-nil (own_events p.node p.list))

pub posted_on : (p q r : ProcessState) (es fs : List Event) → Posted p q es → Posted q r fs → Posted p r (es ++ fs)
posted_on p q r es fs a b = b ∙ ap (λ l. l ++ fs) a ∙ append_assoc (own_events p.node p.list) es fs

pub posted_same : (p q r : ProcessState) (es : List Event) → Posted p q es → Posted q r [] → Posted p r es
posted_same p q r es a b = b ∙ append-nil (own_events q.node q.list) ∙ a

pub posted_more : (p q : ProcessState) (es : List Event) → Posted p q es → posted q ≡ posted p + length es
posted_more p q es e =
    sym (length-map (own q.node q.list) event_in) ∙ ap length e ∙ length-append (own_events p.node p.list) es ∙ ap (λ n. n + length es) (length-map (own p.node p.list) event_in)
