-- From the words of a program to its arguments, and back.
use Rattle.std.proofs.Common.{◌≡◌, ℕ, Bool, true, false, List, [], Option, Some, None, Ok, Err, refl, sym, ap, subst, ◌⊎◌, inl, inr}
use Rattle.std.specs.Prelude.{◌≢◌}
use Rattle.std.specs.IoError.{error_kind}
use Rattle.std.specs.declared.io.Error.{Error}
use Rattle.std.specs.declared.io.ErrorKind.TheVariants.{InvalidData}
use Rattle.gp_msg.specs.declared.record.Record.{Record}
use Rattle.std.proofs.lemmas.List.{append-nil}
use Rattle.gp_edge.specs.Reads.{LosesUpTo}
use Rattle.gp_edge.specs.Writes.{AppendsPart}
use Rattle.std.proofs.Common.{arith}
use Rattle.gp_cli.specs.declared.runs.TheConstants.{MOST_READ}
use Rattle.gp_cli.specs.declared.subcommand.Subcommand.{Subcommand}
use Rattle.gp_cli.specs.declared.subcommand.Subcommand.TheVariants.{Play, Run, Sim, Drive, Log, Upgrade, Audit}
use Rattle.gp_cli.specs.Subcommands.{named}
use Rattle.gp_cli.specs.Texts.{usage}
use Rattle.gp_cli.specs.Outside.{Outside, ForMemory}
use Rattle.gp_cli.specs.Endings.{Ending, Misused, Starved}
use Rattle.gp_cli.specs.Causes.{IsCauseFor, IsCause}
use Rattle.gp_cli.specs.Logs.{TellsEnding}
use Rattle.gp_cli.specs.Serving.{EndsBy, Ends, KeepsUnused}
use Rattle.gp_cli.specs.Program.{Arguments, words_after_name, IsNoText, AreWords, subcommand_in, IsProgramCause}
use Rattle.gp_cli.proofs.Causes.{because, starved, without_run}
use Rattle.gp_cli.proofs.NodesCauses.{kept_because}
use Rattle.gp_cli.proofs.Told.{starved_status}

-- nothing is lost by no call
nothing_lost : (rest : Option (List ℕ)) → LosesUpTo MOST_READ rest rest
nothing_lost None = refl
nothing_lost (Some rest) = (0, omega arith, refl)

-- nothing of the usage is written by no call
no_usage : (written : Option (List ℕ)) → AppendsPart written written usage
no_usage None = refl
no_usage (Some bytes) = (0, omega arith, ap (λ b. Some b) (sym (append-nil bytes)))

-- memory ran out for the words
unheard_for : (sub : Option Subcommand) (at : Outside) (status : ℕ) (trail : List Record) → status ≡ 1 → trail ≡ [] → EndsBy (IsCauseFor sub at at) at.sink at.sink status trail
unheard_for None at status trail one none = without_run (IsCauseFor None at at) Misused at.sink at.sink status trail refl refl refl none (ForMemory one refl (no_usage at.sink.bytes))
unheard_for (Some (Play operations)) at status trail one none = starved (IsCauseFor (Some (Play operations)) at at) at.sink status trail (refl, nothing_lost at.source.bytes) one none
unheard_for (Some (Run policy limit viewed)) at status trail one none = starved (IsCauseFor (Some (Run policy limit viewed)) at at) at.sink status trail (refl, nothing_lost at.source.bytes) one none
unheard_for (Some (Sim seed n)) at status trail one none = starved (IsCauseFor (Some (Sim seed n)) at at) at.sink status trail (inr refl) one none
unheard_for (Some (Drive a l n)) at status trail one none = starved (IsCauseFor (Some (Drive a l n)) at at) at.sink status trail (inr refl) one none
unheard_for (Some (Log k)) at status trail one none = starved (IsCauseFor (Some (Log k)) at at) at.sink status trail refl one none
unheard_for (Some (Upgrade k)) at status trail one none = starved (IsCauseFor (Some (Upgrade k)) at at) at.sink status trail refl one none
unheard_for (Some Audit) at status trail one none = starved (IsCauseFor (Some Audit) at at) at.sink status trail (refl, nothing_lost at.source.bytes) one none

-- the program did nothing, since memory ran out for its words
unheard : (given : Arguments) (at : Outside) (status : ℕ) (trail : List Record) → ¬ IsNoText given → status ≡ 1 → trail ≡ [] → Ends (IsProgramCause given true) at at status trail
unheard (Ok given) at status trail text one none = unheard_for (named (words_after_name given)) at status trail one none
unheard (Err error) at status trail text one none = starved (IsProgramCause (Err error) true at at) at.sink status trail (inr (text, refl)) one none

-- the program did nothing, since memory ran out for its words or its disks
pub did_nothing : (there : Bool) (given : Arguments) (at now : Outside) (status : ℕ) (trail : List Record) → now ≡ at → (there ≡ true → ¬ IsNoText given) → status ≡ 1 → trail ≡ [] → Ends (IsProgramCause given there) at now status trail
did_nothing true given at now status trail same text one none = subst (λ (o : Outside). Ends (IsProgramCause given true) at o status trail) (sym same) (unheard given at status trail (text refl) one none)
did_nothing false given at now status trail same text one none = subst (λ (o : Outside). Ends (IsProgramCause given false) at o status trail) (sym same) (starved (IsProgramCause given false at at) at.sink status trail refl one none)

-- ---- the words and the arguments

-- why a program without words ends so
abbrev WhyWordless : Error → Ending → Type 0
WhyWordless error ending = ((error_kind error ≡ InvalidData) × (ending ≡ Misused)) ⊎ ((error_kind error ≢ InvalidData) × (ending ≡ Starved))

-- if an argument is no text the words are misused
misused_if_no_text : (error : Error) (ending : Ending) → error_kind error ≡ InvalidData → WhyWordless error ending → ending ≡ Misused
misused_if_no_text error ending no_text why = elim why [
  | inl so ↦ so.1
  | inr not ↦ absurd (not.0 no_text)
]

-- after another error memory ran out
starved_if_text : (error : Error) (ending : Ending) → error_kind error ≢ InvalidData → WhyWordless error ending → ending ≡ Starved
starved_if_text error ending text why = elim why [
  | inl so ↦ absurd (text so.0)
  | inr not ↦ not.1
]

-- the cause by the arguments is the cause by the words
cause_of_words : (given : Arguments) (words : List (List ℕ)) (before now : Outside) → AreWords given words → (ending : Ending) → IsProgramCause given true before now ending → IsCause words before now ending
cause_of_words (Ok given) words before now are ending cause = subst (λ (ws : List (List ℕ)). IsCause ws before now ending) (sym are) cause
cause_of_words (Err error) words before now are ending cause = subst (λ (ws : List (List ℕ)). IsCause ws before now ending) (sym are.1) (misused_if_no_text error ending are.0 cause)

pub by_words : (given : Arguments) (words : List (List ℕ)) (before now : Outside) (status : ℕ) (trail : List Record) → Ends (IsProgramCause given true) before now status trail → AreWords given words → Ends (IsCause words) before now status trail
by_words given words before now status trail ends are =
    because (IsProgramCause given true before now) (IsCause words before now) before.sink now.sink status trail (cause_of_words given words before now are) ends

-- without words memory ran out
pub without_words : (given : Arguments) (before now : Outside) (status : ℕ) (trail : List Record) → Ends (IsProgramCause given true) before now status trail → ((words : List (List ℕ)) → ¬ AreWords given words) → status ≡ 1
without_words (Ok given) before now status trail ends none = absurd (none (words_after_name given) refl)
without_words (Err error) before now status trail ends none =
    let text : error_kind error ≢ InvalidData = λ is. none [] (is, refl) in
    let is = starved_if_text error ends.ending text ends.cause in
    starved_status before.sink now.sink [] status (subst (λ (x : Ending). TellsEnding x before.sink now.sink status) is ends.told)

pub without_disks : (given : Arguments) (before now : Outside) (status : ℕ) (trail : List Record) → Ends (IsProgramCause given false) before now status trail → status ≡ 1
without_disks given before now status trail ends = starved_status before.sink now.sink [] status (subst (λ (x : Ending). TellsEnding x before.sink now.sink status) ends.cause ends.told)

-- the cause by the words is the cause by the arguments
cause_of_arguments : (given : Arguments) (words : List (List ℕ)) (before now : Outside) → AreWords given words → (ending : Ending) → IsCause words before now ending → IsProgramCause given true before now ending
cause_of_arguments (Ok given) words before now are ending cause = subst (λ (ws : List (List ℕ)). IsCause ws before now ending) are cause
cause_of_arguments (Err error) words before now are ending cause = inl (are.0, subst (λ (ws : List (List ℕ)). IsCause ws before now ending) are.1 cause)

pub by_arguments : (given : Arguments) (words : List (List ℕ)) (before now : Outside) (status : ℕ) (trail : List Record) → AreWords given words → Ends (IsCause words) before now status trail → Ends (IsProgramCause given true) before now status trail
by_arguments given words before now status trail are ends =
    because (IsCause words before now) (IsProgramCause given true before now) before.sink now.sink status trail (cause_of_arguments given words before now are) ends

pub named_is : (given : Arguments) (words : List (List ℕ)) → AreWords given words → named words ≡ subcommand_in given
named_is (Ok given) words are = ap named are
named_is (Err error) words are = ap named are.1

pub keeps_by_arguments : {D : Type 0} (given : Arguments) (words : List (List ℕ)) (before now : Outside) (old new : List D) → AreWords given words → KeepsUnused (named words) (IsCause words before now) old new
    → KeepsUnused (subcommand_in given) (IsProgramCause given true before now) old new
keeps_by_arguments {D} given words before now old new are kept =
    let P : Option Subcommand → Type 0 = λ sub. KeepsUnused sub (IsProgramCause given true before now) old new in
    subst P (named_is given words are) (kept_because (named words) (IsCause words before now) (IsProgramCause given true before now) old new (cause_of_arguments given words before now are) kept)
