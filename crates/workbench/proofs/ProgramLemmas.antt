-- What the program has done, by what its words came to.
use Rattle.std.proofs.Common.{◌≡◌, List, true, false, Some, Result, Ok, Err, MatchResult, inl, refl, sym, subst}
use Rattle.clap.specs.Words.{Text, takes}
use Rattle.wb_command_line.specs.CommandLine.{command_line}
use Rattle.wb_command_line.specs.Fault.{IsAfterUsage, IsFaultOf}
use Rattle.wb_command_line.specs.Spelled.{spell_no_list}
use Rattle.workbench.specs.Program.{IsDone, IsReadAs, IsRefused, answered_of}
use Rattle.wb_command_line.specs.declared.command.Command.{Command}
use Rattle.wb_command_line.specs.declared.command.CommandFault.{CommandFault}
use Rattle.workbench.specs.declared.answer.Answered.{Answered}
use Rattle.workbench.specs.declared.host.WordsFault.{WordsFault}
use Rattle.workbench.specs.declared.host.WordsFault.TheVariants.{Refused}
use Rattle.workbench.specs.declared.program.Exit.{Exit}

-- words that could be had, and that `command` refuses
pub read_as_fault : {V E : Type 0} (words : Result V E) (had : V) (texts : V → List Text) (told : List Text) (unread : E → WordsFault) (fault : CommandFault)
    (read : Result Command WordsFault) → words ≡ Ok had → texts had ≡ told → read ≡ Err (Refused fault) → IsFaultOf told fault
    → (takes command_line told ≡ true → spell_no_list told ≡ false → IsAfterUsage fault)
    → MatchResult words (λ v. IsReadAs (texts v) read) (λ e. read ≡ Err (unread e))
read_as_fault words had texts told unread fault read is same gave found taken =
    subst (λ w. MatchResult w (λ v. IsReadAs (texts v) read) (λ e. read ≡ Err (unread e))) (sym is)
    (subst (λ t. IsReadAs t read) (sym same) (subst (IsReadAs told) (sym gave) (found, taken)))

-- words that came to a command, which was carried out and handed on
pub done_with : {V E H W M : Type 0} (words : Result V E) (texts : V → List Text) (unread : E → WordsFault)
    (carries_out : Command → H → H → W → W → Answered → Type 0) (reports : M → WordsFault → M → Type 0) (command : Command)
    (host host' : H) (output output' : W) (messages : M) (exit : Exit) (answered : Answered)
    → MatchResult words (λ v. IsReadAs (texts v) (Ok command)) (λ e. Ok command ≡ Err (unread e))
    → carries_out command host host' output output' answered → answered_of exit ≡ answered → exit.command ≡ Some command
    → MatchResult words (λ v. IsDone carries_out reports (texts v) host host' output output' messages messages exit)
    (λ e. IsRefused reports (unread e) host host' output output' messages messages exit)
done_with (Ok had) texts unread carries_out reports command host host' output output' messages exit answered read done same handed =
    inl (record {
      command = command;
      spelled = read.0;
      in_ranges = read.1;
      done = subst (carries_out command host host' output output') (sym same) done;
      handed_on = handed;
      unreported = refl;
    })
done_with (Err e) texts unread carries_out reports command host host' output output' messages exit answered read done same handed =
    absurd (subst (λ r. MatchResult r (λ _. Unit {0}) (λ _. ⊥)) read tt)
