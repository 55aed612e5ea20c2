-- A go to counts the entry of the condition that it names, in the second column; any other subcommand counts nothing.
use mathlib.Core.Path.{refl}
use Rattle.rows.proofs.Choices.{either}
use Rattle.conditions.specs.declared.Cause.TheVariants.{Command}
use Rattle.conditions.specs.declared.Power.TheVariants.{Low}
use Rattle.drive.specs.Drives.{restarted}
use Rattle.drive.specs.declared.Drive.{Drive}
use Rattle.drive.proofs.Counted.{CountsAs, still_counts, entered_counts}
use Rattle.epc.specs.Epc.{sub_of, is_go_to, gone_to, performed}
use Rattle.registers.specs.Commands.{named}
use Rattle.registers.specs.declared.Registers.{Registers}
use Rattle.registers.specs.declared.Named.{Named}
use Rattle.registers.specs.declared.Named.TheVariants.{One, Every, Unlisted}

goes_counts : (n : Named) (d : Drive) → CountsAs 1 d (gone_to n (restarted d))
goes_counts (One c) d = entered_counts (Low c Command) 0 d refl
goes_counts Every d = still_counts 1 d (restarted d) refl refl
goes_counts Unlisted d = still_counts 1 d (restarted d) refl refl

pub performed_counts : (q : Registers) (d : Drive) → CountsAs 1 d (performed q d)
unfolding performed
performed_counts q d =
    either (CountsAs 1 d) (is_go_to (sub_of q.lba)) _ _ (goes_counts (named q.count) d) (still_counts 1 d _ refl refl)
