-- The registers of an ATA command, and what Count names: document 01, "EPC registers".
use Rattle.std.specs.Prelude.{cond, ℕ, eqb}
use Rattle.conditions.specs.declared.Condition.{Condition}
use Rattle.conditions.specs.declared.Condition.TheVariants.{IdleA, IdleB, IdleC, StandbyY, StandbyZ}
use Rattle.registers.specs.declared.Registers.{Registers}
use Rattle.registers.specs.declared.Named.{Named}
use Rattle.registers.specs.declared.Named.TheVariants.{One, Every, Unlisted}

-- Command, Feature, Count, LBA.
abbrev pub ata_command : ℕ → ℕ → ℕ → ℕ → Registers
ata_command command feature count lba = record { command = command; feature = feature; count = count; lba = lba }

-- "Count names the condition: 00h Standby_z, 01h Standby_y, 81h Idle_A, 82h Idle_B, 83h Idle_C, FFh .." Which conditions FFh selects hangs on the
-- subcommand and their records (epc/Epc · selects).
abbrev pub count_code : Condition → ℕ
count_code IdleA = 0x81
count_code IdleB = 0x82
count_code IdleC = 0x83
count_code StandbyY = 0x01
count_code StandbyZ = 0x00

abbrev pub named : ℕ → Named
named count =
    cond (eqb count 0x00) (One StandbyZ)
    (cond (eqb count 0x01) (One StandbyY)
    (cond (eqb count 0x81) (One IdleA)
    (cond (eqb count 0x82) (One IdleB)
    (cond (eqb count 0x83) (One IdleC)
    (cond (eqb count 0xFF) Every Unlisted)))))
