-- No two kinds of calls share a number, so a test on the kind is of that kind alone; and whose each kind is.
use mathlib.Core.Path.{◌≡◌, refl}
use mathlib.Core.List.{List, [], ◌∷◌, map}
use Rattle.registers.specs.Commands.{ata_command}
use Rattle.requests.specs.declared.Reply.TheVariants.{Good}
use Rattle.calls.specs.Calls.{Call, set_features, tick, read, write, power_on, hard_reset, soft_reset, start_stop, next, answer, request_sense, log_page, transitions_page, new_page}
use Rattle.calls.specs.Described.{nobody, only, everybody, describe, reach_of}

-- One call of each kind.
abbrev one_of_each : List Call
one_of_each =
    set_features (ata_command 0 0 0 0) ∷ tick ∷ read 0 ∷ write 0 ∷ power_on ∷ hard_reset ∷ soft_reset
    ∷ start_stop 0 [] ∷ next 0 ∷ answer 0 Good ∷ request_sense 0 [] ∷ log_page [] ∷ transitions_page [] ∷ new_page 0 [] ∷ []

pub kinds_differ : map (λ c. (describe c).kind) one_of_each ≡ 0 ∷ 1 ∷ 2 ∷ 3 ∷ 4 ∷ 5 ∷ 6 ∷ 7 ∷ 8 ∷ 9 ∷ 10 ∷ 11 ∷ 12 ∷ 13 ∷ []
kinds_differ = refl

-- Whose each is: EPC, ticks and the log pages name no host, the resets take from all.
pub whose : map reach_of one_of_each
    ≡ nobody ∷ nobody ∷ only 0 ∷ only 0 ∷ everybody ∷ everybody ∷ everybody ∷ only 0 ∷ only 0 ∷ only 0 ∷ only 0 ∷ nobody ∷ nobody ∷ nobody
    ∷ []
whose = refl
