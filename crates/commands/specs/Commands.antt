-- The format page, "Calls": each call's line. Assumes nothing.
use Rattle.std.specs.Prelude.{Bool, true, cond, ◌&&◌, Option, Some, List, [], ◌∷◌, ℕ, leb, drop, length}
use Rattle.asked.specs.declared.CallLine.TheVariants.{Plain, StartStop, Next, Answer, Sense, Log, Transitions, NewPage}
use Rattle.asked.specs.declared.Line.{Line}
use Rattle.asked.specs.declared.Line.TheVariants.{Asks, Makes}
use Rattle.asked.specs.declared.PlainCall.{PlainCall}
use Rattle.asked.specs.declared.PlainCall.TheVariants.{Tick, Epc, Read, Write, PowerOn, HardReset, SoftReset}
use Rattle.registers.specs.declared.Registers.{Registers}
use Rattle.requests.specs.declared.Reply.{Reply}
use Rattle.requests.specs.declared.Reply.TheVariants.{Good, Bad}
use Rattle.words.specs.Codes.{codes}
use Rattle.words.specs.Numbers.{is_number, value_of}
use Rattle.words.specs.Words.{words}
use Rattle.asked.specs.Editions.{edition_from}
use Rattle.asked.specs.Kinds.{kind_in}
use Rattle.asked.specs.Offers.{offered, ◌then◌}
use Rattle.words.specs.Fields.{has_words, number_in, host_in, length_in, byte_in, wide_in, flag_in}

-- `tick [N]`: "N single ticks, up to FFFFF (1 if left out)".
abbrev pub turns_in : List ℕ → Option ℕ
turns_in line = cond (has_words 1 line) (Some 1) (offered (has_words 2 line) (number_in 0xFFFFF 1 line))

unfoldable pub tick_line : List ℕ → Option Line
tick_line line = turns_in line then λ turns. Some (Asks (Plain (Tick turns)))

-- `epc CMD FEAT COUNT LBA`: "EPC registers".
abbrev pub registers_in : List ℕ → Option Registers
registers_in line =
    byte_in 1 line then λ command.
    byte_in 2 line then λ feature.
    byte_in 3 line then λ count.
    wide_in 4 line then λ lba.
    Some (record { command = command; feature = feature; count = count; lba = lba })

unfoldable pub epc_line : List ℕ → Option Line
epc_line line = offered (has_words 5 line) (registers_in line then λ registers. Some (Asks (Plain (Epc registers))))

-- `read H`, `write H`, `next H`.
abbrev pub only_number : ℕ → List ℕ → Option ℕ
only_number top line = offered (has_words 2 line) (number_in top 1 line)

abbrev pub only_host : List ℕ → Option ℕ
only_host line = only_number 0xFF line

unfoldable pub read_line : List ℕ → Option Line
read_line line = only_host line then λ host. Some (Asks (Plain (Read host)))

unfoldable pub write_line : List ℕ → Option Line
write_line line = only_host line then λ host. Some (Asks (Plain (Write host)))

unfoldable pub next_line : List ℕ → Option Line
next_line line = only_host line then λ host. Some (Asks (Next host))

-- `reset power`, `reset hard`, `reset soft`.
abbrev pub reset_names : List (List ℕ)
reset_names = codes "power" ∷ codes "hard" ∷ codes "soft" ∷ []

abbrev pub resets : List PlainCall
resets = PowerOn ∷ HardReset ∷ SoftReset ∷ []

unfoldable pub reset_line : List ℕ → Option Line
reset_line line = offered (has_words 2 line) (kind_in reset_names resets 1 line then λ reset. Some (Asks (Plain reset)))

-- `ssu H b0 b1 ...`: "one word a byte, 0 to 40 (decimal) bytes; no word is the empty CDB".
abbrev pub are_bytes : List (List ℕ) → Bool
are_bytes [] = true
are_bytes (w ∷ ws) = is_number 0xFF w && are_bytes ws

abbrev pub values : List (List ℕ) → List ℕ
values [] = []
values (w ∷ ws) = value_of w ∷ values ws

abbrev pub byte_words : List ℕ → List (List ℕ)
byte_words line = drop 2 (words line)

unfoldable pub is_cdb : List ℕ → Bool
is_cdb line = leb (length (words line)) 42 && are_bytes (byte_words line)

unfoldable pub cdb_in : List ℕ → List ℕ
cdb_in line = cond (is_cdb line) (values (byte_words line)) []

unfoldable pub start_stop_line : List ℕ → Option Line
start_stop_line line = host_in 1 line then λ host. offered (is_cdb line) (Some (Asks (StartStop host)))

-- `answer H good`, `answer H bad`.
abbrev pub reply_names : List (List ℕ)
reply_names = codes "good" ∷ codes "bad" ∷ []

abbrev pub replies : List Reply
replies = Good ∷ Bad ∷ []

unfoldable pub answer_line : List ℕ → Option Line
answer_line line =
    offered (has_words 3 line)
    (host_in 1 line then λ host. kind_in reply_names replies 2 line then λ reply. Some (Asks (Answer host reply)))

-- `sense H LEN`.
unfoldable pub sense_line : List ℕ → Option Line
sense_line line =
    offered (has_words 3 line) (host_in 1 line then λ host. length_in 2 line then λ len. Some (Asks (Sense host len)))

-- `log LEN`, `trans LEN`.
abbrev pub only_length : List ℕ → Option ℕ
only_length line = only_number 0x400 line

unfoldable pub log_line : List ℕ → Option Line
log_line line = only_length line then λ len. Some (Asks (Log len))

unfoldable pub transitions_line : List ℕ → Option Line
transitions_line line = only_length line then λ len. Some (Asks (Transitions len))

-- `page P LEN`: "P 0 to FF".
unfoldable pub new_page_line : List ℕ → Option Line
new_page_line line =
    offered (has_words 3 line) (byte_in 1 line then λ page. length_in 2 line then λ len. Some (Asks (NewPage page len)))

-- `make E`: "E 0 or 1".
unfoldable pub make_line : List ℕ → Option Line
make_line line = offered (has_words 2 line) (flag_in 1 line then λ published. Some (Makes (edition_from published)))
