-- Lines that `show` prints are read back as the parts that they were printed from, lines of request (vi) as what they ask for, and near misses are
-- bad lines: each is computed.
use Rattle.std.proofs.Common.{Some, None}
use mathlib.Core.Path.{◌≡◌, refl}
use mathlib.Core.Bool.{Bool, true, false}
use mathlib.Core.List.{List, [], ◌∷◌, map}
use Prim.Native.Nat.{ℕ}
use lib.ListN.{replicate}
use Rattle.drive.specs.Records.{unsupported}
use Rattle.conditions.specs.declared.Cause.TheVariants.{Timer, Command}
use Rattle.conditions.specs.declared.Condition.TheVariants.{IdleA, IdleB, StandbyY, StandbyZ}
use Rattle.conditions.specs.declared.Power.{Power}
use Rattle.conditions.specs.declared.Power.TheVariants.{Active, Low}
use Rattle.drive.specs.declared.Edition.TheVariants.{Draft, Published}
use Rattle.drive.specs.declared.Record.{Record}
use Rattle.drive.specs.declared.Setting.{Setting}
use Rattle.requests.specs.declared.Failure.TheVariants.{CommandSequence, NotReady}
use Rattle.unit.specs.declared.Slot.TheVariants.{Empty, Waiting}
use Rattle.requests.specs.declared.Stage.{Stage}
use Rattle.requests.specs.declared.Stage.TheVariants.{Straight, Flushing}
use Rattle.requests.specs.declared.Target.{Target}
use Rattle.requests.specs.declared.Target.TheVariants.{Stop, Start, GoTo}
use Rattle.words.specs.Codes.{codes}
use Rattle.words.specs.Lines.{before_return}
use Rattle.words.specs.Numbers.{are_digits, value_after, is_number, word_number, word_flag}
use Rattle.words.specs.Words.{pieces, nonempty, words, word_at, place_in}
use Rattle.digits.specs.Numerals.{numeral, pairs}
use Rattle.asked.specs.declared.CallLine.TheVariants.{NewPage}
use Rattle.asked.specs.declared.Line.{Line}
use Rattle.asked.specs.declared.Line.TheVariants.{Asks, Makes, Sets, Tells}
use Rattle.asked.specs.declared.Part.{Part}
use Rattle.asked.specs.declared.Part.TheVariants.{IsOf, Settings, Stands, HasSlot, HasHeld, HasOut, HasCounts}
use Rattle.script.specs.Lines.{line_of_words, line_of_text}
use Rattle.commands.specs.Commands.{new_page_line, make_line}
use Rattle.parts.specs.Parts.{condition_line, state_line, counts_line, edition_line, maker_line}
use Rattle.hosts.specs.Hosts.{slot_line, held_line, out_line}
use Rattle.spelling.specs.Spelling.{part_text}

abbrev setting : Bool → ℕ → Setting
setting enabled timer = record { enabled = enabled; timer = record { 0 = timer } }

-- Every number the largest that its word holds.
abbrev largest : Record
largest = record {
  supported = true;
  saveable = false;
  changeable = true;
  recovery = record { 0 = 0xFFFFFFFF };
  default = setting true 0xFFFFFFFF;
  saved = setting false 0xFFFFFFFF;
  current = setting true 0xFFFFFFFF;
}

abbrev stands : Power → ℕ → Bool → Bool → Part
stands power idle stopped unsaved =
    Stands (record { power = power; idle = record { 0 = idle }; stopped = stopped; unsaved = unsaved })

abbrev waits : ℕ → Target → Bool → Stage → Part
waits host target immed stage = HasSlot host (Waiting (record { target = target; immed = immed; stage = stage }))

abbrev samples : List Part
samples =
    IsOf Draft
    ∷ IsOf Published
    ∷ Settings StandbyY largest
    ∷ Settings IdleA unsupported
    ∷ stands Active 0 false false
    ∷ stands (Low StandbyZ Command) 0xFFFFFFFF true false
    ∷ stands (Low IdleB Timer) 0x1A false true
    ∷ HasSlot 0 Empty
    ∷ waits 1 Start false Straight
    ∷ waits 2 Stop true (Flushing 0)
    ∷ waits 3 (GoTo StandbyZ) true (Flushing 0xFF)
    ∷ HasHeld 0 None
    ∷ HasHeld 2 (Some NotReady)
    ∷ HasHeld 3 (Some CommandSequence)
    ∷ HasOut None
    ∷ HasOut (Some 0xFF)
    ∷ HasCounts (
    (0 ∷ 1 ∷ [])
    ∷ (2 ∷ 0x10 ∷ [])
    ∷ (0xABC ∷ 0xFFFFFFFF ∷ [])
    ∷ (0xFFFFFFFF ∷ 0 ∷ [])
    ∷ (0xFFFFFFFE ∷ 9 ∷ [])
    ∷ (0xA ∷ 0x80000000 ∷ [])
    ∷ [])
    ∷ []

pub read_back : map (λ p. line_of_text (part_text p)) samples ≡ map (λ p. Some (Sets p)) samples
unfolding numeral pairs part_text before_return pieces nonempty words word_at place_in are_digits value_after is_number word_number word_flag
    line_of_text line_of_words condition_line state_line slot_line held_line out_line counts_line edition_line
read_back = refl

-- Lines that spell no failure's sense: parts of the one with parts of the other, number 6's sense, a word too few and one too many, a host above 3.
abbrev misses : List (List ℕ)
misses =
    codes "held 3 02 04 00"
    ∷ codes "held 3 02 2C 00"
    ∷ codes "held 3 02 2C 02"
    ∷ codes "held 3 0B 04 00"
    ∷ codes "held 3 0B 04 02"
    ∷ codes "held 3 0B 2C 02"
    ∷ codes "held 3 02 04 07"
    ∷ codes "held 3 02 04"
    ∷ codes "held 3 02 04 02 00"
    ∷ codes "held 3 - 02"
    ∷ codes "held 4 02 04 02"
    ∷ []

pub none_read : map line_of_text misses ≡ replicate 11 None
unfolding before_return pieces nonempty words word_at place_in are_digits value_after is_number word_number line_of_text line_of_words held_line
none_read = refl

-- ---- request (vi)

-- "At manufacture current, saved and default agree".
abbrev told : Record
told = record {
  supported = true;
  saveable = false;
  changeable = true;
  recovery = record { 0 = 0xFFFFFFFF };
  default = setting true 0x258;
  saved = setting true 0x258;
  current = setting true 0x258;
}

-- A line, and what it asks for.
record Sample : Type 0 where
  text : List ℕ
  asks : Line

abbrev new_lines : List Sample
new_lines =
    (record { text = codes "page 0 200"; asks = Asks (NewPage 0 0x200) })
    ∷ (record { text = codes "page FF 400"; asks = Asks (NewPage 0xFF 0x400) })
    ∷ (record { text = codes "make 0"; asks = Makes Draft })
    ∷ (record { text = codes "make 1"; asks = Makes Published })
    ∷ (record { text = codes "m Z 1 0 1 FFFFFFFF 1 258"; asks = Tells StandbyZ told })
    ∷ []

pub new_read : map (λ s. line_of_text s.text) new_lines ≡ map (λ s. Some s.asks) new_lines
unfolding before_return pieces nonempty words word_at place_in are_digits value_after is_number word_number word_flag
    line_of_text line_of_words new_page_line make_line maker_line
new_read = refl

-- No page above FF, no buffer above 400; E is exactly 0 or 1; of `m` a flag, a letter, a word too few, one too many.
abbrev new_misses : List (List ℕ)
new_misses =
    codes "page 100 200"
    ∷ codes "page 0 401"
    ∷ codes "page 0"
    ∷ codes "page 0 200 0"
    ∷ codes "ed"
    ∷ codes "ed 2"
    ∷ codes "ed 01"
    ∷ codes "ed 0 0"
    ∷ codes "make"
    ∷ codes "make 2"
    ∷ codes "make 00"
    ∷ codes "make 0 0"
    ∷ codes "m A 1 1 2 0 0 0"
    ∷ codes "m D 1 1 1 0 0 0"
    ∷ codes "m A 1 1 1 0 0"
    ∷ codes "m A 1 1 1 0 0 0 0"
    ∷ []

pub none_new : map line_of_text new_misses ≡ replicate 16 None
unfolding before_return pieces nonempty words word_at place_in are_digits value_after is_number word_number word_flag
    line_of_text line_of_words new_page_line make_line edition_line maker_line
none_new = refl
