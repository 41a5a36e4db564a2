-- The record value and the rules that it keeps.
use Rattle.std.specs.Prelude.{ℕ, zero, suc, ◌/◌, ◌%◌, ◌<◌, ◌≡◌, Bool, true, not, ◌&&◌, ◌||◌, List, length, get_or, replicate, ltb, leb, eqb}
use Rattle.records.specs.declared.value.Record.{Record}
use Rattle.records.specs.Transfer.{breaks_transfer}

-- "the rest zero": what a refusal carries for a value's words, and for the value
abbrev pub zero_words : List ℕ
zero_words = replicate 32 0

unfoldable pub zero_value : Record
zero_value = record { command = 0; transmit_command = 0; tag = 0; flags = 0; count = 0; words = zero_words }

-- "flags (1 = bus B, 2 = wrong sync, 4 = invalid word; ..)"
abbrev pub on_bus_b : Record → Bool
on_bus_b v = eqb (v.flags % 2) 1

abbrev pub has_wrong_sync : Record → Bool
has_wrong_sync v = eqb (v.flags / 2 % 2) 1

abbrev pub has_invalid_word : Record → Bool
has_invalid_word v = eqb (v.flags / 4 % 2) 1

-- of the first n words, those after the first `count` are zero
unfoldable pub lasts_zero : List ℕ → ℕ → ℕ → Bool
lasts_zero words count zero = true
lasts_zero words count (suc n) = lasts_zero words count n && (ltb n count || eqb (get_or words n 0) 0)

-- "higher bits zero", those above the flags of a transfer; "Count is .. 0 to 33"; the rules of a transfer
abbrev pub keeps_header : Record → Bool
keeps_header v = (leb v.flags 127 && leb v.count 33) && not (breaks_transfer v)

-- the header's rules; "Words after the first min(count, 32) are zero."
unfoldable pub keeps_layout : Record → Bool
keeps_layout v = keeps_header v && lasts_zero v.words v.count 32

-- what the type `Record` says of a value: numbers of 16 and of 8 bits, thirty-two words
pub record Typed (v : Record) : Type 0 where
  pub command : v.command < 65536
  pub second : v.transmit_command < 65536
  pub tag : v.tag < 65536
  pub flags : v.flags < 256
  pub count : v.count < 256
  pub many : length v.words ≡ 32
  pub words : (k : ℕ) → get_or v.words k 0 < 65536
