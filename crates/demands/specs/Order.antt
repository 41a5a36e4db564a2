-- The stated order of the numbers that refuse: "Tested in this order; an entry point tests exactly those about things
-- that it is given."
use Rattle.std.specs.Prelude.{ℕ, Bool, true, false, cond, List, [], ◌∷◌, eqb}
use Rattle.words.specs.Number.{ram_length, reply_room, bad_settings, record_length, record_layout, other_address, mode_subaddress, unsound_stack, unsound_cell, going_back_loses, address_beyond}
use Rattle.words.specs.Refusal.{Test}
use Rattle.control_words.specs.Number.{no_room_to_start}

-- the numbers, each where it is tested: the table's, and then those of later requests
abbrev pub stated_order : List ℕ
stated_order =
    ram_length
    ∷ reply_room
    ∷ bad_settings
    ∷ record_length
    ∷ record_layout
    ∷ other_address
    ∷ mode_subaddress
    ∷ unsound_stack
    ∷ unsound_cell
    ∷ going_back_loses
    ∷ address_beyond
    ∷ no_room_to_start
    ∷ []

-- tests follow an order where their numbers stand in it one behind the other
abbrev pub follow : List ℕ → List Test → Bool
follow [] [] = true
follow [] (t ∷ ts) = false
follow (n ∷ order) [] = true
follow (n ∷ order) (t ∷ ts) = cond (eqb n t.number) (follow order ts) (follow order (t ∷ ts))
