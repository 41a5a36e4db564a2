-- Answers as plain words, and what is remembered after them.
use Rattle.std.specs.Prelude.{ℕ, List, [], ◌∷◌, replicate}
use Rattle.words.specs.Bits.{bit_of}
use Rattle.message.specs.declared.answer.Answer.{Answer}
use Rattle.message.specs.declared.perform.Performed.{Performed}
use Rattle.message.specs.declared.perform.Performed.TheVariants.{Refused, Done}
use Rattle.c_words.specs.Over.{over}
use Rattle.c_words.specs.Setup.{remembered_words}

-- nine words, in the answer's order; `answered` is 1 or 0
unfoldable pub answer_words : Answer → List ℕ
answer_words a =
    a.number
    ∷ a.block_status
    ∷ a.cell
    ∷ a.before
    ∷ a.after
    ∷ a.status
    ∷ bit_of a.answered
    ∷ a.sent
    ∷ a.interrupt
    ∷ []

-- "Result: the number, the rest zero"
abbrev pub refusal_words : ℕ → List ℕ
refusal_words number = number ∷ replicate 8 0

-- put over what is lent; of a refusal nothing: "RAM, reply and remembered state keep their contents"
unfoldable pub remembered_over : Performed → List ℕ → List ℕ
remembered_over (Refused number) xs = xs
remembered_over (Done p) xs = over xs (remembered_words p.remembered)
