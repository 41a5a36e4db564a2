-- The image that a program starts with.
use Rattle.std.specs.Prelude.{ℕ, ◌*◌, List, [], ◌∷◌, replicate}
use Rattle.words.specs.Fill.{fill}
use Rattle.layout.specs.Layout.{word_at}
use Rattle.text.specs.Line.{named_line}

-- "8,192 bytes of RAM image, each word high byte first": the first n words of it, put over ram
unfoldable pub image_into : List ℕ → List ℕ → ℕ → List ℕ
image_into bytes ram n = fill (λ k. word_at bytes (2 * k)) ram n

-- the RAM that the program starts with
unfoldable pub image_ram : List ℕ → List ℕ
image_ram bytes = image_into bytes (replicate 4096 0) 4096

-- "image"
abbrev pub image_name : List ℕ
image_name = 105 ∷ 109 ∷ 97 ∷ 103 ∷ 101 ∷ []

-- "An image under 8,192 bytes prints "image" and its length, and nothing else."
unfoldable pub image_line : ℕ → List ℕ
image_line n = named_line image_name n
