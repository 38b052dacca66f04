-- Numbers 1 to 3 as one number (document 01, "Numbers of refusal, in checking order").
use Rattle.std.specs.Prelude.{ℕ, zero, suc, List}
use Rattle.book.specs.Form.{form_number}
use Rattle.model.specs.OnBytes.{pool_number}

-- the first number that isn't 0
abbrev pub or_number : ℕ → ℕ → ℕ
or_number zero k = k
or_number (suc j) k = suc j

-- numbers 1 and 2 of the book, then 3: "The pool isn't 512N bytes"
unfoldable pub buffers_number : List ℕ → List ℕ → ℕ
buffers_number b pool = or_number (form_number b) (pool_number b pool)
