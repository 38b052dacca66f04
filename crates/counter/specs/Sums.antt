-- What is counted of a book (document 01, "the program tally"): "blocks", "held", "free", "waiting is held with count 0",
-- "references sums the counts".
use Rattle.std.specs.Prelude.{ℕ, ◌&&◌, List, map, eqb}
use Rattle.words.specs.Lists.{count_of, sum}
use Rattle.book.specs.Book.{Entry, Book, is_free}

unfoldable pub blocks : Book → ℕ
blocks x = x.sizes.n

unfoldable pub held : List Entry → ℕ
held es = count_of (λ e. e.held) es

unfoldable pub free : List Entry → ℕ
free es = count_of is_free es

unfoldable pub waiting : List Entry → ℕ
waiting es = count_of (λ e. e.held && eqb e.count 0) es

unfoldable pub references : List Entry → ℕ
references es = sum (map (λ e. e.count) es)
