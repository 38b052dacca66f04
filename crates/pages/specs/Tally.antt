-- What the program tally prints (document 01, "the program tally").
use Rattle.std.specs.Prelude.{ℕ, zero, suc, ◌+◌, ◌/◌, ◌%◌, List, [], ◌∷◌, ◌++◌, ltb, eqb, length}
use Rattle.words.specs.Choice.{when◌then◌else◌}
use Rattle.words.specs.Lists.{joined}
use Rattle.book.specs.Book.{Book}
use Rattle.book.specs.Layout.{book_of}
use Rattle.book.specs.Form.{form_number}
use Rattle.counter.specs.Sums.{blocks, held, free, waiting, references}

-- "given a book of at most 65,536 bytes", "`refused 1` (also for longer input) or `refused 2`": 0 where nothing refuses
unfoldable pub tally_number : List ℕ → ℕ
tally_number b = when ltb 65536 (length b) then 1 else form_number b

-- ---- numbers and lines, in ASCII

-- the digits of n, of which there are at most as many as the first number says
abbrev pub digits : ℕ → ℕ → List ℕ
digits zero n = []
digits (suc most) n = when ltb n 10 then (48 + n) ∷ [] else digits most (n / 10) ++ (48 + n % 10) ∷ []

-- n in decimal without leading zeros: a number has fewer digits than it has predecessors, but for 0
unfoldable pub decimal : ℕ → List ℕ
decimal n = digits (suc n) n

-- a word, a blank, a number, a newline
unfoldable pub line : List ℕ → ℕ → List ℕ
line word n = word ++ (32 ∷ (decimal n ++ 10 ∷ []))

abbrev pub blocks_word : List ℕ
blocks_word = 98 ∷ 108 ∷ 111 ∷ 99 ∷ 107 ∷ 115 ∷ []

abbrev pub held_word : List ℕ
held_word = 104 ∷ 101 ∷ 108 ∷ 100 ∷ []

abbrev pub free_word : List ℕ
free_word = 102 ∷ 114 ∷ 101 ∷ 101 ∷ []

abbrev pub waiting_word : List ℕ
waiting_word = 119 ∷ 97 ∷ 105 ∷ 116 ∷ 105 ∷ 110 ∷ 103 ∷ []

abbrev pub references_word : List ℕ
references_word = 114 ∷ 101 ∷ 102 ∷ 101 ∷ 114 ∷ 101 ∷ 110 ∷ 99 ∷ 101 ∷ 115 ∷ []

abbrev pub refused_word : List ℕ
refused_word = 114 ∷ 101 ∷ 102 ∷ 117 ∷ 115 ∷ 101 ∷ 100 ∷ []

-- ---- the page

-- "prints whole"
unfoldable pub book_page : Book → List ℕ
book_page x =
    joined
    (line blocks_word (blocks x)
    ∷ line held_word (held x.entries)
    ∷ line free_word (free x.entries)
    ∷ line waiting_word (waiting x.entries)
    ∷ line references_word (references x.entries)
    ∷ [])

unfoldable pub tally_page : List ℕ → List ℕ
tally_page b = when eqb (tally_number b) 0 then book_page (book_of b) else line refused_word (tally_number b)
