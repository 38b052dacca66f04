-- The writer on the aid (document 01, "The writer on the aid"; numbers 19 and 20).
use Rattle.std.specs.Prelude.{ℕ, zero, suc, ◌+◌, ◌-◌, ◌*◌, ◌/◌, ◌%◌, ◌≡◌, Bool, not, ◌&&◌, List, [], ◌∷◌, ◌++◌, map, length, drop, leb, ltb, eqb}
use Rattle.words.specs.Choice.{when◌then◌else◌}
use Rattle.words.specs.Lent.{Lent}
use Rattle.words.specs.Lists.{all, joined}
use Rattle.words.specs.Numbers.{two}
use Rattle.words.specs.Sections.{flat, part}
use Rattle.words.specs.Blocks.{block_size, print_size}
use Rattle.runs.specs.Changes.{Pair, Change, pair_size, max_run}

-- the run of k blocks that ends before LBN i; none where k is 0
abbrev pub run_before : ℕ → ℕ → List Pair
run_before i zero = []
run_before i (suc k) = record { first = i - suc k; many = suc k } ∷ []

-- "the marked blocks in longest runs": the marks are those from LBN i on, and exactly the k blocks before i are marked in a row
abbrev pub runs : ℕ → ℕ → List ℕ → List Pair
runs i k [] = run_before i k
runs i k (m ∷ ms) = when eqb m 1 then runs (suc i) (suc k) ms else run_before i k ++ runs (suc i) 0 ms

-- "pieces of 64 from its start, the rest last" (document 02, K1): s full ones from LBN `first` on, then the k blocks that are left, if any
abbrev pub pieces_from : ℕ → ℕ → ℕ → List Pair
pieces_from first zero k = run_before (first + k) k
pieces_from first (suc s) k = record { first = first; many = max_run } ∷ pieces_from (first + max_run) s k

unfoldable pub pieces : Pair → List Pair
pieces p = pieces_from p.first (p.many / max_run) (p.many % max_run)

-- the pairs of the list: the pieces of the longest runs
unfoldable pub marked_pairs : List ℕ → List Pair
marked_pairs marks = joined (map pieces (runs 0 0 marks))

-- the marked LBNs, where the marks are those from LBN i on
abbrev pub marked_from : ℕ → List ℕ → List ℕ
marked_from i [] = []
marked_from i (m ∷ ms) = when eqb m 1 then i ∷ marked_from (suc i) ms else marked_from (suc i) ms

-- a block of the image, as a change
unfoldable pub image_change : List ℕ → List ℕ → ℕ → Change
image_change prints image l = record { lbn = l; print = part prints (l * print_size) print_size; block = part image (l * block_size) block_size }

-- the marked blocks as changes, in order
unfoldable pub marked_changes : List ℕ → List ℕ → List ℕ → List Change
marked_changes marks prints image = map (image_change prints image) (marked_from 0 marks)

-- pairs and changes as the bytes of a change list
unfoldable pub pair_bytes : Pair → List ℕ
pair_bytes p = two p.first ++ two p.many

unfoldable pub list_bytes : List Pair → List Change → List ℕ
list_bytes ps cs = two (length ps) ++ (flat pair_bytes ps ++ (flat (λ (c : Change). c.print) cs ++ flat (λ (c : Change). c.block) cs))

unfoldable pub marked_list : List ℕ → List ℕ → List ℕ → List ℕ
marked_list marks prints image = list_bytes (marked_pairs marks) (marked_changes marks prints image)

-- number 19: L is out of range, an input length is wrong, or a mark isn't 0 or 1; number 20: the output is shorter than the list
unfoldable pub input_ok : ℕ → List ℕ → List ℕ → List ℕ → Bool
input_ok L marks prints image =
    leb 1 L
    && leb L 1024
    && eqb (length marks) L
    && eqb (length prints) (L * print_size)
    && eqb (length image) (L * block_size)
    && all (λ m. leb m 1) marks

unfoldable pub write_number : ℕ → List ℕ → List ℕ → List ℕ → List ℕ → ℕ
write_number L marks prints image out =
    when not (input_ok L marks prints image) then 19 else
    when ltb (length out) (length (marked_list marks prints image)) then 20 else
    0

-- room that is enough for any marks of L blocks: `aspen_list_bound` of the C header
unfoldable pub list_bound : ℕ → ℕ
list_bound L = 2 + (L + (max_run - 1)) / max_run * pair_size + L * (print_size + block_size)

-- "answers its length in bytes"; "output past the list is unchanged"; a refusal leaves both as they were
unfoldable pub answer_after : ℕ → List ℕ → ℕ → ℕ
answer_after number list answer = when eqb number 0 then length list else answer

unfoldable pub output_after : ℕ → List ℕ → List ℕ → List ℕ
output_after number list out = when eqb number 0 then list ++ drop (length list) out else out

abbrev pub list_of : Lent (List ℕ) → Lent (List ℕ) → Lent (List ℕ) → List ℕ
list_of marks prints image = marked_list marks.entry.now prints.entry.now image.entry.now

-- all that a call of the writer leaves: number, answer and output
pub record Wrote (L : ℕ) (marks prints image out : Lent (List ℕ)) (answer : Lent ℕ) (r : ℕ) : Type 0 where
  pub number : r ≡ write_number L marks.entry.now prints.entry.now image.entry.now out.entry.now
  pub answered : answer.exit.now ≡ answer_after r (list_of marks prints image) answer.entry.now
  pub output : out.exit.now ≡ output_after r (list_of marks prints image) out.entry.now
