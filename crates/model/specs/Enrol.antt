-- Enrol (document 01, "The calls"), from number 5 on.
use Rattle.std.specs.Prelude.{ℕ, ◌||◌, ltb}
use Rattle.words.specs.Choice.{when◌then◌else◌}
use Rattle.words.specs.Outcome.{Outcome, accepted, unless}
use Rattle.book.specs.Book.{Book}
use Rattle.book.specs.Form.{enrolled}
use Rattle.book.specs.Next.{with_retention}
use Rattle.model.specs.Days.{bad_retention}

-- 5: "above 7, or enrolled for enrol"
unfoldable pub enrol_number : Book → ℕ → ℕ → ℕ
enrol_number x v r =
    when ltb 7 v || enrolled x v then 5 else
    when bad_retention r then 6 else
    0

-- "Enrol takes volume and retention"
unfoldable pub enrol : Book → ℕ → ℕ → Outcome Book
enrol x v r = unless (enrol_number x v r) (accepted (with_retention v r x))
