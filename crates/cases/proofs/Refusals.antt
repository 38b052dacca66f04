-- Every number of refusal of these calls, and its place in the checking order: each call breaks its own number and, where it can, later
-- ones.
use Prim.Native.Nat.{ℕ}
use mathlib.Core.Path.{◌≡◌, refl}
use mathlib.Core.List.{List, [], ◌∷◌, ◌++◌, map}
use lib.ListN.{take, drop, replicate}
use Rattle.words.specs.Numbers.{two, put}
use Rattle.book.specs.Layout.{bytes, b_offset, zero_offset}
use Rattle.book.specs.Next.{new_sizes, fresh}
use Rattle.model.specs.OnBytes.{number_of, format_bytes, enrol_bytes, backup_bytes, collect_bytes, read_number_bytes, read_place_bytes, audit_bytes}
use Rattle.model.specs.Calls.{Call, enrol, backup, collect, read, Answer, number, backed, freed}
use Rattle.model.specs.Plain.{start}
use Rattle.model.specs.Sides.{answers_of, end_of, ours, plain}
use Rattle.cases.proofs.Open.{model}
use Rattle.cases.proofs.Letters.{A, B, C, D, over, list, empty, box}
use Rattle.cases.proofs.Cases.{sizes, call_of, table, calls}
use Rattle.cases.proofs.Edges.{spare, small, Both}

-- ---- numbers 5 to 10 and 15 to 18, after case d: the header's day is 9, volume 0 has backups on 5 and 8, volume 1 on 6 and 9

unfoldable pub tried : List Call
tried =
    -- 5, 6
    enrol 8 0
    ∷ enrol 0 0
    ∷ enrol 2 0
    ∷ enrol 2 5001
    -- 5, 7
    ∷ backup 8 60001 []
    ∷ backup 2 60001 []
    ∷ backup 0 60001 []
    ∷ backup 0 8 []
    ∷ backup 1 9 []
    -- 8: under 2 bytes, a length 0, a pair that passes L, one that starts before the last one's end, a byte less, a byte more
    ∷ backup 0 9 []
    ∷ backup 0 9 (two 1 ++ two 0 ++ two 0)
    ∷ backup 0 9 (list 3 (A ∷ A ∷ []))
    ∷ backup 0 9 (two 2 ++ two 1 ++ two 1 ++ two 1 ++ two 1 ++ drop 6 (list 1 (A ∷ A ∷ [])))
    ∷ backup 0 9 (take 533 (list 0 (A ∷ [])))
    ∷ backup 0 9 (list 0 (A ∷ []) ++ (0 ∷ []))
    -- 10: five records are used
    ∷ backup 0 9 (list 0 (A ∷ B ∷ C ∷ D ∷ []))
    -- 7
    ∷ collect 60001
    ∷ collect 8
    -- 5, 15, 17, 18
    ∷ read 8 0 4
    ∷ read 2 0 4
    ∷ read 0 0 4
    ∷ read 0 3 4
    ∷ read 0 2 4
    ∷ read 0 2 2
    ∷ []

unfoldable pub numbers : List Answer
numbers =
    map number
    (5 ∷ 5 ∷ 6 ∷ 6 ∷ 5 ∷ 5 ∷ 7 ∷ 7 ∷ 7 ∷ 8 ∷ 8 ∷ 8 ∷ 8 ∷ 8 ∷ 8 ∷ 10 ∷ 7 ∷ 7 ∷ 5 ∷ 5 ∷ 15 ∷ 15 ∷ 17 ∷ 18 ∷ [])

pub record Order : Type 0 where
  pub our_numbers : answers_of (ours spare) (end_of (ours spare) (box sizes) (take 6 calls)) tried ≡ numbers
  pub plain_numbers : answers_of plain (end_of plain (start sizes) (take 6 calls)) tried ≡ numbers

pub order : Order
unfolding model over list call_of table calls tried numbers
order = record { our_numbers = refl; plain_numbers = refl }

-- 9 comes before 10, and 16 before 17; pairs may touch
pub full : Both (new_sizes 2 4 2 2)
    (enrol 0 1
    ∷ backup 0 1 (two 2 ++ two 0 ++ two 1 ++ two 1 ++ two 1 ++ drop 6 (list 0 (A ∷ A ∷ [])))
    ∷ backup 0 5 empty
    ∷ backup 0 6 (list 0 (A ∷ []))
    ∷ collect 7
    ∷ read 0 1 4
    ∷ [])
    (number 0 ∷ backed 1 1 2 ∷ backed 2 0 0 ∷ number 9 ∷ freed 0 ∷ number 16 ∷ [])
unfolding model over list empty
full = record { our_answers = refl; plain_answers = refl; alike = refl }

-- ---- numbers 1 to 4, on bytes: `short` breaks 1, `odd` breaks 2 (its spare header field isn't zero), `more` breaks 2 (B is above S)

unfoldable pub good : List ℕ
good = bytes (fresh small)

unfoldable pub short : List ℕ
short = drop 1 good

unfoldable pub odd : List ℕ
odd = put good zero_offset 1

unfoldable pub more : List ℕ
more = put good b_offset 5

abbrev pub pool : List ℕ
pool = replicate 1024 0

abbrev pub nothing : List ℕ
nothing = []

pub record Damage : Type 0 where
  pub format : map (λ z. number_of (format_bytes good z)) (small ∷ sizes ∷ new_sizes 0 4 4 8 ∷ []) ≡ 0 ∷ 1 ∷ 1 ∷ []
  pub enrols : map (λ b. number_of (enrol_bytes b 8 0)) (nothing ∷ short ∷ odd ∷ more ∷ good ∷ []) ≡ 1 ∷ 1 ∷ 2 ∷ 2 ∷ 5 ∷ []
  pub collects : map (λ b. number_of (collect_bytes b 60001)) (nothing ∷ short ∷ odd ∷ more ∷ good ∷ []) ≡ 1 ∷ 1 ∷ 2 ∷ 2 ∷ 7 ∷ []
  pub audits : map (λ b. number_of (audit_bytes b)) (nothing ∷ short ∷ odd ∷ more ∷ good ∷ []) ≡ 1 ∷ 1 ∷ 2 ∷ 2 ∷ 0 ∷ []
  pub backups : map (λ b. number_of (backup_bytes b nothing 0 8 60001 nothing)) (nothing ∷ short ∷ odd ∷ more ∷ good ∷ [])
      ≡ 1 ∷ 1 ∷ 2 ∷ 2 ∷ 3 ∷ []
  pub spares : map (λ s. number_of (backup_bytes good pool s 8 60001 nothing)) (0 ∷ 221 ∷ 222 ∷ []) ≡ 4 ∷ 4 ∷ 5 ∷ []
  pub reads : map (λ b. read_number_bytes b nothing 8 0 4) (nothing ∷ short ∷ odd ∷ more ∷ good ∷ []) ≡ 1 ∷ 1 ∷ 2 ∷ 2 ∷ 3 ∷ []
  pub read_next : read_number_bytes good pool 8 0 4 ≡ 5
  pub place : number_of (read_place_bytes good nothing 8 0 4) ≡ 3

pub damage : Damage
unfolding model good short odd more
damage = record {
  format = refl;
  enrols = refl;
  collects = refl;
  audits = refl;
  backups = refl;
  spares = refl;
  reads = refl;
  read_next = refl;
  place = refl;
}
