-- The book after cases a to d in all layouts, and what the converters leave in an output, by computation (document 02, K3 and K4).
use Prim.Native.Nat.{ℕ}
use mathlib.Core.Path.{◌≡◌, refl}
use mathlib.Core.List.{List, [], ◌∷◌, ◌++◌, map}
use lib.ListN.{length, drop, set, replicate, take}
use Rattle.words.specs.Lists.{joined}
use Rattle.words.specs.Outcome.{refused, accepted}
use Rattle.book.proofs.AfterD.{after_d}
use Rattle.model.specs.Convert.{to_two, to_one, to_three}
use Rattle.model.specs.OnBytes.{number_of, enrol_bytes, collect_bytes, audit_bytes}
use Rattle.model.specs.Views.{output_after}
use Rattle.cases.proofs.Open.{model}
use Rattle.cases.proofs.Letters.{A, B, C, print_of}

-- "N=4, L=4, S=6, J=8 (276 bytes)", as document 01 has it: an entry of 20 bytes, and the number 1 at the front
unfoldable pub before_k3 : List ℕ
before_k3 =
    (1 ∷ 0 ∷ []) ++ take 34 (drop 2 after_d)
    ++ joined
    (((0 ∷ 1 ∷ 18 ∷ 0 ∷ []) ++ print_of A)
    ∷ ((2 ∷ 1 ∷ 0 ∷ 0 ∷ []) ++ print_of B)
    ∷ ((1 ∷ 1 ∷ 0 ∷ 0 ∷ []) ++ print_of C)
    ∷ replicate 20 0
    ∷ [])
    ++ drop 120 after_d

-- .. as K3 left it: the number 2 at the front, and block 0 expires ten days after the backup that replaced it
unfoldable pub before_k4 : List ℕ
before_k4 = set (set after_d 0 2) 39 18

abbrev out : ℕ → List ℕ
out n = replicate n 170

pub record Converts : Type 0 where
  pub sizes : length before_k3 ∷ length before_k4 ∷ length after_d ∷ [] ≡ 276 ∷ 280 ∷ 280 ∷ []
  pub there : to_two before_k3 280 ≡ accepted before_k4
  pub back : to_one before_k4 276 ≡ accepted before_k3
  -- "the converter from 2 works every expiry out afresh": 15 in place of 18, or of any other
  pub renewed : map (λ e. to_three (set before_k4 39 e) 280) (18 ∷ 15 ∷ 0 ∷ 255 ∷ []) ≡ replicate 4 (accepted after_d)
  -- what lies past the book is as it was, and all of the output on a refusal
  pub rest_left : output_after (to_two before_k3 283) (out 283) ≡ before_k4 ++ out 3
  pub renewed_left : output_after (to_three before_k4 283) (out 283) ≡ after_d ++ out 3
  pub output_left : output_after (to_two before_k3 279) (out 279) ≡ out 279
  pub output_kept : output_after (to_three before_k4 279) (out 279) ≡ out 279
  -- 22: "a count is above 255". Block 1 is named 258 times: 4, and then 22
  pub wide : map (λ room. to_one (set before_k4 58 1) room) (275 ∷ 276 ∷ []) ≡ refused 4 ∷ refused 22 ∷ []
  -- each takes its own layout only; 2 before 4, the header's last field being zero
  pub others : map (λ b. to_three b 279) (before_k3 ∷ after_d ∷ set before_k4 18 1 ∷ before_k4 ∷ []) ≡ map refused (1 ∷ 1 ∷ 2 ∷ 4 ∷ [])
  -- no other call takes a book of layout 1 or 2
  pub enrols : map (λ b. number_of (enrol_bytes b 8 0)) (before_k3 ∷ before_k4 ∷ []) ≡ 1 ∷ 1 ∷ []
  pub collects : map (λ b. number_of (collect_bytes b 60001)) (before_k3 ∷ before_k4 ∷ []) ≡ 1 ∷ 1 ∷ []
  pub audits : map (λ b. number_of (audit_bytes b)) (before_k3 ∷ before_k4 ∷ []) ≡ 1 ∷ 1 ∷ []

pub converts : Converts
unfolding model after_d before_k3 before_k4
converts = record {
  sizes = refl;
  there = refl;
  back = refl;
  renewed = refl;
  rest_left = refl;
  renewed_left = refl;
  output_left = refl;
  output_kept = refl;
  wide = refl;
  others = refl;
  enrols = refl;
  collects = refl;
  audits = refl;
}
